-- What a reader finds, by the look-up of ids.
use Rattle.std.proofs.Common.{◌≡◌, ℕ, zero, suc, ◌+◌, Some, None, Ok, Err, Option, Result, sym, refl, ap, ◌∙◌, subst, arith}
use Rattle.std.specs.Option.{ok_or}
use Rattle.block.specs.declared.ids.Id.{Id}
use Rattle.block.specs.declared.fault.Fault.{Fault}
use Rattle.block.specs.declared.fault.Code.TheVariants.{TooManyRedone}
use Rattle.block.specs.declared.fault.Spot.TheVariants as spots
use Rattle.block.specs.Units.{Meaning, Stretch, Lawful, RunOf, unit_at}
use Rattle.block.specs.Lookup.{where_is}
use Rattle.block.proofs.Lookups.{where_at, where_some, not_there}
use Rattle.reader.specs.Answers.{Found, Described, described}
use Rattle.reader.specs.declared.reader.Description.{Description}
use Rattle.sticky_index.specs.declared.seat.Seat.{Seat}
use Rattle.sticky_index.specs.Marks.{refusal, follow, landing, onto}
use Rattle.sticky_index.specs.Steps.{Sits, Looked}

pub described_some : (m : Meaning) (o : Option Stretch) (d : Description) → Described m o (Some d) → (t : Stretch) × (o ≡ Some t) × (d ≡ described m t)
described_some m None d h = let z : ◌≡◌ {A = ℕ} 0 1 = cc in absurd (omega arith)
described_some m (Some t) d h = (t, refl, cc)

module _ {P : Type 0} (m : Meaning) (st : P → Option Stretch) (law : Lawful m) (settled : (p : P) (t : Stretch) → st p ≡ Some t → RunOf m t) where
  found_none : (id : Id) (r : Option (P × ℕ)) → r ≡ None → Found m st id r → where_is m id ≡ None
  found_none id None e f = not_there m id law (λ l i s. f l i s.0 s.1)
  found_none id (Some r) e f = let z : ◌≡◌ {A = ℕ} 0 1 = cc in absurd (omega arith)

  pub looked : (id : Id) (p : P) (k : ℕ) (d : Description) → Found m st id (Some (p, k)) → Described m (st p) (Some d) → Looked m st id (Ok (record { id = id; place = p; offset = k; run = d }))
  looked id p k d (t, e, h, q) desc =
      let (u, f, g) = described_some m (st p) d desc in
      let same : u ≡ t = cc in
      ((t.list, t.from + k), where_at m id law t.list (t.from + k) (omega (arith, (settled p t e).within), q), record { covers = t; place = e; offset = h; index = refl; id = sym q; run = g ∙ ap (described m) same })

  -- no run holds the id
  pub look_lost : (id : Id) (o : Option (P × ℕ)) (r : Result (P × ℕ) Fault) (lost e : Fault) → Found m st id o → r ≡ ok_or o lost → r ≡ Err e → (where_is m id ≡ None) × (e ≡ lost)
  look_lost id None r lost e f v q = (found_none id None refl f, cc)
  look_lost id (Some x) r lost e f v q = absurd (let z : ◌≡◌ {A = ℕ} 0 1 = cc in omega arith)

  -- what is said of a run is said of each of its units
  pub said_at : (seat : Seat P) (at : ℕ × ℕ) → Sits m st seat at → (seat.run.redone ≡ (unit_at m at.0 at.1).redone) × (seat.run.live ≡ (unit_at m at.0 at.1).live) × (seat.run.kind ≡ (unit_at m at.0 at.1).kind) × (seat.run.list ≡ at.0)
  said_at seat at s =
      let t = s.covers in
      let run = settled seat.place t s.place in
      let g = s.run in
      let k = seat.offset in
      let h = s.offset in
      subst (λ (x : ℕ × ℕ). (seat.run.redone ≡ (unit_at m x.0 x.1).redone) × (seat.run.live ≡ (unit_at m x.0 x.1).live) × (seat.run.kind ≡ (unit_at m x.0 x.1).kind) × (seat.run.list ≡ x.0)) (sym s.index)
      (ap (λ (x : Description). x.redone) g ∙ sym (run.redone k h), ap (λ (x : Description). x.live) g ∙ sym (run.live k h), ap (λ (x : Description). x.kind) g ∙ sym (run.kind k h), ap (λ (x : Description). x.list) g)

  pub seat_id : (id : Id) (seat : Seat P) → Looked m st id (Ok seat) → seat.id ≡ id
  seat_id id seat (at, w, s) = s.id ∙ (where_some m id at w).1.1

  -- what is left to follow at some seat is what was to be followed from the first
  pub so_far : (id : Id) (first : Seat P) (n : ℕ) (now : Id) → Looked m st id (Ok first) → follow m n now ≡ follow m 64 first.id → follow m 64 id ≡ follow m n now
  so_far id first n now h e = sym (e ∙ ap (follow m 64) (seat_id id first h))

  -- one turn: the successor is followed next
  pub turn_on : (n : ℕ) (seat : Seat P) (next : Id) → Looked m st seat.id (Ok seat) → seat.run.redone ≡ Some next → follow m n next ≡ follow m (suc n) seat.id
  unfolding follow
  turn_on n seat next (at, w, s) e = ap (onto (follow m n) at) (sym e ∙ (said_at seat at s).0) ∙ ap (landing m (follow m n) seat.id) (sym w)

  pub turn_lost : (n : ℕ) (id : Id) (e : Fault) → Looked m st id (Err e) → follow m n id ≡ Err e
  unfolding follow
  turn_lost zero id e (w, q) = ap (landing m _ id) w ∙ ap Err (sym q)
  turn_lost (suc n) id e (w, q) = ap (landing m (follow m n) id) w ∙ ap Err (sym q)

  pub turn_done : (n : ℕ) (seat : Seat P) → Looked m st seat.id (Ok seat) → seat.run.redone ≡ None → (at : ℕ × ℕ) × (follow m n seat.id ≡ Ok at) × Sits m st seat at
  unfolding follow
  turn_done zero seat (at, w, s) e = (at, ap (landing m _ seat.id) w ∙ ap (onto _ at) (sym (said_at seat at s).0 ∙ e), s)
  turn_done (suc n) seat (at, w, s) e = (at, ap (landing m (follow m n) seat.id) w ∙ ap (onto (follow m n) at) (sym (said_at seat at s).0 ∙ e), s)

  pub turn_over : (seat : Seat P) (next : Id) → Looked m st seat.id (Ok seat) → seat.run.redone ≡ Some next → follow m 0 seat.id ≡ Err (refusal TooManyRedone (spots.Unit seat.id))
  unfolding follow
  turn_over seat next (at, w, s) e = ap (landing m _ seat.id) w ∙ ap (onto _ at) (sym (said_at seat at s).0 ∙ e)
