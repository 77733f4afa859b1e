-- The laws of a reader, of a sound document.
use Rattle.std.specs.Prelude.{◌≡◌, ℕ, zero, suc, ◌+◌, ◌-◌, ◌^◌, ◌<◌, ◌≤◌, Bool, true, false, ◌&&◌, List, [], length, get_or, is_some, Some, None, Option, cond, ◌==◌, nat_le, nat_lt, slice_index_or, refl}
use Rattle.std.proofs.Common.{sym, subst, ◌∙◌, ⊎_elim, add-zero, arith}
use Rattle.std.proofs.Math.Path.{ap}
use Rattle.std.specs.Option.{unwrap_or}
use Rattle.std.proofs.lemmas.Bool.{both_ways, cases_lt, and_parts, and_from, eqb-true, leb-true, ltb-true, eq-eqb, le-leb, lt-ltb, cond-true}
use Rattle.std.proofs.lemmas.List.{get_or_past}
use Rattle.std.proofs.lemmas.List.Quantifiers.{position-Some}
use Rattle.block.specs.Units.{UnitOf, Stretch, Lawful, RunOf, no_unit, unit_at, seen, nested}
use Rattle.block.specs.declared.ids.Id.{Id}
use Rattle.block.specs.declared.kind.Kind.TheVariants as kinds
use Rattle.block.specs.Lookup.{same_id}
use Rattle.block.proofs.Lookups.{same_id_is, same_id_from}
use Rattle.reader.specs.Answers.{Onward, Found}
use Rattle.store.specs.declared.records.ListRecord.{ListRecord}
use Rattle.store.specs.declared.records.RunRecord.{RunRecord}
use Rattle.store.specs.Clocks.{end_of}
use Rattle.store.specs.First.{passing}
use Rattle.store.specs.FirstFacts.{some_pass_some, only_one}
use Rattle.store.specs.Kinds.{kind_of}
use Rattle.store.specs.Records.{Store, run_at, list_at, no_run, no_list}
use Rattle.links.specs.Links.{is_list, held_by_at, is_holder_at, holder_agrees}
use Rattle.document.specs.Meaning.{list_held, worth_of, unit_of, spell, units_in, clock_in, meaning_of, upto, offset, stretch_of}
use Rattle.document.specs.Sound.{Sound}
use Rattle.document.specs.Finds.{has, find_run}
use Rattle.document.specs.FindFacts.{position_fails}
use Rattle.document.specs.ReadingFacts.{some_is, unit_in, span, stretched_is, stretched_some, no_stretch}
use Rattle.document.specs.LengthFacts.{Stands, near, apart, long_U, next_at, same_run, counted_is}

some_same : (a b : ℕ) → ◌≡◌ {A = Option ℕ} (Some a) (Some b) → a ≡ b
some_same a b h = cc

-- a unit of a list, by its run
pub record OfRun (d : Store) (s : Sound d) (l i : ℕ) : Type 0 where
  pub p : ℕ
  pub x : ℕ
  pub k : ℕ
  pub stands : Stands d s l p x
  pub inside : k < (run_at d p).len
  pub at : i ≡ x + k

module _ (d : Store) (s : Sound d) where
  pub placed : (p : ℕ) (t : Stretch) → stretch_of d p ≡ Some t → p < length d.runs
  placed p t h = ⊎_elim (λ lt. lt) (λ ge. no_stretch d p t ge h) (cases_lt p (length d.runs))

  pub run_of : (l p x : ℕ) → Stands d s l p x → RunOf (meaning_of d) (span l x (run_at d p).len)
  run_of l p x st =
      let a = near d s l p x st in
      let r : RunRecord = run_at d p in
      let at : (k : ℕ) → k < r.len → slice_index_or (units_in d l) (x + k) no_unit ≡ unit_of d r k = λ k lt. unit_in d p l x k a lt in
      let first : get_or (units_in d l) x no_unit ≡ unit_of d r 0 = subst (λ i. slice_index_or (units_in d l) i no_unit ≡ unit_of d r 0) (add-zero x) (at 0 (s.some p st.below)) in
      record {
        some = s.some p st.below;
        within = long_U d s l p x st;
        client = λ k lt. ap (λ (u : UnitOf). u.id.client) (at k lt) ∙ sym (ap (λ (u : UnitOf). u.id.client) first);
        clock = λ k lt. let b = ap (λ (u : UnitOf). u.id.clock) (at k lt) in let c = ap (λ (u : UnitOf). u.id.clock) first in omega (arith, b, c);
        kind = λ k lt. ap (λ (u : UnitOf). u.kind) (at k lt) ∙ sym (ap (λ (u : UnitOf). u.kind) first);
        live = λ k lt. ap (λ (u : UnitOf). u.live) (at k lt) ∙ sym (ap (λ (u : UnitOf). u.live) first);
        redone = λ k lt. ap (λ (u : UnitOf). u.redone) (at k lt) ∙ sym (ap (λ (u : UnitOf). u.redone) first);
      }

  pub settled_is : (p : ℕ) (t : Stretch) → stretch_of d p ≡ Some t → RunOf (meaning_of d) t
  settled_is p t h =
      let i = stretched_is (run_at d p).list (offset d p) (run_at d p).len t h in
      subst (RunOf (meaning_of d)) (sym i.is) (run_of i.l p i.x (record { below = placed p t h; list = i.list; from = i.from }))

  pub faithful_is : (p q : ℕ) (t u : Stretch) → stretch_of d p ≡ Some t → stretch_of d q ≡ Some u → t.list ≡ u.list → t.from ≡ u.from → p ≡ q
  faithful_is p q t u h k same-list same_from =
      let i = stretched_is (run_at d p).list (offset d p) (run_at d p).len t h in
      let j = stretched_is (run_at d q).list (offset d q) (run_at d q).len u k in
      let el : j.l ≡ i.l = ap (λ (t : Stretch). t.list) (sym j.is) ∙ sym same-list ∙ ap (λ (t : Stretch). t.list) i.is in
      let ex : j.x ≡ i.x = ap (λ (t : Stretch). t.from) (sym j.is) ∙ sym same_from ∙ ap (λ (t : Stretch). t.from) i.is in
      let lt = placed p t h in
      let pos = s.some p lt in
      apart d s i.l q i.x p i.x (record { below = placed q u k; list = j.list ∙ ap Some el; from = j.from ∙ ap Some ex }) (record { below = lt; list = i.list; from = i.from }) (omega arith) (let posq = s.some q (placed q u k) in omega (arith, posq))

  -- each unit is of some run
  spread_from : (m l p x i : ℕ) → Stands d s l p x → x ≤ i → i < length (units_in d l) → i < x + m → OfRun d s l i
  spread_from zero l p x i st le lt lm = absurd (omega arith)
  spread_from (suc m) l p x i st le lt lm =
      let pos = s.some p st.below in
      ⊎_elim
      (λ h. record { p = p; x = x; k = i - x; stands = st; inside = omega arith; at = omega arith })
      (λ h. let n = next_at d s l p x st (omega arith) (run_at d p).right refl in spread_from m l n.0 (x + (run_at d p).len) i n.1 h lt (omega (arith, pos)))
      (cases_lt i (x + (run_at d p).len))

  start_stands : (l p : ℕ) → l < length d.lists → (list_at d l).start ≡ Some p → Stands d s l p 0
  unfolding upto
  start_stands l p lt e = let t = s.links.start_of l p lt e in record { below = t.0; list = t.2; from = ap (λ (o : Option ℕ). upto d o (length d.runs)) t.1 }

  empty_list : (l : ℕ) → (list_at d l).start ≡ None → units_in d l ≡ []
  unfolding spell
  empty_list l e = ap (λ (o : Option ℕ). spell d o (suc (length d.runs))) e

  pub leftmost_is : (l : ℕ) → l < length d.lists → (o : Option ℕ) → (list_at d l).start ≡ o → Onward (meaning_of d) (stretch_of d) l 0 o
  leftmost_is l lt None e = sym (ap length (empty_list l e))
  leftmost_is l lt (Some p) e = let st = start_stands l p lt e in ((run_at d p).len, stretched_some (run_at d p).list (offset d p) (run_at d p).len l 0 st.list st.from)

  pub spread : (l i : ℕ) → l < length d.lists → i < length (units_in d l) → (o : Option ℕ) → (list_at d l).start ≡ o → OfRun d s l i
  spread l i ll lt None e = let z : length (units_in d l) ≡ 0 = ap length (empty_list l e) in absurd (omega (arith, z, lt))
  spread l i ll lt (Some p) e = spread_from (suc i) l p 0 i (start_stands l p ll e) (omega arith) lt (omega arith)

  pub unit_is : (l i : ℕ) (o : OfRun d s l i) → unit_at (meaning_of d) l i ≡ unit_of d (run_at d o.p) o.k
  unit_is l i o = subst (λ m. slice_index_or (units_in d l) m no_unit ≡ unit_of d (run_at d o.p) o.k) (sym o.at) (unit_in d o.p l o.x o.k (near d s l o.p o.x o.stands) o.inside)

  pub once_is : (l i k j : ℕ) → l < length d.lists → k < length d.lists → i < length (units_in d l) → j < length (units_in d k) → (unit_at (meaning_of d) l i).id ≡ (unit_at (meaning_of d) k j).id → (l ≡ k) × (i ≡ j)
  once_is l i k j ll lk li lj e =
      let a = spread l i ll li (list_at d l).start refl in
      let b = spread k j lk lj (list_at d k).start refl in
      let ids : (unit_of d (run_at d a.p) a.k).id ≡ (unit_of d (run_at d b.p) b.k).id = sym (ap (λ (u : UnitOf). u.id) (unit_is l i a)) ∙ e ∙ ap (λ (u : UnitOf). u.id) (unit_is k j b) in
      let pq : a.p ≡ b.p = same_run d s a.p b.p a.k b.k a.stands.below b.stands.below a.inside b.inside ids in
      let lists : l ≡ k = some_same l k (sym a.stands.list ∙ ap (λ m. (run_at d m).list) pq ∙ b.stands.list) in
      let xs : a.x ≡ b.x = some_same a.x b.x (sym a.stands.from ∙ ap (offset d) pq ∙ b.stands.from) in
      let clocks : (run_at d a.p).id.clock + a.k ≡ (run_at d b.p).id.clock + b.k = ap (λ (i : Id). i.clock) ids in
      let starts : (run_at d a.p).id.clock ≡ (run_at d b.p).id.clock = ap (λ m. (run_at d m).id.clock) pq in
      let ia = a.at in
      let jb = b.at in
      (lists, omega (arith, xs, clocks, starts, ia, jb))

  pub beyond_is : (l : ℕ) → length d.lists ≤ l → units_in d l ≡ []
  beyond_is l h = empty_list l (ap (λ (x : ListRecord). x.start) (get_or_past d.lists l no_list h))

  pub listed_is : (l i : ℕ) → i < length (units_in d l) → l < length d.lists
  listed_is l i lt = ⊎_elim (λ h. h) (λ h. let z : length (units_in d l) ≡ 0 = ap length (beyond_is l h) in absurd (omega (arith, z, lt))) (cases_lt l (length d.lists))

  -- a unit that holds a list is of kind 7, and the list is the one that it is worth
  holder_unit : (l k i : ℕ) → l < length d.lists → i < length (units_in d k) → (list_at d l).holder ≡ Some (unit_at (meaning_of d) k i).id → ((unit_at (meaning_of d) k i).kind ≡ kinds.List) × ((unit_at (meaning_of d) k i).worth ≡ nested l)
  holder_unit l k i ll lt e =
      let o = spread k i (listed_is k i lt) lt (list_at d k).start refl in
      let u = unit_is k i o in
      let h : Id = (unit_at (meaning_of d) k i).id in
      let some = subst (λ (x : Option Id). holder_agrees d x ≡ true) e (s.holder l ll) in
      let (q, lq, eq) = some_pass_some (is_holder_at d h) (length d.runs) some in
      let parts = and_parts (is_list (run_at d q)) (same_id (run_at d q).id h) eq in
      let named : (run_at d q).id ≡ h = same_id_is (run_at d q).id h parts.1 in
      let one : (run_at d q).len ≡ 1 = s.single q lq parts.0 in
      let ids : (unit_of d (run_at d o.p) o.k).id ≡ (unit_of d (run_at d q) 0).id = sym (ap (λ (u : UnitOf). u.id) u) ∙ sym named ∙ ap (λ (n : ℕ). record { client = (run_at d q).id.client; clock = n }) (sym (add-zero (run_at d q).id.clock)) in
      let pq : o.p ≡ q = same_run d s o.p q o.k 0 o.stands.below lq o.inside (omega (arith, one)) ids in
      let kind : (run_at d o.p).kind ≡ 7 = ap (λ (m : ℕ). (run_at d m).kind) pq ∙ eqb-true _ _ parts.0 in
      let held : held_by_at d (run_at d o.p).id l ≡ true = rw e (same_id_from h (run_at d o.p).id (sym named ∙ ap (λ (m : ℕ). (run_at d m).id) (sym pq))) in
      let single : passing (held_by_at d (run_at d o.p).id) (length d.lists) ≡ 1 = eqb-true _ _ (sym (cond-true (is_list (run_at d o.p)) (passing (held_by_at d (run_at d o.p).id) (length d.lists) == 1) true (eq-eqb _ _ kind)) ∙ s.holds o.p o.stands.below) in
      let first : list_held d (run_at d o.p).id ≡ l = ap (λ (x : Option ℕ). unwrap_or x 0) (only_one (held_by_at d (run_at d o.p).id) (length d.lists) l single ll held) in (
        ap (λ (u : UnitOf). u.kind) u ∙ ap kind_of kind,
        ap (λ (u : UnitOf). u.worth) u ∙ ap (λ (n : ℕ). worth_of d (kind_of n) (run_at d o.p) o.k) kind ∙ ap nested first,
      )

  no_holder : (l : ℕ) (id : Id) → (list_at d l).holder ≡ Some id → l < length d.lists
  no_holder l id e =
      ⊎_elim
      (λ lt. lt)
      (λ ge. let f = ap (λ (x : ListRecord). x.holder) (get_or_past d.lists l no_list ge) in cc)
      (cases_lt l (length d.lists))

  few_seen : (l : ℕ) → length (seen (units_in d l)) < 2 ^ 32
  few_seen l =
      ⊎_elim
      (λ lt. let a = counted_is d s l lt in let b = s.stored l lt in let c = s.short l lt in omega (arith, a, b, c))
      (λ ge. let e : length (seen (units_in d l)) ≡ 0 = ap (λ (us : List UnitOf). length (seen us)) (beyond_is l ge) in omega (arith, e))
      (cases_lt l (length d.lists))

  pub lawful_is : Lawful (meaning_of d)
  lawful_is =
      record {
        beyond = beyond_is;
        small = s.clocks;
        few = few_seen;
        once = λ l i k j li lj e. once_is l i k j (listed_is l i li) (listed_is k j lj) li lj e;
        below = λ l i lt.
            let o = spread l i (listed_is l i lt) lt (list_at d l).start refl in
            let u = unit_is l i o in
            let a : (unit_at (meaning_of d) l i).id.clock ≡ (run_at d o.p).id.clock + o.k = ap (λ (u : UnitOf). u.id.clock) u in
            let b : clock_in d.clients (unit_at (meaning_of d) l i).id.client ≡ clock_in d.clients (run_at d o.p).id.client = ap (λ (u : UnitOf). clock_in d.clients u.id.client) u in
            let c = s.known o.p o.stands.below in
            let inner = o.inside in
            omega (arith, a, b, c, inner);
        holds = λ l k i lt e. holder_unit l k i (no_holder l (unit_at (meaning_of d) k i).id e) lt e;
      }

-- an offset is there only where the test passes
test_of : (b : Bool) (k : ℕ) → is_some (cond b (Some k) None) ≡ true → b ≡ true
test_of true k h = refl
test_of false k h = cc

-- the run has the unit: where in the run it stands
pub record Has (id : Id) (r : RunRecord) : Type 0 where
  pub client : r.id.client ≡ id.client
  pub from : r.id.clock ≤ id.clock
  pub to : id.clock < end_of r

pub has_is : (id : Id) (r : RunRecord) → has id r ≡ true → Has id r
has_is id r h =
    let t = test_of (r.id.client == id.client && (nat_le r.id.clock id.clock && nat_lt id.clock (end_of r))) (id.clock - r.id.clock) h in
    let a = and_parts (r.id.client == id.client) (nat_le r.id.clock id.clock && nat_lt id.clock (end_of r)) t in
    let b = and_parts (nat_le r.id.clock id.clock) (nat_lt id.clock (end_of r)) a.1 in
    record { client = eqb-true r.id.client id.client a.0; from = leb-true r.id.clock id.clock b.0; to = ltb-true id.clock (end_of r) b.1 }

pub has_from : (id : Id) (r : RunRecord) → Has id r → has id r ≡ true
has_from id r h = ap (λ b. is_some (cond b (Some (id.clock - r.id.clock)) None)) (and_from (r.id.client == id.client) (nat_le r.id.clock id.clock && nat_lt id.clock (end_of r)) (eq-eqb r.id.client id.client h.client) (and_from (nat_le r.id.clock id.clock) (nat_lt id.clock (end_of r)) (le-leb r.id.clock id.clock h.from) (lt-ltb id.clock (end_of r) h.to)))

unit_id : (d : Store) (id : Id) (r : RunRecord) → Has id r → (unit_of d r (id.clock - r.id.clock)).id ≡ id
unit_id d id r h =
    let le = h.from in
    let e : r.id.clock + (id.clock - r.id.clock) ≡ id.clock = omega (arith, le) in
    let f : (c k : ℕ) → c ≡ id.client → k ≡ id.clock → ◌≡◌ {A = Id} (record { client = c; clock = k }) id = λ c k a b. ap (λ n. record { client = n; clock = k }) a ∙ ap (λ n. record { client = id.client; clock = n }) b in
    f r.id.client (r.id.clock + (id.clock - r.id.clock)) h.client e

module _ (d : Store) (s : Sound d) (id : Id) where
  -- no run of a list has it
  pub not_found : ((p : ℕ) → p < length d.runs → has id (run_at d p) ≡ true → (run_at d p).list ≡ None) → Found (meaning_of d) (stretch_of d) id None
  not_found none l i lt e =
      let o = spread d s l i (listed_is d s l i lt) lt (list_at d l).start refl in
      let u : (unit_of d (run_at d o.p) o.k).id ≡ id = sym (ap (λ (u : UnitOf). u.id) (unit_is d s l i o)) ∙ e in
      let c : (run_at d o.p).id.clock + o.k ≡ id.clock = ap (λ (i : Id). i.clock) u in
      let inner = o.inside in
      let t = has_from id (run_at d o.p) (record { client = ap (λ (i : Id). i.client) u; from = omega (arith, c); to = omega (arith, c, inner) }) in
      let z : ◌≡◌ {A = Option ℕ} None (Some l) = sym (none o.p o.stands.below t) ∙ o.stands.list in
      let y : ◌≡◌ {A = ℕ} 0 1 = cc in
      omega arith

  pub found_none : find_run d id ≡ None → Found (meaning_of d) (stretch_of d) id None
  found_none h = not_found (λ p lt t. absurd (both_ways (has id (run_at d p)) (position_fails (has id) d.runs no_run h p lt) t))

  pub found_has : (p : ℕ) → find_run d id ≡ Some p → (p < length d.runs) × Has id (run_at d p)
  found_has p h = let q = position-Some (has id) d.runs p no_run h in (q.0, has_is id (run_at d p) q.1)

  pub found_apart : (p : ℕ) → find_run d id ≡ Some p → (run_at d p).list ≡ None → Found (meaning_of d) (stretch_of d) id None
  found_apart p h e =
      not_found
      (λ q lt t.
      let f = found_has p h in
      let g = has_is id (run_at d q) t in
      let a = g.from in
      let b = g.to in
      let c = f.1.from in
      let to = f.1.to in
      let same : q ≡ p = same_run d s q p (id.clock - (run_at d q).id.clock) (id.clock - (run_at d p).id.clock) lt f.0 (omega (arith, a, b)) (omega (arith, c, to)) (unit_id d id (run_at d q) g ∙ sym (unit_id d id (run_at d p) f.1)) in
      ap (λ m. (run_at d m).list) same ∙ e)

  pub found_some : (p l : ℕ) → find_run d id ≡ Some p → (run_at d p).list ≡ Some l → Found (meaning_of d) (stretch_of d) id (Some (p, id.clock - (run_at d p).id.clock))
  found_some p l h e =
      let f = found_has p h in
      let c = f.1.from in
      let to = f.1.to in
      let k : ℕ = id.clock - (run_at d p).id.clock in
      let o = some_is (offset d p) (s.links.reached p f.0) in
      let st : Stands d s l p o.0 = record { below = f.0; list = e; from = o.1 } in
      let lk : k < (run_at d p).len = omega (arith, c, to) in
      (span l o.0 (run_at d p).len, stretched_some (run_at d p).list (offset d p) (run_at d p).len l o.0 e o.1, lk, ap (λ (u : UnitOf). u.id) (unit_in d p l o.0 k (near d s l p o.0 st) lk) ∙ unit_id d id (run_at d p) f.1)
