-- A walk from the left of a list.
use Rattle.std.proofs.Common.{◌≡◌, ℕ, suc, ◌+◌, ◌-◌, ◌<◌, ◌≤◌, Bool, true, cond, ◌&&◌, length, get_or, Some, None, Option, sym, ap, ◌∙◌, subst, inl, inr, arith}
use Rattle.std.proofs.lemmas.Bool.{cases_Bool, cond-true, cond-false}
use Rattle.block.specs.declared.ids.Id.{Id}
use Rattle.block.specs.Kinds.{is_counted}
use Rattle.block.specs.Units.{Meaning, Stretch, Lawful, RunOf, UnitOf, unit_at, no_unit, visible, seen}
use Rattle.block.specs.Kept.{spot_all, spot_below, kept_at}
use Rattle.reader.specs.Answers.{Described, described, Right, Onward, Begins}
use Rattle.reader.specs.declared.reader.Description.{Description}
use Rattle.sticky_index.specs.Marks.{last_id}
use Rattle.sticky_index.specs.Steps.{run_adds}
use Rattle.sticky_index.proofs.Finds.{described_some}
use Rattle.sticky_index.proofs.Counts.{count, count_part, count_run}

id_at : (m : Meaning) (t : Stretch) → RunOf m t → (k : ℕ) → k < t.count → ◌≡◌ {A = Id} (record { client = (unit_at m t.list t.from).id.client; clock = (unit_at m t.list t.from).id.clock + k }) (unit_at m t.list (t.from + k)).id
id_at m t run k h =
    ap (λ (x : ℕ). record { client = x; clock = (unit_at m t.list t.from).id.clock + k }) (sym (run.client k h)) ∙ ap (λ (x : ℕ). record { client = (unit_at m t.list (t.from + k)).id.client; clock = x }) (sym (run.clock k h))

abbrev unit_id : Description → ℕ → Id
unit_id d k = record { client = d.id.client; clock = d.id.clock + k }

module _ {P : Type 0} (m : Meaning) (st : P → Option Stretch) (law : Lawful m) (settled : (p : P) (t : Stretch) → st p ≡ Some t → RunOf m t) where
  -- the run at a place where a list goes on
  begun : (p : P) (d : Description) (l e : ℕ) → Begins st p l e → Described m (st p) (Some d) → (c : ℕ) × (st p ≡ Some (record { list = l; from = e; count = c })) × (d ≡ described m (record { list = l; from = e; count = c }))
  begun p d l e (c, q) desc =
      let (t, f, g) = described_some m (st p) d desc in
      let same : t ≡ record { list = l; from = e; count = c } = cc in
      (c, q, g ∙ ap (described m) same)

  unit_is : (p : P) (d : Description) (l e k : ℕ) → Begins st p l e → Described m (st p) (Some d) → k < d.len → unit_id d k ≡ (unit_at m l (e + k)).id
  unit_is p d l e k b desc h =
      let (c, q, g) = begun p d l e b desc in
      let lt : k < c = subst (λ (x : Description). k < x.len) g h in
      ap (λ (x : Description). unit_id x k) g ∙ id_at m (record { list = l; from = e; count = c }) (settled p _ q) k lt

  -- how far it is to the end of a place's list
  abbrev pub ahead : Option Stretch → ℕ
  ahead None = 1
  ahead (Some t) = suc (length (m.units t.list) - t.from)

  abbrev pub to_go : Option P → ℕ
  to_go None = 0
  to_go (Some p) = ahead (st p)

  -- the visible unit that the walk looks for is in this run
  pub on_unit : (p : P) (d : Description) (l e left k n : ℕ) (id : Id) → Begins st p l e → Described m (st p) (Some d) → count m l e + left ≡ k → n ≡ cond (d.live && is_counted d.kind) d.len 0 → left < n → id ≡ unit_id d left → (k < length (seen (m.units l))) × (id ≡ (get_or (seen (m.units l)) k no_unit).id)
  on_unit p d l e left k n id b desc h here lt is =
      let (c, q, g) = begun p d l e b desc in
      let t : Stretch = record { list = l; from = e; count = c } in
      let run = settled p t q in
      let a : n ≡ cond (visible (unit_at m l e)) c 0 = here ∙ ap (λ (x : Description). cond (x.live && is_counted x.kind) x.len 0) g in
      elim (cases_Bool (visible (unit_at m l e))) [
        | inl v ↦
            (let n2 : n ≡ c = a ∙ cond-true _ _ _ v in
            let len : d.len ≡ c = ap (λ (x : Description). x.len) g in
            let part : count m l (e + left) ≡ count m l e + left = count_part m t left run (omega arith) ∙ ap (λ (x : ℕ). count m l e + x) (cond-true _ _ _ v) in
            let vis : visible (unit_at m l (e + left)) ≡ true = ap (λ (x : Bool). x && is_counted (unit_at m l (e + left)).kind) (run.live left (omega arith)) ∙ ap (λ x. (unit_at m l e).live && is_counted x) (run.kind left (omega arith)) ∙ v in
            let in_list : e + left < length (m.units l) = omega (arith, run.within) in
            let at : get_or (seen (m.units l)) (count m l (e + left)) no_unit ≡ unit_at m l (e + left) = kept_at visible (m.units l) (e + left) no_unit in_list vis in
            let low = spot_below visible (m.units l) (e + left) no_unit in_list vis in
            let k2 : count m l (e + left) ≡ k = omega arith in
            (omega arith, is ∙ unit_is p d l e left b desc (omega arith) ∙ ap (λ (u : UnitOf). u.id) (sym at ∙ ap (λ (i : ℕ). get_or (seen (m.units l)) i no_unit) k2)))
        | inr v ↦ (let n2 : n ≡ 0 = a ∙ cond-false _ _ _ v in absurd (omega arith))
      ]

  -- one run more, with its last unit
  pub on_last : (p : P) (d : Description) (l e left k n : ℕ) (id : Id) (r : Option P) → Begins st p l e → Described m (st p) (Some d) → count m l e + left ≡ k → n ≡ cond (d.live && is_counted d.kind) d.len 0 → n ≤ left → id ≡ unit_id d (d.len - 1) → Right m st p r → (f : ℕ) × Onward m st l f r × (count m l f + (left - n) ≡ k) × (Some id ≡ last_id (m.units l) f)
  on_last p d l e left k n id r b desc h here le is right =
      let (c, q, g) = begun p d l e b desc in
      let t : Stretch = record { list = l; from = e; count = c } in
      let run = settled p t q in
      let len : d.len ≡ c = ap (λ (x : Description). x.len) g in
      let a : n ≡ run_adds m (Some t) = here ∙ ap (λ (x : Description). cond (x.live && is_counted x.kind) x.len 0) g in
      let w = count_run m t run in
      let i : suc (e + (d.len - 1)) ≡ e + c = omega (arith, run.some) in
      (e + c, right.1 t q, omega arith, ap Some (is ∙ unit_is p d l e (d.len - 1) b desc (omega (arith, run.some))) ∙ ap (last_id (m.units l)) i)

  pub on_end : (l e left k : ℕ) (last : Option Id) → e ≡ length (m.units l) → count m l e + left ≡ k → last ≡ last_id (m.units l) e → (length (seen (m.units l)) + left ≡ k) × (last ≡ last_id (m.units l) (length (m.units l)))
  on_end l e left k last h q is =
      let a : count m l e ≡ length (seen (m.units l)) = ap (count m l) h ∙ spot_all visible (m.units l) in
      (omega arith, is ∙ ap (last_id (m.units l)) h)

  -- a place where a list goes on is described
  pub on_none : (p : P) (l e : ℕ) (r : Option Description) → Begins st p l e → Described m (st p) r → r ≡ None → ⊥
  on_none p l e r (c, q) desc n = let d : r ≡ Some (described m (record { list = l; from = e; count = c })) = subst (λ o. Described m o r) q desc in let z : ◌≡◌ {A = ℕ} 0 1 = cc in omega arith
