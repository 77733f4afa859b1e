-- How many visible units stand left of a place.
use Rattle.std.proofs.Common.{◌≡◌, ℕ, suc, ◌+◌, ◌^◌, ◌<◌, ◌≤◌, Bool, true, cond, ◌&&◌, length, Some, None, Option, sym, refl, ap, ◌∙◌, subst, inl, inr, arith}
use Rattle.std.proofs.lemmas.Bool.{cases_Bool, cond-true, cond-false}
use Rattle.block.specs.Kinds.{is_counted}
use Rattle.block.specs.Units.{Meaning, Stretch, Lawful, RunOf, unit_at, no_unit, visible, seen}
use Rattle.block.specs.Kept.{spot, spot_mono, spot_all, spot_kept, spot_dropped}
use Rattle.reader.specs.Answers.{Left, Backward, Ends}
use Rattle.reader.specs.declared.reader.Description.{Description}
use Rattle.block.specs.Lookup.{upheld}
use Rattle.sticky_index.specs.declared.index.Assoc.{Assoc}
use Rattle.sticky_index.specs.declared.index.Assoc.TheVariants.{Before, After}
use Rattle.sticky_index.specs.Marks.{reach, index_at, stop}
use Rattle.sticky_index.specs.declared.seat.Seat.{Seat}
use Rattle.sticky_index.specs.Steps.{run_adds, LeftOf, Sits, Seated, Indexed}
use Rattle.sticky_index.proofs.Finds.{said_at}

-- the visible units among the first e of a list
abbrev pub count : Meaning → ℕ → ℕ → ℕ
count m l e = spot visible (m.units l) e

-- a part of a run
pub count_part : (m : Meaning) (t : Stretch) (k : ℕ) → RunOf m t → k ≤ t.count → count m t.list (t.from + k) ≡ count m t.list t.from + cond (visible (unit_at m t.list t.from)) k 0
count_part m t k run h =
    let same = λ (j : ℕ) (g : j < t.count). ap (λ (b : Bool). b && is_counted (unit_at m t.list (t.from + j)).kind) (run.live j g) ∙ ap (λ x. (unit_at m t.list t.from).live && is_counted x) (run.kind j g) in
    elim (cases_Bool (visible (unit_at m t.list t.from))) [
      | inl e ↦ spot_kept visible (m.units t.list) t.from k no_unit (omega (arith, run.within)) (λ j g. same j (omega arith) ∙ e) ∙ ap (λ (x : ℕ). count m t.list t.from + x) (sym (cond-true _ _ _ e))
      | inr e ↦ (let all = spot_dropped visible (m.units t.list) t.from k no_unit (omega (arith, run.within)) (λ j g. same j (omega arith) ∙ e) in omega (arith, all, cond-false _ k 0 e))
    ]

pub count_run : (m : Meaning) (t : Stretch) → RunOf m t → count m t.list (t.from + t.count) ≡ count m t.list t.from + run_adds m (Some t)
count_run m t run = count_part m t t.count run (omega arith)

pub count_fits : (m : Meaning) → Lawful m → (l e : ℕ) → e ≤ length (m.units l) → count m l e ≤ length (seen (m.units l))
count_fits m law l e h = let a = spot_mono visible (m.units l) e (length (m.units l)) h in let b = spot_all visible (m.units l) in omega arith

module _ {P : Type 0} (m : Meaning) (st : P → Option Stretch) (settled : (p : P) (t : Stretch) → st p ≡ Some t → RunOf m t) where
  -- how far it is to the start of a place's list
  abbrev pub behind : Option Stretch → ℕ
  behind None = 1
  behind (Some t) = suc (t.from + t.count)

  abbrev pub to_start : Option P → ℕ
  to_start None = 0
  to_start (Some p) = behind (st p)

  -- one run more to the left
  pub back_step : (p : P) (l e n all : ℕ) (r : Option P) → Ends st p l e → n + count m l e ≡ all → Left m st p r → (f : ℕ) × Backward st l f r × ((n + run_adds m (st p)) + count m l f ≡ all)
  back_step p l e n all r (f, c, q, s) h left =
      let t : Stretch = record { list = l; from = f; count = c } in
      let w = count_run m t (settled p t q) in
      let a : run_adds m (st p) ≡ run_adds m (Some t) = ap (run_adds m) q in
      let b : count m l (f + c) ≡ count m l e = ap (count m l) s in
      (f, left.1 t q, omega arith)

  pub back_fits : (p : P) (l e n all : ℕ) → Ends st p l e → n + count m l e ≡ all → n + run_adds m (st p) ≤ all
  back_fits p l e n all (f, c, q, s) h =
      let t : Stretch = record { list = l; from = f; count = c } in
      let w = count_run m t (settled p t q) in
      let a : run_adds m (st p) ≡ run_adds m (Some t) = ap (run_adds m) q in
      let b : count m l (f + c) ≡ count m l e = ap (count m l) s in
      omega arith

reach_on : (a : Assoc) (f k : ℕ) → reach a (f + k) ≡ f + reach a k
reach_on Before f k = omega arith
reach_on After f k = refl

reach_fits : (a : Assoc) (k n : ℕ) → k < n → reach a k ≤ n
reach_fits Before k n h = omega arith
reach_fits After k n h = omega arith

module _ {P : Type 0} (m : Meaning) (st : P → Option Stretch) (law : Lawful m) (settled : (p : P) (t : Stretch) → st p ≡ Some t → RunOf m t) where
  module _ (seat : Seat P) (a : Assoc) (n here : ℕ) (left : LeftOf m st seat.place n) (here-is : here ≡ cond (seat.run.live && is_counted seat.run.kind) (reach a seat.offset) 0) where
    here_at : (at : ℕ × ℕ) → Sits m st seat at → (n + here ≡ count m at.0 (reach a at.1)) × (count m at.0 (reach a at.1) ≤ length (seen (m.units at.0)))
    here_at at s =
        let t = s.covers in
        let k = seat.offset in
        let run = settled seat.place t s.place in
        let w = count_part m t (reach a k) run (reach_fits a k t.count s.offset) in
        let l = left t s.place in
        let v : here ≡ cond (visible (unit_at m t.list t.from)) (reach a k) 0 = here-is ∙ ap (λ (x : Description). cond (x.live && is_counted x.kind) (reach a k) 0) s.run in
        let r : count m t.list (reach a (t.from + k)) ≡ count m t.list (t.from + reach a k) = ap (count m t.list) (reach_on a t.from k) in
        let fits = count_fits m law t.list (t.from + reach a k) (omega (arith, run.within, reach_fits a k t.count s.offset)) in
        subst (λ (x : ℕ × ℕ). (n + here ≡ count m x.0 (reach a x.1)) × (count m x.0 (reach a x.1) ≤ length (seen (m.units x.0)))) (sym s.index) (omega arith, omega arith)

    pub index_fits : Seated m st seat → n + here < 2 ^ 32
    index_fits (at, s) = let w = here_at at s in let few = law.few at.0 in omega (arith, w.0, w.1)

    pub index_here : upheld m seat.run.list ≡ true → Indexed m st seat a (stop seat.run.list a (n + here))
    index_here u at s =
        let l : seat.run.list ≡ at.0 = (said_at m st law settled seat at s).3 in
        let u2 : upheld m at.0 ≡ true = ap (upheld m) (sym l) ∙ u in
        let w : n + here ≡ index_at m a at = (here_at at s).0 ∙ sym (cond-true _ _ _ u2) in
        ap (λ (x : ℕ). stop x a (n + here)) l ∙ ap (stop at.0 a) w
