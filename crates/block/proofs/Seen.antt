-- The visible units of a part of a list whose units are all visible, or all hidden.
use Rattle.std.proofs.Common.{◌≡◌, ℕ, zero, suc, ◌+◌, ◌<◌, ◌≤◌, Bool, true, false, cond, List, [], ◌∷◌, get_or, take, drop, sym, refl, ap, ◌∙◌, subst, add_assoc, arith, get_or-drop, drop-drop}
use Rattle.block.specs.Units.{UnitOf, Meaning, Stretch, RunOf, unit_at, no_unit, visible, seen}

-- the first k units are all visible
pub drop_visible : (us : List UnitOf) (k : ℕ) → ((j : ℕ) → j < k → visible (get_or us j no_unit) ≡ true) → drop k (seen us) ≡ seen (drop k us)
drop_visible us zero h = refl
drop_visible [] (suc k) h = refl
drop_visible (u ∷ us) (suc k) h =
    subst (λ (b : Bool). drop (suc k) (cond b (u ∷ seen us) (seen us)) ≡ seen (drop k us)) (sym (h 0 (omega arith)))
    (drop_visible us k (λ j l. h (suc j) (omega arith)))

pub take_visible : (us : List UnitOf) (k : ℕ) → ((j : ℕ) → j < k → visible (get_or us j no_unit) ≡ true) → take k (seen us) ≡ take k us
take_visible us zero h = refl
take_visible [] (suc k) h = refl
take_visible (u ∷ us) (suc k) h =
    subst (λ (b : Bool). take (suc k) (cond b (u ∷ seen us) (seen us)) ≡ u ∷ take k us) (sym (h 0 (omega arith)))
    (ap (λ (xs : List UnitOf). u ∷ xs) (take_visible us k (λ j l. h (suc j) (omega arith))))

-- the first k units are all hidden
pub drop_hidden : (us : List UnitOf) (k : ℕ) → ((j : ℕ) → j < k → visible (get_or us j no_unit) ≡ false) → seen us ≡ seen (drop k us)
drop_hidden us zero h = refl
drop_hidden [] (suc k) h = refl
drop_hidden (u ∷ us) (suc k) h =
    subst (λ (b : Bool). cond b (u ∷ seen us) (seen us) ≡ seen (drop k us)) (sym (h 0 (omega arith)))
    (drop_hidden us k (λ j l. h (suc j) (omega arith)))

-- a run is visible as a whole or not at all
module _ (m : Meaning) (t : Stretch) (run : RunOf m t) where
  pub run_visible : (k : ℕ) → k < t.count → visible (unit_at m t.list (t.from + k)) ≡ visible (unit_at m t.list t.from)
  run_visible k h = let a = run.live k h in let b = run.kind k h in cc

  within_run : (rel k j : ℕ) → rel + k ≤ t.count → j < k → visible (get_or (drop (t.from + rel) (m.units t.list)) j no_unit) ≡ visible (unit_at m t.list t.from)
  within_run rel k j h l =
      let e : get_or (drop (t.from + rel) (m.units t.list)) j no_unit ≡ unit_at m t.list (t.from + (rel + j)) =
      get_or-drop (t.from + rel) (m.units t.list) j no_unit ∙ ap (λ (i : ℕ). unit_at m t.list i) (add_assoc t.from rel j) in
      ap visible e ∙ run_visible (rel + j) (omega arith)

  -- k units of the run are passed
  pub run_drop : (rel k : ℕ) → rel + k ≤ t.count → visible (unit_at m t.list t.from) ≡ true → drop k (seen (drop (t.from + rel) (m.units t.list))) ≡ seen (drop (t.from + (rel + k)) (m.units t.list))
  run_drop rel k h v =
      drop_visible (drop (t.from + rel) (m.units t.list)) k (λ j l. within_run rel k j h l ∙ v)
      ∙ ap seen (drop-drop k (t.from + rel) (m.units t.list) ∙ ap (λ (i : ℕ). drop i (m.units t.list)) (add_assoc t.from rel k))

  -- and these are they
  pub run_take : (rel k : ℕ) → rel + k ≤ t.count → visible (unit_at m t.list t.from) ≡ true → take k (seen (drop (t.from + rel) (m.units t.list))) ≡ take k (drop (t.from + rel) (m.units t.list))
  run_take rel k h v = take_visible (drop (t.from + rel) (m.units t.list)) k (λ j l. within_run rel k j h l ∙ v)

  pub run_hidden : (rel k : ℕ) → rel + k ≤ t.count → visible (unit_at m t.list t.from) ≡ false → seen (drop (t.from + rel) (m.units t.list)) ≡ seen (drop (t.from + (rel + k)) (m.units t.list))
  run_hidden rel k h v =
      drop_hidden (drop (t.from + rel) (m.units t.list)) k (λ j l. within_run rel k j h l ∙ v)
      ∙ ap seen (drop-drop k (t.from + rel) (m.units t.list) ∙ ap (λ (i : ℕ). drop i (m.units t.list)) (add_assoc t.from rel k))
