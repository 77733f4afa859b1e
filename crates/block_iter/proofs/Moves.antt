-- What a cursor's answer to a call says of its index.
use Rattle.std.proofs.Common.{◌≡◌, ℕ, ◌+◌, ◌<◌, ◌≤◌, ltb, List, length, Ok, Err, Result, ap, ◌∙◌, inl, inr, arith}
use Rattle.std.proofs.lemmas.Bool.{cases_Bool, le-ltb, ltb-true, ltb-false, cond-true, cond-false}
use Rattle.block.specs.declared.fault.Fault.{Fault}
use Rattle.block.specs.Units.{UnitOf, Meaning}
use Rattle.block.specs.Plain.{too_far}
use Rattle.block_iter.specs.Cursors.{Cursor, Same, answer, index_after, visible_of}

-- a call that was not refused
pub allowed : (l : ℕ) (vs : List UnitOf) (i n : ℕ) → Ok tt ≡ answer l vs i n → i + n ≤ length vs
allowed l vs i n e =
    elim (cases_Bool (ltb (length vs) (i + n))) [
      | inl t ↦ (let no : ◌≡◌ {A = Result (Unit {0}) Fault} (Ok tt) (Err (too_far l)) = e ∙ cond-true _ _ _ t in let z : ◌≡◌ {A = ℕ} 0 1 = cc in absurd (omega arith))
      | inr f ↦ ltb-false _ _ f
    ]

-- a call that was refused
pub denied : (l : ℕ) (vs : List UnitOf) (i n : ℕ) (e : Fault) → Err e ≡ answer l vs i n → (length vs < i + n) × (e ≡ too_far l)
denied l vs i n e r =
    elim (cases_Bool (ltb (length vs) (i + n))) [
      | inl t ↦ (let same : ◌≡◌ {A = Result (Unit {0}) Fault} (Err e) (Err (too_far l)) = r ∙ cond-true _ _ _ t in (ltb-true _ _ t, cc))
      | inr f ↦ (let no : ◌≡◌ {A = Result (Unit {0}) Fault} (Err e) (Ok tt) = r ∙ cond-false _ _ _ f in let z : ◌≡◌ {A = ℕ} 0 1 = cc in absurd (omega arith))
    ]

-- the index after a call that is accepted
pub accepted_index : (vs : List UnitOf) (i j n : ℕ) {q : ℕ} → i + n ≤ length vs → q ≡ n → j ≡ index_after vs i q → j ≡ i + n
accepted_index vs i j n {q} fits e is = is ∙ cond-false _ _ _ (le-ltb (length vs) (i + q) (omega arith)) ∙ ap (λ (k : ℕ). i + k) e

-- the same list of the same reader has the same visible units
pub same_visible : {R P : Type 0} (meaning : R → Meaning) (c d : Cursor R P) → Same c d → visible_of meaning d ≡ visible_of meaning c
same_visible meaning c d same = let x = same.reader in let y = same.list in cc
