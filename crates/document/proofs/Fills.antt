-- Slots that are written one after another.
use Rattle.std.proofs.Common.{◌≡◌, ℕ, ◌+◌, ◌<◌, List, length, get_or, set, sym, refl, ◌∙◌, subst, inl, inr, arith}
use Rattle.std.proofs.lemmas.List.{get_or-set_same, get_or-set_other, length-set}
use Rattle.std.proofs.lemmas.Bool.{cases_eq}
use Rattle.block.specs.declared.slot.Slot.{Slot}
use Rattle.block.specs.declared.slot.Slot.TheVariants.{Empty}
use Rattle.document.specs.Slots.{Written, Filled}

pub none_written : (allows : ℕ → Slot → Type 0) (xs : List Slot) → Written allows 0 xs xs
none_written allows xs = record { written = λ k h. absurd (omega arith); long = refl }

pub one_written : (allows : ℕ → Slot → Type 0) (k : ℕ) (xs ys : List Slot) (v : Slot) → Written allows k xs ys → k < length ys → allows k v → Written allows (k + 1) xs (set ys k v)
one_written allows k xs ys v h lt e =
    record {
      written = λ j lj. elim (cases_eq j k) [ inl same ↦ subst (λ (m : ℕ). allows m (get_or (set ys k v) m Empty)) (sym same) (subst (allows k) (sym (get_or-set_same ys k v Empty lt)) e) | inr other ↦ subst (allows j) (sym (get_or-set_other ys k j v Empty other)) (h.written j (omega arith)) ];
      long = length-set ys k v ∙ h.long;
    }

-- slots that can only be these
pub filled_by : (allows : ℕ → Slot → Type 0) (f : ℕ → Slot) (xs ys : List Slot) → Written allows (length xs) xs ys → ((k : ℕ) (v : Slot) → k < length xs → allows k v → v ≡ f k) → Filled f xs ys
filled_by allows f xs ys h e = record { written = λ k lt. e k _ lt (h.written k lt); long = h.long }

-- other words for the same slots
pub filled_as : (f g : ℕ → Slot) (xs ys : List Slot) → Filled f xs ys → ((k : ℕ) → k < length xs → f k ≡ g k) → Filled g xs ys
filled_as f g xs ys h e = record { written = λ k lt. h.written k lt ∙ e k lt; long = h.long }
