-- Calls in numbers: how far the plain cursor comes, and how many units it shows.
use Rattle.std.proofs.Common.{◌≡◌, ℕ, ◌+◌, List, [], ◌∷◌, length, fold, refl, ap, ◌∙◌, inl, inr}
use Rattle.std.proofs.lemmas.Bool.{cases_lt, lt-ltb, le-ltb, cond-true, cond-false}
use Rattle.block.specs.declared.call.Call.{Call}
use Rattle.block.specs.Units.{UnitOf}
use Rattle.block.specs.Plain.{Plain, asked, plain_call, plain_start, plain_run}
use Rattle.block.proofs.Plains.{counts_refused, counts_accepted}
use Rattle.block_iter.specs.Replays.{counted}

-- two numbers that are equal to two others
pub pairs : {a b i n : ℕ} → (a ≡ i) × (b ≡ n) → ◌≡◌ {A = ℕ × ℕ} (a, b) (i, n)
pairs {a} {b} {i} {n} (p, q) = cc

module _ (l : ℕ) (vs : List UnitOf) where
  count_one : (s : Plain) (c : Call) → counted (length vs) (s.index, length s.shown) c ≡ ((plain_call l vs s c).index, length (plain_call l vs s c).shown)
  count_one s c =
      elim (cases_lt (length vs) (s.index + asked c)) [
        | inl h ↦ cond-true _ _ _ (lt-ltb _ _ h) ∙ pairs (counts_refused l vs s c h)
        | inr h ↦ cond-false _ _ _ (le-ltb _ _ h) ∙ pairs (counts_accepted l vs s c h)
      ]

  count_from : (s : Plain) (cs : List Call) → fold (counted (length vs)) (s.index, length s.shown) cs ≡ ((fold (plain_call l vs) s cs).index, length (fold (plain_call l vs) s cs).shown)
  count_from s [] = refl
  count_from s (c ∷ cs) = ap (λ (t : ℕ × ℕ). fold (counted (length vs)) t cs) (count_one s c) ∙ count_from (plain_call l vs s c) cs

  pub count_all : (cs : List Call) → (fold (counted (length vs)) (0, 0) cs).1 ≡ length (plain_run l vs cs).shown
  count_all cs = ap (λ (t : ℕ × ℕ). t.1) (count_from plain_start cs)
