-- The first index at which a test fails, and what follows from it.
use Rattle.std.specs.Prelude.{ℕ, zero, suc, Bool, cond, not, is_some, Some, None, Option}

-- the first number, if any
abbrev pub or_else : Option ℕ → Option ℕ → Option ℕ
or_else (Some i) o = Some i
or_else None o = o

-- the first index below n at which the test fails
unfoldable pub first_bad : (ℕ → Bool) → ℕ → Option ℕ
first_bad p zero = None
first_bad p (suc n) = or_else (first_bad p n) (cond (p n) None (Some n))

-- all indices below n pass
unfoldable pub all_pass : (ℕ → Bool) → ℕ → Bool
all_pass p n = not (is_some (first_bad p n))

-- the test that passes where this one fails
abbrev pub failing : (ℕ → Bool) → ℕ → Bool
failing p k = not (p k)

-- some index below n passes
unfoldable pub some_pass : (ℕ → Bool) → ℕ → Bool
some_pass p n = is_some (first_bad (failing p) n)

-- how many indices below n pass
unfoldable pub passing : (ℕ → Bool) → ℕ → ℕ
passing p zero = 0
passing p (suc n) = cond (p n) (suc (passing p n)) (passing p n)
