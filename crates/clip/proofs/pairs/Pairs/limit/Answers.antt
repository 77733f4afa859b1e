use Rattle.std.proofs.Common.{◌≡◌, ℕ, ◌+◌, suc, eqb, ltb, Bool, true, false, not, List, [], ◌∷◌, Some, None, Option, cond, length, slice_index_or, refl, ap, ◌∙◌, rules, tests, arith}
use Rattle.std.specs.List.{position_or_len}
use Rattle.std.specs.Option.{MatchOption}
use Rattle.std.proofs.lemmas.Iterator.{YieldsList-from_slice}
use Rattle.std.proofs.lemmas.Iterator.Search.{position_from_yields_List}
use Rattle.clip.specs.declared.pair.Pair.{Pair}
use Rattle.clip.specs.Made.{pairs_of}
use Rattle.clip.specs.Pairing.{limit_in}
use Rattle.clip.proofs.pairs.Pairs.limit.Goals as goal

-- the clock of the pair at a place; 0 without one
abbrev clock_at : List Pair → Pair → Option ℕ → ℕ
clock_at ps d None = 0
clock_at ps d (Some i) = (slice_index_or ps i d).clock

-- the first place of the client has its limit
clock_found : (c : ℕ) (d : Pair) (ps : List Pair) → let n = position_or_len (λ (p : Pair). eqb p.client c) ps in clock_at ps d (cond (ltb n (length ps)) (Some n) None) ≡ limit_in ps c
clock_found c d [] = refl
clock_found c d (p ∷ ps) = by (1 + n) (omega arith) (eqb p.client c) (clock_found c d ps)
  where
    n : ℕ
    n = position_or_len (λ (p : Pair). eqb p.client c) ps

    past : (b : Bool) → clock_at (p ∷ ps) d (cond b (Some (suc n)) None) ≡ clock_at ps d (cond b (Some n) None)
    past true = refl
    past false = refl

    by : (k : ℕ) → k ≡ suc n → (b : Bool) → clock_at ps d (cond (ltb n (length ps)) (Some n) None) ≡ limit_in ps c
        → let i = cond (not b) k 0 in clock_at (p ∷ ps) d (cond (ltb i (suc (length ps))) (Some i) None) ≡ cond b p.clock (limit_in ps c)
    by k s true e = ap (λ b. clock_at (p ∷ ps) d (cond b (Some 0) None)) {y = true} (grind arith)
    by k s false e = ap (λ m. clock_at (p ∷ ps) d (cond (ltb m (suc (length ps))) (Some m) None)) s ∙ ap (λ b. clock_at (p ∷ ps) d (cond b (Some (suc n)) None)) (grind arith) ∙ past (ltb n (length ps)) ∙ e

-- what the code answers for a place
answers : (ps : List Pair) (d : Pair) (o : Option ℕ) (r : ℕ) → MatchOption o (r ≡ 0) (λ i. r ≡ (slice_index_or ps i d).clock) → r ≡ clock_at ps d o
answers ps d None r e = e
answers ps d (Some i) r e = e

pub returns : goal.returns
returns c =
    let f = position_from_yields_List (λ (p : Pair). eqb p.client c.args.client) _ _ c.position.result c.position.ensures.ran (YieldsList-from_slice (pairs_of c.args.self.now) cc) (λ x b q k. search (rules, tests)) in
    answers (pairs_of c.args.self.now) (record { client = 0; clock = 0 }) c.position.result c.map_or.result (search rules) ∙ ap (clock_at (pairs_of c.args.self.now) _) f ∙ clock_found c.args.client _ (pairs_of c.args.self.now)
