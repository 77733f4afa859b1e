-- What a list of pairs says of each client.
use Rattle.std.specs.Prelude.{ℕ, ◌^◌, Bool, true, cond, not, ◌&&◌, List, [], ◌∷◌, ◌==◌, nat_lt}
use Rattle.std.specs.List.{list_any}
use Rattle.clip.specs.declared.pair.Pair.{Pair}

-- the clock from which the units of a client are hidden; 0 without a pair
abbrev pub limit_in : List Pair → ℕ → ℕ
limit_in [] c = 0
limit_in (p ∷ ps) c = cond (p.client == c) p.clock (limit_in ps c)

-- the client is below 2^53 and the clock below 2^31
abbrev pub in_range : Pair → Bool
in_range p = nat_lt p.client (2 ^ 53) && nat_lt p.clock (2 ^ 31)

-- some pair is of this client
abbrev pub listed : ℕ → List Pair → Bool
listed c ps = list_any (λ p. p.client == c) ps

-- each pair is in range, and no client has two
abbrev pub sound : List Pair → Bool
sound [] = true
sound (p ∷ ps) = (in_range p && not (listed p.client ps)) && sound ps
