-- Where no more records are in use than a document may have, their numbers fit 32 bits.
use Rattle.std.proofs.Common.{◌≡◌, ℕ, ◌^◌, ◌<◌, ◌≤◌, Bool, true, leb, length, Some, Option, sym, ◌∙◌, arith}
use Rattle.std.proofs.lemmas.Bool.{and_parts, leb-true}
use Rattle.store.specs.First.{first_bad}
use Rattle.store.specs.FirstFacts.{found_within}
use Rattle.store.specs.Limits.{counts_fit}
use Rattle.store.specs.Records.{Store}

pub record Few (s : Store) : Type 0 where
  pub runs : length s.runs ≤ 65536
  pub lists : length s.lists ≤ 65536
  pub clients : length s.clients ≤ 65536
  pub entries : length s.entries ≤ 65536
  pub bytes : length s.bytes ≤ 65536

pub few : (s : Store) → counts_fit s ≡ true → Few s
few s h =
    let a = and_parts (leb (length s.runs) 4096) _ h in
    let b = and_parts (leb (length s.lists) 256) _ a.1 in
    let c = and_parts (leb (length s.clients) 64) _ b.1 in
    let d = and_parts (leb (length s.entries) 8192) (leb (length s.bytes) 65536) c.1 in
    let r = leb-true _ _ a.0 in
    let l = leb-true _ _ b.0 in
    let k = leb-true _ _ c.0 in
    let e = leb-true _ _ d.0 in
    record { runs = omega (arith, r); lists = omega (arith, l); clients = omega (arith, k); entries = omega (arith, e); bytes = leb-true _ _ d.1 }

pub found_below : (p : ℕ → Bool) (n i : ℕ) → Some i ≡ first_bad p n → n ≤ 65536 → i < 65536
found_below p n i e h = let lt = found_within p n i (sym e) in omega (arith, lt)

-- so does the number of a record that was found
pub found_small : (p : ℕ → Bool) (n : ℕ) (found : Option ℕ) → found ≡ first_bad p n → n ≤ 65536 → (i : ℕ) → found ≡ Some i → i < 2 ^ 32
found_small p n found e le i h = let lt = found_below p n i (sym h ∙ e) le in omega (arith, lt)
