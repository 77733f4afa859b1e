-- What the loops over a text keep, and what they answer.
use Rattle.std.proofs.Common.{◌≡◌, ℕ, ◌+◌, ◌-◌, ◌<◌, ◌≤◌, List, [], ◌∷◌, ◌++◌, length, take, drop, Some, None, Ok, Err, Result, sym, refl, ap, ◌∙◌, subst, arith}
use Rattle.std.proofs.lemmas.List.{length-drop, length_push, take_all}
use Rattle.std.specs.Result.{result_ok}
use Rattle.utf8.specs.declared.planes.Planes.{Planes}
use Rattle.utf8.specs.Table.{Row}
use Rattle.utf8.specs.Rows.{rows}
use Rattle.utf8.specs.Reading.{front, placed, character_at, counted, located}
use Rattle.utf8.specs.Texts.{Spelled, Measured, Counted, Lies}
use Rattle.utf8.proofs.Tables.{sound}
use Rattle.utf8.proofs.Heads.{Front, front_is, front_refused}
use Rattle.utf8.proofs.Spellings.{spelled_step, text_refused, counted_all, counted_stop, lies, located_some, located_none, lies_nowhere}

placed_ok : (m n : ℕ) (r : Result ℕ ℕ) → Ok n ≡ placed m r → r ≡ Ok n
placed_ok m n (Ok k) e = let same : k ≡ n = cc in ap Ok same
placed_ok m n (Err k) e = let z : ◌≡◌ {A = ℕ} 0 1 = cc in absurd (omega arith)

placed_err : (m p : ℕ) (r : Result ℕ ℕ) → Err p ≡ placed m r → (q : ℕ) × (p ≡ m + q) × (r ≡ Err q)
placed_err m p (Ok k) e = let z : ◌≡◌ {A = ℕ} 0 1 = cc in absurd (omega arith)
placed_err m p (Err k) e = let same : p ≡ m + k = cc in (k, same, refl)

-- what `ok()` keeps of an answer
pub kept_ok : (r : Result ℕ ℕ) (n : ℕ) → Some n ≡ result_ok r → r ≡ Ok n
kept_ok (Ok k) n e = let same : k ≡ n = cc in ap Ok same
kept_ok (Err k) n e = let z : ◌≡◌ {A = ℕ} 0 1 = cc in absurd (omega arith)

pub kept_none : (r : Result ℕ ℕ) → None ≡ result_ok r → (m : ℕ) × (r ≡ Err m)
kept_none (Ok k) e = let z : ◌≡◌ {A = ℕ} 0 1 = cc in absurd (omega arith)
kept_none (Err k) e = (k, refl)

-- `count` characters spell the bytes before `at`
pub record Sofar (t : List Row) (bs : List ℕ) (at count : ℕ) : Type 0 where
  pub read : List (List ℕ)
  pub spelled : Spelled t read (take at bs)
  pub many : length read ≡ count
  pub few : count ≤ at
  pub inside : at ≤ length bs

pub none_yet : (t : List Row) (bs : List ℕ) → Sofar t bs 0 0
none_yet t bs = record { read = []; spelled = record { each = tt; whole = refl }; many = refl; few = omega arith; inside = omega arith }

module _ (planes : Planes) (bs : List ℕ) where
  here : (p n : ℕ) → Ok n ≡ character_at (rows planes) bs p → Front (rows planes) (drop p bs) n
  unfolding character_at
  here p n e = front_is (rows planes) (sound planes) (drop p bs) n (placed_ok _ n (front (rows planes) (drop p bs)) e)

  -- the character ends inside the text, and is not empty
  pub ends : (p n : ℕ) → Ok n ≡ character_at (rows planes) bs p → p + n ≤ length bs
  ends p n e =
      let f = here p n e in
      let left : length (drop p bs) ≡ length bs - p = length-drop p bs in
      omega (arith, f.inside, f.some)

  pub some : (p n : ℕ) → Ok n ≡ character_at (rows planes) bs p → 0 < n
  some p n e = (here p n e).some

  pub measured : (p : ℕ) (r : Result ℕ ℕ) → r ≡ character_at (rows planes) bs p → Measured (rows planes) bs p r
  unfolding character_at
  measured p (Ok n) e = ((here p n e).character, ends p n e)
  measured p (Err m) e =
      let q = placed_err _ m (front (rows planes) (drop p bs)) e in
      (q.0, q.1, front_refused (rows planes) (sound planes) (drop p bs) q.0 q.2)

  pub one_more : (p n k : ℕ) → Sofar (rows planes) bs p k → Ok n ≡ character_at (rows planes) bs p → Sofar (rows planes) bs (p + n) (k + 1)
  one_more p n k s e =
      let f = here p n e in
      record {
        read = s.read ++ take n (drop p bs) ∷ [];
        spelled = spelled_step (rows planes) s.read bs p n s.spelled f.character;
        many = length_push s.read (take n (drop p bs)) ∙ ap (λ m. m + 1) s.many;
        few = omega (arith, s.few, f.some);
        inside = ends p n e;
      }

  spelled_all : (p k : ℕ) → length bs ≤ p → (s : Sofar (rows planes) bs p k) → Spelled (rows planes) s.read bs
  spelled_all p k h s = subst (Spelled (rows planes) s.read) (take_all p bs h) s.spelled

  pub count_value : (p k : ℕ) → Sofar (rows planes) bs p k → length bs ≤ p → Ok k ≡ counted (rows planes) bs
  count_value p k s h = ap Ok (sym s.many) ∙ counted_all (rows planes) (sound planes) s.read bs (spelled_all p k h s)

  pub count_means : (p k : ℕ) → Sofar (rows planes) bs p k → length bs ≤ p → Counted (rows planes) bs (Ok k)
  count_means p k s h = (s.read, spelled_all p k h s, s.many)

  -- r is what the loop returns where the next character is refused
  pub stop_value : (p m k : ℕ) (r : Result ℕ ℕ) → Sofar (rows planes) bs p k → p < length bs → Err m ≡ character_at (rows planes) bs p → r ≡ Err m →
      r ≡ counted (rows planes) bs
  unfolding character_at
  stop_value p m k r s h e is =
      let q = placed_err _ m (front (rows planes) (drop p bs)) e in
      is ∙ e ∙ counted_stop (rows planes) (sound planes) s.read bs p q.0 s.spelled h q.2

  pub stop_means : (p m k : ℕ) (r : Result ℕ ℕ) → Sofar (rows planes) bs p k → p < length bs → Err m ≡ character_at (rows planes) bs p → r ≡ Err m →
      Counted (rows planes) bs r
  unfolding character_at
  stop_means p m k r s h e is =
      let q = placed_err _ m (front (rows planes) (drop p bs)) e in
      let there : p + q.0 ≡ m = omega (arith, q.1) in
      let refused = text_refused (rows planes) (sound planes) s.read bs p q.0 s.spelled h q.2 in
      subst (Counted (rows planes) bs) (ap Err there ∙ sym is) refused

  pub found_value : (p n k i : ℕ) → Sofar (rows planes) bs p k → Ok n ≡ character_at (rows planes) bs p → k ≡ i → Some (p, n) ≡ located (rows planes) bs i
  found_value p n k i s e h =
      located_some (rows planes) (sound planes) s.read bs p n s.spelled (here p n e) s.inside ∙ ap (located (rows planes) bs) (s.many ∙ h)

  pub found_means : (p n k i : ℕ) → Sofar (rows planes) bs p k → Ok n ≡ character_at (rows planes) bs p → k ≡ i → Lies (rows planes) bs i p n
  found_means p n k i s e h =
      subst (λ m. Lies (rows planes) bs m p n) (s.many ∙ h) (lies (rows planes) (sound planes) s.read bs p n s.spelled (here p n e) s.inside)

  pub none_value : (p m k i : ℕ) → Sofar (rows planes) bs p k → Err m ≡ character_at (rows planes) bs p → k ≤ i → None ≡ located (rows planes) bs i
  unfolding character_at
  none_value p m k i s e h =
      let q = placed_err _ m (front (rows planes) (drop p bs)) e in
      located_none (rows planes) (sound planes) s.read bs p q.0 i s.spelled q.2 (omega (arith, s.many))

  pub none_means : (p m k i : ℕ) → Sofar (rows planes) bs p k → Err m ≡ character_at (rows planes) bs p → k ≤ i →
      (o n : ℕ) → Lies (rows planes) bs i o n → ⊥
  unfolding character_at
  none_means p m k i s e h =
      let q = placed_err _ m (front (rows planes) (drop p bs)) e in
      lies_nowhere (rows planes) (sound planes) s.read bs p q.0 i s.spelled q.2 (omega (arith, s.many))
