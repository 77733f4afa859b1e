-- Laws of texts: what a count says of `characters`, texts one after another, and basic texts.
use Rattle.std.proofs.Common.{◌≡◌, ℕ, zero, suc, ◌+◌, ◌<◌, ◌≤◌, min, leb, ◌⊎◌, List, [], ◌∷◌, ◌++◌, length, get_or, take, drop, Ok, Err, Result, sym, refl, ap, ◌∙◌, subst, inl, inr, ⊎_elim, arith}
use Rattle.std.proofs.lemmas.List.{length-append, take_all, get_or_at}
use Rattle.std.proofs.lemmas.Bool.{and_parts, cases_lt}
use Rattle.utf8.specs.declared.planes.Planes.TheVariants.{All, Basic}
use Rattle.utf8.specs.Table.{Row, utf8_char, basic_char, is_character}
use Rattle.utf8.specs.Reading.{front, placed, character_at, characters, counted}
use Rattle.utf8.specs.Texts.{AllCharacters, Spelled, Text, Sums, Lies}
use Rattle.utf8.proofs.Tables.{Sound, sound}
use Rattle.utf8.proofs.Heads.{Front, front_is}
use Rattle.utf8.proofs.Spellings.{spelled_step, spelled_append, characters_first, characters_spelled, characters_next, counted_all, counted_stop}
use Rattle.utf8.proofs.Lengths.{short}

-- how far the characters of some bytes reach
record Reached (t : List Row) (bs : List ℕ) : Type 0 where
  read : List (List ℕ)
  far : ℕ
  spelled : Spelled t read (take far bs)
  stop : (length bs ≤ far) ⊎ ((far < length bs) × ((q : ℕ) × (front t (drop far bs) ≡ Err q)))

module _ (t : List Row) (s : Sound t) where
  reached_by : (bs : List ℕ) (p : ℕ) (cs : List (List ℕ)) (r : Result ℕ ℕ) → Spelled t cs (take p bs) → p < length bs → front t (drop p bs) ≡ r →
      ((n : ℕ) → Front t (drop p bs) n → Reached t bs) → Reached t bs
  reached_by bs p cs (Ok n) h k e more = more n (front_is t s (drop p bs) n e)
  reached_by bs p cs (Err q) h k e more = record { read = cs; far = p; spelled = h; stop = inr (k, (q, e)) }

  reached_from : (fuel : ℕ) (bs : List ℕ) (p : ℕ) (cs : List (List ℕ)) → Spelled t cs (take p bs) → length bs ≤ p + fuel → Reached t bs
  reached_from zero bs p cs h k = record { read = cs; far = p; spelled = h; stop = inl (omega arith) }
  reached_from (suc fuel) bs p cs h k =
      ⊎_elim
      (λ l. reached_by bs p cs (front t (drop p bs)) h l refl
      (λ n f. reached_from fuel bs (p + n) (cs ++ take n (drop p bs) ∷ []) (spelled_step t cs bs p n h f.character) (omega (arith, f.some))))
      (λ l. record { read = cs; far = p; spelled = h; stop = inl l })
      (cases_lt p (length bs))

  pub counted_spelled : (bs : List ℕ) (n : ℕ) → counted t bs ≡ Ok n → Spelled t (characters t bs) bs × (length (characters t bs) ≡ n)
  unfolding character_at
  counted_spelled bs n e =
      let r = reached_from (length bs) bs 0 [] (record { each = tt; whole = refl }) (omega arith) in
      ⊎_elim
      (λ l.
      let all : Spelled t r.read bs = subst (Spelled t r.read) (take_all r.far bs l) r.spelled in
      let same : r.read ≡ characters t bs = sym (characters_spelled t s r.read bs all) in
      let many : Ok (length r.read) ≡ Ok n = counted_all t s r.read bs all ∙ e in
      let long : length r.read ≡ n = cc in
      (subst (λ cs. Spelled t cs bs) same all, sym (ap length same) ∙ long))
      (λ l.
      let stop : placed (min r.far (length bs)) (Err l.1.0) ≡ Ok n =
      ap (placed (min r.far (length bs))) (sym l.1.1) ∙ counted_stop t s r.read bs r.far l.1.0 r.spelled l.0 l.1.1 ∙ e in
      let z : ◌≡◌ {A = ℕ} 0 1 = cc in
      absurd (omega arith))
      r.stop

  pub characters_append : (bs more : List ℕ) → Text t bs → characters t (bs ++ more) ≡ characters t bs ++ characters t more
  characters_append bs more text =
      ap (λ x. characters t (x ++ more)) (sym text.1.whole)
      ∙ characters_first t s text.0 more text.1.each
      ∙ ap (λ cs. cs ++ characters t more) (sym (characters_spelled t s text.0 bs text.1))

  pub sums : (bs : List ℕ) → Sums t bs
  sums bs more m n e f =
      let a = counted_spelled bs m e in
      let b = counted_spelled more n f in
      let both = spelled_append t (characters t bs) (characters t more) bs more a.0 b.0 in
      sym (counted_all t s (characters t bs ++ characters t more) (bs ++ more) both)
      ∙ ap Ok (length-append (characters t bs) (characters t more) ∙ ap (λ k. k + length (characters t more)) a.1 ∙ ap (λ k. m + k) b.1)

  -- a character that is located is the one with that index
  pub lies_character : (bs : List ℕ) (k p n : ℕ) → Lies t bs k p n → get_or (characters t bs) k [] ≡ take n (drop p bs)
  lies_character bs k p n l =
      ap (λ cs. get_or cs k []) (characters_next t s l.before bs p n l.spelled l.character)
      ∙ get_or_at l.before (take n (drop p bs)) _ [] k l.many

basic_each : (cs : List (List ℕ)) → AllCharacters basic_char cs → AllCharacters utf8_char cs
basic_each [] h = tt
basic_each (c ∷ cs) h = ((and_parts (is_character utf8_char c) (leb (length c) 3) (sym (short c) ∙ h.0)).0, basic_each cs h.1)

-- a basic text is a text, with the same characters
pub basic_spelled : (cs : List (List ℕ)) (bs : List ℕ) → Spelled basic_char cs bs → Spelled utf8_char cs bs
basic_spelled cs bs h = record { each = basic_each cs h.each; whole = h.whole }

pub basic_characters : (bs : List ℕ) (n : ℕ) → counted basic_char bs ≡ Ok n → characters utf8_char bs ≡ characters basic_char bs
basic_characters bs n e = characters_spelled utf8_char (sound All) _ bs (basic_spelled _ bs (counted_spelled basic_char (sound Basic) bs n e).0)
