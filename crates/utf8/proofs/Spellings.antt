-- The characters of a text: what `characters` reads, and that no other characters spell the same bytes.
use Rattle.std.proofs.Common.{◌≡◌, ℕ, zero, suc, pred, ◌+◌, ◌-◌, ◌<◌, ◌≤◌, true, List, [], ◌∷◌, ◌++◌, length, get_or, take, drop, Some, None, Ok, Err, sym, refl, ap, ◌∙◌, subst, append_assoc, append-nil, arith, take-add}
use Rattle.std.proofs.lemmas.List.{length-append, take_at, drop_at, take-append-drop, length-take-le, length-drop, get_or_at}
use Rattle.std.proofs.lemmas.Bool.{false≢true, cond-true, cond-false, eq-eqb, ne_eqb, lt-ltb, le-ltb}
use Rattle.utf8.specs.Table.{Row, is_character}
use Rattle.utf8.specs.Reading.{front, character_at, grown, characters_after, characters, together, reach, counted, place_in, located}
use Rattle.utf8.specs.Texts.{AllCharacters, Spelled, Text, Refused, Unique, Lies}
use Rattle.utf8.proofs.Tables.{Sound}
use Rattle.utf8.proofs.Heads.{Front, front_reads, front_stops}

after_skip : (t : List Row) (k : ℕ) (bs : List ℕ) → characters_after t k bs ≡ characters t (drop k bs)
unfolding characters_after
after_skip t zero bs = refl
after_skip t (suc k) [] = refl
after_skip t (suc k) (b ∷ bs) = after_skip t k bs

-- one step of `characters`
pub characters_more : (t : List Row) (bs : List ℕ) (n : ℕ) → front t bs ≡ Ok n → 0 < n → characters t bs ≡ take n bs ∷ characters t (drop n bs)
unfolding characters_after front
characters_more t [] n h k = let z : ◌≡◌ {A = ℕ} 0 1 = cc in absurd (omega arith)
characters_more t (b ∷ bs) zero h k = absurd (omega arith)
characters_more t (b ∷ bs) (suc n) h k =
    ap (λ r. grown r (b ∷ bs) (λ m. characters_after t (pred m) bs)) h ∙ ap (λ cs. take (suc n) (b ∷ bs) ∷ cs) (after_skip t n bs)

pub characters_stop : (t : List Row) (bs : List ℕ) (q : ℕ) → front t bs ≡ Err q → characters t bs ≡ []
unfolding characters_after front
characters_stop t [] q h = refl
characters_stop t (b ∷ bs) q h = ap (λ r. grown r (b ∷ bs) (λ m. characters_after t (pred m) bs)) h

together_append : (cs ds : List (List ℕ)) → together (cs ++ ds) ≡ together cs ++ together ds
together_append [] ds = refl
together_append (c ∷ cs) ds = ap (λ bs. c ++ bs) (together_append cs ds) ∙ sym (append_assoc c (together cs) (together ds))

all_both : (t : List Row) (cs ds : List (List ℕ)) → AllCharacters t cs → AllCharacters t ds → AllCharacters t (cs ++ ds)
all_both t [] ds h k = k
all_both t (c ∷ cs) ds h k = (h.0, all_both t cs ds h.1 k)

-- one text after another
pub spelled_append : (t : List Row) (cs ds : List (List ℕ)) (a b : List ℕ) → Spelled t cs a → Spelled t ds b → Spelled t (cs ++ ds) (a ++ b)
spelled_append t cs ds a b h k = record {
  each = all_both t cs ds h.each k.each;
  whole = together_append cs ds ∙ (λ i. h.whole i ++ k.whole i);
}

-- one character more
pub spelled_more : (t : List Row) (cs : List (List ℕ)) (c a : List ℕ) → Spelled t cs a → is_character t c ≡ true → Spelled t (cs ++ c ∷ []) (a ++ c)
spelled_more t cs c a h k =
    spelled_append t cs (c ∷ []) a c h (record { each = (k, tt); whole = append-nil c })

-- the front of n bytes is a character: the bytes up to there are one character more
pub spelled_step : (t : List Row) (cs : List (List ℕ)) (bs : List ℕ) (p n : ℕ) → Spelled t cs (take p bs) → is_character t (take n (drop p bs)) ≡ true →
    Spelled t (cs ++ take n (drop p bs) ∷ []) (take (p + n) bs)
spelled_step t cs bs p n h k = subst (Spelled t (cs ++ take n (drop p bs) ∷ [])) (sym (take-add p n bs)) (spelled_more t cs (take n (drop p bs)) (take p bs) h k)

module _ (t : List Row) (s : Sound t) where
  characters_head : (c bs : List ℕ) → is_character t c ≡ true → characters t (c ++ bs) ≡ c ∷ characters t bs
  characters_head [] bs h = absurd (false≢true (sym s.none ∙ h))
  characters_head (b ∷ c) bs h =
      characters_more t (b ∷ (c ++ bs)) (suc (length c)) (front_reads t s (b ∷ c) bs h) (omega arith)
      ∙ (λ i. take_at (b ∷ c) bs (suc (length c)) refl i ∷ characters t (drop_at (b ∷ c) bs (suc (length c)) refl i))

  -- the characters that spell the start of some bytes are the first to be read
  pub characters_first : (cs : List (List ℕ)) (rest : List ℕ) → AllCharacters t cs → characters t (together cs ++ rest) ≡ cs ++ characters t rest
  characters_first [] rest h = refl
  characters_first (c ∷ cs) rest h =
      ap (characters t) (append_assoc c (together cs) rest)
      ∙ characters_head c (together cs ++ rest) h.0
      ∙ ap (λ ds. c ∷ ds) (characters_first cs rest h.1)

  pub characters_spelled : (cs : List (List ℕ)) (bs : List ℕ) → Spelled t cs bs → characters t bs ≡ cs
  unfolding characters_after
  characters_spelled cs bs h =
      ap (characters t) (sym h.whole ∙ sym (append-nil _)) ∙ characters_first cs [] h.each ∙ append-nil cs

  pub unique : (bs : List ℕ) → Unique t bs
  unique bs cs ds h k = sym (characters_spelled cs bs h) ∙ characters_spelled ds bs k

  -- k characters spell the bytes before p
  pub characters_at : (cs : List (List ℕ)) (bs : List ℕ) (p : ℕ) → Spelled t cs (take p bs) → characters t bs ≡ cs ++ characters t (drop p bs)
  characters_at cs bs p h =
      ap (characters t) (sym (take-append-drop p bs) ∙ ap (λ a. a ++ drop p bs) (sym h.whole))
      ∙ characters_first cs (drop p bs) h.each

  -- k characters and one more
  pub characters_next : (cs : List (List ℕ)) (bs : List ℕ) (p n : ℕ) → Spelled t cs (take p bs) → is_character t (take n (drop p bs)) ≡ true →
      characters t bs ≡ cs ++ take n (drop p bs) ∷ characters t (drop n (drop p bs))
  characters_next cs bs p n h k =
      characters_at cs bs p h
      ∙ ap (λ ds. cs ++ ds) (ap (characters t) (sym (take-append-drop n (drop p bs))) ∙ characters_head (take n (drop p bs)) (drop n (drop p bs)) k)

  characters_end : (cs : List (List ℕ)) (bs : List ℕ) (p q : ℕ) → Spelled t cs (take p bs) → front t (drop p bs) ≡ Err q → characters t bs ≡ cs
  characters_end cs bs p q h e =
      characters_at cs bs p h ∙ ap (λ ds. cs ++ ds) (characters_stop t (drop p bs) q e) ∙ append-nil cs

  -- after characters, what begins with none is no text
  no_text : (cs : List (List ℕ)) (a y : List ℕ) (q : ℕ) → Spelled t cs a → front t y ≡ Err q → 0 < length y → Text t (a ++ y) → ⊥
  no_text cs a y q h e some text =
      let read : characters t (a ++ y) ≡ cs =
      ap (λ x. characters t (x ++ y)) (sym h.whole) ∙ characters_first cs y h.each ∙ ap (λ ds. cs ++ ds) (characters_stop t y q e) ∙ append-nil cs in
      let same : text.0 ≡ cs = sym (characters_spelled text.0 (a ++ y) text.1) ∙ read in
      let whole : a ≡ a ++ y = sym h.whole ∙ sym (ap together same) ∙ text.1.whole in
      let long : length a ≡ length a + length y = ap length whole ∙ length-append a y in
      omega arith

  pub text_refused : (cs : List (List ℕ)) (bs : List ℕ) (p q : ℕ) → Spelled t cs (take p bs) → p < length bs → front t (drop p bs) ≡ Err q → Refused (Text t) bs (p + q)
  text_refused cs bs p q h k e =
      let f = front_stops t s (drop p bs) q e in
      let left : length (drop p bs) ≡ length bs - p = length-drop p bs in
      record {
        inside = omega (arith, f.inside);
        open_ended = (
          f.more,
          (
            cs ++ (take q (drop p bs) ++ f.more) ∷ [],
            subst (Spelled t (cs ++ (take q (drop p bs) ++ f.more) ∷ []))
                (sym (append_assoc (take p bs) (take q (drop p bs)) f.more) ∙ ap (λ x. x ++ f.more) (sym (take-add p q bs)))
                (spelled_more t cs (take q (drop p bs) ++ f.more) (take p bs) h f.goes),
          ),
        );
        wrong = λ r ys text.
            let next : suc (p + q) ≡ p + suc q = omega arith in
            let whole : take (suc (p + q)) bs ++ ys ≡ take p bs ++ (take (suc q) (drop p bs) ++ ys) =
            ap (λ m. take m bs ++ ys) next ∙ ap (λ x. x ++ ys) (take-add p (suc q) bs) ∙ append_assoc (take p bs) (take (suc q) (drop p bs)) ys in
            let long : length (take (suc q) (drop p bs) ++ ys) ≡ suc q + length ys =
            length-append (take (suc q) (drop p bs)) ys ∙ ap (λ m. m + length ys) (length-take-le (suc q) (drop p bs) (omega arith)) in
            no_text cs (take p bs) (take (suc q) (drop p bs) ++ ys) q h (f.stays ys (omega arith)) (omega arith) (subst (Text t) whole text);
        unfinished = λ r text. no_text cs (take p bs) (drop p bs) q h e (omega arith) (subst (Text t) (sym (take-append-drop p bs)) text);
      }

  -- what is counted, at the end of the text and at a refusal
  pub counted_all : (cs : List (List ℕ)) (bs : List ℕ) → Spelled t cs bs → Ok (length cs) ≡ counted t bs
  unfolding counted
  counted_all cs bs h =
      let read = characters_spelled cs bs h in
      let far : reach t bs ≡ length bs = ap (λ ds. length (together ds)) read ∙ ap length h.whole in
      sym (cond-true _ _ _ (eq-eqb (reach t bs) (length bs) far) ∙ ap (λ ds. Ok (length ds)) read)

  pub counted_stop : (cs : List (List ℕ)) (bs : List ℕ) (p q : ℕ) → Spelled t cs (take p bs) → p < length bs → front t (drop p bs) ≡ Err q → character_at t bs p ≡ counted t bs
  unfolding counted
  counted_stop cs bs p q h k e =
      let read = characters_end cs bs p q h e in
      let far : reach t bs ≡ p = ap (λ ds. length (together ds)) read ∙ ap length h.whole ∙ length-take-le p bs (omega arith) in
      sym (cond-false _ _ _ (ne_eqb (reach t bs) (length bs) (λ w. omega arith)) ∙ ap (character_at t bs) far)

  -- where a character lies
  pub lies : (cs : List (List ℕ)) (bs : List ℕ) (p n : ℕ) → Spelled t cs (take p bs) → Front t (drop p bs) n → p ≤ length bs → Lies t bs (length cs) p n
  lies cs bs p n h f k =
      let left : length (drop p bs) ≡ length bs - p = length-drop p bs in
      record { before = cs; spelled = h; many = refl; character = f.character; inside = omega (arith, f.inside) }

  pub located_some : (cs : List (List ℕ)) (bs : List ℕ) (p n : ℕ) → Spelled t cs (take p bs) → Front t (drop p bs) n → p ≤ length bs → Some (p, n) ≡ located t bs (length cs)
  unfolding located
  located_some cs bs p n h f k =
      let c = take n (drop p bs) in
      let others = characters t (drop n (drop p bs)) in
      let far : length (together (take (length cs) (cs ++ c ∷ others))) ≡ p =
      ap (λ ds. length (together ds)) (take_at cs (c ∷ others) (length cs) refl) ∙ ap length h.whole ∙ length-take-le p bs k in
      let long : length (get_or (cs ++ c ∷ others) (length cs) []) ≡ n =
      ap length (get_or_at cs c others [] (length cs) refl) ∙ length-take-le n (drop p bs) f.inside in
      let more : length cs < length (cs ++ c ∷ others) = omega (arith, length-append cs (c ∷ others)) in
      sym (ap (λ ds. place_in ds (length cs)) (characters_next cs bs p n h f.character)
      ∙ cond-true _ _ _ (lt-ltb (length cs) (length (cs ++ c ∷ others)) more)
      ∙ (λ i. Some (far i, long i)))

  pub located_none : (cs : List (List ℕ)) (bs : List ℕ) (p q k : ℕ) → Spelled t cs (take p bs) → front t (drop p bs) ≡ Err q → length cs ≤ k → None ≡ located t bs k
  unfolding located
  located_none cs bs p q k h e few =
      sym (ap (λ ds. place_in ds k) (characters_end cs bs p q h e) ∙ cond-false _ _ _ (le-ltb k (length cs) few))

  pub lies_nowhere : (cs : List (List ℕ)) (bs : List ℕ) (p q k : ℕ) → Spelled t cs (take p bs) → front t (drop p bs) ≡ Err q → length cs ≤ k →
      (o n : ℕ) → Lies t bs k o n → ⊥
  lies_nowhere cs bs p q k h e few o n l =
      let read = characters_next l.before bs o n l.spelled l.character in
      let same = sym (characters_end cs bs p q h e) ∙ read in
      let long : length cs ≡ length l.before + length (take n (drop o bs) ∷ characters t (drop n (drop o bs))) = ap length same ∙ length-append l.before _ in
      omega (arith, l.many)
