-- The characters of an accepted text, and where each begins.
use Rattle.std.specs.Option.{MatchOption}
use Rattle.std.proofs.Common.{◌≡◌, ℕ, zero, suc, ◌+◌, ◌-◌, ◌<◌, ◌≤◌, true, List, [], ◌∷◌, ◌++◌, length, get_or, take, drop, Some, None, Ok, Err, Option, Result, sym, refl, ap, ◌∙◌, subst, inl, inr, ⊎_elim, arith, length-append, take-add}
use Rattle.std.proofs.lemmas.List.{take_all, take_at, drop_at, drop-drop, length-drop, length-take-le}
use Rattle.std.proofs.lemmas.Bool.{false≢true, cases_eq, eq-eqb, ne_eqb, cond-true, cond-false, cases_lt, lt-ltb, le-ltb, or_cases, or_left, or_right}
use Rattle.utf8.specs.Reading.{front, placed, character_at, characters, together, reach, counted, located}
use Rattle.utf8.specs.Table.{Row, utf8_4, utf8_char, basic_char, fits, is_character}
use Rattle.utf8.specs.Texts.{AllCharacters, Spelled}
use Rattle.utf8.specs.declared.planes.Planes.TheVariants.{All, Basic}
use Rattle.utf8.proofs.Heads.{front_is, front_reads}
use Rattle.utf8.proofs.Spellings.{characters_more, characters_stop, characters_spelled}
use Rattle.utf8.proofs.Tables.{Sound, sound}
use Rattle.document.specs.Slots.{place_of}

-- all characters are read until one is refused
pub record Read (t : List Row) (bs : List ℕ) : Type 0 where
  pub each : AllCharacters t (characters t bs)
  pub whole : together (characters t bs) ≡ take (reach t bs) bs
  pub place : ℕ
  pub stops : front t (drop (reach t bs) bs) ≡ Err place

take_both : (m n : ℕ) (xs : List ℕ) → take (m + n) xs ≡ take m xs ++ take n (drop m xs)
take_both m n xs = take-add m n xs

module _ (t : List Row) (ok : Sound t) where
  nothing_read : (bs : List ℕ) (q : ℕ) → front t bs ≡ Err q → Read t bs
  nothing_read bs q h =
      let e : characters t bs ≡ [] = characters_stop t bs q h in
      let z : reach t bs ≡ 0 = ap (λ (cs : List (List ℕ)). length (together cs)) e in
      record {
        each = subst (AllCharacters t) (sym e) tt;
        whole = ap together e ∙ sym (ap (λ (n : ℕ). take n bs) z);
        place = q;
        stops = ap (λ (n : ℕ). front t (drop n bs)) z ∙ h;
      }

  one_read : (bs : List ℕ) (n : ℕ) → front t bs ≡ Ok n → Read t (drop n bs) → Read t bs
  one_read bs n h r =
      let f = front_is t ok bs n h in
      let e : characters t bs ≡ take n bs ∷ characters t (drop n bs) = characters_more t bs n h f.some in
      let long : length (take n bs) ≡ n = length-take-le n bs f.inside in
      let z : reach t bs ≡ n + reach t (drop n bs) = ap (λ (cs : List (List ℕ)). length (together cs)) e ∙ length-append (take n bs) (together (characters t (drop n bs))) ∙ ap (λ (m : ℕ). m + reach t (drop n bs)) long in
      record {
        each = subst (AllCharacters t) (sym e) (f.character, r.each);
        whole = ap together e ∙ ap (λ (xs : List ℕ). take n bs ++ xs) r.whole ∙ sym (take_both n (reach t (drop n bs)) bs) ∙ sym (ap (λ (m : ℕ). take m bs) z);
        place = r.place;
        stops = ap (λ (m : ℕ). front t (drop m bs)) z ∙ ap (front t) (sym (drop-drop (reach t (drop n bs)) n bs)) ∙ r.stops;
      }

  read_at : (n : ℕ) (bs : List ℕ) (r : Result ℕ ℕ) → front t bs ≡ r → length bs ≤ n → Read t bs
  read_at n bs (Err q) h le = nothing_read bs q h
  read_at zero bs (Ok m) h le = let f = front_is t ok bs m h in absurd (omega (arith, f.inside, f.some, le))
  read_at (suc n) bs (Ok m) h le =
      let f = front_is t ok bs m h in
      one_read bs m h (read_at n (drop m bs) (front t (drop m bs)) refl (rw length-drop (omega (arith, f.some, le))))

  pub read_all : (bs : List ℕ) → Read t bs
  read_all bs = read_at (length bs) bs (front t bs) refl (omega arith)

  not_err : (n m p : ℕ) → placed m (Err p) ≡ Ok n → ⊥
  not_err n m p h = let z : ◌≡◌ {A = ℕ} 0 1 = cc in omega arith

  -- what is counted is a text
  pub spelled_by : (bs : List ℕ) (n : ℕ) → counted t bs ≡ Ok n → Spelled t (characters t bs) bs × (length (characters t bs) ≡ n)
  unfolding counted character_at
  spelled_by bs n h =
      let r = read_all bs in
      elim (cases_eq (reach t bs) (length bs)) [
        | inl e ↦
            (let c : Ok (length (characters t bs)) ≡ Ok n = sym (cond-true _ _ _ (eq-eqb _ _ e)) ∙ h in
            let m : length (characters t bs) ≡ n = cc in
            (record { each = r.each; whole = r.whole ∙ take_all (reach t bs) bs (omega (arith, e)) }, m))
        | inr ne ↦
            (let c : placed _ (front t (drop (reach t bs) bs)) ≡ Ok n = sym (cond-false _ _ _ (ne_eqb _ _ ne)) ∙ h in
            absurd (not_err n _ r.place (ap (placed _) (sym r.stops) ∙ c)))
      ]

-- a basic character is a character
also : (t u : List Row) (c : List ℕ) → is_character t c ≡ true → is_character (t ++ u) c ≡ true
unfolding is_character
also [] u c h = absurd (false≢true h)
also (r ∷ t) u c h = ⊎_elim (λ a. or_left (fits r c) (is_character (t ++ u) c) a) (λ b. or_right (fits r c) (is_character (t ++ u) c) (also t u c b)) (or_cases (fits r c) (is_character t c) h)

all_also : (cs : List (List ℕ)) → AllCharacters basic_char cs → AllCharacters utf8_char cs
all_also [] h = tt
all_also (c ∷ cs) h = (also basic_char utf8_4 c h.0, all_also cs h.1)

-- a text with no character above U+FFFF is the same text among all characters
pub spelled_text : (bs : List ℕ) (n : ℕ) → counted basic_char bs ≡ Ok n → Spelled utf8_char (characters utf8_char bs) bs × (length (characters utf8_char bs) ≡ n)
spelled_text bs n h =
    let b = spelled_by basic_char (sound Basic) bs n h in
    let sp : Spelled utf8_char (characters basic_char bs) bs = record { each = all_also (characters basic_char bs) b.0.each; whole = b.0.whole } in
    let e : characters utf8_char bs ≡ characters basic_char bs = characters_spelled utf8_char (sound All) (characters basic_char bs) bs sp in
    (subst (λ (cs : List (List ℕ)). Spelled utf8_char cs bs) (sym e) sp, ap length e ∙ b.1)

-- character k of a text, with what comes after it
pub record LiesAt (t : List Row) (cs : List (List ℕ)) (bs : List ℕ) (k : ℕ) : Type 0 where
  pub rest : List ℕ
  pub parts : drop (place_of cs k) bs ≡ get_or cs k [] ++ rest
  pub inside : place_of cs k + length (get_or cs k []) ≤ length bs
  pub character : is_character t (get_or cs k []) ≡ true
  pub next : place_of cs (suc k) ≡ place_of cs k + length (get_or cs k [])

drop_past : (c bs : List ℕ) (p : ℕ) → drop (length c + p) (c ++ bs) ≡ drop p bs
drop_past c bs p = sym (drop-drop p (length c) (c ++ bs)) ∙ ap (drop p) (drop_at c bs (length c) refl)

module _ (t : List Row) (ok : Sound t) where
  later_at : (c : List ℕ) (cs : List (List ℕ)) (k : ℕ) → LiesAt t cs (together cs) k → LiesAt t (c ∷ cs) (together (c ∷ cs)) (suc k)
  later_at c cs k h =
      let e : place_of (c ∷ cs) (suc k) ≡ length c + place_of cs k = length-append c (together (take k cs)) in
      let f : place_of (c ∷ cs) (suc (suc k)) ≡ length c + place_of cs (suc k) = length-append c (together (take (suc k) cs)) in
      let l : length (together (c ∷ cs)) ≡ length c + length (together cs) = length-append c (together cs) in
      record {
        rest = h.rest;
        parts = ap (λ (p : ℕ). drop p (c ++ together cs)) e ∙ drop_past c (together cs) (place_of cs k) ∙ h.parts;
        inside = omega (arith, e, l, h.inside);
        character = h.character;
        next = omega (arith, e, f, h.next);
      }

  first_at : (c : List ℕ) (cs : List (List ℕ)) → is_character t c ≡ true → LiesAt t (c ∷ cs) (together (c ∷ cs)) 0
  first_at c cs h =
      let l : length (together (c ∷ cs)) ≡ length c + length (together cs) = length-append c (together cs) in
      let f : place_of (c ∷ cs) 1 ≡ length c + 0 = length-append c [] in
      record { rest = together cs; parts = refl; inside = omega (arith, l); character = h; next = omega (arith, f) }

  lies_in : (cs : List (List ℕ)) (k : ℕ) → AllCharacters t cs → k < length cs → LiesAt t cs (together cs) k
  lies_in [] k h lt = absurd (omega arith)
  lies_in (c ∷ cs) zero h lt = first_at c cs h.0
  lies_in (c ∷ cs) (suc k) h lt = later_at c cs k (lies_in cs k h.1 (omega arith))

  pub lies_at : (cs : List (List ℕ)) (bs : List ℕ) (k : ℕ) → Spelled t cs bs → k < length cs → LiesAt t cs bs k
  lies_at cs bs k h lt = subst (λ (xs : List ℕ). LiesAt t cs xs k) h.whole (lies_in cs k h.each lt)

  pub front_at : (cs : List (List ℕ)) (bs : List ℕ) (k : ℕ) → LiesAt t cs bs k → front t (drop (place_of cs k) bs) ≡ Ok (length (get_or cs k []))
  front_at cs bs k h = ap (front t) h.parts ∙ front_reads t ok (get_or cs k []) h.rest h.character

  -- the length of character k, measured where it begins
  pub measured_at : (cs : List (List ℕ)) (bs : List ℕ) (k : ℕ) → LiesAt t cs bs k → character_at t bs (place_of cs k) ≡ Ok (length (get_or cs k []))
  unfolding character_at
  measured_at cs bs k h = ap (placed _) (front_at cs bs k h)

  pub bytes_at : (cs : List (List ℕ)) (bs : List ℕ) (k : ℕ) → LiesAt t cs bs k → take (length (get_or cs k [])) (drop (place_of cs k) bs) ≡ get_or cs k []
  bytes_at cs bs k h = ap (take (length (get_or cs k []))) h.parts ∙ take_at (get_or cs k []) h.rest (length (get_or cs k [])) refl

  not_empty : (c : List ℕ) → is_character t c ≡ true → 0 < length c
  not_empty c h = (front_is t ok (c ++ []) (length c) (front_reads t ok c [] h)).some

  at_least : (cs : List (List ℕ)) → AllCharacters t cs → length cs ≤ length (together cs)
  at_least [] h = omega arith
  at_least (c ∷ cs) h =
      let a = at_least cs h.1 in
      let b = not_empty c h.0 in
      let l = length-append c (together cs) in
      omega (arith, a, b, l)

  bounds : (cs : List (List ℕ)) (k : ℕ) → AllCharacters t cs → k ≤ length cs → (k ≤ place_of cs k) × (place_of cs k + (length cs - k) ≤ length (together cs))
  bounds cs zero h le = let a = at_least cs h in (omega arith, omega (arith, a))
  bounds [] (suc k) h le = absurd (omega arith)
  bounds (c ∷ cs) (suc k) h le =
      let a = bounds cs k h.1 (omega arith) in
      let b = not_empty c h.0 in
      let e = length-append c (together (take k cs)) in
      let l = length-append c (together cs) in
      let x = a.0 in
      let y = a.1 in
      (omega (arith, b, e, x), omega (arith, b, e, l, y))

  -- where a text has as many bytes as characters, each is one byte
  pub one_byte : (cs : List (List ℕ)) (bs : List ℕ) (k : ℕ) → Spelled t cs bs → length bs ≡ length cs → k < length cs → (place_of cs k ≡ k) × (length (get_or cs k []) ≡ 1)
  one_byte cs bs k h e lt =
      let w : length (together cs) ≡ length bs = ap length h.whole in
      let a = (bounds cs k h.each (omega arith)).0 in
      let b = (bounds cs (suc k) h.each lt).1 in
      let l = lies_at cs bs k h lt in
      let n = l.next in
      let p = not_empty (get_or cs k []) l.character in
      (omega (arith, w, a, b, n, p, e), omega (arith, w, a, b, n, p, e))

-- what `locate` gives is where the character begins
pub place_found : (t : List Row) (bs : List ℕ) (k : ℕ) (at : ℕ × ℕ) → Some at ≡ located t bs k → at.0 ≡ place_of (characters t bs) k
unfolding located
place_found t bs k at h =
    elim (cases_lt k (length (characters t bs))) [
      | inl lt ↦ (let e : Some at ≡ Some (place_of (characters t bs) k, length (get_or (characters t bs) k [])) = h ∙ cond-true _ _ _ (lt-ltb _ _ lt) in let f : at ≡ (place_of (characters t bs) k, length (get_or (characters t bs) k [])) = cc in ap (λ (x : ℕ × ℕ). x.0) f)
      | inr ge ↦ (let e : ◌≡◌ {A = Option (ℕ × ℕ)} (Some at) None = h ∙ cond-false _ _ _ (le-ltb _ _ ge) in cc)
    ]

pub place_missing : (t : List Row) (bs : List ℕ) (k : ℕ) → None ≡ located t bs k → k < length (characters t bs) → ⊥
unfolding located
place_missing t bs k h lt = let e : ◌≡◌ {A = Option (ℕ × ℕ)} None (Some _) = h ∙ cond-true _ _ _ (lt-ltb _ _ lt) in let z : ◌≡◌ {A = ℕ} 0 1 = cc in omega arith

-- the place that a search for character k gives
pub place_given : (t : List Row) (bs : List ℕ) (k : ℕ) (o : Option (ℕ × ℕ)) (r : ℕ) {Gives : ℕ × ℕ → Type 0} → o ≡ located t bs k → MatchOption o (r ≡ 0) Gives → ((at : ℕ × ℕ) → Gives at → r ≡ at.0) → k < length (characters t bs) → r ≡ place_of (characters t bs) k
place_given t bs k None r h m gives lt = absurd (place_missing t bs k h lt)
place_given t bs k (Some at) r h m gives lt = gives at m ∙ place_found t bs k at h
