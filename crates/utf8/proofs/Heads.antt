-- `front` answers with the character that the bytes begin with, or with the first byte that is wrong.
use Rattle.std.proofs.Common.{◌≡◌, ℕ, suc, ◌+◌, ◌<◌, ◌≤◌, true, List, [], ◌∷◌, ◌++◌, length, take, Some, None, Ok, Err, Option, sym, refl, ap, ◌∙◌, subst, append-nil, arith}
use Rattle.std.proofs.lemmas.Bool.{false≢true}
use Rattle.utf8.specs.Table.{Row, is_character}
use Rattle.utf8.specs.Rows.{rest_of}
use Rattle.utf8.specs.Reading.{follow_row, front}
use Rattle.utf8.specs.Texts.{Headed, Refused}
use Rattle.utf8.proofs.Tables.{Sound, fits_rest}
use Rattle.utf8.proofs.Follows.{follow_fits, followed, broken}

row_fits : (o : Option Row) (c rest : List ℕ) → fits_rest o c ≡ true → follow_row o (c ++ rest) ≡ Ok (suc (length c))
row_fits None c rest h = absurd (false≢true h)
row_fits (Some row) c rest h = let e : 1 + length c ≡ suc (length c) = omega arith in follow_fits row c rest 1 h ∙ ap Ok e

pub record Front (t : List Row) (bs : List ℕ) (n : ℕ) : Type 0 where
  pub character : is_character t (take n bs) ≡ true
  pub inside : n ≤ length bs
  pub some : 0 < n

pub record Stopped (t : List Row) (bs : List ℕ) (q : ℕ) : Type 0 where
  pub inside : q ≤ length bs
  pub more : List ℕ
  pub goes : is_character t (take q bs ++ more) ≡ true
  pub stays : (ys : List ℕ) → q < length bs → front t (take (suc q) bs ++ ys) ≡ Err q

module _ (t : List Row) (s : Sound t) where
  -- a character is read, whatever comes after it
  pub front_reads : (c rest : List ℕ) → is_character t c ≡ true → front t (c ++ rest) ≡ Ok (length c)
  unfolding front
  front_reads [] rest h = absurd (false≢true (sym s.none ∙ h))
  front_reads (b ∷ c) rest h = row_fits (rest_of t b) c rest (sym (s.first b c) ∙ h)

  row_front : (b : ℕ) (bs : List ℕ) (n : ℕ) (o : Option Row) → rest_of t b ≡ o → follow_row o bs ≡ Ok n → Front t (b ∷ bs) n
  row_front b bs n None e h = let z : ◌≡◌ {A = ℕ} 0 1 = cc in absurd (omega arith)
  row_front b bs n (Some row) e h =
      let f = followed row 1 bs n h in
      let long : n ≡ suc (length row) = omega (arith, f.is) in
      record {
        character = subst (λ k. is_character t (take k (b ∷ bs)) ≡ true) (sym long)
            (s.first b (take (length row) bs) ∙ ap (λ o. fits_rest o (take (length row) bs)) e ∙ f.fit);
        inside = omega (arith, f.inside);
        some = omega arith;
      }

  pub front_is : (bs : List ℕ) (n : ℕ) → front t bs ≡ Ok n → Front t bs n
  unfolding front
  front_is [] n h = let z : ◌≡◌ {A = ℕ} 0 1 = cc in absurd (omega arith)
  front_is (b ∷ bs) n h = row_front b bs n (rest_of t b) refl h

  row_stopped : (b : ℕ) (bs : List ℕ) (q : ℕ) (o : Option Row) → rest_of t b ≡ o → follow_row o bs ≡ Err q → Stopped t (b ∷ bs) q
  unfolding front
  row_stopped b bs q None e h =
      let none : 0 ≡ q = cc in
      subst (Stopped t (b ∷ bs)) none (record {
        inside = omega arith;
        more = 0 ∷ [];
        goes = s.some;
        stays = λ ys _. ap (λ o. follow_row o ys) e;
      })
  row_stopped b bs q (Some row) e h =
      let f = broken row 1 bs q (s.filled b row e) h in
      let long : suc f.good ≡ q = omega (arith, f.is) in
      subst (Stopped t (b ∷ bs)) long (record {
        inside = omega (arith, f.inside);
        more = f.more;
        goes = s.first b (take f.good bs ++ f.more) ∙ ap (λ o. fits_rest o (take f.good bs ++ f.more)) e ∙ f.goes;
        stays = λ ys k. ap (λ o. follow_row o (take (suc f.good) bs ++ ys)) e ∙ f.stays ys (omega arith) ∙ ap Err (sym long);
      })

  pub front_stops : (bs : List ℕ) (q : ℕ) → front t bs ≡ Err q → Stopped t bs q
  unfolding front
  front_stops [] q h =
      let none : 0 ≡ q = cc in
      subst (Stopped t []) none (record { inside = omega arith; more = 0 ∷ []; goes = s.some; stays = λ ys k. absurd (omega arith) })
  front_stops (b ∷ bs) q h = row_stopped b bs q (rest_of t b) refl h

  no_head : (bs : List ℕ) (q : ℕ) → front t bs ≡ Err q → Headed t bs → ⊥
  no_head bs q h d =
      let reads = sym (ap (front t) d.whole) ∙ front_reads d.first d.others d.sound in
      let z : ◌≡◌ {A = ℕ} 0 1 = cc in
      omega arith

  pub front_refused : (bs : List ℕ) (q : ℕ) → front t bs ≡ Err q → Refused (Headed t) bs q
  front_refused bs q h =
      let f = front_stops bs q h in
      record {
        inside = f.inside;
        open_ended = (f.more, record { first = take q bs ++ f.more; others = []; sound = f.goes; whole = append-nil _ });
        wrong = λ k ys. no_head (take (suc q) bs ++ ys) q (f.stays ys k);
        unfinished = λ _. no_head bs q h;
      }
