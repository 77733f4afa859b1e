-- One step of the walk along a text's characters.
use Rattle.std.proofs.Common.{◌≡◌, ℕ, suc, ◌+◌, ◌<◌, ◌≤◌, List, [], length, get_or, set, Ok, sym, ap, ◌∙◌, add-zero, arith}
use Rattle.block.specs.declared.kind.Kind.TheVariants as kinds
use Rattle.block.specs.declared.slot.Slot.{Slot}
use Rattle.block.specs.declared.slot.Slot.TheVariants.{Content}
use Rattle.utf8.specs.Reading.{character_at, characters}
use Rattle.utf8.specs.Table.{utf8_char}
use Rattle.utf8.specs.Texts.{Spelled}
use Rattle.utf8.specs.declared.planes.Planes.TheVariants.{All}
use Rattle.utf8.proofs.Tables.{sound}
use Rattle.document.specs.Slots.{place_of, text_slot, Written}
use Rattle.document.proofs.Fills.{none_written, one_written}
use Rattle.document.proofs.Texts.{lies_at, measured_at}

abbrev pub Walked : List ℕ → ℕ → ℕ → ℕ → ℕ → ℕ → List Slot → List Slot → Type 0
Walked bs start from n k at xs ys = Written (λ i v. v ≡ text_slot start (characters utf8_char bs) (from + i)) k xs ys × (k < n → at ≡ place_of (characters utf8_char bs) (from + k))

-- the character that the walk has come to
pub record Here (bs : List ℕ) (from k at len : ℕ) : Type 0 where
  pub place : at ≡ place_of (characters utf8_char bs) (from + k)
  pub long : len ≡ length (get_or (characters utf8_char bs) (from + k) [])
  pub inside : at + len ≤ length bs
  pub next : at + len ≡ place_of (characters utf8_char bs) (suc (from + k))

module _ (bs : List ℕ) (start from n : ℕ) (text : Spelled utf8_char (characters utf8_char bs) bs) (enough : from + n ≤ length (characters utf8_char bs)) where
  pub begun : (at : ℕ) (xs : List Slot) → (from < length (characters utf8_char bs) → at ≡ place_of (characters utf8_char bs) from) → Walked bs start from n 0 at xs xs
  begun at xs h = (none_written _ xs, (λ lt. h (omega (arith, enough)) ∙ ap (place_of (characters utf8_char bs)) (sym (add-zero from))))

  pub here : (k at len : ℕ) → k < n → (k < n → at ≡ place_of (characters utf8_char bs) (from + k)) → ((m : ℕ) → character_at utf8_char bs at ≡ Ok m → len ≡ m) → Here bs from k at len
  here k at len lt p m =
      let l = lies_at utf8_char (sound All) (characters utf8_char bs) bs (from + k) text (omega (arith, enough)) in
      let e = p lt in
      let q = m (length (get_or (characters utf8_char bs) (from + k) [])) (ap (character_at utf8_char bs) e ∙ measured_at utf8_char (sound All) (characters utf8_char bs) bs (from + k) l) in
      let i = l.inside in
      let j = l.next in
      record { place = e; long = q; inside = omega (arith, e, q, i); next = omega (arith, e, q, j) }

  pub stepped : (k at len : ℕ) (xs ys : List Slot) → k < length ys → Walked bs start from n k at xs ys → Here bs from k at len → Walked bs start from n (k + 1) (at + len) xs (set ys k (Content kinds.Text (start + at) len))
  stepped k at len xs ys lt w h =
      let e : Content kinds.Text (start + at) len ≡ text_slot start (characters utf8_char bs) (from + k) = ap (λ (p : ℕ). Content kinds.Text (start + p) len) h.place ∙ ap (λ (q : ℕ). Content kinds.Text (start + place_of (characters utf8_char bs) (from + k)) q) h.long in
      let f : suc (from + k) ≡ from + (k + 1) = omega arith in
      (one_written _ k xs ys _ w.0 lt e, (λ _. h.next ∙ ap (place_of (characters utf8_char bs)) f))
