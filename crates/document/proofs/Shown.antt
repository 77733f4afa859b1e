-- What the slot of a unit shows is the unit's value.
use Rattle.std.proofs.Common.{◌≡◌, ℕ, zero, suc, ◌+◌, ◌-◌, ◌<◌, ◌≤◌, Bool, true, false, cond, eqb, leb, List, [], length, get_or, take, drop, Some, None, Ok, Err, Option, Result, unwrap_or, sym, refl, ap, ◌∙◌, add-zero, arith, length-drop, length-take}
use Rattle.std.proofs.lemmas.List.{drop-drop, take-take, drop-take}
use Rattle.std.proofs.lemmas.Bool.{false≢true, and_parts, leb-true, le-leb, lt-ltb, eqb-true, cond-true, cond-false, not-true}
use Rattle.block.specs.Kinds.{is_counted}
use Rattle.block.specs.Units.{bytes}
use Rattle.block.specs.Values.{part_of}
use Rattle.block.specs.declared.kind.Kind.{Kind}
use Rattle.block.specs.declared.kind.Kind.TheVariants as kinds
use Rattle.store.specs.declared.records.RunRecord.{RunRecord}
use Rattle.store.specs.First.{first_bad, failing, passing}
use Rattle.store.specs.FirstFacts.{none_all, found_within}
use Rattle.store.specs.Kinds.{kind_of, is_single, entries_of}
use Rattle.store.specs.Records.{Store, run_at, entry_at, bytes_of}
use Rattle.links.specs.Links.{held_by_at, is_list}
use Rattle.content.specs.Content.{is_text, is_count, spells, entries_in}
use Rattle.utf8.specs.Reading.{characters}
use Rattle.utf8.specs.Table.{utf8_char}
use Rattle.utf8.specs.Texts.{Spelled}
use Rattle.utf8.specs.declared.planes.Planes.TheVariants.{All}
use Rattle.utf8.proofs.Tables.{sound}
use Rattle.document.specs.Meaning.{list_held, worth_of}
use Rattle.document.specs.PassingFacts.{Passing}
use Rattle.document.specs.Slots.{shown_in, entry_slot, place_of, slot_of}
use Rattle.document.specs.SoundFacts.{fits, agrees}
use Rattle.document.proofs.Texts.{spelled_text, lies_at, bytes_at}

-- a part of a part
sub_part : (xs : List ℕ) (start len p m : ℕ) → p + m ≤ len → take m (drop (start + p) xs) ≡ take m (drop p (take len (drop start xs)))
sub_part xs start len p m h =
    let e : p + (len - p) ≡ len = omega arith in
    ap (take m) (sym (drop-drop p start xs))
    ∙ sym (take-take m (len - p) (drop p (drop start xs)) (omega arith))
    ∙ ap (take m) (sym (drop-take p (len - p) (drop start xs)) ∙ ap (λ (n : ℕ). drop p (take n (drop start xs))) e)

-- where none passes, none is counted
none_pass : (p : ℕ → Bool) (n : ℕ) → ((k : ℕ) → k < n → failing p k ≡ true) → passing p n ≡ 0
unfolding passing
none_pass p zero h = refl
none_pass p (suc n) h = cond-false _ _ _ (not-true (p n) (h n (omega arith))) ∙ none_pass p n (λ k lt. h k (omega arith))

-- the number of a kind
chosen_list : (b0 b1 b2 b3 b4 b5 b6 b7 b8 b9 : Bool) → cond b0 kinds.Gc (cond b1 kinds.Deleted (cond b2 kinds.Json (cond b3 kinds.Binary (cond b4 kinds.Text (cond b5 kinds.Embed (cond b6 kinds.Format (cond b7 kinds.List (cond b8 kinds.Any (cond b9 kinds.Doc kinds.Skip))))))))) ≡ kinds.List → b7 ≡ true
chosen_list true b1 b2 b3 b4 b5 b6 b7 b8 b9 h = cc
chosen_list false true b2 b3 b4 b5 b6 b7 b8 b9 h = cc
chosen_list false false true b3 b4 b5 b6 b7 b8 b9 h = cc
chosen_list false false false true b4 b5 b6 b7 b8 b9 h = cc
chosen_list false false false false true b5 b6 b7 b8 b9 h = cc
chosen_list false false false false false true b6 b7 b8 b9 h = cc
chosen_list false false false false false false true b7 b8 b9 h = cc
chosen_list false false false false false false false true b8 b9 h = refl
chosen_list false false false false false false false false true b9 h = cc
chosen_list false false false false false false false false false true h = cc
chosen_list false false false false false false false false false false h = cc

chosen_text : (b0 b1 b2 b3 b4 b5 b6 b7 b8 b9 : Bool) → cond b0 kinds.Gc (cond b1 kinds.Deleted (cond b2 kinds.Json (cond b3 kinds.Binary (cond b4 kinds.Text (cond b5 kinds.Embed (cond b6 kinds.Format (cond b7 kinds.List (cond b8 kinds.Any (cond b9 kinds.Doc kinds.Skip))))))))) ≡ kinds.Text → b4 ≡ true
chosen_text true b1 b2 b3 b4 b5 b6 b7 b8 b9 h = cc
chosen_text false true b2 b3 b4 b5 b6 b7 b8 b9 h = cc
chosen_text false false true b3 b4 b5 b6 b7 b8 b9 h = cc
chosen_text false false false true b4 b5 b6 b7 b8 b9 h = cc
chosen_text false false false false true b5 b6 b7 b8 b9 h = refl
chosen_text false false false false false true b6 b7 b8 b9 h = cc
chosen_text false false false false false false true b7 b8 b9 h = cc
chosen_text false false false false false false false true b8 b9 h = cc
chosen_text false false false false false false false false true b9 h = cc
chosen_text false false false false false false false false false true h = cc
chosen_text false false false false false false false false false false h = cc

list_number : (k : ℕ) → kind_of k ≡ kinds.List → eqb k 7 ≡ true
list_number k e = chosen_list (eqb k 0) (eqb k 1) (eqb k 2) (eqb k 3) (eqb k 4) (eqb k 5) (eqb k 6) (eqb k 7) (eqb k 8) (eqb k 9) e

text_number : (k : ℕ) → kind_of k ≡ kinds.Text → eqb k 4 ≡ true
text_number k e = chosen_text (eqb k 0) (eqb k 1) (eqb k 2) (eqb k 3) (eqb k 4) (eqb k 5) (eqb k 6) (eqb k 7) (eqb k 8) (eqb k 9) e

is_count_true : (r : Result ℕ ℕ) (n : ℕ) → is_count r n ≡ true → r ≡ Ok n
is_count_true (Ok k) n h = ap Ok (eqb-true k n h)
is_count_true (Err p) n h = absurd (false≢true h)

some_passes : (p : ℕ → Bool) (n : ℕ) → passing p n ≡ 1 → (o : Option ℕ) → first_bad (failing p) n ≡ o → unwrap_or o 0 < n
some_passes p n one None h = let z = none_pass p n (none_all (failing p) n h) in absurd (omega arith)
some_passes p n one (Some i) h = found_within (failing p) n i h

module _ (d : Store) (ps : Passing d) where
  inside : (e : ℕ) → e < length d.entries → (entry_at d e).start + (entry_at d e).len ≤ length d.bytes
  inside e lt = leb-true _ _ (ps.entry_fits e lt)

  -- the slot of an entry shows its bytes
  shown_entry : (kind : Kind) (e : ℕ) → e < length d.entries → shown_in d (entry_slot d kind e) ≡ part_of kind (bytes_of d (entry_at d e))
  shown_entry kind e lt = cond-true _ _ _ (le-leb _ _ (inside e lt))

  module _ (p : ℕ) (lt : p < length d.runs) where
    abbrev r : RunRecord
    r = run_at d p

    enough : r.entry + entries_in r ≤ length d.entries
    enough = leb-true _ _ (and_parts (leb (r.entry + entries_in r) (length d.entries)) _ (ps.run_filled p lt)).0

    -- entries of a kind that has one a unit
    entry_of_unit : (kind : Kind) (j : ℕ) → kind_of r.kind ≡ kind → entries_of kind r.len ≡ r.len → j < r.len → r.entry + j < length d.entries
    entry_of_unit kind j e f h =
        let a = enough in
        let b : entries_in r ≡ r.len = ap (λ (k : Kind). entries_of k r.len) e ∙ f in
        omega (arith, a, b, h)

    alone : (kind : Kind) → kind_of r.kind ≡ kind → is_single kind ≡ true → r.len ≡ 1
    alone kind e f = eqb-true _ _ (sym (cond-true (is_single (kind_of r.kind)) (eqb r.len 1) true (ap is_single e ∙ f)) ∙ (fits d ps p lt).single)

    -- the entry of a kind that has one unit
    entry_alone : (kind : Kind) (j : ℕ) → kind_of r.kind ≡ kind → is_single kind ≡ true → entries_of kind r.len ≡ 1 → j < r.len → (j ≡ 0) × (r.entry + j < length d.entries)
    entry_alone kind j e s f h =
        let a = enough in
        let b : entries_in r ≡ 1 = ap (λ (k : Kind). entries_of k r.len) e ∙ f in
        let one = alone kind e s in
        (omega (arith, one, h), omega (arith, a, b, one, h))

    unit_shown : (kind : Kind) (j : ℕ) → kind_of r.kind ≡ kind → entries_of kind r.len ≡ r.len → j < r.len → shown_in d (entry_slot d kind (r.entry + j)) ≡ part_of kind (bytes_of d (entry_at d (r.entry + j)))
    unit_shown kind j e f h = shown_entry kind (r.entry + j) (entry_of_unit kind j e f h)

    alone_shown : (kind : Kind) (j : ℕ) → kind_of r.kind ≡ kind → is_single kind ≡ true → entries_of kind r.len ≡ 1 → j < r.len → shown_in d (entry_slot d kind (r.entry + j)) ≡ part_of kind (bytes_of d (entry_at d r.entry))
    alone_shown kind j e s f h =
        let a = entry_alone kind j e s f h in
        shown_entry kind (r.entry + j) a.1 ∙ ap (λ (n : ℕ). part_of kind (bytes_of d (entry_at d n))) (ap (λ (n : ℕ). r.entry + n) a.0 ∙ add-zero r.entry)

    holds_just_one : kind_of r.kind ≡ kinds.List → passing (held_by_at d r.id) (length d.lists) ≡ 1
    holds_just_one e = eqb-true _ _ (sym (cond-true (is_list r) (eqb (passing (held_by_at d r.id) (length d.lists)) 1) true (list_number r.kind e)) ∙ (agrees d ps p lt).holds)

    pub holds_some : kind_of r.kind ≡ kinds.List → first_bad (failing (held_by_at d r.id)) (length d.lists) ≡ None → ⊥
    holds_some e h =
        let a = none_pass (held_by_at d r.id) (length d.lists) (none_all (failing (held_by_at d r.id)) (length d.lists) h) in
        let b = holds_just_one e in
        omega (arith, a, b)

    pub held_below : kind_of r.kind ≡ kinds.List → list_held d r.id < length d.lists
    held_below e = some_passes (held_by_at d r.id) (length d.lists) (holds_just_one e) (first_bad (failing (held_by_at d r.id)) (length d.lists)) refl

    -- the text of a run
    pub record TextRun : Type 0 where
      pub spelled : Spelled utf8_char (characters utf8_char (bytes_of d (entry_at d r.entry))) (bytes_of d (entry_at d r.entry))
      pub many : length (characters utf8_char (bytes_of d (entry_at d r.entry))) ≡ r.len
      pub long : length (bytes_of d (entry_at d r.entry)) ≡ (entry_at d r.entry).len
      pub within : (entry_at d r.entry).start + (entry_at d r.entry).len ≤ length d.bytes

    pub text_run : kind_of r.kind ≡ kinds.Text → TextRun
    text_run e =
        let a = enough in
        let b : entries_in r ≡ 1 = ap (λ (k : Kind). entries_of k r.len) e in
        let i = inside r.entry (omega (arith, a, b)) in
        let f = and_parts (leb (r.entry + entries_in r) (length d.entries)) (cond (is_text r) (spells d r) true) (ps.run_filled p lt) in
        let g : spells d r ≡ true = sym (cond-true (is_text r) (spells d r) true (text_number r.kind e)) ∙ f.1 in
        let s = spelled_text (bytes_of d (entry_at d r.entry)) r.len (is_count_true _ _ g) in
        record { spelled = s.0; many = s.1; long = simp (length-take, length-drop) (omega (arith, i)); within = i }

    text_shown : (j : ℕ) → kind_of r.kind ≡ kinds.Text → j < r.len → shown_in d (slot_of d kinds.Text r j) ≡ Some (kinds.Text, worth_of d kinds.Text r j)
    text_shown j e h =
        let t = text_run e in
        let bs : List ℕ = bytes_of d (entry_at d r.entry) in
        let cs : List (List ℕ) = characters utf8_char bs in
        let m = t.many in
        let l = lies_at utf8_char (sound All) cs bs j t.spelled (omega (arith, m, h)) in
        let a = l.inside in
        let b = t.long in
        let w = t.within in
        let fits_in : ((entry_at d r.entry).start + place_of cs j) + length (get_or cs j []) ≤ length d.bytes = omega (arith, a, b, w) in
        cond-true _ _ _ (le-leb _ _ fits_in)
        ∙ ap (λ (xs : List ℕ). Some (kinds.Text, bytes xs)) (sub_part d.bytes (entry_at d r.entry).start (entry_at d r.entry).len (place_of cs j) (length (get_or cs j [])) (omega (arith, a, b)) ∙ bytes_at utf8_char (sound All) cs bs j l)

    -- the slot of a unit of a counted kind shows its value
    pub shown_unit : (kind : Kind) (j : ℕ) → kind_of r.kind ≡ kind → is_counted kind ≡ true → j < r.len → shown_in d (slot_of d kind r j) ≡ Some (kind, worth_of d kind r j)
    shown_unit kinds.Gc j e t h = absurd (false≢true t)
    shown_unit kinds.Deleted j e t h = absurd (false≢true t)
    shown_unit kinds.Json j e t h = unit_shown kinds.Json j e refl h
    shown_unit kinds.Binary j e t h = alone_shown kinds.Binary j e refl refl h
    shown_unit kinds.Text j e t h = text_shown j e h
    shown_unit kinds.Embed j e t h = alone_shown kinds.Embed j e refl refl h
    shown_unit kinds.Format j e t h = absurd (false≢true t)
    shown_unit kinds.List j e t h = cond-true _ _ _ (lt-ltb _ _ (held_below e))
    shown_unit kinds.Any j e t h = unit_shown kinds.Any j e refl h
    shown_unit kinds.Doc j e t h = alone_shown kinds.Doc j e refl refl h
    shown_unit kinds.Skip j e t h = absurd (false≢true t)
