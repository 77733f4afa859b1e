-- A run of text, with its record, its entry and its bytes as they were read.
use Rattle.std.proofs.Common.{◌≡◌, ℕ, ◌+◌, ◌^◌, ◌<◌, ◌≤◌, List, length, sym, ap, ◌∙◌, subst, arith}
use Rattle.block.specs.declared.kind.Kind.TheVariants as kinds
use Rattle.block.specs.declared.slot.Slot.{Slot}
use Rattle.block.specs.declared.slot.Slot.TheVariants.{Content}
use Rattle.store.specs.declared.records.EntryRecord.{EntryRecord}
use Rattle.store.specs.declared.records.RunRecord.{RunRecord}
use Rattle.store.specs.Kinds.{kind_of}
use Rattle.store.specs.Records.{Store, run_at, entry_at, bytes_of}
use Rattle.utf8.specs.Reading.{characters}
use Rattle.utf8.specs.Table.{utf8_char}
use Rattle.utf8.specs.Texts.{Spelled}
use Rattle.utf8.specs.declared.planes.Planes.TheVariants.{All}
use Rattle.utf8.proofs.Tables.{sound}
use Rattle.document.specs.PassingFacts.{Passing}
use Rattle.document.specs.Slots.{place_of, byte_slot, slot_of, Filled}
use Rattle.document.proofs.Few.{few}
use Rattle.document.proofs.Fills.{filled_as}
use Rattle.document.proofs.Shown.{TextRun, text_run}
use Rattle.document.proofs.Texts.{one_byte}

module _ (d : Store) (ps : Passing d) (p : ℕ) (lt : p < length d.runs) (text : kind_of (run_at d p).kind ≡ kinds.Text) (off n : ℕ) (le : off + n ≤ (run_at d p).len) (r : RunRecord) (e : EntryRecord) (er : r ≡ run_at d p) (ee : e ≡ entry_at d r.entry) where
  abbrev t : TextRun d ps p lt
  t = text_run d ps p lt text

  is_entry : e ≡ entry_at d (run_at d p).entry
  is_entry = ee ∙ ap (λ (r : RunRecord). entry_at d r.entry) er

  start_is : e.start ≡ (entry_at d (run_at d p).entry).start
  start_is = ap (λ (e : EntryRecord). e.start) is_entry

  len_is : e.len ≡ (entry_at d (run_at d p).entry).len
  len_is = ap (λ (e : EntryRecord). e.len) is_entry

  pub in_bytes : e.start + e.len ≤ 65536
  in_bytes = let a = start_is in let b = len_is in let w = t.within in let f = (few d ps.counts).bytes in omega (arith, a, b, w, f)

  pub in_run : e.len ≡ r.len → off + n ≤ e.len
  in_run same = let q = ap (λ (r : RunRecord). r.len) er in omega (arith, same, q, le)

  -- as many bytes as units: each unit is one byte
  pub by_bytes : (xs ys : List Slot) → length xs ≡ n → e.len ≡ r.len → Filled (byte_slot (e.start + off)) xs ys → Filled (λ k. slot_of d kinds.Text (run_at d p) (off + k)) xs ys
  by_bytes xs ys many same h =
      filled_as _ _ xs ys h
      (λ k lk.
      let cs : List (List ℕ) = characters utf8_char (bytes_of d (entry_at d (run_at d p).entry)) in
      let q = ap (λ (r : RunRecord). r.len) er in
      let b = len_is in
      let m = t.many in
      let l = t.long in
      let o = one_byte utf8_char (sound All) cs (bytes_of d (entry_at d (run_at d p).entry)) (off + k) t.spelled (omega (arith, q, b, m, l, same)) (omega (arith, m, le, lk, many)) in
      let x = o.0 in
      let s = start_is in
      let at : (e.start + off) + k ≡ (entry_at d (run_at d p).entry).start + place_of cs (off + k) = omega (arith, x, s) in
      ap (λ (i : ℕ). Content kinds.Text i 1) at ∙ ap (λ (i : ℕ). Content kinds.Text ((entry_at d (run_at d p).entry).start + place_of cs (off + k)) i) (sym o.1))

  module _ (bs : List ℕ) (eb : bs ≡ bytes_of d e) where
    is_bytes : bs ≡ bytes_of d (entry_at d (run_at d p).entry)
    is_bytes = eb ∙ ap (bytes_of d) is_entry

    pub is_spelled : Spelled utf8_char (characters utf8_char bs) bs
    is_spelled = subst (λ (xs : List ℕ). Spelled utf8_char (characters utf8_char xs) xs) (sym is_bytes) t.spelled

    pub is_enough : off + n ≤ length (characters utf8_char bs)
    is_enough = let a = ap (λ (xs : List ℕ). length (characters utf8_char xs)) is_bytes in let m = t.many in omega (arith, a, m, le)

    pub is_small : e.start + length bs < 2 ^ 32
    is_small = let a = ap length is_bytes in let l = t.long in let b = len_is in let c = in_bytes in omega (arith, a, l, b, c)
