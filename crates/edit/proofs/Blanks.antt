-- A new document passes examination, and has no units.
use Rattle.std.proofs.Common.{◌≡◌, ℕ, zero, suc, ◌<◌, ◌≤◌, true, cond, ◌&&◌, ltb, leb, List, [], length, get_or, drop, replicate, None, sym, refl, ap, ◌∙◌, subst, arith, length-append, length-drop}
use Rattle.std.proofs.lemmas.List.{take_at, length-replicate}
use Rattle.std.proofs.lemmas.Bool.{and_parts, and_from, le-leb, leb-true, ltb-true, cond-true}
use Rattle.store.specs.declared.records.ListRecord.{ListRecord}
use Rattle.store.specs.Limits.{count_fits}
use Rattle.store.specs.Ranges.{list_fits}
use Rattle.store.specs.Records.{Store, no_list}
use Rattle.links.specs.Lengths.{visible_sum}
use Rattle.document.specs.Examined.{examined}
use Rattle.document.specs.Meaning.{spell, clock_in, meaning_of}
use Rattle.document.specs.PassingFacts.{Passing}
use Rattle.edit.specs.Creation.{root_fault, rooted, created, Blank}
use Rattle.edit.specs.Edits.{Contents}
use Rattle.edit.proofs.Uses.{none_parts, used_of, counted_of, fault_in}
use Rattle.edit.proofs.Verdicts.{no_fault}

pub rooted_length : (hs : List ListRecord) (n : ℕ) → n ≤ length hs → length (rooted hs n) ≡ length hs
rooted_length hs n le = let a = length-append (replicate n no_list) (drop n hs) in let b = length-replicate n no_list in let c = length-drop n hs in omega (arith, a, b, c)

abbrev blank : ℕ → Store
blank n = record { runs = []; lists = replicate n no_list; clients = []; entries = []; bytes = [] }

each_root : (n l : ℕ) → get_or (replicate n no_list) l no_list ≡ no_list
each_root zero l = refl
each_root (suc n) zero = refl
each_root (suc n) (suc l) = each_root n l

none_below : {X : Type 0} {i : ℕ} → i < 0 → X
none_below h = absurd (omega arith)

blank_passing : (n : ℕ) → n ≤ 256 → Passing (blank n)
unfolding visible_sum
blank_passing n le =
    record {
      counts = let e = length-replicate n no_list in rw (le-leb (length (replicate n no_list)) 256 (omega (arith, e, le))) refl;
      run_fits = λ i lt. none_below lt;
      list_fits = λ l lt. ap (list_fits (blank n)) (each_root n l);
      client_fits = λ i lt. none_below lt;
      entry_fits = λ i lt. none_below lt;
      run_follows = λ i lt. none_below lt;
      run_agrees = λ i lt. none_below lt;
      list_agrees = λ l lt. rw (each_root n l) refl;
      client_agrees = λ i lt. none_below lt;
      run_filled = λ i lt. none_below lt;
      entry_serves = λ i lt. none_below lt;
      byte_serves = λ i lt. none_below lt;
    }

blank_is : (n : ℕ) → Blank n (meaning_of (blank n))
unfolding spell clock_in
blank_is n =
    record {
      lists = length-replicate n no_list;
      units = λ l. ap (λ (h : ListRecord). spell (blank n) h.start 1) (each_root n l);
      holder = λ l. ap (λ (h : ListRecord). h.holder) (each_root n l);
      known = λ c. refl;
    }

pub record Room (room n : ℕ) : Type 0 where
  pub some : 0 < n
  pub few : n ≤ 256
  pub fits : n ≤ room

pub has_room : (room n : ℕ) → root_fault room n ≡ None → Room room n
has_room room n h =
    let a = none_parts (ltb 0 n && leb n 256) (cond (leb n room) None _) _ h in
    let b = and_parts (ltb 0 n) (leb n 256) a.0 in
    record { some = ltb-true _ _ b.0; few = leb-true _ _ b.1; fits = leb-true _ _ (none_parts (leb n room) None _ a.1).0 }

in_count : (k room limit : ℕ) → k ≤ room → k ≤ limit → count_fits k room limit ≡ true
in_count k room limit a b = and_from (leb k room) (leb k limit) (le-leb k room a) (le-leb k limit b)

module _ (c : Contents) (n : ℕ) (few : n ≤ 256) (fits : n ≤ length c.all.lists) where
  created_used : used_of (created c n None) ≡ blank n
  created_used = ap (λ (hs : List ListRecord). record { runs = []; lists = hs; clients = []; entries = []; bytes = [] }) (take_at (replicate n no_list) (drop n c.all.lists) n (length-replicate n no_list))

  created_counted : counted_of (created c n None) ≡ true
  created_counted =
      let e = rooted_length c.all.lists n fits in
      and_from _ _ (in_count 0 (length c.all.runs) 4096 (omega arith) (omega arith))
      (and_from _ _ (in_count n (length (rooted c.all.lists n)) 256 (omega (arith, e, fits)) few)
      (and_from _ _ (in_count 0 (length c.all.clients) 64 (omega arith) (omega arith))
      (and_from _ _ (in_count 0 (length c.all.entries) 8192 (omega arith) (omega arith)) (in_count 0 (length c.all.bytes) 65536 (omega arith) (omega arith)))))

  pub created_fault : fault_in (created c n None) ≡ None
  created_fault = cond-true _ _ _ created_counted ∙ ap examined created_used ∙ no_fault (blank n) (blank_passing n few)

  pub created_blank : Blank n (meaning_of (used_of (created c n None)))
  created_blank = subst (λ (s : Store). Blank n (meaning_of s)) (sym created_used) (blank_is n)
