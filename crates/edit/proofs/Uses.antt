-- What an edit of tables does to their records in use.
use Rattle.std.proofs.Common.{◌≡◌, ℕ, zero, suc, ◌<◌, ◌≤◌, Bool, true, false, cond, ◌&&◌, leb, List, [], ◌∷◌, length, get_or, take, set, Some, None, Option, sym, refl, ap, ◌∙◌, arith, length-set}
use Rattle.std.proofs.lemmas.List.{length-take, get_or-take}
use Rattle.std.proofs.lemmas.Bool.{and_parts, leb-true, cond-true}
use Rattle.block.specs.declared.fault.Code.TheVariants.{OutOfRange}
use Rattle.block.specs.declared.fault.Fault.{Fault}
use Rattle.block.specs.declared.fault.Spot.TheVariants.{Nowhere}
use Rattle.store.specs.declared.records.ListRecord.{ListRecord}
use Rattle.store.specs.declared.records.RunRecord.{RunRecord}
use Rattle.store.specs.Limits.{count_fits}
use Rattle.store.specs.Records.{Store, run_at, list_at, no_run, no_list}
use Rattle.store.specs.Refusals.{fault_at}
use Rattle.links.specs.Lengths.{weight}
use Rattle.document.specs.Examined.{examined}
use Rattle.document.specs.PassingFacts.{Passing, passing_from, accepts_none}
use Rattle.edit.specs.Edits.{Contents, with_all, replaced, killed, shorter, lowered, tombstoned}
use Rattle.edit.proofs.Deaths.{long_enough, dead_examined}

-- the records in use, and whether the counts fit, by what tables hold
abbrev pub used_of : Contents → Store
used_of c = record { runs = take c.run_count c.all.runs; lists = take c.list_count c.all.lists; clients = take c.client_count c.all.clients; entries = take c.entry_count c.all.entries; bytes = take c.byte_count c.all.bytes }

abbrev pub counted_of : Contents → Bool
counted_of c = count_fits c.run_count (length c.all.runs) 4096 && (count_fits c.list_count (length c.all.lists) 256 && (count_fits c.client_count (length c.all.clients) 64 && (count_fits c.entry_count (length c.all.entries) 8192 && count_fits c.byte_count (length c.all.bytes) 65536)))

abbrev pub fault_in : Contents → Option Fault
fault_in c = cond (counted_of c) (examined (used_of c)) (Some (fault_at OutOfRange Nowhere))

pub none_parts : (b : Bool) (o : Option Fault) (f : Fault) → cond b o (Some f) ≡ None → (b ≡ true) × (o ≡ None)
none_parts true o f h = (refl, h)
none_parts false o f h = cc

take_set : {X : Type 0} (n : ℕ) (xs : List X) (i : ℕ) (v : X) → take n (set xs i v) ≡ set (take n xs) i v
take_set zero xs i v = refl
take_set (suc n) [] i v = refl
take_set (suc n) (x ∷ xs) zero v = refl
take_set (suc n) (x ∷ xs) (suc i) v = ap (λ ys. x ∷ ys) (take_set n xs i v)

below_take : {X : Type 0} (n : ℕ) (xs : List X) (i : ℕ) → i < length (take n xs) → (i < n) × (i < length xs)
below_take n xs i h = let e = length-take n xs in (omega (arith, e, h), omega (arith, e, h))

module _ (c : Contents) (h : fault_in c ≡ None) where
  pub counted : counted_of c ≡ true
  counted = (none_parts (counted_of c) (examined (used_of c)) _ h).0

  pub accepted : examined (used_of c) ≡ None
  accepted = (none_parts (counted_of c) (examined (used_of c)) _ h).1

  pub passes : Passing (used_of c)
  passes = passing_from (used_of c) (accepts_none (used_of c) accepted)

  pub used_replaced : (i : ℕ) (r : RunRecord) (hs : List ListRecord) → used_of (with_all c (replaced c.all i r hs)) ≡ replaced (used_of c) i r (take c.list_count hs)
  used_replaced i r hs = ap (λ (rs : List RunRecord). record { runs = rs; lists = take c.list_count hs; clients = (used_of c).clients; entries = (used_of c).entries; bytes = (used_of c).bytes }) (take_set c.run_count c.all.runs i r)

  pub counted_replaced : (i : ℕ) (r : RunRecord) (hs : List ListRecord) → length hs ≡ length c.all.lists → counted_of (with_all c (replaced c.all i r hs)) ≡ true
  counted_replaced i r hs e =
      let g : ℕ → ℕ → Bool = λ m n. count_fits c.run_count m 4096 && (count_fits c.list_count n 256 && (count_fits c.client_count (length c.all.clients) 64 && (count_fits c.entry_count (length c.all.entries) 8192 && count_fits c.byte_count (length c.all.bytes) 65536))) in
      ap (λ m. g m (length hs)) (length-set c.all.runs i r) ∙ ap (g (length c.all.runs)) e ∙ counted

  module _ (i : ℕ) (lt : i < length (used_of c).runs) where
    pub in_room : i < length c.all.runs
    in_room = (below_take c.run_count c.all.runs i lt).1

    pub run_same : run_at (used_of c) i ≡ run_at c.all i
    run_same = get_or-take c.run_count c.all.runs i no_run (below_take c.run_count c.all.runs i lt).0

    -- the stored length of the run's list is there to be lowered
    pub can_lower : (l : ℕ) → (run_at c.all i).list ≡ Some l → (l < length c.all.lists) × (weight (run_at c.all i) ≤ (get_or c.all.lists l no_list).len) × (l < 256)
    can_lower l e =
        let q = long_enough (used_of c) i lt passes l (ap (λ (r : RunRecord). r.list) run_same ∙ e) in
        let b = below_take c.list_count c.all.lists l q.0 in
        let w = q.1 in
        let f : (list_at (used_of c) l).len ≡ (get_or c.all.lists l no_list).len = ap (λ (x : ListRecord). x.len) (get_or-take c.list_count c.all.lists l no_list b.0) in
        let g : weight (run_at (used_of c) i) ≡ weight (run_at c.all i) = ap weight run_same in
        let below = b.0 in
        let counts = and_parts (count_fits c.run_count (length c.all.runs) 4096) _ counted in
        let lists = and_parts (count_fits c.list_count (length c.all.lists) 256) _ counts.1 in
        let few = leb-true _ _ (and_parts (leb c.list_count (length c.all.lists)) (leb c.list_count 256) lists.0).1 in
        (b.1, omega (arith, w, f, g), omega (arith, below, few))

    lowered_used : (o : Option ℕ) (w : ℕ) → ((l : ℕ) → o ≡ Some l → l < length (used_of c).lists) → take c.list_count (lowered c.all.lists o w) ≡ lowered (used_of c).lists o w
    lowered_used None w k = refl
    lowered_used (Some l) w k =
        let e : get_or (used_of c).lists l no_list ≡ get_or c.all.lists l no_list = get_or-take c.list_count c.all.lists l no_list (below_take c.list_count c.all.lists l (k l refl)).0 in
        take_set c.list_count c.all.lists l (shorter (get_or c.all.lists l no_list) w) ∙ ap (λ (x : ListRecord). set (used_of c).lists l (shorter x w)) (sym e)

    pub dead_used : used_of (with_all c (tombstoned c.all i)) ≡ tombstoned (used_of c) i
    dead_used =
        let r : RunRecord = run_at c.all i in
        let inside : (l : ℕ) → r.list ≡ Some l → l < length (used_of c).lists = λ l e. (long_enough (used_of c) i lt passes l (ap (λ (r : RunRecord). r.list) run_same ∙ e)).0 in
        used_replaced i (killed r) (lowered c.all.lists r.list (weight r))
        ∙ ap (replaced (used_of c) i (killed r)) (lowered_used r.list (weight r) inside)
        ∙ ap (λ (q : RunRecord). replaced (used_of c) i (killed q) (lowered (used_of c).lists q.list (weight q))) (sym run_same)

    tall : (o : Option ℕ) (w : ℕ) → length (lowered c.all.lists o w) ≡ length c.all.lists
    tall None w = refl
    tall (Some l) w = length-set c.all.lists l _

    pub dead_fault : fault_in (with_all c (tombstoned c.all i)) ≡ None
    dead_fault =
        cond-true _ _ _ (counted_replaced i (killed (run_at c.all i)) (lowered c.all.lists (run_at c.all i).list (weight (run_at c.all i))) (tall (run_at c.all i).list (weight (run_at c.all i))))
        ∙ ap examined dead_used
        ∙ dead_examined (used_of c) i lt passes
