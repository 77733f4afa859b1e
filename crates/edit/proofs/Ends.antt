-- The run that dies, in units; and one that is dead already.
use Rattle.std.proofs.Common.{◌≡◌, ℕ, ◌-◌, ◌<◌, Bool, true, false, cond, ◌&&◌, List, length, get_or, set, is_some, Some, None, Ok, Option, Result, unwrap_or, sym, refl, ap, ◌∙◌, arith}
use Rattle.std.proofs.lemmas.List.{set-get_or}
use Rattle.block.specs.Kinds.{is_counted}
use Rattle.block.specs.Units.{Worth}
use Rattle.block.specs.declared.fault.Fault.{Fault}
use Rattle.store.specs.declared.records.ListRecord.{ListRecord}
use Rattle.store.specs.declared.records.RunRecord.{RunRecord}
use Rattle.store.specs.Kinds.{kind_of}
use Rattle.store.specs.Records.{Store, run_at, no_run, no_list}
use Rattle.links.specs.Lengths.{weight}
use Rattle.document.specs.Meaning.{unit_of, meaning_of, offset}
use Rattle.document.specs.PassingFacts.{Passing}
use Rattle.document.specs.SoundFacts.{sound}
use Rattle.history.specs.Events.{Step, dead}
use Rattle.edit.specs.Edits.{Contents, with_all, replaced, killed, lowered, tombstoned}
use Rattle.edit.specs.Happenings.{list_of, from_of, death}
use Rattle.edit.proofs.Deaths.{dead_alike}
use Rattle.edit.proofs.Touches.{worth_still, turns}
use Rattle.edit.proofs.Uses.{used_of, fault_in, run_same}

pub some_value : (o : Option ℕ) → is_some o ≡ true → o ≡ Some (unwrap_or o 0)
some_value None h = cc
some_value (Some n) h = refl

pub death_step : (s : Store) → Passing s → (i : ℕ) → i < length s.runs → is_some (run_at s i).list ≡ true → Step (meaning_of s) (death s i) (meaning_of (tombstoned s i))
death_step s p i lt li =
    let r : RunRecord = run_at s i in
    let hs : List ListRecord = lowered s.lists r.list (weight r) in
    let k = sound s p in
    turns s k i lt (list_of s i) (from_of s i) (some_value r.list li) (some_value (offset s i) (k.links.reached i lt)) (killed r) hs (dead_alike s i lt p) dead
    (λ j. ap (λ (w : Worth). record { id = (unit_of s r j).id; kind = (unit_of s r j).kind; live = false; worth = w; redone = r.redone }) (worth_still s (tombstoned s i).runs hs (dead_alike s i lt p) (kind_of r.kind) (killed r) r j refl))

lowered_none : (hs : List ListRecord) (o : Option ℕ) → lowered hs o 0 ≡ hs
lowered_none hs None = refl
lowered_none hs (Some l) =
    let h : ListRecord = get_or hs l no_list in
    let e : h.len - 0 ≡ h.len = omega arith in
    ap (λ (n : ℕ). set hs l (record { start = h.start; holder = h.holder; len = n })) e ∙ set-get_or hs l no_list

-- a dead run stays as it is
dead_still : (s : Store) (i : ℕ) → (run_at s i).live ≡ false → tombstoned s i ≡ s
dead_still s i e =
    let r : RunRecord = run_at s i in
    let k : killed r ≡ r = ap (λ (b : Bool). record { id = r.id; len = r.len; kind = r.kind; live = b; list = r.list; left = r.left; right = r.right; redone = r.redone; entry = r.entry }) (sym e) in
    let w : weight r ≡ 0 = ap (λ (b : Bool). cond (b && is_counted (kind_of r.kind)) r.len 0) e in
    ap (λ (q : RunRecord). replaced s i q (lowered s.lists r.list (weight r))) k
    ∙ ap (λ (rs : List RunRecord). record { runs = rs; lists = lowered s.lists r.list (weight r); clients = s.clients; entries = s.entries; bytes = s.bytes }) (set-get_or s.runs i no_run)
    ∙ ap (λ (hs : List ListRecord). record { runs = s.runs; lists = hs; clients = s.clients; entries = s.entries; bytes = s.bytes }) (ap (lowered s.lists r.list) w ∙ lowered_none s.lists r.list)

same_ok : (i j : ℕ) (o : Result ℕ Fault) → Ok i ≡ o → o ≡ Ok j → i ≡ j
same_ok i j o e f = cc

pub again_still : (c : Contents) (h : fault_in c ≡ None) (i : ℕ) → i < length (used_of c).runs → (o : Result ℕ Fault) → Ok i ≡ o → (j : ℕ) → o ≡ Ok j → (run_at (used_of c) j).live ≡ false → with_all c (tombstoned c.all i) ≡ c
again_still c h i lt o e j f live =
    let q : i ≡ j = same_ok i j o e f in
    let d : (run_at c.all i).live ≡ false = ap (λ (r : RunRecord). r.live) (sym (run_same c h i lt)) ∙ ap (λ (k : ℕ). (run_at (used_of c) k).live) q ∙ live in
    ap (with_all c) (dead_still c.all i d)
