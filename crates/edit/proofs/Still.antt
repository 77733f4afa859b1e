-- A change of life or successor, with the stored lengths that go with it, keeps every check.
use Rattle.std.proofs.Common.{◌≡◌, ℕ, zero, suc, ◌^◌, ◌<◌, Bool, true, false, cond, not, ◌&&◌, ◌||◌, eqb, ltb, leb, List, length, get_or, is_some, Some, None, Option, sym, refl, ap, ◌∙◌, subst}
use mathlib.Core.Path.{fun_ext}
use Rattle.std.proofs.lemmas.Bool.{and_parts, and_from, lt-ltb, eq-eqb}
use Rattle.block.specs.declared.ids.Id.{Id}
use Rattle.store.specs.declared.records.ListRecord.{ListRecord}
use Rattle.store.specs.declared.records.RunRecord.{RunRecord}
use Rattle.store.specs.Clocks.{is_clear, comes_after, run_follows_at}
use Rattle.store.specs.First.{all_pass, some_pass, passing}
use Rattle.store.specs.Limits.{counts_fit}
use Rattle.store.specs.Ranges.{in_use, id_fits, numbers_fit, entry_fits, is_placed, length_fits, run_fits_at, list_fits_at}
use Rattle.store.specs.Records.{Store, run_at, list_at, client_at, no_run, no_list}
use Rattle.links.specs.Lengths.{later, last_end, visible_sum}
use Rattle.links.specs.Links.{is_list, is_id, holds_one, is_recorded, run_agrees_at, is_holder, holder_agrees, list_agrees_at, client_agrees_at}
use Rattle.links.specs.Walks.{is, same, left_agrees, right_agrees, meets, is_reached, start_agrees}
use Rattle.content.specs.Content.{run_filled, has_entry}
use Rattle.document.specs.PassingFacts.{Passing}
use Rattle.document.specs.SoundFacts.{agrees_parts, fits_parts, list_parts}

-- a run without life and successor
abbrev pub still : RunRecord → RunRecord
still r = record { id = r.id; len = r.len; kind = r.kind; live = false; list = r.list; left = r.left; right = r.right; redone = None; entry = r.entry }

-- a list without its stored length
abbrev pub bare : ListRecord → ListRecord
bare h = record { start = h.start; holder = h.holder; len = 0 }

abbrev pub altered : Store → List RunRecord → List ListRecord → Store
altered s rs hs = record { runs = rs; lists = hs; clients = s.clients; entries = s.entries; bytes = s.bytes }

-- runs and lists that differ from a store's in life, successors and stored lengths alone
pub record Alike (s : Store) (rs : List RunRecord) (hs : List ListRecord) : Type 0 where
  pub long : length rs ≡ length s.runs
  pub tall : length hs ≡ length s.lists
  pub run : (k : ℕ) → still (get_or rs k no_run) ≡ still (run_at s k)
  pub list : (l : ℕ) → bare (get_or hs l no_list) ≡ bare (list_at s l)

-- all that the other checks look at
pub record Shape : Type 0 where
  pub runs : ℕ
  pub run : ℕ → RunRecord
  pub lists : ℕ
  pub list : ℕ → ListRecord

abbrev pub shape : Store → Shape
shape s = record { runs = length s.runs; run = λ k. still (run_at s k); lists = length s.lists; list = λ l. bare (list_at s l) }

module _ (s : Store) (rs : List RunRecord) (hs : List ListRecord) (a : Alike s rs hs) where
  abbrev d : Store
  d = altered s rs hs

  pub same_shape : shape d ≡ shape s
  same_shape =
      ap (λ (n : ℕ). record { runs = n; run = (shape d).run; lists = (shape d).lists; list = (shape d).list }) a.long
      ∙ ap (λ (f : ℕ → RunRecord). record { runs = (shape s).runs; run = f; lists = (shape d).lists; list = (shape d).list }) (fun_ext a.run)
      ∙ ap (λ (n : ℕ). record { runs = (shape s).runs; run = (shape s).run; lists = n; list = (shape d).list }) a.tall
      ∙ ap (λ (f : ℕ → ListRecord). record { runs = (shape s).runs; run = (shape s).run; lists = (shape s).lists; list = f }) (fun_ext a.list)

  pub of : {X : Type 0} (f : Shape → X) → f (shape d) ≡ f (shape s)
  of f = ap f same_shape

  lo : (i : ℕ) → i < length rs → i < length s.runs
  lo i lt = subst (λ n. i < n) a.long lt

  low : (l : ℕ) → l < length hs → l < length s.lists
  low l lt = subst (λ n. l < n) a.tall lt

  counts_still : counts_fit d ≡ counts_fit s
  counts_still = of (λ h. leb h.runs 4096 && (leb h.lists 256 && (leb (length s.clients) 64 && (leb (length s.entries) 8192 && leb (length s.bytes) 65536))))

  -- the ranges of a run, but for its successor
  ranged : Shape → ℕ → Bool → Bool
  ranged h i b = numbers_fit (h.run i) && ((in_use (h.run i).left h.runs && (in_use (h.run i).right h.runs && (in_use (h.run i).list h.lists && b))) && (entry_fits s (h.run i) && (is_placed (h.run i) && length_fits (h.run i))))

  fits_still : (i : ℕ) → id_fits (run_at d i).redone ≡ true → run_fits_at s i ≡ true → run_fits_at d i ≡ true
  unfolding ranged
  fits_still i e h =
      let f = fits_parts s (run_at s i) h in
      of (λ g. ranged g i (id_fits (run_at d i).redone)) ∙ ap (ranged (shape s) i) (e ∙ sym f.redone) ∙ h

  -- the ranges of a list, but for its length
  list_ranged : Shape → ℕ → Bool → Bool
  list_ranged h l b = in_use (h.list l).start h.runs && (id_fits (h.list l).holder && b)

  list_fits_still : (l : ℕ) → ltb (list_at d l).len (2 ^ 32) ≡ true → list_fits_at s l ≡ true → list_fits_at d l ≡ true
  unfolding list_ranged
  list_fits_still l e h =
      let p = and_parts (in_use (list_at s l).start (length s.runs)) _ h in
      let q = and_parts (id_fits (list_at s l).holder) (ltb (list_at s l).len (2 ^ 32)) p.1 in
      of (λ g. list_ranged g l (ltb (list_at d l).len (2 ^ 32))) ∙ ap (list_ranged (shape s) l) (e ∙ sym q.1) ∙ h

  follows_still : (i : ℕ) → run_follows_at d i ≡ run_follows_at s i
  follows_still i = of (λ h. all_pass (λ j. eqb i j || is_clear (h.run i) (h.run j)) h.runs && (eqb (h.run i).id.clock 0 || some_pass (λ j. comes_after (h.run i) (h.run j)) h.runs))

  left_still : (i : ℕ) (o : Option ℕ) → left_agrees d i o ≡ left_agrees s i o
  left_still i None = refl
  left_still i (Some j) = of (λ h. is (h.run j).right i && same (h.run j).list (h.run i).list)

  right_still : (i : ℕ) (o : Option ℕ) → right_agrees d i o ≡ right_agrees s i o
  right_still i None = refl
  right_still i (Some j) = of (λ h. is (h.run j).left i && same (h.run j).list (h.run i).list)

  meets_still : (i : ℕ) (o : Option ℕ) (n : ℕ) → meets d i o n ≡ meets s i o n
  unfolding meets
  meets_still i None n = refl
  meets_still i (Some j) zero = refl
  meets_still i (Some j) (suc n) = ap (λ b. eqb j i || b) (meets_still i (run_at d j).right n ∙ of (λ h. meets s i (h.run j).right n))

  reached_still : (i : ℕ) (o : Option ℕ) → is_reached d i o ≡ is_reached s i o
  reached_still i None = refl
  reached_still i (Some l) = meets_still i (list_at d l).start (length rs) ∙ of (λ h. meets s i (h.list l).start h.runs)

  agrees_still : (i : ℕ) → run_agrees_at s i ≡ true → run_agrees_at d i ≡ true
  agrees_still i h =
      let p = agrees_parts s i h in
      let r : RunRecord = run_at d i in
      and_from (left_agrees d i r.left) _ (left_still i r.left ∙ of (λ h. left_agrees s i (h.run i).left) ∙ p.left)
      (and_from (right_agrees d i r.right) _ (right_still i r.right ∙ of (λ h. right_agrees s i (h.run i).right) ∙ p.right)
      (and_from (is_reached d i r.list) _ (reached_still i r.list ∙ of (λ h. is_reached s i (h.run i).list) ∙ p.reached)
      (and_from (holds_one d r) (is_recorded d r.id.client) (of (λ h. cond (is_list (h.run i)) (eqb (passing (λ l. is_id (h.list l).holder (h.run i).id) h.lists) 1) true) ∙ p.holds) (of (λ h. is_recorded s (h.run i).id.client) ∙ p.known))))

  start_still : (l : ℕ) (o : Option ℕ) → start_agrees d l o ≡ start_agrees s l o
  start_still l None = refl
  start_still l (Some i) = of (λ h. not (is_some (h.run i).left) && is (h.run i).list l)

  holder_still : (o : Option Id) → holder_agrees d o ≡ holder_agrees s o
  holder_still None = refl
  holder_still (Some id) = of (λ h. some_pass (λ i. is_holder (h.run i) id) h.runs)

  list_agrees_still : (l : ℕ) → (list_at d l).len ≡ visible_sum d l (length rs) → list_agrees_at s l ≡ true → list_agrees_at d l ≡ true
  list_agrees_still l e h =
      let p = list_parts s l h in
      and_from (start_agrees d l (list_at d l).start) _ (start_still l (list_at d l).start ∙ of (λ h. start_agrees s l (h.list l).start) ∙ p.start)
      (and_from (holder_agrees d (list_at d l).holder) (eqb (list_at d l).len (visible_sum d l (length rs))) (holder_still (list_at d l).holder ∙ of (λ h. holder_agrees s (h.list l).holder) ∙ p.holder) (eq-eqb _ _ e))

  last_still : (c n : ℕ) → last_end d c n ≡ last_end s c n
  unfolding last_end
  last_still c zero = refl
  last_still c (suc n) = of (λ h. later c (last_end d c n) (h.run n)) ∙ ap (λ k. later c k (run_at s n)) (last_still c n)

  client_still : (i : ℕ) → client_agrees_at d i ≡ client_agrees_at s i
  client_still i = ap (eqb (client_at s i).known) (last_still (client_at s i).client (length rs) ∙ of (λ h. last_end s (client_at s i).client h.runs))

  -- the lengths are those of the visible units, and successors name clients
  pub passing_still : Passing s → ((i : ℕ) → i < length rs → id_fits (get_or rs i no_run).redone ≡ true) → ((l : ℕ) → l < length hs → ((get_or hs l no_list).len ≡ visible_sum d l (length rs)) × ((get_or hs l no_list).len < 2 ^ 32)) → Passing d
  passing_still p ids sums =
      record {
        counts = counts_still ∙ p.counts;
        run_fits = λ i lt. fits_still i (ids i lt) (p.run_fits i (lo i lt));
        list_fits = λ l lt. list_fits_still l (lt-ltb _ _ (sums l lt).1) (p.list_fits l (low l lt));
        client_fits = p.client_fits;
        entry_fits = p.entry_fits;
        run_follows = λ i lt. follows_still i ∙ p.run_follows i (lo i lt);
        run_agrees = λ i lt. agrees_still i (p.run_agrees i (lo i lt));
        list_agrees = λ l lt. list_agrees_still l (sums l lt).0 (p.list_agrees l (low l lt));
        client_agrees = λ i lt. client_still i ∙ p.client_agrees i lt;
        run_filled = λ i lt. of (λ h. run_filled s (h.run i)) ∙ p.run_filled i (lo i lt);
        entry_serves = λ e lt. of (λ h. eqb (passing (λ k. has_entry (h.run k) e) h.runs) 1) ∙ p.entry_serves e lt;
        byte_serves = p.byte_serves;
      }
