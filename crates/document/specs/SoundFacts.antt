-- Accepted tables are sound.
use Rattle.std.specs.Prelude.{◌≡◌, ℕ, ◌+◌, ◌^◌, ◌<◌, ◌≤◌, Bool, true, false, cond, not, ◌&&◌, ◌||◌, ltb, leb, ◌⊎◌, length, is_some, Some, None, Option, ◌==◌, ◌≢◌, nat_le, nat_lt}
use Rattle.std.proofs.Math.Path.{refl}
use Rattle.std.proofs.Common.{sym, ap, subst, ◌∙◌, inl, inr, ⊎_elim, arith}
use Rattle.std.proofs.lemmas.Bool.{and_parts, ltb-true, leb-true, eqb-true, eq-eqb, or_cases, not-true, cond-true}
use Rattle.store.specs.declared.records.RunRecord.{RunRecord}
use Rattle.store.specs.Clocks.{end_of, is_clear, is_clear_at}
use Rattle.store.specs.First.{all_pass}
use Rattle.store.specs.FirstFacts.{all_pass_all, some_pass_some}
use Rattle.store.specs.Kinds.{kind_of, stands_apart, is_single}
use Rattle.store.specs.Ranges.{in_use, id_fits, is_client, is_clock, numbers_fit, names_fit, entry_fits, is_placed, length_fits, run_fits}
use Rattle.store.specs.Records.{Store, run_at, list_at, client_at}
use Rattle.links.specs.Lengths.{visible_sum, last_end}
use Rattle.links.specs.Links.{is_list, holds_one, is_recorded, is_client_at, run_agrees_at, holder_agrees, list_agrees_at}
use Rattle.links.specs.Walks.{is, same, left_agrees, right_agrees, meets, is_reached, start_agrees}
use Rattle.document.specs.Examined.{accepts}
use Rattle.document.specs.KnownFacts.{recorded, small_clock, reaches}
use Rattle.document.specs.Meaning.{clock_in, upto, offset}
use Rattle.document.specs.ReachFacts.{ToRight, met, first_or_left}
use Rattle.document.specs.Sound.{Linked, Sound}
use Rattle.document.specs.PassingFacts.{Passing, passing_from}

no_truth : {B : Type 0} → false ≡ true → B
no_truth h = cc

is_true : (o : Option ℕ) (i : ℕ) → is o i ≡ true → o ≡ Some i
is_true None i h = no_truth h
is_true (Some j) i h = ap Some (eqb-true j i h)

not_some : (o : Option ℕ) → not (is_some o) ≡ true → o ≡ None
not_some None h = refl
not_some (Some x) h = no_truth h

same_true : (a b : Option ℕ) → same a b ≡ true → a ≡ b
same_true None b h = sym (not_some b h)
same_true (Some i) b h = sym (is_true b i h)

in_use_true : (o : Option ℕ) (n j : ℕ) → o ≡ Some j → in_use o n ≡ true → j < n
in_use_true o n j e h = ltb-true j n (rw e at h)

-- the parts of the test of a run's ranges
pub record Fits (s : Store) (r : RunRecord) : Type 0 where
  pub client : is_client r.id.client ≡ true
  pub kind : leb r.kind 10 ≡ true
  pub some : ltb 0 r.len ≡ true
  pub clocks : is_clock (r.id.clock + r.len) ≡ true
  pub left : in_use r.left (length s.runs) ≡ true
  pub right : in_use r.right (length s.runs) ≡ true
  pub list : in_use r.list (length s.lists) ≡ true
  pub redone : id_fits r.redone ≡ true
  pub entry : entry_fits s r ≡ true
  pub placed : is_placed r ≡ true
  pub single : length_fits r ≡ true

pub fits_parts : (s : Store) (r : RunRecord) → run_fits s r ≡ true → Fits s r
fits_parts s r h =
    let a = and_parts (numbers_fit r) _ h in
    let b = and_parts (names_fit s r) _ a.1 in
    let c = and_parts (entry_fits s r) _ b.1 in
    let d = and_parts (is_placed r) (length_fits r) c.1 in
    let n1 = and_parts (is_client r.id.client) _ a.0 in
    let n2 = and_parts (nat_le r.kind 10) _ n1.1 in
    let n3 = and_parts (nat_lt 0 r.len) (is_clock (r.id.clock + r.len)) n2.1 in
    let m1 = and_parts (in_use r.left (length s.runs)) _ b.0 in
    let m2 = and_parts (in_use r.right (length s.runs)) _ m1.1 in
    let m3 = and_parts (in_use r.list (length s.lists)) (id_fits r.redone) m2.1 in
    record { client = n1.0; kind = n2.0; some = n3.0; clocks = n3.1; left = m1.0; right = m2.0; list = m3.0; redone = m3.1; entry = c.0; placed = d.0; single = d.1 }

-- the parts of the test of a run's links
pub record Agrees (s : Store) (i : ℕ) : Type 0 where
  pub left : left_agrees s i (run_at s i).left ≡ true
  pub right : right_agrees s i (run_at s i).right ≡ true
  pub reached : is_reached s i (run_at s i).list ≡ true
  pub holds : holds_one s (run_at s i) ≡ true
  pub known : is_recorded s (run_at s i).id.client ≡ true

pub agrees_parts : (s : Store) (i : ℕ) → run_agrees_at s i ≡ true → Agrees s i
agrees_parts s i h =
    let a = and_parts (left_agrees s i (run_at s i).left) _ h in
    let b = and_parts (right_agrees s i (run_at s i).right) _ a.1 in
    let c = and_parts (is_reached s i (run_at s i).list) _ b.1 in
    let d = and_parts (holds_one s (run_at s i)) (is_recorded s (run_at s i).id.client) c.1 in
    record { left = a.0; right = b.0; reached = c.0; holds = d.0; known = d.1 }

-- the parts of the test of a list
pub record ListAgrees (s : Store) (l : ℕ) : Type 0 where
  pub start : start_agrees s l (list_at s l).start ≡ true
  pub holder : holder_agrees s (list_at s l).holder ≡ true
  pub stored : (list_at s l).len ≡ visible_sum s l (length s.runs)

pub list_parts : (s : Store) (l : ℕ) → list_agrees_at s l ≡ true → ListAgrees s l
list_parts s l h =
    let a = and_parts (start_agrees s l (list_at s l).start) _ h in
    let b = and_parts (holder_agrees s (list_at s l).holder) ((list_at s l).len == visible_sum s l (length s.runs)) a.1 in
    record { start = a.0; holder = b.0; stored = eqb-true _ _ b.1 }

left_true : (s : Store) (i j : ℕ) (o : Option ℕ) → o ≡ Some j → left_agrees s i o ≡ true → ((run_at s j).right ≡ Some i) × ((run_at s j).list ≡ (run_at s i).list)
left_true s i j o e h =
    let p = and_parts (is (run_at s j).right i) (same (run_at s j).list (run_at s i).list) (rw e at h) in
    (is_true (run_at s j).right i p.0, same_true (run_at s j).list (run_at s i).list p.1)

right_true : (s : Store) (i j : ℕ) (o : Option ℕ) → o ≡ Some j → right_agrees s i o ≡ true → ((run_at s j).left ≡ Some i) × ((run_at s j).list ≡ (run_at s i).list)
right_true s i j o e h =
    let p = and_parts (is (run_at s j).left i) (same (run_at s j).list (run_at s i).list) (rw e at h) in
    (is_true (run_at s j).left i p.0, same_true (run_at s j).list (run_at s i).list p.1)

start_true : (s : Store) (l i : ℕ) (o : Option ℕ) → o ≡ Some i → start_agrees s l o ≡ true → ((run_at s i).left ≡ None) × ((run_at s i).list ≡ Some l)
start_true s l i o e h =
    let p = and_parts (not (is_some (run_at s i).left)) (is (run_at s i).list l) (rw e at h) in
    (not_some (run_at s i).left p.0, is_true (run_at s i).list l p.1)

-- a run with no list has no neighbours
apart_of : (r : RunRecord) (a : Bool) (l : Option ℕ) → cond a (not (is_some l) && (not (is_some r.left) && not (is_some r.right))) (is_some l) ≡ true → l ≡ None → (r.left ≡ None) × (r.right ≡ None)
apart_of r true l h e =
    let p = and_parts (not (is_some l)) (not (is_some r.left) && not (is_some r.right)) h in
    let q = and_parts (not (is_some r.left)) (not (is_some r.right)) p.1 in
    (not_some r.left q.0, not_some r.right q.1)
apart_of r false l h e = no_truth (rw e at h)

clear_of : (i j : ℕ) (a b : RunRecord) → a.id.client ≡ b.id.client → (i == j || is_clear a b) ≡ true → (i ≡ j) ⊎ ((end_of a ≤ b.id.clock) ⊎ (end_of b ≤ a.id.clock))
clear_of i j a b e h =
    ⊎_elim
    (λ q. inl (eqb-true i j q))
    (λ q.
    ⊎_elim
    (λ n. no_truth (sym (not-true (a.id.client == b.id.client) n) ∙ eq-eqb a.id.client b.id.client e))
    (λ n. inr (⊎_elim (λ m. inl (leb-true (end_of a) b.id.clock m)) (λ m. inr (leb-true (end_of b) a.id.clock m)) (or_cases (nat_le (end_of a) b.id.clock) (nat_le (end_of b) a.id.clock) n)))
    (or_cases (not (a.id.client == b.id.client)) (nat_le (end_of a) b.id.clock || nat_le (end_of b) a.id.clock) q))
    (or_cases (i == j) (is_clear a b) h)

-- a run of kind 7 has one unit
list_single : (r : RunRecord) → is_list r ≡ true → length_fits r ≡ true → r.len ≡ 1
list_single r k h =
    let e : r.kind ≡ 7 = eqb-true r.kind 7 k in
    let g : (n : ℕ) → n ≡ 7 → is_single (kind_of n) ≡ true = λ n q. rw q refl in
    eqb-true r.len 1 (sym (cond-true (is_single (kind_of r.kind)) (r.len == 1) true (g r.kind e)) ∙ h)

module _ (s : Store) (p : Passing s) where
  pub fits : (i : ℕ) → i < length s.runs → Fits s (run_at s i)
  fits i lt = fits_parts s (run_at s i) (p.run_fits i lt)

  pub agrees : (i : ℕ) → i < length s.runs → Agrees s i
  agrees i lt = agrees_parts s i (p.run_agrees i lt)

  list_agrees : (l : ℕ) → l < length s.lists → ListAgrees s l
  list_agrees l lt = list_parts s l (p.list_agrees l lt)

  to_right : ToRight s
  to_right i j lt e =
      let q = right_true s i j (run_at s i).right e (agrees i lt).right in
      (in_use_true (run_at s i).right (length s.runs) j e (fits i lt).right, q.0, q.1)

  start_of : (l i : ℕ) → l < length s.lists → (list_at s l).start ≡ Some i → (i < length s.runs) × ((run_at s i).left ≡ None) × ((run_at s i).list ≡ Some l)
  start_of l i lt e =
      let q = start_true s l i (list_at s l).start e (list_agrees l lt).start in
      let a = and_parts (in_use (list_at s l).start (length s.runs)) _ (p.list_fits l lt) in
      (in_use_true (list_at s l).start (length s.runs) i e a.0, q.0, q.1)

  listed : (i l : ℕ) → i < length s.runs → (run_at s i).list ≡ Some l → l < length s.lists
  listed i l lt e = in_use_true (run_at s i).list (length s.lists) l e (fits i lt).list

  apart : (i : ℕ) → i < length s.runs → (run_at s i).list ≡ None → ((run_at s i).left ≡ None) × ((run_at s i).right ≡ None)
  apart i lt e = apart_of (run_at s i) (stands_apart (kind_of (run_at s i).kind)) (run_at s i).list (fits i lt).placed e

  -- the walk from a list's start meets each of its runs
  meeting : (i l : ℕ) → i < length s.runs → (run_at s i).list ≡ Some l → meets s i (list_at s l).start (length s.runs) ≡ true
  meeting i l lt e = subst (λ (o : Option ℕ). is_reached s i o ≡ true) e (agrees i lt).reached

  nothing_met : (i n : ℕ) → meets s i None n ≢ true
  unfolding meets
  nothing_met i n h = no_truth h

  upto_none : (o : Option ℕ) (n : ℕ) → o ≡ None → upto s o n ≡ Some 0
  unfolding upto
  upto_none o n e = rw e refl

  reached_from : (i l : ℕ) → i < length s.runs → (run_at s i).list ≡ Some l → (o : Option ℕ) → (list_at s l).start ≡ o → is_some (offset s i) ≡ true
  reached_from i l lt e None f = absurd (nothing_met i (length s.runs) (subst (λ (o : Option ℕ). meets s i o (length s.runs) ≡ true) f (meeting i l lt e)))
  reached_from i l lt e (Some j) f =
      let t = start_of l j (listed i l lt e) f in
      let z : 0 + length s.runs ≡ length s.runs = omega arith in
      subst (λ (n : ℕ). is_some (upto s (run_at s i).left n) ≡ true) z
      (met s to_right i (length s.runs) j 0 0 t.0 (upto_none (run_at s j).left 0 t.1) (subst (λ (o : Option ℕ). meets s i o (length s.runs) ≡ true) f (meeting i l lt e)))

  reached_by : (i : ℕ) → i < length s.runs → (o : Option ℕ) → (run_at s i).list ≡ o → is_some (offset s i) ≡ true
  reached_by i lt None e = ap is_some (upto_none (run_at s i).left (length s.runs) (apart i lt e).0)
  reached_by i lt (Some l) e = reached_from i l lt e (list_at s l).start refl

  begins_at : (i l : ℕ) → i < length s.runs → (run_at s i).left ≡ None → (run_at s i).list ≡ Some l → (o : Option ℕ) → (list_at s l).start ≡ o → (list_at s l).start ≡ Some i
  begins_at i l lt n e None f = absurd (nothing_met i (length s.runs) (subst (λ (o : Option ℕ). meets s i o (length s.runs) ≡ true) f (meeting i l lt e)))
  begins_at i l lt n e (Some j) f =
      let t = start_of l j (listed i l lt e) f in
      ⊎_elim
      (λ same. f ∙ ap Some same)
      (λ k. let b = k.1 in cc)
      (first_or_left s to_right i (length s.runs) j t.0 (subst (λ (o : Option ℕ). meets s i o (length s.runs) ≡ true) f (meeting i l lt e)))

  links : Linked s
  links =
      record {
        to_left = λ i j lt e. let q = left_true s i j (run_at s i).left e (agrees i lt).left in (in_use_true (run_at s i).left (length s.runs) j e (fits i lt).left, q.0, q.1);
        to_right = to_right;
        begins = λ i l lt n e. begins_at i l lt n e (list_at s l).start refl;
        start_of = start_of;
        reached = λ i lt. reached_by i lt (run_at s i).list refl;
      }

  known : (i : ℕ) → i < length s.runs → end_of (run_at s i) ≤ clock_in s.clients (run_at s i).id.client
  known i lt =
      let c = (run_at s i).id.client in
      let (j, lj, ej) = some_pass_some (is_client_at s c) (length s.clients) (agrees i lt).known in
      let r = recorded s.clients c j lj (eqb-true _ _ ej) in
      let k = eqb-true (client_at s r.at).known (last_end s (client_at s r.at).client (length s.runs)) (p.client_agrees r.at r.below) in
      let e : last_end s (client_at s r.at).client (length s.runs) ≡ last_end s c (length s.runs) = ap (λ (n : ℕ). last_end s n (length s.runs)) r.client in
      let a = reaches s c (length s.runs) i lt refl in
      let b = r.known in
      omega (arith, k, e, a, b)

  clocks : (c : ℕ) → clock_in s.clients c < 2 ^ 32
  clocks c =
      let h = small_clock s.clients c (λ i lt. let a = and_parts (is_client (client_at s i).client) _ (p.client_fits i lt) in let b = and_parts (is_clock (client_at s i).known) _ a.1 in leb-true _ _ b.0) in
      omega (arith, h)

  short : (l : ℕ) → l < length s.lists → (list_at s l).len < 2 ^ 32
  short l lt =
      let a = and_parts (in_use (list_at s l).start (length s.runs)) _ (p.list_fits l lt) in
      let b = and_parts (id_fits (list_at s l).holder) (nat_lt (list_at s l).len (2 ^ 32)) a.1 in
      ltb-true _ _ b.1

  clear : (i j : ℕ) → i < length s.runs → j < length s.runs → (run_at s i).id.client ≡ (run_at s j).id.client → (i ≡ j) ⊎ ((end_of (run_at s i) ≤ (run_at s j).id.clock) ⊎ (end_of (run_at s j) ≤ (run_at s i).id.clock))
  clear i j lt lu e = clear_of i j (run_at s i) (run_at s j) e (all_pass_all (is_clear_at s i) (length s.runs) (and_parts (all_pass (is_clear_at s i) (length s.runs)) _ (p.run_follows i lt)).0 j lu)

  pub sound : Sound s
  sound =
      record {
        some = λ i lt. ltb-true _ _ (fits i lt).some;
        small = λ i lt. leb-true _ _ (fits i lt).clocks;
        listed = listed;
        apart = apart;
        clear = clear;
        links = links;
        known = known;
        stored = λ l lt. (list_agrees l lt).stored;
        short = short;
        clocks = clocks;
        single = λ i lt k. list_single (run_at s i) k (fits i lt).single;
        holds = λ i lt. (agrees i lt).holds;
        holder = λ l lt. (list_agrees l lt).holder;
        filled = p.run_filled;
      }

pub sound_from : (s : Store) → accepts s ≡ true → Sound s
sound_from s h = sound s (passing_from s h)
