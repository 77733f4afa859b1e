-- The records of a chain into which one was put, by index.
use Rattle.std.proofs.Common.{◌≡◌, ℕ, zero, suc, ◌<◌, ◌≤◌, List, [], ◌∷◌, ◌++◌, length, get_or, take, set, Some, None, Option, sym, refl, ap, ◌∙◌, subst, ⊎_elim, add-one, arith, length-set, get_or-set_other, get_or-set_same}
use Rattle.std.proofs.lemmas.List.{length_push, get_or_push, get_or_append_left, length-take-le, get_or-take}
use Rattle.store.specs.declared.records.RunRecord.{RunRecord}
use Rattle.store.specs.Records.{Store, run_at, list_at, no_run}
use Rattle.document.specs.Sound.{Linked}
use Rattle.chain.specs.Chains.{next, InList, Inserted}
use Rattle.chain.specs.Joins.{Below, at, rightward, leftward, joined, appended}
use Rattle.chain.proofs.Chains.{no_some, some_same, dec}

abbrev run : List RunRecord → ℕ → RunRecord
run rs i = get_or rs i no_run

pub at_length : (f : RunRecord → RunRecord) (rs : List RunRecord) (o : Option ℕ) → length (at f rs o) ≡ length rs
at_length f rs None = refl
at_length f rs (Some i) = length-set rs i (f (run rs i))

pub at_there : (f : RunRecord → RunRecord) (rs : List RunRecord) (o : Option ℕ) (i : ℕ) → o ≡ Some i → i < length rs → run (at f rs o) i ≡ f (run rs i)
at_there f rs None i e lt = no_some e
at_there f rs (Some j) i e lt = subst (λ m. run (at f rs (Some m)) i ≡ f (run rs i)) (sym (some_same e)) (get_or-set_same rs i (f (run rs i)) no_run lt)

pub at_else : (f : RunRecord → RunRecord) (rs : List RunRecord) (o : Option ℕ) (i : ℕ) → (o ≡ Some i → ⊥) → run (at f rs o) i ≡ run rs i
at_else f rs None i ne = refl
at_else f rs (Some j) i ne = get_or-set_other rs j i (f (run rs j)) no_run (λ e. ne (ap Some (sym e)))

-- what a change leaves alone
pub at_keeps : {X : Type 0} (g : RunRecord → X) (f : RunRecord → RunRecord) → ((r : RunRecord) → g (f r) ≡ g r) → (rs : List RunRecord) (o : Option ℕ) → Below o (length rs) → (i : ℕ) → g (run (at f rs o) i) ≡ g (run rs i)
at_keeps g f h rs o b i = ⊎_elim (λ e. ap g (at_there f rs o i e (b i e)) ∙ h (run rs i)) (λ ne. ap g (at_else f rs o i ne)) (dec o i)

-- the records after a new one was put between p and q
module _ (rs : List RunRecord) (p q : Option ℕ) (r : RunRecord) (bp : Below p (length rs)) (bq : Below q (length rs)) where
  abbrev n : ℕ
  n = length rs

  abbrev one : List RunRecord
  one = rs ++ (r ∷ [])

  abbrev two : List RunRecord
  two = at (rightward n) one p

  long_one : length one ≡ suc n
  long_one = length_push rs r ∙ add-one n

  long_two : length two ≡ suc n
  long_two = at_length (rightward n) one p ∙ long_one

  pub appended_long : length (appended rs r p q) ≡ suc n
  appended_long = at_length (leftward n) two q ∙ long_two

  below_one : Below p (length one)
  below_one i e = let a = bp i e in let b = long_one in omega (arith, a, b)

  below_two : Below q (length two)
  below_two i e = let a = bq i e in let b = long_two in omega (arith, a, b)

  one_old : (i : ℕ) → i < n → run one i ≡ run rs i
  one_old i lt = get_or_append_left rs (r ∷ []) no_run i lt

  one_new : run one n ≡ r
  one_new = get_or_push rs r no_run n refl

  -- what no neighbour is part of
  pub appended_keeps : {X : Type 0} (g : RunRecord → X) → ((s : RunRecord) → g (rightward n s) ≡ g s) → ((s : RunRecord) → g (leftward n s) ≡ g s) → (i : ℕ) → i < n → g (run (appended rs r p q) i) ≡ g (run rs i)
  appended_keeps g hr hl i lt = at_keeps g (leftward n) hl two q below_two i ∙ at_keeps g (rightward n) hr one p below_one i ∙ ap g (one_old i lt)

  pub appended_left_there : (i : ℕ) → q ≡ Some i → (run (appended rs r p q) i).left ≡ Some n
  appended_left_there i e = ap (λ (s : RunRecord). s.left) (at_there (leftward n) two q i e (below_two i e))

  pub appended_left_else : (i : ℕ) → i < n → (q ≡ Some i → ⊥) → (run (appended rs r p q) i).left ≡ (run rs i).left
  appended_left_else i lt ne = ap (λ (s : RunRecord). s.left) (at_else (leftward n) two q i ne) ∙ at_keeps (λ (s : RunRecord). s.left) (rightward n) (λ s. refl) one p below_one i ∙ ap (λ (s : RunRecord). s.left) (one_old i lt)

  pub appended_right_there : (i : ℕ) → p ≡ Some i → (run (appended rs r p q) i).right ≡ Some n
  appended_right_there i e = at_keeps (λ (s : RunRecord). s.right) (leftward n) (λ s. refl) two q below_two i ∙ ap (λ (s : RunRecord). s.right) (at_there (rightward n) one p i e (below_one i e))

  pub appended_right_else : (i : ℕ) → i < n → (p ≡ Some i → ⊥) → (run (appended rs r p q) i).right ≡ (run rs i).right
  appended_right_else i lt ne = at_keeps (λ (s : RunRecord). s.right) (leftward n) (λ s. refl) two q below_two i ∙ ap (λ (s : RunRecord). s.right) (at_else (rightward n) one p i ne) ∙ ap (λ (s : RunRecord). s.right) (one_old i lt)

  pub appended_new : run (appended rs r p q) n ≡ r
  appended_new =
      let nq : q ≡ Some n → ⊥ = λ e. let a = bq n e in absurd (omega (arith, a)) in
      let np : p ≡ Some n → ⊥ = λ e. let a = bp n e in absurd (omega (arith, a)) in
      at_else (leftward n) two q n nq ∙ at_else (rightward n) one p n np ∙ one_new

-- s is what the tables hold; rs are its runs, with links and lists as they are and perhaps other lengths
pub appended_inserted : (s s' : Store) (rs : List RunRecord) (l : ℕ) (p : Option ℕ) (r : RunRecord) → Linked s → length rs ≡ length s.runs → ((i : ℕ) → (run rs i).left ≡ (run_at s i).left) → ((i : ℕ) → (run rs i).right ≡ (run_at s i).right) → ((i : ℕ) → (run rs i).list ≡ (run_at s i).list) → s'.runs ≡ appended rs r p (next s l p) → length s.lists ≤ length s'.lists → l < length s.lists → InList s l p → (p ≡ None → (list_at s' l).start ≡ Some (length s.runs)) → ((k : ℕ) → ((p ≡ None) × (k ≡ l) → ⊥) → (list_at s' k).start ≡ (list_at s k).start) → r.left ≡ p → r.right ≡ next s l p → r.list ≡ Some l → Inserted s s' l p (next s l p)
appended_inserted s s' rs l p r lk long le ri li runs tall lt pl st se rl rr rli =
    let q : Option ℕ = next s l p in
    let up : (i : ℕ) → i < length s.runs → i < length rs = λ i h. subst (λ n. i < n) (sym long) h in
    let bp : Below p (length rs) = λ i e. up i (pl i e).0 in
    let bq : Below q (length rs) = λ i e. up i (near p refl i e) in
    let each : (i : ℕ) → run_at s' i ≡ run (appended rs r p q) i = λ i. ap (λ (xs : List RunRecord). run xs i) runs in
    let new : run_at s' (length s.runs) ≡ r = each (length s.runs) ∙ subst (λ n. run (appended rs r p q) n ≡ r) long (appended_new rs p q r bp bq) in
    record {
      long = ap length runs ∙ appended_long rs p q r bp bq ∙ ap suc long;
      taller = tall;
      of_list = lt;
      place = pl;
      follower = refl;
      lists = λ i h. ap (λ (x : RunRecord). x.list) (each i) ∙ appended_keeps rs p q r bp bq (λ (x : RunRecord). x.list) (λ x. refl) (λ x. refl) i (up i h) ∙ li i;
      left_there = λ i e. ap (λ (x : RunRecord). x.left) (each i) ∙ appended_left_there rs p q r bp bq i e ∙ ap Some long;
      left_else = λ i h ne. ap (λ (x : RunRecord). x.left) (each i) ∙ appended_left_else rs p q r bp bq i (up i h) ne ∙ le i;
      right_there = λ i e. ap (λ (x : RunRecord). x.right) (each i) ∙ appended_right_there rs p q r bp bq i e ∙ ap Some long;
      right_else = λ i h ne. ap (λ (x : RunRecord). x.right) (each i) ∙ appended_right_else rs p q r bp bq i (up i h) ne ∙ ri i;
      start_there = st;
      start_else = se;
      new_left = ap (λ (x : RunRecord). x.left) new ∙ rl;
      new_right = ap (λ (x : RunRecord). x.right) new ∙ rr;
      new_list = ap (λ (x : RunRecord). x.list) new ∙ rli;
    }
  where
    near : (o : Option ℕ) → p ≡ o → (i : ℕ) → next s l p ≡ Some i → i < length s.runs
    near None e i h = (lk.start_of l i lt (ap (next s l) (sym e) ∙ h)).0
    near (Some j) e i h = (lk.to_right j i (pl j e).0 (ap (next s l) (sym e) ∙ h)).0

-- the records in use after a record was put past those that were
take_set : {X : Type 0} (n : ℕ) (xs : List X) (i : ℕ) (v : X) → take n (set xs i v) ≡ set (take n xs) i v
take_set zero xs i v = refl
take_set (suc n) [] i v = refl
take_set (suc n) (x ∷ xs) zero v = refl
take_set (suc n) (x ∷ xs) (suc i) v = ap (λ ys. x ∷ ys) (take_set n xs i v)

-- one more in use: the one that was put there
pub take_put : {X : Type 0} (n : ℕ) (xs : List X) (v : X) → n < length xs → take (suc n) (set xs n v) ≡ take n xs ++ (v ∷ [])
take_put n [] v lt = absurd (omega arith)
take_put zero (x ∷ xs) v lt = refl
take_put (suc n) (x ∷ xs) v lt = ap (λ ys. x ∷ ys) (take_put n xs v (omega arith))

pub take_at : (f : RunRecord → RunRecord) (n : ℕ) (rs : List RunRecord) (o : Option ℕ) → Below o n → take n (at f rs o) ≡ at f (take n rs) o
take_at f n rs None b = refl
take_at f n rs (Some i) b = take_set n rs i (f (run rs i)) ∙ ap (λ (x : RunRecord). set (take n rs) i (f x)) (sym (get_or-take n rs i no_run (b i refl)))

pub joined_used : (rs : List RunRecord) (n : ℕ) (r : RunRecord) (p q : Option ℕ) → n < length rs → Below p n → Below q n → take (suc n) (joined rs n r p q) ≡ appended (take n rs) r p q
joined_used rs n r p q lt bp bq =
    let long : length (take n rs) ≡ n = length-take-le n rs (omega arith) in
    let more : (o : Option ℕ) → Below o n → Below o (suc n) = λ o b i e. let h = b i e in omega (arith, h) in
    take_at (leftward n) (suc n) (at (rightward n) (set rs n r) p) q (more q bq)
    ∙ ap (λ (xs : List RunRecord). at (leftward n) xs q) (take_at (rightward n) (suc n) (set rs n r) p (more p bp) ∙ ap (λ (xs : List RunRecord). at (rightward n) xs p) (take_put n rs r lt))
    ∙ ap (λ m. at (leftward m) (at (rightward m) (take n rs ++ (r ∷ [])) p) q) (sym long)
