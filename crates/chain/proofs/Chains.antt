-- A record that is put into a chain leaves the links in order, and the units where they were.
use Rattle.std.proofs.Common.{◌≡◌, ℕ, zero, suc, ◌+◌, ◌-◌, ◌<◌, ◌≤◌, Bool, true, false, ◌||◌, ◌≢◌, ◌⊎◌, List, [], ◌++◌, length, is_some, Some, None, Option, sym, refl, ap, ◌∙◌, subst, inl, inr, ⊎_elim, append_assoc, add-zero, arith}
use Rattle.std.proofs.lemmas.Bool.{cases_eq, cases_lt}
use Rattle.std.proofs.lemmas.List.{get_or_past}
use Rattle.block.specs.Units.{UnitOf}
use Rattle.store.specs.declared.records.ListRecord.{ListRecord}
use Rattle.store.specs.Records.{Store, run_at, list_at, no_list}
use Rattle.document.specs.Meaning.{plus, upto, offset, units_of, spell, units_in}
use Rattle.document.specs.Sound.{Linked}
use Rattle.chain.specs.Chains.{Ends, spell_left, next, InList, Inserted}

pub no_some : {A : Type 0} {B : Type 0} {x : A} → ◌≡◌ {A = Option A} None (Some x) → B
no_some h = cc

pub some_same : {a b : ℕ} → ◌≡◌ {A = Option ℕ} (Some a) (Some b) → a ≡ b
some_same h = cc

pub or_left : (a b : Bool) → a ≡ true → (a || b) ≡ true
or_left a b h = rw h refl

pub or_right : (a b : Bool) → b ≡ true → (a || b) ≡ true
or_right true b h = refl
or_right false b h = h

pub dec : (o : Option ℕ) (i : ℕ) → (o ≡ Some i) ⊎ (o ≡ Some i → ⊥)
dec None i = inr (λ h. no_some h)
dec (Some j) i = ⊎_elim (λ e. inl (ap Some e)) (λ ne. inr (λ h. ne (some_same h))) (cases_eq j i)

-- only a list in use has a start
pub started_below : (s : Store) (k i : ℕ) → (list_at s k).start ≡ Some i → k < length s.lists
started_below s k i e = ⊎_elim (λ lt. lt) (λ le. no_some (sym (ap (λ (h : ListRecord). h.start) (get_or_past s.lists k no_list le)) ∙ e)) (cases_lt k (length s.lists))

pub ends_same : (s : Store) (o : Option ℕ) (a b : ℕ) → Ends s o a → Ends s o b → a ≡ b
unfolding Ends
ends_same s None zero zero g h = refl
ends_same s None zero (suc b) g h = absurd h
ends_same s None (suc a) b g h = absurd g
ends_same s (Some j) zero b g h = absurd g
ends_same s (Some j) (suc a) zero g h = absurd h
ends_same s (Some j) (suc a) (suc b) g h = ap suc (ends_same s (run_at s j).left a b g h)

some_plus : (k : ℕ) (o : Option ℕ) → is_some (plus k o) ≡ is_some o
some_plus k None = refl
some_plus k (Some x) = refl

-- a walk ends within its fuel just where it ends after some number of steps
pub ends_from : (s : Store) (o : Option ℕ) (f : ℕ) → is_some (upto s o f) ≡ true → (k : ℕ) × (k ≤ f) × Ends s o k
unfolding upto Ends
ends_from s None f h = (0, omega arith, tt)
ends_from s (Some j) zero h = cc
ends_from s (Some j) (suc f) h =
    let r = ends_from s (run_at s j).left f (sym (some_plus (run_at s j).len (upto s (run_at s j).left f)) ∙ h) in
    (suc r.0, omega (arith, r.1), r.2)

pub ends_within : (s : Store) (o : Option ℕ) (k f : ℕ) → Ends s o k → k ≤ f → is_some (upto s o f) ≡ true
unfolding upto Ends
ends_within s None k f h le = refl
ends_within s (Some j) zero f h le = absurd h
ends_within s (Some j) (suc k) zero h le = absurd (omega arith)
ends_within s (Some j) (suc k) (suc f) h le = some_plus (run_at s j).len (upto s (run_at s j).left f) ∙ ends_within s (run_at s j).left k f h (omega arith)

-- one step, where the left neighbour is known
pub ends_on : (s : Store) (j k : ℕ) (o : Option ℕ) → (run_at s j).left ≡ o → Ends s o k → Ends s (Some j) (suc k)
unfolding Ends
ends_on s j k o e h = subst (λ (x : Option ℕ). Ends s x k) (sym e) h

pub ends_back : (s : Store) (j k : ℕ) (o : Option ℕ) → (run_at s j).left ≡ o → Ends s (Some j) (suc k) → Ends s o k
unfolding Ends
ends_back s j k o e h = subst (λ (x : Option ℕ). Ends s x k) e h

pub ends_none : (s : Store) → Ends s None 0
unfolding Ends
ends_none s = tt

pub not_zero : {X : Type 0} (s : Store) (j : ℕ) → Ends s (Some j) 0 → X
unfolding Ends
not_zero s j h = absurd h

pub reach : (s : Store) → Linked s → (i : ℕ) → i < length s.runs → (k : ℕ) × (k ≤ length s.runs) × Ends s (Some i) (suc k)
reach s k i lt =
    let r = ends_from s (run_at s i).left (length s.runs) (k.reached i lt) in
    (r.0, r.1, ends_on s i r.0 (run_at s i).left refl r.2)

-- a list's units: what stands up to a place, and the walk from there on
module _ (s : Store) (k : Linked s) (l : ℕ) where
  left_in : (j : ℕ) → j < length s.runs → (run_at s j).list ≡ Some l → (o : Option ℕ) → (run_at s j).left ≡ o → InList s l o × (next s l o ≡ Some j)
  left_in j lt li None e = ((λ i h. no_some h), k.begins j l lt e li)
  left_in j lt li (Some q) e =
      let t = k.to_left j q lt e in
      ((λ i h. subst (λ m. (m < length s.runs) × ((run_at s m).list ≡ Some l)) (some_same h) (t.0, t.2 ∙ li)), t.1)

  pub split : (p : Option ℕ) (n g : ℕ) → InList s l p → Ends s p n → spell s (list_at s l).start (g + n) ≡ spell_left s p n ++ spell s (next s l p) g
  unfolding Ends spell spell_left
  split None zero g i h = ap (spell s (list_at s l).start) (add-zero g)
  split None (suc n) g i h = absurd h
  split (Some j) zero g i h = absurd h
  split (Some j) (suc n) g i h =
      let here = i j refl in
      let b = left_in j here.0 here.1 (run_at s j).left refl in
      let ih : spell s (list_at s l).start (suc g + n) ≡ spell_left s (run_at s j).left n ++ spell s (next s l (run_at s j).left) (suc g) = split (run_at s j).left n (suc g) b.0 h in
      let e : g + suc n ≡ suc g + n = omega arith in
      let f : spell s (next s l (run_at s j).left) (suc g) ≡ units_of s (run_at s j) ++ spell s (run_at s j).right g = ap (λ (o : Option ℕ). spell s o (suc g)) b.1 in
      ap (spell s (list_at s l).start) e ∙ ih ∙ ap (λ (us : List UnitOf). spell_left s (run_at s j).left n ++ us) f ∙ sym (append_assoc (spell_left s (run_at s j).left n) (units_of s (run_at s j)) (spell s (run_at s j).right g))

pub spell_none : (s : Store) (f : ℕ) → spell s None f ≡ []
unfolding spell
spell_none s f = refl

pub spell_step : (s : Store) (j f : ℕ) → spell s (Some j) (suc f) ≡ units_of s (run_at s j) ++ spell s (run_at s j).right f
unfolding spell
spell_step s j f = refl

more_on : (s : Store) (g : ℕ) (o : Option ℕ) → ((i : ℕ) → o ≡ Some i → spell s (Some i) (suc g) ≡ spell s (Some i) g) → spell s o (suc g) ≡ spell s o g
more_on s g None h = spell_none s (suc g) ∙ sym (spell_none s g)
more_on s g (Some i) h = h i refl

-- one step of fuel more changes nothing where the walk has ended
pub spell_more : (s : Store) → Linked s → (g j k : ℕ) → j < length s.runs → Ends s (Some j) k → suc (length s.runs) < k + g → spell s (Some j) (suc g) ≡ spell s (Some j) g
unfolding spell
spell_more s lk zero j k lt h fu =
    let r = reach s lk j lt in
    let e : k ≡ suc r.0 = ends_same s (Some j) k (suc r.0) h r.2 in
    absurd (omega (arith, e, r.1, fu))
spell_more s lk (suc g) j k lt h fu = ap (λ (us : List UnitOf). units_of s (run_at s j) ++ us) (more_on s g (run_at s j).right (λ i e. let t = lk.to_right j i lt e in spell_more s lk g i (suc k) t.0 (ends_on s i k (Some j) t.1 h) (omega arith)))

-- Walks to the right that meet only runs that stay as they are.
pub spell_same : (s s' : Store) (P : ℕ → Type 0) → ((j : ℕ) → P j → (units_of s' (run_at s' j) ≡ units_of s (run_at s j)) × ((run_at s' j).right ≡ (run_at s j).right)) → ((j i : ℕ) → P j → (run_at s j).right ≡ Some i → P i) → (o : Option ℕ) (f : ℕ) → ((j : ℕ) → o ≡ Some j → P j) → spell s' o f ≡ spell s o f
unfolding spell
spell_same s s' P al on None f h = refl
spell_same s s' P al on (Some j) zero h = refl
spell_same s s' P al on (Some j) (suc f) h =
    let a = al j (h j refl) in
    let b : spell s' (run_at s' j).right f ≡ spell s (run_at s j).right f = ap (λ (o : Option ℕ). spell s' o f) a.1 ∙ spell_same s s' P al on (run_at s j).right f (λ i e. on j i (h j refl) e) in
    ap (λ (us : List UnitOf). us ++ spell s' (run_at s' j).right f) a.0 ∙ ap (λ (us : List UnitOf). units_of s (run_at s j) ++ us) b

module _ (s s' : Store) (l : ℕ) (p q : Option ℕ) (lk : Linked s) (ins : Inserted s s' l p q) where
  -- what q is
  follows : (o : Option ℕ) → p ≡ o → (j : ℕ) → q ≡ Some j → (j < length s.runs) × ((run_at s j).left ≡ p) × ((run_at s j).list ≡ Some l)
  follows None e j h =
      let f : (list_at s l).start ≡ Some j = ap (next s l) (sym e) ∙ sym ins.follower ∙ h in
      let t = lk.start_of l j ins.of_list f in
      (t.0, t.1 ∙ sym e, t.2)
  follows (Some i) e j h =
      let f : (run_at s i).right ≡ Some j = ap (next s l) (sym e) ∙ sym ins.follower ∙ h in
      let a = ins.place i e in
      let t = lk.to_right i j a.0 f in
      (t.0, t.1 ∙ sym e, t.2 ∙ a.1)

  pub after : (j : ℕ) → q ≡ Some j → (j < length s.runs) × ((run_at s j).left ≡ p) × ((run_at s j).list ≡ Some l)
  after = follows p refl

  -- the run right of another is q just where that other is p
  pub here_left : (i j : ℕ) → i < length s.runs → (run_at s i).right ≡ Some j → q ≡ Some j → p ≡ Some i
  here_left i j lt e h = sym (after j h).1 ∙ (lk.to_right i j lt e).1

  depth_of : (o : Option ℕ) → p ≡ o → (k : ℕ) × (k ≤ suc (length s.runs)) × Ends s p k
  depth_of None e = (0, omega arith, subst (λ (o : Option ℕ). Ends s o 0) (sym e) (ends_none s))
  depth_of (Some i) e =
      let r = reach s lk i (ins.place i e).0 in
      (suc r.0, omega (arith, r.1), subst (λ (o : Option ℕ). Ends s o (suc r.0)) (sym e) r.2)

  -- how many steps p is from the left end
  pub depth : ℕ
  depth = (depth_of p refl).0

  pub depth_small : depth ≤ suc (length s.runs)
  unfolding depth
  depth_small = (depth_of p refl).1

  pub depth_ends : Ends s p depth
  unfolding depth
  depth_ends = (depth_of p refl).2

  pub depth_q : (j k : ℕ) → q ≡ Some j → Ends s (Some j) k → k ≡ suc depth
  depth_q j zero e h = not_zero s j h
  depth_q j (suc k) e h = ap suc (ends_same s p k depth (ends_back s j k p (after j e).1 h) depth_ends)

  -- walks to the left that do not come past q are as before
  pub ends_before : (o : Option ℕ) (k : ℕ) → ((j : ℕ) → o ≡ Some j → j < length s.runs) → k ≤ depth → Ends s o k → Ends s' o k
  unfolding Ends
  ends_before None zero w le h = tt
  ends_before None (suc k) w le h = absurd h
  ends_before (Some j) zero w le h = absurd h
  ends_before (Some j) (suc k) w le h =
      let lt = w j refl in
      let ne : q ≡ Some j → ⊥ = λ e. let d : suc k ≡ suc depth = depth_q j (suc k) e h in absurd (omega (arith, d, le)) in
      subst (λ (o : Option ℕ). Ends s' o k) (sym (ins.left_else j lt ne)) (ends_before (run_at s j).left k (λ i e. (lk.to_left j i lt e).0) (omega arith) h)

  pub within_p : (j : ℕ) → p ≡ Some j → j < length s.runs
  within_p j e = (ins.place j e).0

  pub new_ends : Ends s' (Some (length s.runs)) (suc depth)
  new_ends = ends_on s' (length s.runs) depth p ins.new_left (ends_before p depth within_p (omega arith) depth_ends)

  -- every walk to the left takes at most one step more
  pub ends_after : (o : Option ℕ) (k : ℕ) → ((j : ℕ) → o ≡ Some j → j < length s.runs) → Ends s o k → (m : ℕ) × (m ≤ suc k) × Ends s' o m
  unfolding Ends
  ends_after None zero w h = (0, omega arith, tt)
  ends_after None (suc k) w h = absurd h
  ends_after (Some j) zero w h = absurd h
  ends_after (Some j) (suc k) w h =
      let lt = w j refl in
      ⊎_elim
      (λ e. let d : suc k ≡ suc depth = depth_q j (suc k) e h in (suc (suc depth), omega (arith, d), ends_on s' j (suc depth) (Some (length s.runs)) (ins.left_there j e) new_ends))
      (λ ne.
      let r = ends_after (run_at s j).left k (λ i e. (lk.to_left j i lt e).0) h in
      (suc r.0, omega (arith, r.1), ends_on s' j r.0 (run_at s j).left (ins.left_else j lt ne) r.2))
      (dec q j)

  pub new_or_old : (i : ℕ) → i < length s'.runs → (i ≡ length s.runs) ⊎ (i < length s.runs)
  new_or_old i lt =
      let e = ins.long in
      ⊎_elim (λ h. inl h) (λ ne. inr (omega (arith, e, lt, ne))) (cases_eq i (length s.runs))

  old : (i : ℕ) → i < length s.runs → i < length s'.runs
  old i lt = let e = ins.long in omega (arith, e, lt)

  still_reached : (i : ℕ) → i < length s'.runs → is_some (offset s' i) ≡ true
  still_reached i lt =
      let e = ins.long in
      ⊎_elim
      (λ h.
      let b : Ends s' (run_at s' i).left depth = subst (λ m. Ends s' (run_at s' m).left depth) (sym h) (ends_back s' (length s.runs) depth (run_at s' (length s.runs)).left refl new_ends) in
      ends_within s' (run_at s' i).left depth (length s'.runs) b (let d = depth_small in omega (arith, e, d)))
      (λ lo.
      let r = reach s lk i lo in
      let a = ends_after (Some i) (suc r.0) (λ j h. subst (λ m. m < length s.runs) (some_same h) lo) r.2 in
      walked i a.0 a.2 r.0 r.1 a.1)
      (new_or_old i lt)
    where
      walked : (i m : ℕ) → Ends s' (Some i) m → (k : ℕ) → k ≤ length s.runs → m ≤ suc (suc k) → is_some (offset s' i) ≡ true
      walked i zero h k le lf = not_zero s' i h
      walked i (suc m) h k le lf = let e = ins.long in ends_within s' (run_at s' i).left m (length s'.runs) (ends_back s' i m (run_at s' i).left refl h) (omega (arith, e, le, lf))

  -- the links agree afterwards
  left_after : (i j : ℕ) → i < length s'.runs → (run_at s' i).left ≡ Some j → (j < length s'.runs) × ((run_at s' j).right ≡ Some i) × ((run_at s' j).list ≡ (run_at s' i).list)
  left_after i j lt e =
      ⊎_elim
      (λ h.
      let pe : p ≡ Some j = sym ins.new_left ∙ ap (λ m. (run_at s' m).left) (sym h) ∙ e in
      let a = ins.place j pe in
      (old j a.0, ins.right_there j pe ∙ ap Some (sym h), ins.lists j a.0 ∙ a.1 ∙ sym ins.new_list ∙ ap (λ m. (run_at s' m).list) (sym h)))
      (λ lo.
      ⊎_elim
      (λ qe.
      let je : length s.runs ≡ j = some_same (sym (ins.left_there i qe) ∙ e) in
      let t = after i qe in
      (let n = ins.long in omega (arith, n, je), ap (λ m. (run_at s' m).right) (sym je) ∙ ins.new_right ∙ qe, ap (λ m. (run_at s' m).list) (sym je) ∙ ins.new_list ∙ sym t.2 ∙ sym (ins.lists i lo)))
      (λ ne.
      let f : (run_at s i).left ≡ Some j = sym (ins.left_else i lo ne) ∙ e in
      let t = lk.to_left i j lo f in
      let np : p ≡ Some j → ⊥ = λ pe. ne (ins.follower ∙ ap (next s l) pe ∙ t.1) in
      (old j t.0, ins.right_else j t.0 np ∙ t.1, ins.lists j t.0 ∙ t.2 ∙ sym (ins.lists i lo)))
      (dec q i))
      (new_or_old i lt)

  right_after : (i j : ℕ) → i < length s'.runs → (run_at s' i).right ≡ Some j → (j < length s'.runs) × ((run_at s' j).left ≡ Some i) × ((run_at s' j).list ≡ (run_at s' i).list)
  right_after i j lt e =
      ⊎_elim
      (λ h.
      let qe : q ≡ Some j = sym ins.new_right ∙ ap (λ m. (run_at s' m).right) (sym h) ∙ e in
      let t = after j qe in
      (old j t.0, ins.left_there j qe ∙ ap Some (sym h), ins.lists j t.0 ∙ t.2 ∙ sym ins.new_list ∙ ap (λ m. (run_at s' m).list) (sym h)))
      (λ lo.
      ⊎_elim
      (λ pe.
      let je : length s.runs ≡ j = some_same (sym (ins.right_there i pe) ∙ e) in
      let a = ins.place i pe in
      (let n = ins.long in omega (arith, n, je), ap (λ m. (run_at s' m).left) (sym je) ∙ ins.new_left ∙ pe, ap (λ m. (run_at s' m).list) (sym je) ∙ ins.new_list ∙ sym a.1 ∙ sym (ins.lists i lo)))
      (λ ne.
      let f : (run_at s i).right ≡ Some j = sym (ins.right_else i lo ne) ∙ e in
      let t = lk.to_right i j lo f in
      let nq : q ≡ Some j → ⊥ = λ qe. ne (here_left i j lo f qe) in
      (old j t.0, ins.left_else j t.0 nq ∙ t.1, ins.lists j t.0 ∙ t.2 ∙ sym (ins.lists i lo)))
      (dec p i))
      (new_or_old i lt)

  begins_after : (i k : ℕ) → i < length s'.runs → (run_at s' i).left ≡ None → (run_at s' i).list ≡ Some k → (list_at s' k).start ≡ Some i
  begins_after i k lt e f =
      ⊎_elim
      (λ h.
      let pe : p ≡ None = sym ins.new_left ∙ ap (λ m. (run_at s' m).left) (sym h) ∙ e in
      let ke : l ≡ k = some_same (sym ins.new_list ∙ ap (λ m. (run_at s' m).list) (sym h) ∙ f) in
      ap (λ m. (list_at s' m).start) (sym ke) ∙ ins.start_there pe ∙ ap Some (sym h))
      (λ lo.
      ⊎_elim
      (λ qe. no_some (sym e ∙ ins.left_there i qe))
      (λ ne.
      let b : (list_at s k).start ≡ Some i = lk.begins i k lo (sym (ins.left_else i lo ne) ∙ e) (sym (ins.lists i lo) ∙ f) in
      let no : (p ≡ None) × (k ≡ l) → ⊥ = λ h. ne (ins.follower ∙ ap (next s l) h.0 ∙ ap (λ m. (list_at s m).start) (sym h.1) ∙ b) in
      ins.start_else k no ∙ b)
      (dec q i))
      (new_or_old i lt)

  started : (k : ℕ) → ((p ≡ None) × (k ≡ l)) ⊎ ((p ≡ None) × (k ≡ l) → ⊥)
  started k = none p refl
    where
      none : (o : Option ℕ) → p ≡ o → ((p ≡ None) × (k ≡ l)) ⊎ ((p ≡ None) × (k ≡ l) → ⊥)
      none None e = ⊎_elim (λ h. inl (e, h)) (λ ne. inr (λ h. ne h.1)) (cases_eq k l)
      none (Some i) e = inr (λ h. no_some (sym h.0 ∙ e))

  start_after : (k i : ℕ) → k < length s'.lists → (list_at s' k).start ≡ Some i → (i < length s'.runs) × ((run_at s' i).left ≡ None) × ((run_at s' i).list ≡ Some k)
  start_after k i lt e =
      ⊎_elim
      (λ h.
      let ie : length s.runs ≡ i = some_same (sym (ins.start_there h.0) ∙ ap (λ m. (list_at s' m).start) (sym h.1) ∙ e) in
      (let n = ins.long in omega (arith, n, ie), ap (λ m. (run_at s' m).left) (sym ie) ∙ ins.new_left ∙ h.0, ap (λ m. (run_at s' m).list) (sym ie) ∙ ins.new_list ∙ ap Some (sym h.1)))
      (λ no.
      let f : (list_at s k).start ≡ Some i = sym (ins.start_else k no) ∙ e in
      let t = lk.start_of k i (started_below s k i f) f in
      let nq : q ≡ Some i → ⊥ = λ qe. no (sym (after i qe).1 ∙ t.1, some_same (sym t.2 ∙ (after i qe).2)) in
      (old i t.0, ins.left_else i t.0 nq ∙ t.1, ins.lists i t.0 ∙ t.2))
      (started k)

  pub linked_after : Linked s'
  linked_after = record { to_left = left_after; to_right = right_after; begins = begins_after; start_of = start_after; reached = still_reached }

  module _ (alike : (i : ℕ) → i < length s.runs → (p ≡ Some i → ⊥) → units_of s' (run_at s' i) ≡ units_of s (run_at s i)) where
    -- what stands left of p is as before
    left_same : (o : Option ℕ) (k : ℕ) → ((j : ℕ) → o ≡ Some j → j < length s.runs) → k < depth → Ends s o k → spell_left s' o k ≡ spell_left s o k
    unfolding Ends spell_left
    left_same None k w le h = refl
    left_same (Some j) zero w le h = absurd h
    left_same (Some j) (suc k) w le h =
        let lt = w j refl in
        let nq : q ≡ Some j → ⊥ = λ e. let d : suc k ≡ suc depth = depth_q j (suc k) e h in absurd (omega (arith, d, le)) in
        let np : p ≡ Some j → ⊥ = λ e. let d : suc k ≡ depth = ends_same s (Some j) (suc k) depth h (subst (λ (o : Option ℕ). Ends s o depth) e depth_ends) in absurd (omega (arith, d, le)) in
        let a : spell_left s' (run_at s' j).left k ≡ spell_left s (run_at s j).left k = ap (λ (o : Option ℕ). spell_left s' o k) (ins.left_else j lt nq) ∙ left_same (run_at s j).left k (λ i e. (lk.to_left j i lt e).0) (omega arith) h in
        ap (λ (us : List UnitOf). us ++ units_of s' (run_at s' j)) a ∙ ap (λ (us : List UnitOf). spell_left s (run_at s j).left k ++ us) (alike j lt np)

    up_to : (i k : ℕ) → p ≡ Some i → i < length s.runs → Ends s (Some i) k → k ≡ depth → (pre : List UnitOf) × (spell_left s (Some i) k ≡ pre ++ units_of s (run_at s i)) × (spell_left s' (Some i) k ≡ pre ++ units_of s' (run_at s' i))
    unfolding Ends spell_left
    up_to i zero e lt h d = absurd h
    up_to i (suc k) e lt h d =
        let nq : q ≡ Some i → ⊥ = λ qe. let c : suc k ≡ suc depth = depth_q i (suc k) qe h in absurd (omega (arith, c, d)) in
        let a : spell_left s' (run_at s' i).left k ≡ spell_left s (run_at s i).left k = ap (λ (o : Option ℕ). spell_left s' o k) (ins.left_else i lt nq) ∙ left_same (run_at s i).left k (λ j f. (lk.to_left i j lt f).0) (omega arith) h in
        (spell_left s (run_at s i).left k, refl, ap (λ (us : List UnitOf). us ++ units_of s' (run_at s' i)) a)

    -- p's units end what stands left of the new ones
    pub ends_in : (i : ℕ) → p ≡ Some i → (pre : List UnitOf) × (spell_left s p depth ≡ pre ++ units_of s (run_at s i)) × (spell_left s' p depth ≡ pre ++ units_of s' (run_at s' i))
    ends_in i e =
        let r = up_to i depth e (within_p i e) (subst (λ (o : Option ℕ). Ends s o depth) e depth_ends) refl in
        (r.0, ap (λ (o : Option ℕ). spell_left s o depth) e ∙ r.1, ap (λ (o : Option ℕ). spell_left s' o depth) e ∙ r.2)

    Beyond : ℕ → Type 0
    Beyond j = (j < length s.runs) × ((k : ℕ) × (depth < k) × Ends s (Some j) k)

    -- what stands right of p is as before
    pub right_same : (f : ℕ) → spell s' q f ≡ spell s q f
    unfolding Beyond
    right_same f =
        spell_same s s' Beyond
        (λ j b.
        let np : p ≡ Some j → ⊥ = λ e. let d : b.1.0 ≡ depth = ends_same s (Some j) b.1.0 depth b.1.2 (subst (λ (o : Option ℕ). Ends s o depth) e depth_ends) in let c = b.1.1 in absurd (omega (arith, d, c)) in
        (alike j b.0 np, ins.right_else j b.0 np))
        (λ j i b e. let t = lk.to_right j i b.0 e in (t.0, (suc b.1.0, (let c = b.1.1 in omega (arith, c)), ends_on s i b.1.0 (Some j) t.1 b.1.2)))
        q f
        (λ j e. let t = after j e in (t.0, (suc depth, omega arith, ends_on s j depth p t.1 depth_ends)))

    abbrev pub rest : List UnitOf
    rest = spell s q (suc (length s.runs) - depth)

    pub units_before : units_in s l ≡ spell_left s p depth ++ rest
    units_before =
        let d = depth_small in
        let e : suc (length s.runs) ≡ (suc (length s.runs) - depth) + depth = omega (arith, d) in
        ap (spell s (list_at s l).start) e ∙ split s lk l p depth (suc (length s.runs) - depth) ins.place depth_ends ∙ ap (λ (o : Option ℕ). spell_left s p depth ++ spell s o (suc (length s.runs) - depth)) (sym ins.follower)

    next_new : (o : Option ℕ) → p ≡ o → next s' l o ≡ Some (length s.runs)
    next_new None e = ins.start_there e
    next_new (Some i) e = ins.right_there i e

    pub units_after : units_in s' l ≡ spell_left s' p depth ++ (units_of s' (run_at s' (length s.runs)) ++ rest)
    units_after =
        let d = depth_small in
        let n = ins.long in
        let g : ℕ = suc (length s.runs) - depth in
        let e : suc (length s'.runs) ≡ suc g + depth = omega (arith, d, n) in
        let here : InList s' l p = λ i h. let a = ins.place i h in (old i a.0, ins.lists i a.0 ∙ a.1) in
        let there : Ends s' p depth = ends_before p depth within_p (omega arith) depth_ends in
        let new : spell s' (next s' l p) (suc g) ≡ units_of s' (run_at s' (length s.runs)) ++ rest =
        ap (λ (o : Option ℕ). spell s' o (suc g)) (next_new p refl)
        ∙ spell_step s' (length s.runs) g
        ∙ ap (λ (us : List UnitOf). units_of s' (run_at s' (length s.runs)) ++ us) (ap (λ (o : Option ℕ). spell s' o g) ins.new_right ∙ right_same g) in
        ap (spell s' (list_at s' l).start) e ∙ split s' linked_after l p depth (suc g) here there ∙ ap (λ (us : List UnitOf). spell_left s' p depth ++ us) new

    Other : ℕ → ℕ → Type 0
    Other k j = (j < length s.runs) × ((run_at s j).list ≡ Some k)

    -- other lists are as before
    pub units_other : (k : ℕ) → k ≢ l → k < length s.lists → units_in s' k ≡ units_in s k
    unfolding Other
    units_other k ne lt =
        let n = ins.long in
        let no : (p ≡ None) × (k ≡ l) → ⊥ = λ h. ne h.1 in
        let first : (j : ℕ) → (list_at s k).start ≡ Some j → (j < length s.runs) × ((run_at s j).left ≡ None) × ((run_at s j).list ≡ Some k) = λ j e. lk.start_of k j lt e in
        ap (λ (o : Option ℕ). spell s' o (suc (length s'.runs))) (ins.start_else k no)
        ∙ ap (λ m. spell s' (list_at s k).start (suc m)) n
        ∙ spell_same s s' (Other k)
        (λ j b. let np : p ≡ Some j → ⊥ = λ e. ne (some_same (sym b.1 ∙ (ins.place j e).1)) in (alike j b.0 np, ins.right_else j b.0 np))
        (λ j i b e. let t = lk.to_right j i b.0 e in (t.0, t.2 ∙ b.1))
        (list_at s k).start (suc (suc (length s.runs)))
        (λ j e. let t = first j e in (t.0, t.2))
        ∙ more_on s (suc (length s.runs)) (list_at s k).start (λ i e. let t = first i e in spell_more s lk (suc (length s.runs)) i 1 t.0 (ends_on s i 0 None t.1 (ends_none s)) (omega arith))
