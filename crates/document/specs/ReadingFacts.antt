-- What the runs of a sound document say of its meaning.
use Rattle.std.specs.Prelude.{◌≡◌, ℕ, zero, suc, ◌+◌, ◌-◌, ◌<◌, ◌≤◌, true, List, [], ◌++◌, length, get_or, is_some, Some, None, Option, slice_index_or, refl}
use Rattle.std.proofs.Math.Path.{sym, ap}
use Rattle.std.proofs.Common.{subst, ◌∙◌, add-zero, arith, length-append}
use Rattle.std.proofs.lemmas.List.FromFn.{get_or-map-range_with_len}
use Rattle.std.proofs.lemmas.List.{get_or-append_right, get_or_append_left, get_or_past}
use Rattle.block.specs.Units.{UnitOf, Stretch, Meaning, no_unit}
use Rattle.block.specs.declared.kind.Kind.{Kind}
use Rattle.reader.specs.Answers.{Onward, Backward, Right, Left, Described, described}
use Rattle.reader.specs.declared.reader.Description.{Description}
use Rattle.store.specs.declared.records.RunRecord.{RunRecord}
use Rattle.store.specs.Kinds.{kind_of}
use Rattle.store.specs.Records.{Store, run_at, list_at, no_run}
use Rattle.document.specs.Meaning.{unit_of, units_of, spell, units_in, meaning_of, upto, offset, stretched, stretch_of}
use Rattle.document.specs.Sound.{Linked, Sound}
use Rattle.document.specs.WalkFacts.{upto_step, walked, length_units}

no_some : {A : Type 0} {B : Type 0} (x : A) → ◌≡◌ {A = Option A} None (Some x) → B
no_some x h = cc

pub some_is : (o : Option ℕ) → is_some o ≡ true → (x : ℕ) × (o ≡ Some x)
some_is None h = cc
some_is (Some x) h = (x, refl)

abbrev pub span : ℕ → ℕ → ℕ → Stretch
span l x n = record { list = l; from = x; count = n }

pub record StretchedIs (a b : Option ℕ) (n : ℕ) (t : Stretch) : Type 0 where
  pub l : ℕ
  pub x : ℕ
  pub list : a ≡ Some l
  pub from : b ≡ Some x
  pub is : t ≡ span l x n

pub stretched_is : (a b : Option ℕ) (n : ℕ) (t : Stretch) → stretched a b n ≡ Some t → StretchedIs a b n t
stretched_is (Some l) (Some x) n t h = record { l = l; x = x; list = refl; from = refl; is = cc }
stretched_is (Some l) None n t h = no_some t h
stretched_is None b n t h = no_some t h

pub stretched_some : (a b : Option ℕ) (n l x : ℕ) → a ≡ Some l → b ≡ Some x → stretched a b n ≡ Some (span l x n)
stretched_some a b n l x e f = rw (e, f) refl

pub stretched_none : (a b : Option ℕ) (n : ℕ) → stretched a b n ≡ None → is_some b ≡ true → a ≡ None
stretched_none None b n h s = refl
stretched_none (Some l) None n h s = cc
stretched_none (Some l) (Some x) n h s = cc

pub stretch_past : (d : Store) (p : ℕ) → length d.runs ≤ p → stretch_of d p ≡ None
stretch_past d p h =
    let e : run_at d p ≡ no_run = get_or_past d.runs p no_run h in
    let g : (r : RunRecord) → r ≡ no_run → stretched r.list (upto d r.left (length d.runs)) r.len ≡ None = λ r q. rw q refl in
    g (run_at d p) e

pub no_stretch : (d : Store) (p : ℕ) (t : Stretch) {B : Type 0} → length d.runs ≤ p → stretch_of d p ≡ Some t → B
no_stretch d p t h e = no_some t (sym (stretch_past d p h) ∙ e)

-- a list's units around a run
pub record Around (d : Store) (p l x : ℕ) : Type 0 where
  pub before : List UnitOf
  pub fuel : ℕ
  pub long : length before ≡ x
  pub spelled : units_in d l ≡ before ++ (units_of d (run_at d p) ++ spell d (run_at d p).right fuel)

around_reach : (d : Store) (p l x : ℕ) (g : ℕ) (pre : List UnitOf) → suc (length d.runs) ≤ g + length d.runs → length pre ≡ x → spell d (list_at d l).start (suc (length d.runs)) ≡ pre ++ spell d (Some p) g → Around d p l x
unfolding spell
around_reach d p l x zero pre en lo sp = absurd (omega arith)
around_reach d p l x (suc g) pre en lo sp = record { before = pre; fuel = g; long = lo; spelled = sp }

pub around : (d : Store) → Linked d → (p l x : ℕ) → p < length d.runs → (run_at d p).list ≡ Some l → offset d p ≡ Some x → Around d p l x
around d k p l x lt li h =
    let r = walked d k (suc (length d.runs)) (run_at d p).left (length d.runs) p l x lt refl li h (omega arith) in
    around_reach d p l x r.fuel r.before r.enough r.long r.spelled

-- the unit k of a run, in its list
pub unit_in : (d : Store) (p l x k : ℕ) → Around d p l x → k < (run_at d p).len → slice_index_or (units_in d l) (x + k) no_unit ≡ unit_of d (run_at d p) k
unit_in d p l x k a lt =
    let post : List UnitOf = spell d (run_at d p).right a.fuel in
    let e : (x + k) - x ≡ k = omega arith in
    let long : k < length (units_of d (run_at d p)) = rw length_units lt in
    ap (λ (us : List UnitOf). get_or us (x + k) no_unit) a.spelled
    ∙ get_or-append_right a.before (units_of d (run_at d p) ++ post) x (x + k) no_unit a.long (omega arith)
    ∙ ap (λ i. get_or (units_of d (run_at d p) ++ post) i no_unit) e
    ∙ get_or_append_left (units_of d (run_at d p)) post no_unit k long
    ∙ get_or-map-range_with_len (unit_of d (run_at d p)) 0 (run_at d p).len k k no_unit lt (omega arith)

module _ (d : Store) (s : Sound d) where
  -- right
  right_at : (p l x : ℕ) → p < length d.runs → (run_at d p).list ≡ Some l → offset d p ≡ Some x → (o : Option ℕ) → (run_at d p).right ≡ o → Onward (meaning_of d) (stretch_of d) l (x + (run_at d p).len) o
  unfolding spell
  right_at p l x lt li h None e =
      let a = around d s.links p l x lt li h in
      let sp : units_in d l ≡ a.before ++ (units_of d (run_at d p) ++ []) = a.spelled ∙ ap (λ (o : Option ℕ). a.before ++ (units_of d (run_at d p) ++ spell d o a.fuel)) e in
      sym (ap length sp ∙ simp (length-append, a.long, length_units) (omega arith))
  right_at p l x lt li h (Some q) e =
      let t = s.links.to_right p q lt e in
      let y = some_is (offset d q) (s.links.reached q t.0) in
      let u : upto d (Some p) (length d.runs) ≡ Some y.0 = ap (λ (o : Option ℕ). upto d o (length d.runs)) (sym t.1) ∙ y.1 in
      let v = upto_step d p (length d.runs) y.0 u in
      let same : v.0 ≡ x = cc in
      ((run_at d q).len, stretched_some (run_at d q).list (offset d q) (run_at d q).len l (x + (run_at d p).len) (t.2 ∙ li) (y.1 ∙ ap Some (v.2 ∙ ap (λ n. n + (run_at d p).len) same)))

  left_at : (p l x : ℕ) → p < length d.runs → (run_at d p).list ≡ Some l → offset d p ≡ Some x → (o : Option ℕ) → (run_at d p).left ≡ o → Backward (stretch_of d) l x o
  unfolding upto
  left_at p l x lt li h None e = let z : Some 0 ≡ Some x = sym (ap (λ (o : Option ℕ). upto d o (length d.runs)) e) ∙ h in cc
  left_at p l x lt li h (Some q) e =
      let t = s.links.to_left p q lt e in
      let u : upto d (Some q) (length d.runs) ≡ Some x = ap (λ (o : Option ℕ). upto d o (length d.runs)) (sym e) ∙ h in
      let v = upto_step d q (length d.runs) x u in
      (v.0, (run_at d q).len, stretched_some (run_at d q).list (offset d q) (run_at d q).len l v.0 (t.2 ∙ li) v.1, sym v.2)

  pub right_is : (p : ℕ) → p < length d.runs → Right (meaning_of d) (stretch_of d) p (run_at d p).right
  right_is p lt = (
    (λ h. (s.apart p lt (stretched_none (run_at d p).list (offset d p) (run_at d p).len h (s.links.reached p lt))).1),
    (λ t h. let i = stretched_is (run_at d p).list (offset d p) (run_at d p).len t h in subst (λ (t : Stretch). Onward (meaning_of d) (stretch_of d) t.list (t.from + t.count) (run_at d p).right) (sym i.is) (right_at p i.l i.x lt i.list i.from (run_at d p).right refl)),
  )

  pub left_is : (p : ℕ) → p < length d.runs → Left (meaning_of d) (stretch_of d) p (run_at d p).left
  left_is p lt = (
    (λ h. (s.apart p lt (stretched_none (run_at d p).list (offset d p) (run_at d p).len h (s.links.reached p lt))).0),
    (λ t h. let i = stretched_is (run_at d p).list (offset d p) (run_at d p).len t h in subst (λ (t : Stretch). Backward (stretch_of d) t.list t.from (run_at d p).left) (sym i.is) (left_at p i.l i.x lt i.list i.from (run_at d p).left refl)),
  )

  -- what is said of a unit
  abbrev said : UnitOf → ℕ → ℕ → Description
  said u n l = record { id = u.id; len = n; kind = u.kind; live = u.live; list = l; redone = u.redone }

  pub first_unit : (p l x : ℕ) → p < length d.runs → (run_at d p).list ≡ Some l → offset d p ≡ Some x → slice_index_or (units_in d l) x no_unit ≡ unit_of d (run_at d p) 0
  first_unit p l x lt li h =
      subst (λ i. slice_index_or (units_in d l) i no_unit ≡ unit_of d (run_at d p) 0) (add-zero x) (unit_in d p l x 0 (around d s.links p l x lt li h) (s.some p lt))

  pub described_is : (p l : ℕ) (k : Kind) → p < length d.runs → (run_at d p).list ≡ Some l → k ≡ kind_of (run_at d p).kind → Described (meaning_of d) (stretch_of d p) (Some (record { id = (run_at d p).id; len = (run_at d p).len; kind = k; live = (run_at d p).live; list = l; redone = (run_at d p).redone }))
  described_is p l k lt li ek =
      let y = some_is (offset d p) (s.links.reached p lt) in
      let r : RunRecord = run_at d p in
      let e = stretched_some r.list (offset d p) r.len l y.0 li y.1 in
      let said_at : Kind → Description = λ k. record { id = r.id; len = r.len; kind = k; live = r.live; list = l; redone = r.redone } in
      let f : said_at (kind_of r.kind) ≡ said (unit_of d r 0) r.len l = ap (λ k. record { id = record { client = r.id.client; clock = k }; len = r.len; kind = kind_of r.kind; live = r.live; list = l; redone = r.redone }) (sym (add-zero r.id.clock)) in
      let g : said (unit_of d r 0) r.len l ≡ described (meaning_of d) (span l y.0 r.len) = ap (λ (u : UnitOf). said u r.len l) (sym (first_unit p l y.0 lt li y.1)) in
      subst (λ (o : Option Stretch). Described (meaning_of d) o (Some (said_at k))) (sym e) (ap Some (ap said_at ek ∙ f ∙ g))

pub described_past : (d : Store) (m : Meaning) (p : ℕ) → length d.runs ≤ p → Described m (stretch_of d p) None
described_past d m p h = subst (λ (o : Option Stretch). Described m o None) (sym (stretch_past d p h)) refl

pub described_none : (d : Store) (m : Meaning) (p : ℕ) → (run_at d p).list ≡ None → Described m (stretch_of d p) None
described_none d m p e =
    let f : stretch_of d p ≡ None = ap (λ (o : Option ℕ). stretched o (offset d p) (run_at d p).len) e in
    subst (λ (o : Option Stretch). Described m o None) (sym f) refl
