-- Walks to the left and to the right, over tables whose links agree.
use Rattle.std.specs.Prelude.{◌≡◌, ℕ, zero, suc, ◌+◌, ◌<◌, ◌≤◌, List, [], ◌++◌, length, Some, None, Option, refl}
use Rattle.std.proofs.Common.{sym, ap, subst, ◌∙◌, append_assoc, arith, length-append}
use Rattle.std.proofs.lemmas.List.FromFn.{length-map-range_with_len}
use Rattle.block.specs.Units.{UnitOf}
use Rattle.store.specs.declared.records.RunRecord.{RunRecord}
use Rattle.store.specs.Records.{Store, run_at, list_at}
use Rattle.document.specs.Meaning.{unit_of, units_of, spell, plus, upto}
use Rattle.document.specs.Sound.{Linked}

no_some : {A : Type 0} {B : Type 0} (x : A) → ◌≡◌ {A = Option A} None (Some x) → B
no_some x h = cc

-- a walk that ended ends at the same number with more fuel
plus_some : (k : ℕ) (o : Option ℕ) (y : ℕ) → plus k o ≡ Some y → (x : ℕ) × (o ≡ Some x) × (y ≡ x + k)
plus_some k None y h = no_some y h
plus_some k (Some x) y h = (x, refl, cc)

pub upto_more : (d : Store) (o : Option ℕ) (f x : ℕ) → upto d o f ≡ Some x → upto d o (suc f) ≡ Some x
unfolding upto
upto_more d None f x h = h
upto_more d (Some j) zero x h = no_some x h
upto_more d (Some j) (suc f) x h =
    let s = plus_some (run_at d j).len (upto d (run_at d j).left f) x h in
    rw (upto_more d (run_at d j).left f s.0 s.1) (ap Some (sym s.2))

-- one step: what stands left of a run is what stands left of its left neighbour, and that neighbour
pub upto_step : (d : Store) (j : ℕ) (f y : ℕ) → upto d (Some j) f ≡ Some y → (x : ℕ) × (upto d (run_at d j).left f ≡ Some x) × (y ≡ x + (run_at d j).len)
unfolding upto
upto_step d j zero y h = no_some y h
upto_step d j (suc f) y h =
    let s = plus_some (run_at d j).len (upto d (run_at d j).left f) y h in
    (s.0, upto_more d (run_at d j).left f s.0 s.1, s.2)

pub length_units : (d : Store) (r : RunRecord) → length (units_of d r) ≡ r.len
length_units d r = length-map-range_with_len (unit_of d r) 0 r.len

-- a list's units, taken apart at a run: what stands before it, and the walk from it on
pub record Reach (d : Store) (N f p l x : ℕ) : Type 0 where
  pub fuel : ℕ
  pub before : List UnitOf
  pub enough : N ≤ fuel + f
  pub long : length before ≡ x
  pub spelled : spell d (list_at d l).start N ≡ before ++ spell d (Some p) fuel

step_on : (d : Store) (N f q p l x g : ℕ) (pre : List UnitOf) → (run_at d q).right ≡ Some p → suc f < N → N ≤ g + f → length pre ≡ x → spell d (list_at d l).start N ≡ pre ++ spell d (Some q) g → Reach d N (suc f) p l (x + (run_at d q).len)
unfolding spell
step_on d N f q p l x zero pre e lt en lo sp = absurd (omega arith)
step_on d N f q p l x (suc g) pre e lt en lo sp =
    let more : spell d (list_at d l).start N ≡ (pre ++ units_of d (run_at d q)) ++ spell d (Some p) g = sp ∙ rw e (sym (append_assoc pre (units_of d (run_at d q)) (spell d (Some p) g))) in
    record { fuel = g; before = pre ++ units_of d (run_at d q); enough = omega arith; long = length-append pre (units_of d (run_at d q)) ∙ simp (lo, length_units); spelled = more }

pub walked : (d : Store) → Linked d → (N : ℕ) (o : Option ℕ) (f p l x : ℕ) → p < length d.runs → (run_at d p).left ≡ o → (run_at d p).list ≡ Some l → upto d o f ≡ Some x → f < N → Reach d N f p l x
unfolding upto
walked d k N None f p l x lt e li h fu =
    let st : spell d (list_at d l).start N ≡ spell d (Some p) N = ap (λ (o : Option ℕ). spell d o N) (k.begins p l lt e li) in
    record { fuel = N; before = []; enough = omega arith; long = cc; spelled = st }
walked d k N (Some q) zero p l x lt e li h fu = no_some x h
walked d k N (Some q) (suc f) p l x lt e li h fu =
    let s = plus_some (run_at d q).len (upto d (run_at d q).left f) x h in
    let t = k.to_left p q lt e in
    let r = walked d k N (run_at d q).left f q l s.0 t.0 refl (t.2 ∙ li) s.1 (omega arith) in
    subst (Reach d N (suc f) p l) (sym s.2) (step_on d N f q p l s.0 r.fuel r.before t.1 fu r.enough r.long r.spelled)
