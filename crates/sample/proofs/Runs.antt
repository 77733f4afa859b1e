-- The sample's answers, run by run.
use Rattle.std.proofs.Common.{◌≡◌, ℕ, zero, suc, ◌+◌, ◌-◌, ◌<◌, List, [], ◌∷◌, ◌++◌, map, length, get_or, take, set, Some, Option, sym, refl, ap, ◌∙◌, subst, arith, length-drop}
use Rattle.std.proofs.lemmas.List.{take_more_set, map_push, map_more, get_or-drop}
use Rattle.block.specs.declared.slot.Slot.{Slot}
use Rattle.block.specs.Units.{Stretch, UnitOf, no_unit, unit_at}
use Rattle.block.specs.Values.{facet}
use Rattle.reader.specs.Answers.{Onward, Backward, Right, Left, valued, units_from}
use Rattle.sample.specs.declared.sample.Run.{Run}
use Rattle.sample.specs.declared.sample.Run.TheVariants.{Ab, Bold, Xy, Nest, C, Inner}
use Rattle.sample.specs.Sample.{sample, units_of, span, width, slot_for, shows}

abbrev pub places : Run → Option Stretch
places p = Some (span p)

-- neighbours
pub right_from : {p q : Run} (r : Option Run) → p ≡ q → Onward sample places (span q).list ((span q).from + (span q).count) r → Right sample places p r
right_from {p} {q} r e o =
    (λ n. absurd (let z : ◌≡◌ {A = ℕ} 0 1 = cc in omega arith), λ t s. let w : span q ≡ t = ap span (sym e) ∙ (cc) in subst (λ (x : Stretch). Onward sample places x.list (x.from + x.count) r) w o)

pub left_from : {p q : Run} (r : Option Run) → p ≡ q → Backward places (span q).list (span q).from r → Left sample places p r
left_from {p} {q} r e o =
    (λ n. absurd (let z : ◌≡◌ {A = ℕ} 0 1 = cc in omega arith), λ t s. let w : span q ≡ t = ap span (sym e) ∙ (cc) in subst (λ (x : Stretch). Backward places x.list x.from r) w o)

-- reads
pub width_is : (p : Run) (k : ℕ) → valued sample (places p) k ≡ width p - k
width_is Ab k = refl
width_is Bold k = omega arith
width_is Xy k = refl
width_is Nest k = refl
width_is C k = refl
width_is Inner k = refl

shown_at : (p : Run) (k : ℕ) → k < width p → shows (slot_for p k) ≡ Some (facet (unit_at sample (span p).list ((span p).from + k)))
shown_at Ab zero h = refl
shown_at Ab (suc zero) h = refl
shown_at Ab (suc (suc k)) h = absurd (omega arith)
shown_at Bold k h = absurd (omega arith)
shown_at Xy zero h = refl
shown_at Xy (suc zero) h = refl
shown_at Xy (suc (suc k)) h = absurd (omega arith)
shown_at Nest zero h = refl
shown_at Nest (suc k) h = absurd (omega arith)
shown_at C zero h = refl
shown_at C (suc k) h = absurd (omega arith)
shown_at Inner zero h = refl
shown_at Inner (suc k) h = absurd (omega arith)

inside : (p : Run) (k : ℕ) → k < width p → (span p).from + k < length (units_of (span p).list)
inside Ab k h = omega arith
inside Bold k h = omega arith
inside Xy k h = omega arith
inside Nest k h = omega arith
inside C k h = omega arith
inside Inner k h = omega arith

pub read_more : (p : Run) (offset i : ℕ) (xs : List Slot) (v : Slot) → v ≡ slot_for p (offset + i) → i < length xs → offset + i < width p → map shows (take i xs) ≡ map (λ u. Some (facet u)) (take i (units_from sample (places p) offset)) → map shows (take (i + 1) (set xs i v)) ≡ map (λ u. Some (facet u)) (take (i + 1) (units_from sample (places p) offset))
read_more p offset i xs v e h g inv =
    let us : List UnitOf = units_from sample (places p) offset in
    let long : i < length us = simp length-drop (omega (arith, inside p (offset + i) g)) in
    let here : get_or us i no_unit ≡ unit_at sample (span p).list ((span p).from + (offset + i)) = get_or-drop ((span p).from + offset) (units_of (span p).list) i no_unit ∙ ap (unit_at sample (span p).list) (omega arith) in
    let shown : shows v ≡ Some (facet (get_or us i no_unit)) = ap shows e ∙ shown_at p (offset + i) g ∙ sym (ap (λ (u : UnitOf). Some (facet u)) here) in
    ap (map shows) (take_more_set xs i v h) ∙ map_push shows (take i xs) v ∙ ap (λ ys. ys ++ (shows v ∷ [])) inv ∙ ap (λ y. map (λ u. Some (facet u)) (take i us) ++ (y ∷ [])) shown ∙ sym (map_more (λ u. Some (facet u)) us i no_unit long)
