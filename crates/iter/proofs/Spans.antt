-- A range has the units between its marks.
use Rattle.std.proofs.Common.{◌≡◌, ℕ, zero, suc, ◌+◌, ◌-◌, ◌<◌, ◌≤◌, Bool, true, false, ◌&&◌, eqb, ltb, leb, List, [], ◌∷◌, ◌++◌, Some, None, sym, refl, ap, ◌∙◌, subst, inl, inr, append-nil, arith}
use Rattle.std.proofs.lemmas.Bool.{cases_Bool, cases_lt, cond-true, cond-false, cond_both, and_parts, and_from, eqb-true, leb-true, ltb-true, ltb-false, eq-eqb, le-leb, lt-ltb, both_ways}
use Rattle.std.specs.Option.{option_map}
use Rattle.block.specs.declared.ids.Id.{Id}
use Rattle.block.specs.Lookup.{same_id}
use Rattle.reader.specs.declared.reader.Description.{Description}
use Rattle.sticky_index.specs.declared.index.Assoc.{Assoc}
use Rattle.sticky_index.specs.declared.index.Assoc.TheVariants.{Before, After}
use Rattle.sticky_index.specs.declared.index.IndexScope.{IndexScope}
use Rattle.sticky_index.specs.declared.index.IndexScope.TheVariants.{Relative, Nested, Root}
use Rattle.sticky_index.specs.declared.index.StickyIndex.{StickyIndex}
use Rattle.iter.specs.Bare.{Bare}
use Rattle.iter.specs.declared.state.RangeIterState.TheVariants.{Opened, InRange}
use Rattle.iter.specs.Cuts.{id_in}
use Rattle.iter.specs.Ranges.{Course, edge, met, first_in, put, part, over, broken, backwards, cut_at, cut, enter, course}
use Rattle.iter.specs.Between.{ids_from, run_ids, slice_ids, from_unit, up_to_unit, from_mark, up_to_mark, with_first, with_last, Between}

-- how far the unit with an id stands in a run, and whether it stands there
abbrev offset : Description → Id → ℕ
offset run id = id.clock - run.id.clock

abbrev has_unit : Description → Id → Bool
has_unit run id = eqb run.id.client id.client && (leb run.id.clock id.clock && ltb id.clock (run.id.clock + run.len))

module _ (run : Description) (id : Id) where
  abbrev here : ℕ → Bool
  here j = same_id (id_in run j) id

  -- what the tests say
  parts : has_unit run id ≡ true → (eqb run.id.client id.client ≡ true) × (run.id.clock ≤ id.clock) × (offset run id < run.len)
  parts h =
      let (a, b) = and_parts (eqb run.id.client id.client) (leb run.id.clock id.clock && ltb id.clock (run.id.clock + run.len)) h in
      let (c, d) = and_parts (leb run.id.clock id.clock) (ltb id.clock (run.id.clock + run.len)) b in
      let le = leb-true run.id.clock id.clock c in
      let lt = ltb-true id.clock (run.id.clock + run.len) d in
      (a, le, omega arith)

  here_parts : (j : ℕ) → here j ≡ true → (eqb run.id.client id.client ≡ true) × (run.id.clock + j ≡ id.clock)
  here_parts j h =
      let (a, b) = and_parts (eqb run.id.client id.client) (eqb (run.id.clock + j) id.clock) h in
      (a, eqb-true (run.id.clock + j) id.clock b)

  hit : has_unit run id ≡ true → here (offset run id) ≡ true
  hit h =
      let (a, le, lt) = parts h in
      and_from (eqb run.id.client id.client) (eqb (run.id.clock + offset run id) id.clock) a (eq-eqb (run.id.clock + offset run id) id.clock (omega arith))

  held : (j : ℕ) → j < run.len → here j ≡ true → has_unit run id ≡ true
  held j l h =
      let (a, e) = here_parts j h in
      and_from (eqb run.id.client id.client) (leb run.id.clock id.clock && ltb id.clock (run.id.clock + run.len)) a
      (and_from (leb run.id.clock id.clock) (ltb id.clock (run.id.clock + run.len)) (le-leb run.id.clock id.clock (omega arith)) (lt-ltb id.clock (run.id.clock + run.len) (omega arith)))

  only : (j : ℕ) → here j ≡ true → j ≡ offset run id
  only j h = let (a, e) = here_parts j h in omega arith

  -- the unit at offset k is the first, or the last
  first_is : (lean : Assoc) (k n : ℕ) (ys : List Id) (e : ℕ) → e ≡ k → with_first lean (id_in run k) (ids_from run (suc k) n ++ ys) ≡ ids_from run (edge lean e) ((k + suc n) - edge lean e) ++ ys
  first_is Before k n ys e same =
      let many : suc n ≡ (k + suc n) - e = omega arith in
      ap (λ (j : ℕ). ids_from run k j ++ ys) many ∙ ap (λ (j : ℕ). ids_from run j ((k + suc n) - e) ++ ys) (sym same)
  first_is After k n ys e same =
      let many : n ≡ (k + suc n) - (e + 1) = omega arith in
      let next : suc k ≡ e + 1 = omega arith in
      ap (λ (j : ℕ). ids_from run (suc k) j ++ ys) many ∙ ap (λ (j : ℕ). ids_from run j ((k + suc n) - (e + 1)) ++ ys) next

  last_is : (lean : Assoc) (k e : ℕ) → e ≡ k → with_last lean (id_in run k) ≡ ids_from run k (edge lean e - k)
  last_is Before k e same = let none : 0 ≡ e - k = omega arith in ap (ids_from run k) none
  last_is After k e same = let one : 1 ≡ (e + 1) - k = omega arith in ap (ids_from run k) one

  edge_more : (lean : Assoc) (k e : ℕ) → k < e → suc (edge lean e - suc k) ≡ edge lean e - k
  edge_more Before k e h = omega arith
  edge_more After k e h = omega arith

  miss : (j : ℕ) → (here j ≡ true → ⊥) → here j ≡ false
  miss j h = elim (cases_Bool (here j)) [ inl t ↦ absurd (h t) | inr f ↦ f ]

  -- the run has no such unit
  pub from_past : (lean : Assoc) (k n : ℕ) (ys : List Id) → has_unit run id ≡ false → k + n ≤ run.len → from_unit lean id (ids_from run k n ++ ys) ≡ from_unit lean id ys
  from_past lean k zero ys h l = refl
  from_past lean k (suc n) ys h l =
      cond-false (here k) _ _ (miss k (λ t. both_ways (has_unit run id) h (held k (omega arith) t))) ∙ from_past lean (suc k) n ys h (omega arith)

  pub up_to_past : (lean : Assoc) (k n : ℕ) (ys : List Id) → has_unit run id ≡ false → k + n ≤ run.len → up_to_unit lean id (ids_from run k n ++ ys) ≡ ids_from run k n ++ up_to_unit lean id ys
  up_to_past lean k zero ys h l = refl
  up_to_past lean k (suc n) ys h l =
      cond-false (here k) _ _ (miss k (λ t. both_ways (has_unit run id) h (held k (omega arith) t))) ∙ ap (λ (xs : List Id). id_in run k ∷ xs) (up_to_past lean (suc k) n ys h (omega arith))

  -- the run has it, at or after offset k
  pub from_there : (lean : Assoc) (k n : ℕ) (ys : List Id) → has_unit run id ≡ true → k ≤ offset run id → offset run id < k + n → from_unit lean id (ids_from run k n ++ ys) ≡ ids_from run (edge lean (offset run id)) ((k + n) - edge lean (offset run id)) ++ ys
  from_there lean k zero ys h le lt = absurd (omega arith)
  from_there lean k (suc n) ys h le lt =
      elim (cases_lt k (offset run id)) [
        | inl before ↦
            (cond-false (here k) _ _ (miss k (λ t. let e = only k t in omega arith))
            ∙ from_there lean (suc k) n ys h (omega arith) (omega arith)
            ∙ ap (λ (j : ℕ). ids_from run (edge lean (offset run id)) (j - edge lean (offset run id)) ++ ys) (let e : suc k + n ≡ k + suc n = omega arith in e))
        | inr at ↦
            (let same : offset run id ≡ k = omega arith in
            cond-true (here k) _ _ (subst (λ (j : ℕ). here j ≡ true) same (hit h)) ∙ first_is lean k n ys (offset run id) same)
      ]

  pub up_to_there : (lean : Assoc) (k n : ℕ) (ys : List Id) → has_unit run id ≡ true → k ≤ offset run id → offset run id < k + n → up_to_unit lean id (ids_from run k n ++ ys) ≡ ids_from run k (edge lean (offset run id) - k)
  up_to_there lean k zero ys h le lt = absurd (omega arith)
  up_to_there lean k (suc n) ys h le lt =
      elim (cases_lt k (offset run id)) [
        | inl before ↦
            (cond-false (here k) _ _ (miss k (λ t. let e = only k t in omega arith))
            ∙ ap (λ (xs : List Id). id_in run k ∷ xs) (up_to_there lean (suc k) n ys h (omega arith) (omega arith))
            ∙ ap (ids_from run k) (edge_more lean k (offset run id) before))
        | inr at ↦
            (let same : offset run id ≡ k = omega arith in
            cond-true (here k) _ _ (subst (λ (j : ℕ). here j ≡ true) same (hit h)) ∙ last_is lean k (offset run id) same)
      ]

none_up_to : (lean : Assoc) (scope : IndexScope) → [] ≡ up_to_mark lean scope []
none_up_to lean (Relative id) = refl
none_up_to lean (Nested id) = refl
none_up_to lean (Root l) = refl

none_from : (lean : Assoc) (scope : IndexScope) → [] ≡ from_mark lean scope []
none_from lean (Relative id) = refl
none_from lean (Nested id) = refl
none_from lean (Root l) = refl

edge_fits : (lean : Assoc) (e n : ℕ) → e < n → edge lean e ≤ n
edge_fits Before e n h = omega arith
edge_fits After e n h = omega arith

abbrev up_to : StickyIndex → List Id → List Id
up_to end xs = up_to_mark end.assoc end.scope xs

module _ {P : Type 0} where
  part_ids : (w : Bare P) (k z : ℕ) (later : Course P) → ((part w k z later).fault ≡ later.fault) × (slice_ids (part w k z later).slices ≡ ids_from w.about k (z - k) ++ slice_ids later.slices)
  part_ids w k z later =
      cond_both (ltb k z) (put (record { place = w.place; run = w.about; start = k; end = z - 1 }) later) later (λ c. (c.fault ≡ later.fault) × (slice_ids c.slices ≡ ids_from w.about k (z - k) ++ slice_ids later.slices))
      (λ e.
      let lt = ltb-true k z e in
      let many : ((z - 1) + 1) - k ≡ z - k = omega arith in
      (refl, ap (λ (n : ℕ). ids_from w.about k n ++ slice_ids later.slices) many))
      (λ e.
      let le = ltb-false k z e in
      let none : 0 ≡ z - k = omega arith in
      (refl, ap (λ (n : ℕ). ids_from w.about k n ++ slice_ids later.slices) none))

  -- the units up to the end, from offset k of a run on, where `rest` are the units of the runs after it
  module _ (w : Bare P) (k : ℕ) (fits : k ≤ w.about.len) (later : Course P) (rest : List Id) where
    abbrev EndsAt : Assoc → IndexScope → Course P → Type 0
    EndsAt lean scope c = c.fault ≡ None → slice_ids c.slices ≡ up_to_mark lean scope (ids_from w.about k (w.about.len - k) ++ rest)

    cut_met : (lean : Assoc) (id : Id) → has_unit w.about id ≡ true → EndsAt lean (Relative id) (cut_at w k lean (Some (id, offset w.about id)) later)
    cut_met lean id h =
        cond_both (ltb (offset w.about id) k) (broken (backwards id)) (part w k (edge lean (offset w.about id)) over) (λ c. EndsAt lean (Relative id) c)
        (λ e f. let z : ◌≡◌ {A = ℕ} 0 1 = cc in absurd (omega arith))
        (λ e f.
        let le = ltb-false (offset w.about id) k e in
        let (a, b, lt) = parts w.about id h in
        (part_ids w k (edge lean (offset w.about id)) over).1 ∙ append-nil (ids_from w.about k (edge lean (offset w.about id) - k))
        ∙ sym (up_to_there w.about id lean k (w.about.len - k) rest h le (omega arith)))

    cut_past : (lean : Assoc) (scope : IndexScope) → (later.fault ≡ None → slice_ids later.slices ≡ up_to_mark lean scope rest) → up_to_mark lean scope (ids_from w.about k (w.about.len - k) ++ rest) ≡ ids_from w.about k (w.about.len - k) ++ up_to_mark lean scope rest → EndsAt lean scope (cut_at w k lean None later)
    cut_past lean scope ih past f =
        let (fault, ids) = part_ids w k w.about.len later in
        ids ∙ ap (λ (xs : List Id). ids_from w.about k (w.about.len - k) ++ xs) (ih (sym fault ∙ f)) ∙ sym past

    pub cut_ids : (lean : Assoc) (scope : IndexScope) → (later.fault ≡ None → slice_ids later.slices ≡ up_to_mark lean scope rest) → EndsAt lean scope (cut_at w k lean (met w.about scope) later)
    cut_ids lean (Relative id) ih =
        cond_both (has_unit w.about id) (Some (offset w.about id)) None (λ o. EndsAt lean (Relative id) (cut_at w k lean (option_map (λ at. (id, at)) o) later)) (λ h. cut_met lean id h) (λ h. cut_past lean (Relative id) ih (up_to_past w.about id lean k (w.about.len - k) rest h (omega arith)))
    cut_ids lean (Nested id) ih = cut_past lean (Nested id) ih refl
    cut_ids lean (Root l) ih = cut_past lean (Root l) ih refl

  whole : (w : Bare P) (ws : List (Bare P)) → run_ids (w ∷ ws) ≡ ids_from w.about 0 (w.about.len - 0) ++ run_ids ws
  whole w ws = let e : w.about.len ≡ w.about.len - 0 = omega arith in ap (λ (n : ℕ). ids_from w.about 0 n ++ run_ids ws) e

  module _ (start end : StickyIndex) where
    -- between the marks: the units up to the end
    pub inside_ids : (ws : List (Bare P)) → (course InRange start end ws).fault ≡ None → slice_ids (course InRange start end ws).slices ≡ up_to end (run_ids ws)
    inside_ids [] f = none_up_to end.assoc end.scope
    inside_ids (w ∷ ws) f = cut_ids w 0 (omega arith) (course InRange start end ws) (run_ids ws) end.assoc end.scope (inside_ids ws) f ∙ ap (up_to end) (sym (whole w ws))

    -- the range starts at an offset of a run
    entered : (w : Bare P) (ws : List (Bare P)) (k : ℕ) (xs : List Id) → k ≤ w.about.len → xs ≡ ids_from w.about k (w.about.len - k) ++ run_ids ws → (cut w k end (course InRange start end ws)).fault ≡ None → slice_ids (cut w k end (course InRange start end ws)).slices ≡ up_to end xs
    entered w ws k xs fits is f =
        cut_ids w k fits (course InRange start end ws) (run_ids ws) end.assoc end.scope (inside_ids ws) f ∙ ap (up_to end) (sym is)

    -- what comes of a run before the range has started, where `passed` comes of the runs after it
    enter_ids : (w : Bare P) (ws : List (Bare P)) (passed : Course P) (lean : Assoc) (scope : IndexScope) → (passed.fault ≡ None → slice_ids passed.slices ≡ up_to end (from_mark lean scope (run_ids ws))) → (enter (first_in w.about lean scope) w end passed (course InRange start end ws)).fault ≡ None → slice_ids (enter (first_in w.about lean scope) w end passed (course InRange start end ws)).slices ≡ up_to end (from_mark lean scope (run_ids (w ∷ ws)))
    enter_ids w ws passed lean (Relative id) ih =
        cond_both (has_unit w.about id) (Some (offset w.about id)) None (λ o. (enter (option_map (edge lean) o) w end passed (course InRange start end ws)).fault ≡ None → slice_ids (enter (option_map (edge lean) o) w end passed (course InRange start end ws)).slices ≡ up_to end (from_unit lean id (run_ids (w ∷ ws))))
        (λ h.
        let (a, b, lt) = parts w.about id h in
        let none : 0 + w.about.len ≡ w.about.len = omega arith in
        entered w ws (edge lean (offset w.about id)) (from_unit lean id (run_ids (w ∷ ws))) (edge_fits lean (offset w.about id) w.about.len lt)
        (from_there w.about id lean 0 w.about.len (run_ids ws) h (omega arith) (omega arith) ∙ ap (λ (n : ℕ). ids_from w.about (edge lean (offset w.about id)) (n - edge lean (offset w.about id)) ++ run_ids ws) none))
        (λ h f. ih f ∙ ap (up_to end) (sym (from_past w.about id lean 0 w.about.len (run_ids ws) h (omega arith))))
    enter_ids w ws passed lean (Nested id) ih = entered w ws 0 (run_ids (w ∷ ws)) (omega arith) (whole w ws)
    enter_ids w ws passed lean (Root l) ih = entered w ws 0 (run_ids (w ∷ ws)) (omega arith) (whole w ws)

    pub opened_ids : (ws : List (Bare P)) → Between start end ws (course Opened start end ws)
    opened_ids [] f = none_up_to end.assoc end.scope ∙ ap (up_to end) (none_from start.assoc start.scope)
    opened_ids (w ∷ ws) f = enter_ids w ws (course Opened start end ws) start.assoc start.scope (opened_ids ws) f
