-- Filled slots are what a reader is to give.
use Rattle.std.proofs.Common.{◌≡◌, ℕ, ◌+◌, ◌-◌, ◌<◌, ◌≤◌, min, Bool, true, false, cond, List, [], ◌++◌, map, length, get_or, take, drop, is_some, Some, None, Option, sym, refl, ap, ◌∙◌, subst, inl, inr, ⊎_elim, arith}
use Rattle.std.proofs.lemmas.List.{ext_get_or, length-map, get_or-map, length-take-le, get_or-take, get_or-drop, length-drop, length-append, drop_at, get_or_append_left, get_or_past}
use Rattle.std.proofs.lemmas.Bool.{false≢true, cases_Bool, cases_lt, cond-true, cond-false}
use Rattle.block.specs.Kinds.{is_counted}
use Rattle.block.specs.Units.{UnitOf, Stretch, Worth, no_unit, unit_at}
use Rattle.block.specs.Values.{facet}
use Rattle.block.specs.declared.kind.Kind.{Kind}
use Rattle.block.specs.declared.kind.Kind.TheVariants as kinds
use Rattle.block.specs.declared.slot.Slot.{Slot}
use Rattle.block.specs.declared.slot.Slot.TheVariants.{Empty}
use Rattle.reader.specs.Answers.{Reads}
use Rattle.store.specs.declared.records.RunRecord.{RunRecord}
use Rattle.store.specs.Kinds.{kind_of, stands_apart}
use Rattle.store.specs.Records.{Store, run_at, no_run}
use Rattle.document.specs.LawFacts.{placed}
use Rattle.document.specs.LengthFacts.{Stands, near, long_U}
use Rattle.document.specs.Meaning.{unit_of, units_in, meaning_of, offset, stretch_of}
use Rattle.document.specs.PassingFacts.{Passing}
use Rattle.document.specs.ReadingFacts.{span, unit_in, first_unit, stretched_is, stretched_none}
use Rattle.document.specs.Slots.{shown_in, slot_of, count_from, Filled}
use Rattle.document.specs.Sound.{Sound}
use Rattle.document.specs.SoundFacts.{fits, sound}
use Rattle.document.proofs.Shown.{shown_unit}

abbrev facets : UnitOf → Option (Kind × Worth)
facets u = Some (facet u)

-- two lists that agree on their first elements
same_front : {X : Type 0} {Y : Type 0} {Z : Type 0} (f : X → Z) (g : Y → Z) (xs : List X) (ys : List Y) (n : ℕ) (dx : X) (dy : Y) → n ≤ length xs → n ≤ length ys → ((k : ℕ) → k < n → f (get_or xs k dx) ≡ g (get_or ys k dy)) → map f (take n xs) ≡ map g (take n ys)
same_front f g xs ys n dx dy hx hy h =
    let lx : length (take n xs) ≡ n = length-take-le n xs hx in
    let ly : length (take n ys) ≡ n = length-take-le n ys hy in
    let a : length (map f (take n xs)) ≡ n = length-map (take n xs) f ∙ lx in
    let b : length (map g (take n ys)) ≡ n = length-map (take n ys) g ∙ ly in
    ext_get_or (f dx) (map f (take n xs)) (map g (take n ys)) (a ∙ sym b)
    (λ k lt.
    let kn : k < n = omega (arith, a, lt) in
    get_or-map f (take n xs) k dx (f dx) (omega (arith, lx, kn)) ∙ ap f (get_or-take n xs k dx kn) ∙ h k kn ∙ sym (ap g (get_or-take n ys k dy kn)) ∙ sym (get_or-map g (take n ys) k dy (f dx) (omega (arith, ly, kn))))

apart_uncounted : (k : Kind) → stands_apart k ≡ true → is_counted k ≡ false
apart_uncounted kinds.Gc h = refl
apart_uncounted kinds.Deleted h = refl
apart_uncounted kinds.Json h = absurd (false≢true h)
apart_uncounted kinds.Binary h = absurd (false≢true h)
apart_uncounted kinds.Text h = absurd (false≢true h)
apart_uncounted kinds.Embed h = absurd (false≢true h)
apart_uncounted kinds.Format h = refl
apart_uncounted kinds.List h = absurd (false≢true h)
apart_uncounted kinds.Any h = absurd (false≢true h)
apart_uncounted kinds.Doc h = absurd (false≢true h)
apart_uncounted kinds.Skip h = refl

unlisted : (a : Bool) (x : Bool) (l : Option ℕ) → cond a x (is_some l) ≡ true → l ≡ None → a ≡ true
unlisted true x l h e = refl
unlisted false x l h e = absurd (false≢true (sym (ap is_some e) ∙ h))

module _ (d : Store) (ps : Passing d) (p off n : ℕ) (before part : List Slot) (full : n ≡ count_from (run_at d p) off (length before)) (done : Filled (λ k. slot_of d (kind_of (run_at d p).kind) (run_at d p) (off + k)) (take n before) part) where
  abbrev after : List Slot
  after = part ++ drop n before

  enough : length (take n before) ≡ n
  enough = length-take-le n before (omega (arith, full))

  rest : drop n after ≡ drop n before
  rest = drop_at part (drop n before) n (done.long ∙ enough)

  abbrev sd : Sound d
  sd = sound d ps

  -- a run of a kind that is not counted has no values
  nothing : is_counted (kind_of (run_at d p).kind) ≡ false → n ≡ 0
  nothing f =
      let e : cond (is_counted (kind_of (run_at d p).kind)) ((run_at d p).len - off) 0 ≡ 0 = cond-false _ _ _ f in
      omega (arith, full, e)

  no_values : (us : List UnitOf) → n ≡ 0 → map (shown_in d) (take n after) ≡ map facets (take n us)
  no_values us e = ap (λ (m : ℕ). map (shown_in d) (take m after)) e ∙ sym (ap (λ (m : ℕ). map facets (take m us)) e)

  -- no run here, or one that is in no list
  foreign : stretch_of d p ≡ None → is_counted (kind_of (run_at d p).kind) ≡ false
  foreign h =
      elim (cases_lt p (length d.runs)) [
        | inl lt ↦ apart_uncounted (kind_of (run_at d p).kind) (unlisted _ _ (run_at d p).list (fits d ps p lt).placed (stretched_none (run_at d p).list (offset d p) (run_at d p).len h (sd.links.reached p lt)))
        | inr ge ↦ ap (λ (r : RunRecord). is_counted (kind_of r.kind)) (get_or_past d.runs p no_run ge)
      ]

  module _ (l x : ℕ) (st : Stands d sd l p x) where
    unit_there : (j : ℕ) → j < (run_at d p).len → get_or (units_in d l) (x + j) no_unit ≡ unit_of d (run_at d p) j
    unit_there j lt = unit_in d p l x j (near d sd l p x st) lt

    counted_values : is_counted (kind_of (run_at d p).kind) ≡ true → map (shown_in d) (take n after) ≡ map facets (take n (drop (x + off) (units_in d l)))
    counted_values t =
        let e : cond (is_counted (kind_of (run_at d p).kind)) ((run_at d p).len - off) 0 ≡ (run_at d p).len - off = cond-true _ _ _ t in
        let u = long_U d sd l p x st in
        let q = length-drop (x + off) (units_in d l) in
        let long : n ≤ length after = omega (arith, done.long, enough, length-append part (drop n before)) in
        same_front (shown_in d) facets after (drop (x + off) (units_in d l)) n Empty no_unit long (omega (arith, full, e, u, q))
        (λ k lt.
        let inner : off + k < (run_at d p).len = omega (arith, full, e, lt) in
        let y : (x + off) + k ≡ x + (off + k) = omega arith in
        ap (shown_in d) (get_or_append_left part (drop n before) Empty k (omega (arith, done.long, enough, lt)) ∙ done.written k (omega (arith, enough, lt)))
        ∙ shown_unit d ps p st.below (kind_of (run_at d p).kind) (off + k) refl t inner
        ∙ sym (ap facets (get_or-drop (x + off) (units_in d l) k no_unit ∙ ap (λ (m : ℕ). get_or (units_in d l) m no_unit) y ∙ unit_there (off + k) inner)))

    kind_there : (unit_at (meaning_of d) l x).kind ≡ kind_of (run_at d p).kind
    kind_there = ap (λ (u : UnitOf). u.kind) (first_unit d sd p l x st.below st.list st.from)

    read_run : Reads (meaning_of d) (shown_in d) (Some (span l x (run_at d p).len)) off before after n
    read_run =
        record {
          many = full ∙ ap (λ (k : Kind). min (cond (is_counted k) ((run_at d p).len - off) 0) (length before)) (sym kind_there);
          values = ⊎_elim counted_values (λ f. no_values (drop (x + off) (units_in d l)) (nothing f)) (cases_Bool (is_counted (kind_of (run_at d p).kind)));
          rest = rest;
        }

  read_at : (o : Option Stretch) → stretch_of d p ≡ o → Reads (meaning_of d) (shown_in d) o off before after n
  read_at None h = let e = nothing (foreign h) in record { many = omega (arith, e); values = no_values [] e; rest = rest }
  read_at (Some t) h =
      let i = stretched_is (run_at d p).list (offset d p) (run_at d p).len t h in
      subst (λ (t : Stretch). Reads (meaning_of d) (shown_in d) (Some t) off before after n) (sym i.is) (read_run i.l i.x (record { below = placed d sd p t h; list = i.list; from = i.from }))

  pub read_is : Reads (meaning_of d) (shown_in d) (stretch_of d p) off before after n
  read_is = read_at (stretch_of d p) refl
