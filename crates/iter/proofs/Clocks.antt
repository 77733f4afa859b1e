-- A client's runs by their clocks.
use Rattle.std.proofs.Common.{◌≡◌, ℕ, ◌+◌, ◌-◌, ◌<◌, List, [], ◌∷◌, Some, None, Option, sym, ap, ◌∙◌, subst, arith}
use Rattle.block.specs.declared.ids.Id.{Id}
use Rattle.block.specs.Units.{Meaning, Lawful, Stretch, RunOf, unit_at}
use Rattle.reader.specs.declared.reader.Description.{Description}
use Rattle.reader.specs.Answers.{Nearest, Later, Described}
use Rattle.iter.specs.declared.run.Run.{Run}
use Rattle.iter.specs.Bare.{Bare, bare}
use Rattle.iter.specs.Runs.{Apart, ByClock, Taken}
use Rattle.iter.proofs.Chains.{described_some, same_bare}

pub same_id : (a b : Id) → a.client ≡ b.client → a.clock ≡ b.clock → a ≡ b
same_id a b p q = ap (λ (x : ℕ). record { client = x; clock = a.clock }) p ∙ ap (λ (x : ℕ). record { client = b.client; clock = x }) q

module _ {P : Type 0} (m : Meaning) (st : P → Option Stretch) (lawful : Lawful m) (settled : (p : P) (t : Stretch) → st p ≡ Some t → RunOf m t) (client clock : ℕ) where
  -- the first unit of the nearest run that has the clock or a later one
  abbrev offset : Stretch → ℕ
  offset t = clock - (unit_at m t.list t.from).id.clock

  record UnitThere (t : Stretch) : Type 0 where
    pub inside : offset t < t.count
    pub clock_is : (unit_at m t.list (t.from + offset t)).id.clock ≡ (unit_at m t.list t.from).id.clock + offset t
    pub later : Later m client clock t.list (t.from + offset t)

  unit_there : (p : P) (t : Stretch) → st p ≡ Some t → (unit_at m t.list t.from).id.client ≡ client → clock < (unit_at m t.list t.from).id.clock + t.count → UnitThere t
  unit_there p t e c below =
      let run = settled p t e in
      let inside : offset t < t.count = omega (arith, run.some) in
      let is = run.clock (offset t) inside in record {
        inside = inside;
        clock_is = is;
        later = (omega (arith, run.within), run.client (offset t) inside ∙ c, omega arith);
      }

  pub none_nearest : (p : P) → Nearest m st client clock (Some p) → Nearest m st client clock None → ⊥
  none_nearest p (t, e, c, below, first) none = none t.list (t.from + offset t) (unit_there p t e c below).later

  pub one_nearest : Apart st → (p q : P) → Nearest m st client clock (Some p) → Nearest m st client clock (Some q) → p ≡ q
  one_nearest apart p q (t, e, c, below, first) (u, f, d, under, least) =
      let here = unit_there p t e c below in
      let there = unit_there q u f d under in
      let a = first u.list (u.from + offset u) there.later in
      let b = least t.list (t.from + offset t) here.later in
      let clocks : (unit_at m t.list (t.from + offset t)).id.clock ≡ (unit_at m u.list (u.from + offset u)).id.clock = omega (arith, here.clock_is, there.clock_is) in
      let both = lawful.once t.list (t.from + offset t) u.list (u.from + offset u) here.later.0 there.later.0 (same_id _ _ (here.later.1 ∙ sym there.later.1) clocks) in
      let at = both.1 in
      apart p q t u (t.from + offset t) e f both.0 (omega arith) (omega (arith, here.inside)) (omega (arith, at)) (omega (arith, at, there.inside))

  -- the nearest run is the first of the client's runs from the clock on
  pub first_by_clock : (v : Run P) → Nearest m st client clock (Some v.place) → Described m (st v.place) (Some v.about) → {S : Type 0} (ahead : S → List (Bare P) → Type 0) (s s' : S) → Apart st → ((vs : List (Bare P)) → ByClock m st client (v.about.id.clock + v.about.len) vs → ahead s' vs) → (ws : List (Bare P)) → ByClock m st client clock ws → Taken ahead s ws (Some v) s'
  first_by_clock v near desc ahead s s' apart next [] r = absurd (none_nearest v.place near r)
  first_by_clock v near desc ahead s s' apart next (w ∷ ws) (nearest, about, rest) =
      let same : w.place ≡ v.place = one_nearest apart w.place v.place nearest near in
      let (t, e, q) = described_some m (st v.place) v.about desc in
      let (u, f, r) = described_some m (st w.place) w.about about in
      let whole : w.about ≡ v.about = cc in
      (ap Some (same_bare (bare v) w (sym same) (sym whole)), next ws (subst (λ (x : Description). ByClock m st client (x.id.clock + x.len) ws) whole rest))
