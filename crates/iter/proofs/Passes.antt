-- One run of a range's source passed.
use Rattle.std.proofs.Common.{◌≡◌, ℕ, List, [], ◌∷◌, Some, None, Ok, Err, Option, Result, sym, refl, ap, ◌∙◌, subst, arith}
use Rattle.block.specs.declared.fault.Fault.{Fault}
use Rattle.iter.specs.declared.run.Run.{Run}
use Rattle.iter.specs.Bare.{Bare, bare}
use Rattle.iter.specs.declared.slice.ItemSlice.{ItemSlice}
use Rattle.iter.specs.declared.range.RangeIter.{RangeIter}
use Rattle.iter.specs.declared.state.RangeIterState.{RangeIterState}
use Rattle.iter.specs.declared.state.RangeIterState.TheVariants.{Opened, InRange, Closed}
use Rattle.sticky_index.specs.declared.index.StickyIndex.{StickyIndex}
use Rattle.iter.specs.Ranges.{Course, Answers, course, over}
use Rattle.iter.specs.Runs.{Taken}
use Rattle.iter.specs.Steps.{gives, Coming, Told}

nothing_comes : {P : Type 0} (k : RangeIterState) (start end : StickyIndex) → course {P = P} k start end [] ≡ over
nothing_comes Opened start end = refl
nothing_comes InRange start end = refl
nothing_comes Closed start end = refl

module _ {S P : Type 0} (ahead : S → List (Bare P) → Type 0) where
  -- the runs that are ahead after s gave w
  taken_rest : (s t : S) (w : Run P) (ws : List (Bare P)) → Taken ahead s ws (Some w) t → (vs : List (Bare P)) × ahead t vs × (ws ≡ bare w ∷ vs)
  taken_rest s t w [] h = let e = h.0 in let z : ◌≡◌ {A = ℕ} 0 1 = cc in absurd (omega arith)
  taken_rest s t w (v ∷ vs) h = let e = h.0 in let same : bare w ≡ v = cc in (vs, h.1, ap (λ (x : Bare P). x ∷ vs) (sym same))

  -- a range that began at `from` and is s now: it has ended, or its source gives nothing more
  module _ (from s : RangeIter S P) (inv : (c : Course P) → Coming ahead from c → Coming ahead s c) where
    pub told_closed : s.state ≡ Closed → (c : Course P) → Coming ahead from c → Told (Coming ahead) c (Ok None) s
    told_closed is c h =
        let (us, a, e) = inv c h in
        record { later = c; comes = inv c h; answer = refl; ends = λ x. e ∙ ap (λ (k : RangeIterState). course k s.start s.end us) is }

    none_left : (t : S) (us : List (Bare P)) → ahead s.iter us → Taken ahead s.iter us None t → ahead t us × (us ≡ [])
    none_left t [] a h = (subst (λ (x : S). ahead x []) (sym h.1) a, refl)
    none_left t (v ∷ us) a h = let e = h.0 in let z : ◌≡◌ {A = ℕ} 0 1 = cc in absurd (omega arith)

    pub told_out : (t : S) → ((ws : List (Bare P)) → ahead s.iter ws → Taken ahead s.iter ws None t) → (c : Course P) → Coming ahead from c → Told (Coming ahead) c (Ok None) (record { iter = t; start = s.start; end = s.end; state = s.state })
    told_out t took c h =
        let (us, a, e) = inv c h in
        let (b, none) = none_left t us a (took us a) in
        record { later = c; comes = (us, b, e); answer = refl; ends = λ x. e ∙ ap (λ (ws : List (Bare P)). gives s ws) none ∙ nothing_comes s.state s.start s.end }

  -- a range that began at `from` and is s now, whose source gives w and is t then, and which answers r to w and is u then
  module _ (from s u : RangeIter S P) (t : S) (w : Run P) (r : Result (Option (ItemSlice P)) Fault) (inv : (c : Course P) → Coming ahead from c → Coming ahead s c) (took : (ws : List (Bare P)) → ahead s.iter ws → Taken ahead s.iter ws (Some w) t) (kept : u.iter ≡ t) (met : (ws : List (Bare P)) → Answers (gives s (bare w ∷ ws)) r (gives u ws)) where
    run_met : (q : Result (Option (ItemSlice P)) Fault) → r ≡ q → (c : Course P) → Coming ahead from c → (vs : List (Bare P)) × ahead u.iter vs × Answers c q (gives u vs)
    run_met q is c h =
        let (us, a, e) = inv c h in
        let (vs, b, f) = taken_rest s.iter t w us (took us a) in
        let answers : Answers c r (gives u vs) = subst (λ (x : Course P). Answers x r (gives u vs)) (ap (λ (xs : List (Bare P)). gives s xs) (sym f) ∙ sym e) (met vs) in
        (vs, subst (λ (x : S). ahead x vs) (sym kept) b, subst (λ (x : Result (Option (ItemSlice P)) Fault). Answers c x (gives u vs)) is answers)

    pub passed : r ≡ Ok None → (c : Course P) → Coming ahead from c → Coming ahead u c
    passed is c h = run_met (Ok None) is c h

    pub told : (q : Result (Option (ItemSlice P)) Fault) → r ≡ q → (q ≡ Ok None → ⊥) → (c : Course P) → Coming ahead from c → Told (Coming ahead) c q u
    told q is some c h =
        let (vs, b, answers) = run_met q is c h in
        record { later = gives u vs; comes = (vs, b, refl); answer = answers; ends = λ e. absurd (some e) }

    pub told_some : (p : ItemSlice P) → r ≡ Ok (Some p) → (c : Course P) → Coming ahead from c → Told (Coming ahead) c (Ok (Some p)) u
    told_some p is = told (Ok (Some p)) is (λ e. let z : ◌≡◌ {A = ℕ} 0 1 = cc in omega arith)

    pub told_err : (f : Fault) → r ≡ Err f → (c : Course P) → Coming ahead from c → Told (Coming ahead) c (Err f) u
    told_err f is = told (Err f) is (λ e. let z : ◌≡◌ {A = ℕ} 0 1 = cc in omega arith)
