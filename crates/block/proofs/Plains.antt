-- What any calls of the plain cursor leave.
use Rattle.std.proofs.Common.{◌≡◌, ℕ, zero, suc, ◌+◌, ◌<◌, ◌≤◌, List, [], ◌∷◌, ◌++◌, length, take, drop, fold, sym, refl, ap, ◌∙◌, subst, inl, inr, arith, length-append, length-drop, length-take, take-add}
use Rattle.std.proofs.lemmas.Bool.{cases_lt, lt-ltb, le-ltb, cond-true, cond-false}
use Rattle.block.specs.declared.call.Call.{Call}
use Rattle.block.specs.declared.call.Call.TheVariants.{Skip, Read}
use Rattle.block.specs.Units.{UnitOf}
use Rattle.block.specs.Plain.{Plain, plain_start, plain_call, plain_run, refuse, accept, asked, filled, shown_by, next_units}

-- a cursor has passed the first units, each once, as many as its index
abbrev pub Passes : List UnitOf → Plain → Type 0
Passes vs s = (s.index ≤ length vs) × (s.passed ≡ take s.index vs)

module _ (l : ℕ) (vs : List UnitOf) where
  pub call_refused : (s : Plain) (c : Call) → length vs < s.index + asked c → plain_call l vs s c ≡ refuse l s
  call_refused s c h = cond-true _ _ _ (lt-ltb (length vs) (s.index + asked c) h)

  pub call_accepted : (s : Plain) (c : Call) → s.index + asked c ≤ length vs → plain_call l vs s c ≡ accept vs s c
  call_accepted s c h = cond-false _ _ _ (le-ltb (length vs) (s.index + asked c) h)

  accept_passes : (s : Plain) (c : Call) → s.index + asked c ≤ length vs → Passes vs s → Passes vs (accept vs s c)
  accept_passes s c h (i, e) = (h, ap (λ (us : List UnitOf). us ++ next_units vs s.index (asked c)) e ∙ sym (take-add s.index (asked c) vs))

  call_passes : (s : Plain) (c : Call) → Passes vs s → Passes vs (plain_call l vs s c)
  call_passes s c p =
      elim (cases_lt (length vs) (s.index + asked c)) [
        | inl h ↦ subst (Passes vs) (sym (call_refused s c h)) p
        | inr h ↦ subst (Passes vs) (sym (call_accepted s c h)) (accept_passes s c h p)
      ]

  all_pass : (s : Plain) (cs : List Call) → Passes vs s → Passes vs (fold (plain_call l vs) s cs)
  all_pass s [] p = p
  all_pass s (c ∷ cs) p = all_pass (plain_call l vs s c) cs (call_passes s c p)

  -- any calls pass the first units, each once, as many as the index
  pub run_passes : (cs : List Call) → Passes vs (plain_run l vs cs)
  run_passes cs = all_pass plain_start cs (omega arith, refl)

  pub shows_more : (s : Plain) (c : Call) → length s.shown ≤ length (plain_call l vs s c).shown
  shows_more s c =
      elim (cases_lt (length vs) (s.index + asked c)) [
        | inl h ↦ (let e = ap (λ (x : Plain). length x.shown) (call_refused s c h) in omega arith)
        | inr h ↦ (let e = ap (λ (x : Plain). length x.shown) (call_accepted s c h) in omega (arith, length-append s.shown (shown_by c (next_units vs s.index (asked c)))))
      ]

  pub all_show : (s : Plain) (cs : List Call) → length s.shown ≤ length (fold (plain_call l vs) s cs).shown
  all_show s [] = omega arith
  all_show s (c ∷ cs) = omega (arith, shows_more s c, all_show (plain_call l vs s c) cs)

-- the calls made first leave a state from which the others go on
pub folded_after : {X Y : Type 0} (f : Y → X → Y) (a : Y) (xs : List X) (i : ℕ) → fold f a xs ≡ fold f (fold f a (take i xs)) (drop i xs)
folded_after f a xs zero = refl
folded_after f a [] (suc i) = refl
folded_after f a (x ∷ xs) (suc i) = folded_after f (f a x) xs i

-- so what they have shown is no more than what all will have shown
pub shown_so_far : (l : ℕ) (vs : List UnitOf) (cs : List Call) (i : ℕ) → length (plain_run l vs (take i cs)).shown ≤ length (plain_run l vs cs).shown
shown_so_far l vs cs i =
    let e = ap (λ (x : Plain). length x.shown) (folded_after (plain_call l vs) plain_start cs i) in
    omega (arith, all_show l vs (plain_run l vs (take i cs)) (drop i cs))

pub length_next : (vs : List UnitOf) (i n : ℕ) → i + n ≤ length vs → length (next_units vs i n) ≡ n
length_next vs i n h = simp (length-take, length-drop) (omega arith)

-- a call in numbers
pub filled_most : (c : Call) → filled c ≤ asked c
filled_most (Skip n) = omega arith
filled_most (Read n) = omega arith

length_shown : (c : Call) (us : List UnitOf) → length us ≡ asked c → length (shown_by c us) ≡ filled c
length_shown (Skip n) us h = refl
length_shown (Read n) us h = h

module _ (l : ℕ) (vs : List UnitOf) (s : Plain) (c : Call) where
  pub counts_refused : length vs < s.index + asked c → (s.index ≡ (plain_call l vs s c).index) × (length s.shown ≡ length (plain_call l vs s c).shown)
  counts_refused h =
      let e = call_refused l vs s c h in
      (sym (ap (λ (x : Plain). x.index) e), sym (ap (λ (x : Plain). length x.shown) e))

  pub counts_accepted : s.index + asked c ≤ length vs → (s.index + asked c ≡ (plain_call l vs s c).index) × (length s.shown + filled c ≡ length (plain_call l vs s c).shown)
  counts_accepted h =
      let e = call_accepted l vs s c h in
      let us = next_units vs s.index (asked c) in
      let more : length (shown_by c us) ≡ filled c = length_shown c us (length_next vs s.index (asked c) h) in
      (sym (ap (λ (x : Plain). x.index) e), omega (arith, length-append s.shown (shown_by c us), ap (λ (x : Plain). length x.shown) e))
