-- A change of one run's life or successor, in units.
use Rattle.std.proofs.Common.{◌≡◌, ℕ, zero, suc, ◌+◌, ◌-◌, ◌<◌, ◌≤◌, cond, ◌≢◌, List, [], ◌∷◌, ◌++◌, map, length, get_or, take, drop, set, Some, None, Option, unwrap_or, sym, refl, ap, ◌∙◌, subst, ⊎_elim, append_assoc, arith, length-append}
use Rattle.std.specs.List.{range_with_len}
use Rattle.std.proofs.lemmas.List.{map-append, get_or_past, get_or-take, get_or-drop, take_at, drop_at, length-take-le, length-drop}
use Rattle.std.proofs.lemmas.Bool.{cases_eq, cases_lt, cases_Bool, cond-true, cond-false}
use Rattle.block.specs.Units.{UnitOf, no_unit, nested}
use Rattle.block.specs.declared.ids.Id.{Id}
use Rattle.block.specs.declared.kind.Kind.{Kind}
use Rattle.block.specs.declared.kind.Kind.TheVariants as kinds
use Rattle.store.specs.declared.records.ListRecord.{ListRecord}
use Rattle.store.specs.declared.records.RunRecord.{RunRecord}
use Rattle.store.specs.First.{first_bad, failing}
use Rattle.store.specs.Records.{Store, run_at, list_at, no_run}
use Rattle.links.specs.Links.{is_id}
use Rattle.document.specs.Finds.{has}
use Rattle.document.specs.LawFacts.{has_is, has_from, lawful_is}
use Rattle.document.specs.LengthFacts.{Stands, near, long_U}
use Rattle.document.specs.Meaning.{entry_worth, character_worth, list_held, worth_of, unit_of, units_of, spell, units_in, meaning_of, offset}
use Rattle.document.specs.ReadingFacts.{unit_in}
use Rattle.document.specs.Sound.{Sound}
use Rattle.document.specs.WalkFacts.{length_units}
use Rattle.history.specs.Events.{Turns}
use Rattle.edit.specs.Edits.{replaced}
use Rattle.edit.proofs.Still.{still, Alike, of}
use Rattle.edit.proofs.Sums.{run_there, run_other}

-- two ways to make a list of units from indices
map_counted : (g h : ℕ → UnitOf) (t : UnitOf → UnitOf) (a n : ℕ) → ((j : ℕ) → a ≤ j → j < a + n → h j ≡ t (g j)) → map h (range_with_len a n) ≡ map t (map g (range_with_len a n))
map_counted g h t a zero e = refl
map_counted g h t a (suc n) e =
    let here = e a (omega arith) (omega arith) in
    let rest = map_counted g h t (a + 1) n (λ j lo hi. e j (omega arith) (omega arith)) in
    ap (λ (u : UnitOf). u ∷ map h (range_with_len (a + 1) n)) here ∙ ap (λ (us : List UnitOf). t (g a) ∷ us) rest

-- units that a function leaves
map_left : (t : UnitOf → UnitOf) (us : List UnitOf) → ((j : ℕ) → j < length us → t (get_or us j no_unit) ≡ get_or us j no_unit) → map t us ≡ us
map_left t [] h = refl
map_left t (u ∷ us) h =
    let here : t u ≡ u = h 0 (omega arith) in
    let rest = map_left t us (λ j lt. h (suc j) (omega arith)) in
    ap (λ (v : UnitOf). v ∷ map t us) here ∙ ap (λ (vs : List UnitOf). u ∷ vs) rest

same_id_of : (a b : Id) → a.client ≡ b.client → a.clock ≡ b.clock → a ≡ b
same_id_of a b e f = ap (λ (c : ℕ). record { client = c; clock = a.clock }) e ∙ ap (λ (k : ℕ). record { client = b.client; clock = k }) f

module _ (s : Store) (rs : List RunRecord) (hs : List ListRecord) (a : Alike s rs hs) where
  abbrev e : Store
  e = record { runs = rs; lists = hs; clients = s.clients; entries = s.entries; bytes = s.bytes }

  held_still : (id : Id) → list_held e id ≡ list_held s id
  held_still id = of s rs hs a (λ h. unwrap_or (first_bad (failing (λ l. is_id (h.list l).holder id)) h.lists) 0)

  pub worth_still : (k : Kind) (p q : RunRecord) (j : ℕ) → still p ≡ still q → worth_of e k p j ≡ worth_of s k q j
  worth_still kinds.Gc p q j h = refl
  worth_still kinds.Deleted p q j h = refl
  worth_still kinds.Json p q j h = ap (λ (r : RunRecord). entry_worth s (r.entry + j)) h
  worth_still kinds.Binary p q j h = ap (λ (r : RunRecord). entry_worth s r.entry) h
  worth_still kinds.Text p q j h = ap (λ (r : RunRecord). character_worth s r.entry j) h
  worth_still kinds.Embed p q j h = ap (λ (r : RunRecord). entry_worth s r.entry) h
  worth_still kinds.Format p q j h = ap (λ (r : RunRecord). entry_worth s r.entry) h
  worth_still kinds.List p q j h = ap nested (held_still p.id ∙ ap (λ (r : RunRecord). list_held s r.id) h)
  worth_still kinds.Any p q j h = ap (λ (r : RunRecord). entry_worth s (r.entry + j)) h
  worth_still kinds.Doc p q j h = ap (λ (r : RunRecord). entry_worth s r.entry) h
  worth_still kinds.Skip p q j h = refl

module _ (s : Store) (sd : Sound s) (i : ℕ) (lt : i < length s.runs) (l x : ℕ) (li : (run_at s i).list ≡ Some l) (off : offset s i ≡ Some x) (r : RunRecord) (hs : List ListRecord) (a : Alike s (set s.runs i r) hs) (f : UnitOf → UnitOf) (on-run : (k : ℕ) → unit_of (replaced s i r hs) r k ≡ f (unit_of s (run_at s i) k)) where
  abbrev d : Store
  d = replaced s i r hs

  -- the units of the run are changed, the others are left
  touch : UnitOf → UnitOf
  touch u = cond (has u.id (run_at s i)) (f u) u

  hit : (k : ℕ) → k < (run_at s i).len → touch (unit_of s (run_at s i) k) ≡ f (unit_of s (run_at s i) k)
  unfolding touch
  hit k h =
      let q : RunRecord = run_at s i in
      cond-true (has (unit_of s q k).id q) _ _ (has_from (unit_of s q k).id q (record { client = refl; from = omega arith; to = omega arith }))

  missed : (k j : ℕ) → k ≢ i → k < length s.runs → j < (run_at s k).len → touch (unit_of s (run_at s k) j) ≡ unit_of s (run_at s k) j
  unfolding touch
  missed k j ne lk lj =
      ⊎_elim
      (λ t.
      let h = has_is (unit_of s (run_at s k) j).id (run_at s i) t in
      let lo = h.from in
      let hi = h.to in
      ⊎_elim (λ q. absurd (ne q)) (λ q. ⊎_elim (λ z. absurd (omega (arith, z, lo, lj))) (λ z. absurd (omega (arith, z, hi))) q) (sd.clear k i lk lt (sym h.client)))
      (λ t. cond-false (has (unit_of s (run_at s k) j).id (run_at s i)) _ _ t)
      (cases_Bool (has (unit_of s (run_at s k) j).id (run_at s i)))

  unit_other : (q : RunRecord) (j : ℕ) → unit_of d q j ≡ unit_of s q j
  unit_other q j = ap (λ w. record { id = record { client = q.id.client; clock = q.id.clock + j }; kind = (unit_of s q j).kind; live = q.live; worth = w; redone = q.redone }) (worth_still s (set s.runs i r) hs a (unit_of s q j).kind q q j refl)

  no_units : (t : Store) (q : RunRecord) → q ≡ no_run → units_of t q ≡ []
  no_units t q h = rw h refl

  touched_run : (k : ℕ) → units_of d (run_at d k) ≡ map touch (units_of s (run_at s k))
  touched_run k =
      ⊎_elim
      (λ q.
      let n : r.len ≡ (run_at s i).len = sym (ap (λ (p : RunRecord). p.len) (run_there s i r hs lt)) ∙ ap (λ (p : RunRecord). p.len) (a.run i) in
      subst (λ m. units_of d (run_at d m) ≡ map touch (units_of s (run_at s m))) (sym q)
      (ap (λ (p : RunRecord). units_of d p) (run_there s i r hs lt)
      ∙ ap (λ m. map (unit_of d r) (range_with_len 0 m)) n
      ∙ map_counted (unit_of s (run_at s i)) (unit_of d r) touch 0 (run_at s i).len (λ j lo hi. on-run j ∙ sym (hit j (omega arith)))))
      (λ ne.
      ⊎_elim
      (λ lk. ap (λ (p : RunRecord). units_of d p) (run_other s i r hs lt k ne) ∙ map_counted (unit_of s (run_at s k)) (unit_of d (run_at s k)) touch 0 (run_at s k).len (λ j lo hi. unit_other (run_at s k) j ∙ sym (missed k j ne lk (omega arith))))
      (λ ge.
      let p : run_at s k ≡ no_run = get_or_past s.runs k no_run ge in
      no_units d (run_at d k) (run_other s i r hs lt k ne ∙ p) ∙ ap (map touch) (sym (no_units s (run_at s k) p)))
      (cases_lt k (length s.runs)))
      (cases_eq k i)

  touched_walk : (o : Option ℕ) (n : ℕ) → spell d o n ≡ map touch (spell s o n)
  unfolding spell
  touched_walk None n = refl
  touched_walk (Some k) zero = refl
  touched_walk (Some k) (suc n) =
      let there : spell d (run_at d k).right n ≡ map touch (spell s (run_at s k).right n) = of s (set s.runs i r) hs a (λ h. spell d (h.run k).right n) ∙ touched_walk (run_at s k).right n in
      ap (λ (us : List UnitOf). us ++ spell d (run_at d k).right n) (touched_run k) ∙ ap (λ (us : List UnitOf). map touch (units_of s (run_at s k)) ++ us) there ∙ sym (map-append touch (units_of s (run_at s k)) (spell s (run_at s k).right n))

  touched : (m : ℕ) → units_in d m ≡ map touch (units_in s m)
  touched m = of s (set s.runs i r) hs a (λ h. spell d (h.list m).start (suc h.runs)) ∙ touched_walk (list_at s m).start (suc (length s.runs))

  stands : Stands s sd l i x
  stands = record { below = lt; list = li; from = off }

  -- a unit that is not the run's
  left_alone : (m j : ℕ) → j < length (units_in s m) → (m ≡ l → x ≤ j → j < x + (run_at s i).len → ⊥) → touch (get_or (units_in s m) j no_unit) ≡ get_or (units_in s m) j no_unit
  unfolding touch
  left_alone m j lj away =
      let u : UnitOf = get_or (units_in s m) j no_unit in
      ⊎_elim
      (λ t.
      let h = has_is u.id (run_at s i) t in
      let lo = h.from in
      let hi = h.to in
      let k : ℕ = u.id.clock - (run_at s i).id.clock in
      let lk : k < (run_at s i).len = omega (arith, lo, hi) in
      let there = unit_in s i l x k (near s sd l i x stands) lk in
      let ids : u.id ≡ (get_or (units_in s l) (x + k) no_unit).id = same_id_of u.id (unit_of s (run_at s i) k).id (sym h.client) (omega (arith, lo)) ∙ ap (λ (v : UnitOf). v.id) (sym there) in
      let long = long_U s sd l i x stands in
      let both = (lawful_is s sd).once m j l (x + k) lj (omega (arith, long, lk)) ids in
      let at = both.1 in
      absurd (away both.0 (omega (arith, at)) (omega (arith, at, lk))))
      (λ t. cond-false (has u.id (run_at s i)) _ _ t)
      (cases_Bool (has u.id (run_at s i)))

  abbrev before : List UnitOf
  before = take x (units_in s l)

  abbrev behind : List UnitOf
  behind = drop (x + (run_at s i).len) (units_in s l)

  parted : units_in s l ≡ before ++ (units_of s (run_at s i) ++ behind)
  parted =
      let n = near s sd l i x stands in
      let us : List UnitOf = units_of s (run_at s i) in
      let post : List UnitOf = spell s (run_at s i).right n.fuel in
      let b : before ≡ n.before = ap (take x) n.spelled ∙ take_at n.before (us ++ post) x n.long in
      let c : behind ≡ post = ap (drop (x + (run_at s i).len)) (n.spelled ∙ sym (append_assoc n.before us post)) ∙ drop_at (n.before ++ us) post (x + (run_at s i).len) (length-append n.before us ∙ simp (n.long, length_units)) in
      n.spelled ∙ ap (λ (vs : List UnitOf). vs ++ (us ++ post)) (sym b) ∙ ap (λ (vs : List UnitOf). before ++ (us ++ vs)) (sym c)

  before_left : map touch before ≡ before
  before_left =
      let long = long_U s sd l i x stands in
      map_left touch before
      (λ j lj.
      let n : length before ≡ x = length-take-le x (units_in s l) (omega (arith, long)) in
      let jx : j < x = omega (arith, n, lj) in
      let g : get_or before j no_unit ≡ get_or (units_in s l) j no_unit = get_or-take x (units_in s l) j no_unit jx in
      ap touch g ∙ left_alone l j (omega (arith, long, jx)) (λ q lo hi. omega (arith, jx, lo)) ∙ sym g)

  behind_left : map touch behind ≡ behind
  behind_left =
      map_left touch behind
      (λ j lj.
      let n = length-drop (x + (run_at s i).len) (units_in s l) in
      let g : get_or behind j no_unit ≡ get_or (units_in s l) (x + (run_at s i).len + j) no_unit = get_or-drop (x + (run_at s i).len) (units_in s l) j no_unit in
      ap touch g ∙ left_alone l (x + (run_at s i).len + j) (omega (arith, n, lj)) (λ q lo hi. omega (arith, hi)) ∙ sym g)

  run_hit : map touch (units_of s (run_at s i)) ≡ map f (units_of s (run_at s i))
  run_hit =
      let g : ℕ → UnitOf = unit_of s (run_at s i) in
      sym (map_counted g (λ k. f (g k)) touch 0 (run_at s i).len (λ j lo hi. sym (hit j (omega arith)))) ∙ map_counted g (λ k. f (g k)) f 0 (run_at s i).len (λ j lo hi. refl)

  pub turns : Turns (meaning_of s) (meaning_of d) l (before ++ (units_of s (run_at s i) ++ behind)) (before ++ (map f (units_of s (run_at s i)) ++ behind))
  turns = (
    parted,
    (touched l
        ∙ ap (map touch) parted
        ∙ map-append touch before (units_of s (run_at s i) ++ behind)
        ∙ ap (λ (vs : List UnitOf). map touch before ++ vs) (map-append touch (units_of s (run_at s i)) behind)
        ∙ ap (λ (vs : List UnitOf). vs ++ (map touch (units_of s (run_at s i)) ++ map touch behind)) before_left
        ∙ ap (λ (vs : List UnitOf). before ++ (vs ++ map touch behind)) run_hit
        ∙ ap (λ (vs : List UnitOf). before ++ (map f (units_of s (run_at s i)) ++ vs)) behind_left
        ),
    λ m ne. touched m ∙ map_left touch (units_in s m) (λ j lj. left_alone m j lj (λ q lo hi. absurd (ne q))),
  )
