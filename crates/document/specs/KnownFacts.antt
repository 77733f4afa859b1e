-- The known clock of a client is that of its record, and reaches its last unit.
use Rattle.std.specs.Prelude.{◌≡◌, ℕ, zero, suc, ◌+◌, ◌<◌, ◌≤◌, true, false, cond, ◌&&◌, List, [], ◌∷◌, length, get_or, drop, Option, ◌==◌, nat_lt, slice_index_or, refl}
use Rattle.std.specs.Option.{option_map, unwrap_or}
use Rattle.std.proofs.Common.{sym, ap, subst, ◌∙◌, ⊎_elim, arith}
use Rattle.std.proofs.lemmas.Bool.{cases_Bool, cases_eq, cases_lt, eqb-true, eq-eqb, ltb-true, lt-ltb, cond-true, cond-false, and_parts, and_from}
use Rattle.std.proofs.lemmas.List.{drop_more, drop_all}
use Rattle.store.specs.declared.records.ClientRecord.{ClientRecord}
use Rattle.store.specs.declared.records.RunRecord.{RunRecord}
use Rattle.store.specs.Clocks.{end_of}
use Rattle.store.specs.Records.{Store, run_at, no_client}
use Rattle.links.specs.Lengths.{later, last_end}
use Rattle.document.specs.Meaning.{clock_in}

-- the record that the clock is taken from
pub record Recorded (rs : List ClientRecord) (c : ℕ) : Type 0 where
  pub at : ℕ
  pub below : at < length rs
  pub client : (slice_index_or rs at no_client).client ≡ c
  pub known : clock_in rs c ≡ (slice_index_or rs at no_client).known

clock_here : (r : ClientRecord) (rs : List ClientRecord) (c : ℕ) → (r.client == c) ≡ true → clock_in (r ∷ rs) c ≡ r.known
unfolding clock_in
clock_here r rs c e = ap (λ (o : Option ClientRecord). unwrap_or (option_map (λ (r : ClientRecord). r.known) o) 0) (cond-true _ _ _ e)

clock_past : (r : ClientRecord) (rs : List ClientRecord) (c : ℕ) → (r.client == c) ≡ false → clock_in (r ∷ rs) c ≡ clock_in rs c
unfolding clock_in
clock_past r rs c e = ap (λ (o : Option ClientRecord). unwrap_or (option_map (λ (r : ClientRecord). r.known) o) 0) (cond-false _ _ _ e)

pub clock_step : (rs : List ClientRecord) (i c : ℕ) → i < length rs → clock_in (drop i rs) c ≡ cond ((get_or rs i no_client).client == c) (get_or rs i no_client).known (clock_in (drop (i + 1) rs) c)
clock_step rs i c h =
    let r = get_or rs i no_client in
    let rest = drop (i + 1) rs in
    ap (λ (ks : List ClientRecord). clock_in ks c) (drop_more rs i no_client h)
    ∙ ⊎_elim
    (λ e. clock_here r rest c e ∙ sym (cond-true (r.client == c) r.known (clock_in rest c) e))
    (λ e. clock_past r rest c e ∙ sym (cond-false (r.client == c) r.known (clock_in rest c) e))
    (cases_Bool (r.client == c))

pub clock_end : (rs : List ClientRecord) (i c : ℕ) → length rs ≤ i → clock_in (drop i rs) c ≡ 0
unfolding clock_in
clock_end rs i c h = rw (drop_all i rs h) refl

later_on : (r : ClientRecord) (rs : List ClientRecord) (c : ℕ) → (r.client == c) ≡ false → Recorded rs c → Recorded (r ∷ rs) c
later_on r rs c e h = record { at = suc h.at; below = omega (arith, h.below); client = h.client; known = clock_past r rs c e ∙ h.known }

pub recorded : (rs : List ClientRecord) (c i : ℕ) → i < length rs → (slice_index_or rs i no_client).client ≡ c → Recorded rs c
recorded [] c i lt e = absurd (omega arith)
recorded (r ∷ rs) c zero lt e = record { at = 0; below = omega arith; client = e; known = clock_here r rs c (eq-eqb _ _ e) }
recorded (r ∷ rs) c (suc i) lt e =
    ⊎_elim
    (λ h. record { at = 0; below = omega arith; client = eqb-true _ _ h; known = clock_here r rs c h })
    (λ h. later_on r rs c h (recorded rs c i (omega arith) e))
    (cases_Bool (r.client == c))

-- a known clock is one of those in the records, or 0
pub small_clock : (rs : List ClientRecord) (c : ℕ) → ((i : ℕ) → i < length rs → (slice_index_or rs i no_client).known ≤ 2147483647) → clock_in rs c ≤ 2147483647
unfolding clock_in
small_clock [] c h = omega arith
small_clock (r ∷ rs) c h =
    ⊎_elim
    (λ e. let a = clock_here r rs c e in let b : r.known ≤ 2147483647 = h 0 (omega arith) in omega (arith, a, b))
    (λ e. let a = clock_past r rs c e in let b = small_clock rs c (λ i lt. h (suc i) (omega arith)) in omega (arith, a, b))
    (cases_Bool (r.client == c))

later_keeps : (c k : ℕ) (r : RunRecord) → k ≤ later c k r
later_keeps c k r =
    ⊎_elim
    (λ h. let lt = ltb-true k (end_of r) (and_parts (r.id.client == c) (nat_lt k (end_of r)) h).1 in let e = cond-true (r.id.client == c && nat_lt k (end_of r)) (end_of r) k h in omega (arith, lt, e))
    (λ h. let e = cond-false (r.id.client == c && nat_lt k (end_of r)) (end_of r) k h in omega (arith, e))
    (cases_Bool (r.id.client == c && nat_lt k (end_of r)))

later_reaches : (c k : ℕ) (r : RunRecord) → r.id.client ≡ c → end_of r ≤ later c k r
later_reaches c k r e =
    ⊎_elim
    (λ lt. let f = cond-true (r.id.client == c && nat_lt k (end_of r)) (end_of r) k (and_from _ _ (eq-eqb _ _ e) (lt-ltb _ _ lt)) in omega (arith, f))
    (λ ge. let f = later_keeps c k r in omega (arith, f, ge))
    (cases_lt k (end_of r))

-- a client's last end is not before the end of any of its runs
pub reaches : (d : Store) (c n i : ℕ) → i < n → (run_at d i).id.client ≡ c → end_of (run_at d i) ≤ last_end d c n
unfolding last_end
reaches d c zero i lt e = absurd (omega arith)
reaches d c (suc n) i lt e =
    ⊎_elim
    (λ same. subst (λ m. end_of (run_at d m) ≤ later c (last_end d c n) (run_at d n)) (sym same) (later_reaches c (last_end d c n) (run_at d n) (ap (λ m. (run_at d m).id.client) (sym same) ∙ e)))
    (λ other. let a = reaches d c n i (omega arith) e in let b = later_keeps c (last_end d c n) (run_at d n) in omega (arith, a, b))
    (cases_eq i n)
