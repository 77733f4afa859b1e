-- What is known of a run that has values.
use Rattle.std.proofs.Common.{◌≡◌, ℕ, ◌+◌, ◌-◌, ◌<◌, ◌≤◌, true, cond, length, ap, inl, inr, arith}
use Rattle.std.proofs.lemmas.List.{get_or_past}
use Rattle.std.proofs.lemmas.Bool.{cases_Bool, cases_lt, cond-true, cond-false}
use Rattle.block.specs.Kinds.{is_counted}
use Rattle.store.specs.declared.records.RunRecord.{RunRecord}
use Rattle.store.specs.Kinds.{kind_of}
use Rattle.store.specs.Records.{Store, run_at, no_run}
use Rattle.document.specs.Slots.{count_from}

module _ (d : Store) (p off n room : ℕ) (full : n ≡ count_from (run_at d p) off room) where
  module _ (some : n ≡ 0 → ⊥) where
    pub is_valued : is_counted (kind_of (run_at d p).kind) ≡ true
    is_valued =
        elim (cases_Bool (is_counted (kind_of (run_at d p).kind))) [
          | inl t ↦ t
          | inr f ↦ (let e : cond (is_counted (kind_of (run_at d p).kind)) ((run_at d p).len - off) 0 ≡ 0 = cond-false _ _ _ f in absurd (some (omega (arith, full, e))))
        ]

    pub in_units : off + n ≤ (run_at d p).len
    in_units =
        let e : cond (is_counted (kind_of (run_at d p).kind)) ((run_at d p).len - off) 0 ≡ (run_at d p).len - off = cond-true _ _ _ is_valued in
        omega (arith, full, e, some)

    -- the run is in use: past those in use there are no units
    pub in_use : p < length d.runs
    in_use =
        elim (cases_lt p (length d.runs)) [
          | inl lt ↦ lt
          | inr ge ↦ (let e : (run_at d p).len ≡ 0 = ap (λ (r : RunRecord). r.len) (get_or_past d.runs p no_run ge) in let h = in_units in absurd (some (omega (arith, e, h))))
        ]
