-- What happens to the tables happens to their records in use.
use Rattle.std.proofs.Common.{◌≡◌, ℕ, Ok, Result, sym, ap, ◌∙◌, subst}
use Rattle.block.specs.declared.fault.Fault.{Fault}
use Rattle.store.specs.Records.{Store}
use Rattle.document.specs.Meaning.{meaning_of}
use Rattle.history.specs.Events.{Event, Step}
use Rattle.edit.specs.Edits.{Contents, with_all}
use Rattle.edit.specs.Happenings.{happened}
use Rattle.edit.proofs.Uses.{used_of}

pub edit_step : (edit : Store → ℕ → Store) (event : Store → ℕ → Event) (c e : Contents) (i : ℕ) (o : Result ℕ Fault) → Ok i ≡ o → e ≡ with_all c (edit c.all i) → used_of (with_all c (edit c.all i)) ≡ edit (used_of c) i → Step (meaning_of (used_of c)) (event (used_of c) i) (meaning_of (edit (used_of c) i)) → Step (meaning_of (used_of c)) (happened event (used_of c) o) (meaning_of (used_of e))
edit_step edit event c e i o found after used step =
    subst (λ (o : Result ℕ Fault). Step (meaning_of (used_of c)) (happened event (used_of c) o) (meaning_of (used_of e))) found
    (subst (λ (s : Store). Step (meaning_of (used_of c)) (event (used_of c) i) (meaning_of s)) (sym (ap used_of after ∙ used)) step)
