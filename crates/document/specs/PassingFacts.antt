-- In accepted tables each record passes its tests.
use Rattle.std.specs.Prelude.{◌≡◌, ℕ, ◌<◌, Bool, true, false, cond, not, length, is_some, Some, None, Option, refl}
use Rattle.std.specs.Option.{option_or}
use Rattle.block.specs.declared.fault.Code.{Code}
use Rattle.block.specs.declared.fault.Fault.{Fault}
use Rattle.block.specs.declared.fault.Spot.{Spot}
use Rattle.store.specs.Clocks.{run_follows_at}
use Rattle.store.specs.First.{first_bad}
use Rattle.store.specs.FirstFacts.{none_all}
use Rattle.store.specs.Limits.{counts_fit}
use Rattle.store.specs.Ranges.{run_fits_at, list_fits_at, client_fits_at, entry_fits_at}
use Rattle.store.specs.Records.{Store}
use Rattle.links.specs.Links.{run_agrees_at, list_agrees_at, client_agrees_at}
use Rattle.content.specs.Content.{run_filled_at, entry_serves_at, byte_serves_at}
use Rattle.document.specs.Examined.{report, crowded, out_of_range, overlapping, disagreeing, misfilled, examined, accepts}

no_some : {A : Type 0} {B : Type 0} {x : A} → ◌≡◌ {A = Option A} (Some x) None → B
no_some h = cc

no_truth : {B : Type 0} → false ≡ true → B
no_truth h = cc

report_none : (k : Code) (t : ℕ → Spot) (o : Option ℕ) (rest : Option Fault) → report k t o rest ≡ None → (o ≡ None) × (rest ≡ None)
report_none k t None rest h = (refl, h)
report_none k t (Some i) rest h = no_some h

either_none : (a b : Option Fault) → option_or a b ≡ None → (a ≡ None) × (b ≡ None)
either_none None b h = (refl, h)
either_none (Some x) b h = no_some h

not_crowded : (b : Bool) (f : Fault) → cond b None (Some f) ≡ None → b ≡ true
not_crowded true f h = refl
not_crowded false f h = no_some h

no_fault : (o : Option Fault) → not (is_some o) ≡ true → o ≡ None
no_fault None h = refl
no_fault (Some x) h = no_truth h

-- each record passes its tests
pub record Passing (s : Store) : Type 0 where
  pub counts : counts_fit s ≡ true
  pub run_fits : (i : ℕ) → i < length s.runs → run_fits_at s i ≡ true
  pub list_fits : (l : ℕ) → l < length s.lists → list_fits_at s l ≡ true
  pub client_fits : (i : ℕ) → i < length s.clients → client_fits_at s i ≡ true
  pub entry_fits : (e : ℕ) → e < length s.entries → entry_fits_at s e ≡ true
  pub run_follows : (i : ℕ) → i < length s.runs → run_follows_at s i ≡ true
  pub run_agrees : (i : ℕ) → i < length s.runs → run_agrees_at s i ≡ true
  pub list_agrees : (l : ℕ) → l < length s.lists → list_agrees_at s l ≡ true
  pub client_agrees : (i : ℕ) → i < length s.clients → client_agrees_at s i ≡ true
  pub run_filled : (i : ℕ) → i < length s.runs → run_filled_at s i ≡ true
  pub entry_serves : (e : ℕ) → e < length s.entries → entry_serves_at s e ≡ true
  pub byte_serves : (b : ℕ) → b < length s.bytes → byte_serves_at s b ≡ true

pub passing_from : (s : Store) → accepts s ≡ true → Passing s
unfolding accepts examined
passing_from s h =
    let a = either_none (crowded s) _ (no_fault (examined s) h) in
    let b = either_none (out_of_range s) _ a.1 in
    let c = either_none (overlapping s) _ b.1 in
    let d = either_none (disagreeing s) (misfilled s) c.1 in
    let r1 = report_none _ _ (first_bad (run_fits_at s) (length s.runs)) _ b.0 in
    let r2 = report_none _ _ (first_bad (list_fits_at s) (length s.lists)) _ r1.1 in
    let r3 = report_none _ _ (first_bad (client_fits_at s) (length s.clients)) _ r2.1 in
    let r4 = report_none _ _ (first_bad (entry_fits_at s) (length s.entries)) _ r3.1 in
    let o1 = report_none _ _ (first_bad (run_follows_at s) (length s.runs)) _ c.0 in
    let d1 = report_none _ _ (first_bad (run_agrees_at s) (length s.runs)) _ d.0 in
    let d2 = report_none _ _ (first_bad (list_agrees_at s) (length s.lists)) _ d1.1 in
    let d3 = report_none _ _ (first_bad (client_agrees_at s) (length s.clients)) _ d2.1 in
    let m1 = report_none _ _ (first_bad (run_filled_at s) (length s.runs)) _ d.1 in
    let m2 = report_none _ _ (first_bad (entry_serves_at s) (length s.entries)) _ m1.1 in
    let m3 = report_none _ _ (first_bad (byte_serves_at s) (length s.bytes)) _ m2.1 in
    record {
      counts = not_crowded (counts_fit s) _ a.0;
      run_fits = none_all _ _ r1.0;
      list_fits = none_all _ _ r2.0;
      client_fits = none_all _ _ r3.0;
      entry_fits = none_all _ _ r4.0;
      run_follows = none_all _ _ o1.0;
      run_agrees = none_all _ _ d1.0;
      list_agrees = none_all _ _ d2.0;
      client_agrees = none_all _ _ d3.0;
      run_filled = none_all _ _ m1.0;
      entry_serves = none_all _ _ m2.0;
      byte_serves = none_all _ _ m3.0;
    }

pub accepts_none : (s : Store) → examined s ≡ None → accepts s ≡ true
unfolding accepts
accepts_none s h = rw h refl
