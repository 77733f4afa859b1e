-- Refusals by passes one after another.
use Rattle.std.proofs.Common.{◌≡◌, true, Some, None, Ok, Err, Option, Result, sym, refl, ap}
use Rattle.std.proofs.lemmas.Bool.{cond-true}
use Rattle.std.specs.Option.{option_or}
use Rattle.block.specs.declared.fault.Fault.{Fault}
use Rattle.store.specs.Limits.{counts_fit}
use Rattle.store.specs.Records.{Store}
use Rattle.document.specs.Examined.{crowded, out_of_range, overlapping, disagreeing, misfilled, examined, unless_fault}

-- a fault that a pass found is the fault of it and what follows
at_once : (f : Fault) (o rest : Option Fault) → Err f ≡ unless_fault o → Err f ≡ unless_fault (option_or o rest)
at_once f (Some g) rest e = e
at_once f None rest e = cc

-- where a pass finds nothing, what follows decides
after : (r : Result (Unit {0}) Fault) (o rest : Option Fault) → Ok tt ≡ unless_fault o → r ≡ unless_fault rest → r ≡ unless_fault (option_or o rest)
after r (Some f) rest e h = cc
after r None rest e h = h

-- tables that are not refused have no fault
pub no_fault_from : (o : Option Fault) → Ok tt ≡ unless_fault o → o ≡ None
no_fault_from None e = refl
no_fault_from (Some f) e = cc

module _ (s : Store) where
  pub too_many : (f : Fault) → crowded s ≡ Some f → Err f ≡ unless_fault (examined s)
  unfolding examined
  too_many f h = at_once f _ _ (sym (ap unless_fault h))

  module _ (few : counts_fit s ≡ true) where
    calm : Ok tt ≡ unless_fault (crowded s)
    calm = sym (ap unless_fault (cond-true _ _ _ few))

    pub in_first : (f : Fault) → Err f ≡ unless_fault (out_of_range s) → Err f ≡ unless_fault (examined s)
    unfolding examined
    in_first f e = after _ _ _ calm (at_once f _ _ e)

    module _ (first : Ok tt ≡ unless_fault (out_of_range s)) where
      pub in_second : (f : Fault) → Err f ≡ unless_fault (overlapping s) → Err f ≡ unless_fault (examined s)
      unfolding examined
      in_second f e = after _ _ _ calm (after _ _ _ first (at_once f _ _ e))

      module _ (second : Ok tt ≡ unless_fault (overlapping s)) where
        pub in_third : (f : Fault) → Err f ≡ unless_fault (disagreeing s) → Err f ≡ unless_fault (examined s)
        unfolding examined
        in_third f e = after _ _ _ calm (after _ _ _ first (after _ _ _ second (at_once f _ _ e)))

        pub in_fourth : (r : Result (Unit {0}) Fault) → Ok tt ≡ unless_fault (disagreeing s) → r ≡ unless_fault (misfilled s) → r ≡ unless_fault (examined s)
        unfolding examined
        in_fourth r third e = after _ _ _ calm (after _ _ _ first (after _ _ _ second (after _ _ _ third e)))
