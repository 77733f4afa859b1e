-- A run that gets a successor leaves tables that pass examination.
use Rattle.std.proofs.Common.{◌≡◌, ℕ, ◌<◌, true, length, set, is_some, Some, None, sym, refl, ap, ◌∙◌, subst, arith, length-set}
use Rattle.std.proofs.lemmas.Bool.{cond-true}
use Rattle.block.specs.Units.{Worth}
use Rattle.block.specs.declared.ids.Id.{Id}
use Rattle.store.specs.declared.records.RunRecord.{RunRecord}
use Rattle.store.specs.Kinds.{kind_of}
use Rattle.store.specs.Ranges.{id_fits, is_client}
use Rattle.store.specs.Records.{Store, run_at}
use Rattle.links.specs.Lengths.{visible_sum}
use Rattle.document.specs.Examined.{examined}
use Rattle.document.specs.LawFacts.{has_is}
use Rattle.document.specs.Meaning.{unit_of, meaning_of, offset}
use Rattle.document.specs.PassingFacts.{Passing}
use Rattle.document.specs.SoundFacts.{sound, fits_parts}
use Rattle.history.specs.Events.{Step, redone_as}
use Rattle.edit.specs.Edits.{Contents, with_all, replaced, succeeded, redone_by}
use Rattle.edit.specs.Happenings.{list_of, from_of, renewal}
use Rattle.edit.proofs.Aiming.{Placed}
use Rattle.edit.proofs.Ends.{some_value}
use Rattle.edit.proofs.Still.{still, Alike, passing_still}
use Rattle.edit.proofs.Sums.{each_run, sum_after}
use Rattle.edit.proofs.Touches.{worth_still, turns}
use Rattle.edit.proofs.Uses.{used_of, fault_in, passes, used_replaced, counted_replaced, run_same}
use Rattle.edit.proofs.Verdicts.{no_fault}

module _ (s : Store) (p : Passing s) (i : ℕ) (lt : i < length s.runs) (next : Id) (j : ℕ) (at : Placed s next j) where
  abbrev r : RunRecord
  r = run_at s i

  is_named : is_client next.client ≡ true
  is_named = ap is_client (sym (has_is next (run_at s j) at.there).client) ∙ (fits_parts s (run_at s j) (p.run_fits j at.within)).client

  alike : Alike s (set s.runs i (succeeded next r)) s.lists
  alike = record { long = length-set s.runs i (succeeded next r); tall = refl; run = each_run s i (succeeded next r) s.lists lt still refl; list = λ l. refl }

  pub renewed_passing : Passing (redone_by next s i)
  renewed_passing =
      passing_still s (redone_by next s i).runs s.lists alike p
      (λ k lk.
      each_run s i (succeeded next r) s.lists lt (λ (x : RunRecord). id_fits x.redone) (is_named ∙ sym (fits_parts s r (p.run_fits i lt)).redone) k
      ∙ (fits_parts s (run_at s k) (p.run_fits k (subst (λ n. k < n) alike.long lk))).redone)
      (λ l ll.
      let b = sum_after s i (succeeded next r) s.lists lt l (length s.runs) lt in
      let c = (sound s p).stored l ll in
      let e : visible_sum (redone_by next s i) l (length (redone_by next s i).runs) ≡ visible_sum (redone_by next s i) l (length s.runs) = ap (λ n. visible_sum (redone_by next s i) l n) alike.long in
      (omega (arith, b, c, e), (sound s p).short l ll))

  pub renewed_step : is_some r.list ≡ true → Step (meaning_of s) (renewal next s i) (meaning_of (redone_by next s i))
  renewed_step li =
      let k = sound s p in
      turns s k i lt (list_of s i) (from_of s i) (some_value r.list li) (some_value (offset s i) (k.links.reached i lt)) (succeeded next r) s.lists alike (redone_as next)
      (λ j. ap (λ (w : Worth). record { id = (unit_of s r j).id; kind = (unit_of s r j).kind; live = r.live; worth = w; redone = Some next }) (worth_still s (redone_by next s i).runs s.lists alike (kind_of r.kind) (succeeded next r) r j refl))

module _ (c : Contents) (h : fault_in c ≡ None) (i : ℕ) (lt : i < length (used_of c).runs) (next : Id) (j : ℕ) (at : Placed (used_of c) next j) where
  pub renewed_used : used_of (with_all c (redone_by next c.all i)) ≡ redone_by next (used_of c) i
  renewed_used = used_replaced c h i (succeeded next (run_at c.all i)) c.all.lists ∙ ap (λ (q : RunRecord). replaced (used_of c) i (succeeded next q) (used_of c).lists) (sym (run_same c h i lt))

  pub renewed_fault : fault_in (with_all c (redone_by next c.all i)) ≡ None
  renewed_fault =
      cond-true _ _ _ (counted_replaced c h i (succeeded next (run_at c.all i)) c.all.lists refl)
      ∙ ap examined renewed_used
      ∙ no_fault (redone_by next (used_of c) i) (renewed_passing (used_of c) (passes c h) i lt next j at)
