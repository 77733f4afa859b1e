-- A run that dies leaves tables that pass examination.
use Rattle.std.proofs.Common.{◌≡◌, ℕ, ◌+◌, ◌-◌, ◌<◌, ◌≤◌, true, false, cond, eqb, List, length, get_or, Some, None, Option, sym, refl, ap, ◌∙◌, subst, ⊎_elim, arith, length-set, get_or-set_other, get_or-set_same}
use Rattle.std.proofs.lemmas.Bool.{cases_eq, eq-eqb, ne_eqb, cond-true, cond-false}
use Rattle.store.specs.declared.records.ListRecord.{ListRecord}
use Rattle.store.specs.declared.records.RunRecord.{RunRecord}
use Rattle.store.specs.Ranges.{id_fits}
use Rattle.store.specs.Records.{Store, run_at, list_at, no_list}
use Rattle.links.specs.Lengths.{weight, share, visible_sum}
use Rattle.links.specs.Walks.{is}
use Rattle.document.specs.Examined.{examined}
use Rattle.document.specs.PassingFacts.{Passing}
use Rattle.document.specs.SoundFacts.{sound, fits_parts}
use Rattle.edit.specs.Edits.{killed, shorter, lowered, tombstoned}
use Rattle.edit.proofs.Still.{still, bare, Alike, passing_still}
use Rattle.edit.proofs.Sums.{each_run, sum_after}
use Rattle.edit.proofs.Verdicts.{no_fault}

abbrev Within : Option ℕ → ℕ → Type 0
Within o n = (m : ℕ) → o ≡ Some m → m < n

tall_lowered : (hs : List ListRecord) (o : Option ℕ) (w : ℕ) → length (lowered hs o w) ≡ length hs
tall_lowered hs None w = refl
tall_lowered hs (Some m) w = length-set hs m (shorter (get_or hs m no_list) w)

bare_lowered : (hs : List ListRecord) (o : Option ℕ) (w l : ℕ) → Within o (length hs) → bare (get_or (lowered hs o w) l no_list) ≡ bare (get_or hs l no_list)
bare_lowered hs None w l h = refl
bare_lowered hs (Some m) w l h =
    ⊎_elim
    (λ e. subst (λ k. bare (get_or (lowered hs (Some m) w) k no_list) ≡ bare (get_or hs k no_list)) (sym e) (ap bare (get_or-set_same hs m (shorter (get_or hs m no_list) w) no_list (h m refl))))
    (λ ne. ap bare (get_or-set_other hs m l (shorter (get_or hs m no_list) w) no_list ne))
    (cases_eq l m)

len_lowered : (hs : List ListRecord) (o : Option ℕ) (w l : ℕ) → Within o (length hs) → (get_or (lowered hs o w) l no_list).len ≡ (get_or hs l no_list).len - cond (is o l) w 0
len_lowered hs None w l h = omega arith
len_lowered hs (Some m) w l h =
    ⊎_elim
    (λ e.
    let a : (get_or (lowered hs (Some m) w) l no_list).len ≡ (get_or hs l no_list).len - w = subst (λ k. (get_or (lowered hs (Some m) w) k no_list).len ≡ (get_or hs k no_list).len - w) (sym e) (ap (λ (x : ListRecord). x.len) (get_or-set_same hs m (shorter (get_or hs m no_list) w) no_list (h m refl))) in
    a ∙ ap (λ n. (get_or hs l no_list).len - n) (sym (cond-true (eqb m l) w 0 (eq-eqb m l (sym e)))))
    (λ ne.
    let a : (get_or (lowered hs (Some m) w) l no_list).len ≡ (get_or hs l no_list).len = ap (λ (x : ListRecord). x.len) (get_or-set_other hs m l (shorter (get_or hs m no_list) w) no_list ne) in
    let b : cond (eqb m l) w 0 ≡ 0 = cond-false (eqb m l) w 0 (ne_eqb m l (λ e. ne (sym e))) in
    omega (arith, a, b))
    (cases_eq l m)

share_dead : (l : ℕ) (r : RunRecord) → share l (killed r) ≡ 0
share_dead l r = elim (is r.list l) as (λ b. ◌≡◌ {A = ℕ} (cond b 0 0) 0) [ true ↦ refl | false ↦ refl ]

module _ (s : Store) (i : ℕ) (lt : i < length s.runs) (p : Passing s) where
  abbrev r : RunRecord
  r = run_at s i

  abbrev hs : List ListRecord
  hs = lowered s.lists r.list (weight r)

  within : Within r.list (length s.lists)
  within m e = (sound s p).listed i m lt e

  dead_sum : (l : ℕ) → visible_sum (tombstoned s i) l (length s.runs) + share l r ≡ visible_sum s l (length s.runs)
  dead_sum l = let a = sum_after s i (killed r) hs lt l (length s.runs) lt in let b = share_dead l r in omega (arith, a, b)

  -- the list of a run that dies is long enough
  pub long_enough : (l : ℕ) → r.list ≡ Some l → (l < length s.lists) × (weight r ≤ (list_at s l).len)
  long_enough l e =
      let u = within l e in
      let b = dead_sum l in
      let c = (sound s p).stored l u in
      let d : share l r ≡ weight r = cond-true (is r.list l) (weight r) 0 (rw e (eq-eqb l l refl)) in
      (u, omega (arith, b, c, d))

  pub dead_alike : Alike s (tombstoned s i).runs hs
  dead_alike =
      record {
        long = length-set s.runs i (killed r);
        tall = tall_lowered s.lists r.list (weight r);
        run = each_run s i (killed r) hs lt still refl;
        list = λ l. bare_lowered s.lists r.list (weight r) l within;
      }

  pub dead_passing : Passing (tombstoned s i)
  dead_passing =
      passing_still s (tombstoned s i).runs hs dead_alike p
      (λ k lk. each_run s i (killed r) hs lt (λ (x : RunRecord). id_fits x.redone) refl k ∙ (fits_parts s (run_at s k) (p.run_fits k (subst (λ n. k < n) dead_alike.long lk))).redone)
      (λ l ll.
      let lu : l < length s.lists = subst (λ n. l < n) dead_alike.tall ll in
      let a : (get_or hs l no_list).len ≡ (list_at s l).len - share l r = len_lowered s.lists r.list (weight r) l within in
      let b = dead_sum l in
      let c = (sound s p).stored l lu in
      let e : visible_sum (tombstoned s i) l (length (tombstoned s i).runs) ≡ visible_sum (tombstoned s i) l (length s.runs) = ap (λ n. visible_sum (tombstoned s i) l n) dead_alike.long in
      let f = (sound s p).short l lu in
      (omega (arith, a, b, c, e), omega (arith, a, f)))

  pub dead_examined : examined (tombstoned s i) ≡ None
  dead_examined = no_fault (tombstoned s i) dead_passing
