use Rattle.std.proofs.Common.{◌≡◌, ℕ, List, [], ◌∷◌, fold, refl, sym, ap, ◌∙◌, rules}
use Rattle.std.proofs.lemmas.Fn.{fold_over, fronts, slice_gives}
use Rattle.std.proofs.lemmas.List.Sums.{fold-append}
use Rattle.block.specs.declared.call.Call.{Call}
use Rattle.block_iter.specs.declared.replay.Tally.{Tally}
use Rattle.block_iter.specs.Replays.{counted}
use Rattle.block_iter.proofs.Counts.{pairs, count_all}
use Rattle.block_iter.proofs.replay.slots_needed.Goals as goal

pub returns : goal.returns
returns c l vs n =
    let one = counted c.args.len in
    let J : List Call → Tally → Type 0 = λ cs t. ◌≡◌ {A = ℕ × ℕ} (t.index, t.used) (fold one (0, 0) cs) in
    let all = fold_over fronts (λ y. y.now) _ J _
    (λ ys a x b f' j call.
    let index : b.index ≡ (one (a.index, a.used) x.now).0 = search rules in
    let used : b.used ≡ (one (a.index, a.used) x.now).1 = search rules in
    (pairs (index, used) ∙ ap (λ (t : ℕ × ℕ). one t x.now) j ∙ sym (fold-append one (0, 0) ys (x.now ∷ [])), search rules))
    c.iter.result _ _ c.fold.result (slice_gives c.iter.result) refl c.fold.ensures.ran in
    let same : c.iter.result.rest.now ≡ c.args.calls.now = search rules in
    ap (λ (t : ℕ × ℕ). t.1) all
    ∙ ap (λ (cs : List Call). (fold one (0, 0) cs).1) same
    ∙ ap (λ (k : ℕ). (fold (counted k) (0, 0) c.args.calls.now).1) n
    ∙ count_all l vs c.args.calls.now
