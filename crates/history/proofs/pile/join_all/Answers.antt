use Rattle.std.proofs.Common.{◌∷◌, map, List, Some, sym, ap, ◌∙◌, rules}
use Rattle.std.proofs.lemmas.Fn.{fold_over, slice_gives, fronts}
use Rattle.clip.specs.declared.pairs.Pairs.{Pairs}
use Rattle.clip.specs.Made.{limit_of}
use Rattle.clip.specs.Joined.{Joined}
use Rattle.history.specs.Piles.{under}
use Rattle.history.proofs.Clips.{ShowsPile, pile_first, pile_more}
use Rattle.history.proofs.pile.join_all.Goals as goal

pub returns : goal.returns
returns c m =
    let first : Pairs = c.in_ok-first.first.now in
    let shows = fold_over fronts (λ x. x.now) _ (λ (xs : List Pairs) (all : Pairs). ShowsPile (Some all) (map limit_of (first ∷ xs))) _
    (λ xs all x both f h k. let j : Joined all x.now both = search rules in (pile_more (first ∷ xs) all x.now both j h, search rules))
    c.iter.result _ first c.fold.result (slice_gives c.iter.result) (pile_first first) c.fold.ensures.ran in
    shows m ∙ ap (λ (cs : List Pairs). under (map limit_of cs) m) (ap (λ (xs : List Pairs). first ∷ xs) c.iter.ensures.rest ∙ sym c.in_ok-first.ensures.cases.0)
