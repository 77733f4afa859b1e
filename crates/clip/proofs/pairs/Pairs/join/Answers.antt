use Rattle.std.proofs.Common.{◌≡◌, ℕ, [], ◌∷◌, ◌++◌, min, true, get_or, sym, ap, ◌∙◌, subst}
use Rattle.clip.specs.declared.pair.Pair.{Pair}
use Rattle.clip.specs.Made.{pairs_of}
use Rattle.clip.specs.Pairing.{limit_in, sound}
use Rattle.clip.specs.Joined.{joined}
use Rattle.clip.proofs.Joining.{lower, turn_sound, turns_end, joins}
use Rattle.clip.proofs.Piles.{one_clip}
use Rattle.clip.proofs.pairs.Pairs.join.Goals as goal

abbrev none : Pair
none = record { client = 0; clock = 0 }

pub push-requires-clause-good : goal.push-requires-clause-good
push-requires-clause-good c =
    let ps = c.as_slice-p-items.result.now in
    let qs = c.as_slice-theirs.result.now in
    let p = get_or ps c.loop-p.p-index none in
    let good : sound ps ≡ true = ap sound c.as_slice-p-items.ensures ∙ c.args.self.good in
    let low : c.lowered.result ≡ lower qs p = c.lowered.ensures ∙ ap (λ (x : ℕ). record { client = p.client; clock = min p.clock x }) (c.limit.ensures ∙ ap (λ xs. limit_in xs p.client) (sym c.as_slice-theirs.ensures)) in
    subst (λ (x : Pair). sound (pairs_of c.loop-p.both ++ x ∷ []) ≡ true) (sym low) (turn_sound ps qs (pairs_of c.loop-p.both) c.loop-p.p-index none c.loop-p-test.true c.loop-p.invariant (sym c.if-is_listed.ensures) good)

pub returns : goal.returns
returns c =
    let ps = c.as_slice-p-items.result.now in
    let qs = c.as_slice-theirs.result.now in
    let e = turns_end ps qs (pairs_of c.loop-p.both) c.loop-p.p-index c.loop-p-test.false c.loop-p.invariant in
    record { joined = joins c.args.self c.args.other c.loop-p.both (e ∙ ap (λ xs. joined xs qs) c.as_slice-p-items.ensures ∙ ap (joined (pairs_of c.args.self)) c.as_slice-theirs.ensures); pile = one_clip }
