use Rattle.std.proofs.Common.{List, Ok, Option, sym, subst, arith}
use Rattle.std.proofs.lemmas.List.{set-get_or}
use Rattle.iter.specs.declared.slice.ItemSlice.{ItemSlice}
use Rattle.iter.specs.Steps.{Told}
use Rattle.iter.specs.Collects.{Collected}
use Rattle.iter.proofs.Buffers.{holds_none, holds_more, holds_all}
use Rattle.iter.proofs.collect.collect_into.Goals as goal

pub loop-used-init : goal.loop-used-init
loop-used-init g c d h = holds_none g.I.Slices.coming d c.args.out.now c.args.iter.now h

pub returns-in_default : goal.returns-in_default
returns-in_default g c d h =
    let coming = g.I.Slices.coming in
    let (holds, end) = holds_all coming d c.args.out.now c.loop-used.out c.loop-used.used c.loop-used.iter c.next.new.self (c.loop-used.invariant d h) (λ e k. subst (λ (o : Option _). Told coming e (Ok o) c.next.new.self) c.in_default.is (c.in_ok-slice.ensures.told e k)) in
    subst (λ (out : List (Option (ItemSlice _))). Collected coming d c.args.out.now out (Ok c.loop-used.used) c.next.new.self) (sym (set-get_or c.loop-used.out c.loop-used.used c.index-out-used.result)) (omega arith, holds, λ _. end)

pub loop-used-preserved : goal.loop-used-preserved
loop-used-preserved g c d h =
    let coming = g.I.Slices.coming in
    holds_more coming d c.args.out.now c.loop-used.out c.loop-used.used c.loop-used.iter c.next.new.self (c.loop-used.invariant d h) c.in-Some.slice (omega arith) (λ e k. subst (λ (o : Option _). Told coming e (Ok o) c.next.new.self) c.in-Some.is (c.in_ok-slice.ensures.told e k))
