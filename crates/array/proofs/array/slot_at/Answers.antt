use Rattle.std.proofs.Common.{sym, ◌∙◌}
use Rattle.array.proofs.Elements.{skip_refused, skip_accepted}
use Rattle.array.proofs.array.slot_at.Goals as goal

pub returns-in_err-ok : goal.returns-in_err-ok
returns-in_err-ok g c =
    let gone = skip_refused (λ s. g.R.Reader.meaning s.now) (λ s. g.R.Reader.stretch s.now) (λ s. g.R.Reader.shown s.now) (λ s. g.R.Reader.layers s.now) c.args.reader c.args.list c.args.index _ c.open.ensures c.in_ok-cursor.cursor c.try_forward.new.self c.try_forward.new.self (sym c.ok.ensures.value ∙ c.in_ok-cursor.was) c.try_forward.ensures.same _ c.try_forward.ensures.moved (sym c.ok-2.ensures.value ∙ c.in_err-ok.was) in
    rw c.from_residual-in_err-ok.ensures gone

pub returns : goal.returns
returns g c =
    skip_accepted (λ s. g.R.Reader.meaning s.now) (λ s. g.R.Reader.stretch s.now) (λ s. g.R.Reader.shown s.now) (λ s. g.R.Reader.layers s.now) c.args.reader c.args.list c.args.index _ c.open.ensures c.in_ok-cursor.cursor c.try_forward.new.self c.read_value.new.self (sym c.ok.ensures.value ∙ c.in_ok-cursor.was) c.try_forward.ensures.same _ c.try_forward.ensures.moved (sym c.ok-2.ensures.value ∙ c.in_ok-ok.was) _ c.read_value.ensures.next
