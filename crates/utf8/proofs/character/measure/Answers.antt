use Rattle.std.proofs.Common.{◌≡◌, ◌+◌, drop, Ok, Err, sym, ap, ◌∙◌, length-drop, arith}
use Rattle.utf8.specs.Rows.{rest_of, rows}
use Rattle.utf8.proofs.Fronts.{nothing, no_character, found, fit_inside, fitting_is, follow_all, follow_stop}
use Rattle.utf8.proofs.character.measure.Goals as goal

pub returns-in_default : goal.returns-in_default
returns-in_default c = nothing (rows c.args.planes) _ _ c.in_default.ensures.lookup.3

pub returns-in_default-rest_in : goal.returns-in_default-rest_in
returns-in_default-rest_in c =
    let (inside, first) = c.in-Some.ensures.lookup.3 in
    no_character (rows c.args.planes) _ _ inside (c.in_default-rest_in.ensures ∙ ap (rest_of (rows c.args.planes)) (first 0))

pub overflow_add-result-else-fit-rest-2 : goal.overflow_add-result-else-fit-rest-2
overflow_add-result-else-fit-rest-2 c =
    let row = c.in-Some-rest_in.rest.now in
    omega (
      arith,
      c.in-Some.ensures.lookup.3.0,
      fitting_is row c.args.text.now (c.args.at + 1) c.fitting-fit.result c.fitting-fit.ensures,
      fit_inside row (drop (c.args.at + 1) c.args.text.now),
      length-drop (c.args.at + 1) c.args.text.now,
    )

pub returns-then-fit-rest : goal.returns-then-fit-rest
returns-then-fit-rest c =
    let (inside, first) = c.in-Some.ensures.lookup.3 in
    let row = c.in-Some-rest_in.rest.now in
    let is = fitting_is row c.args.text.now (c.args.at + 1) c.fitting-fit.result c.fitting-fit.ensures in
    let all = follow_all row (drop (c.args.at + 1) c.args.text.now) 1 (sym is ∙ c.if-fit-rest.true) in
    found (rows c.args.planes) c.args.text.now c.args.at row _ inside (c.in-Some-rest_in.ensures ∙ ap (rest_of (rows c.args.planes)) (first 0)) (all ∙ ap (λ n. Ok (1 + n)) (sym c.if-fit-rest.true))

pub returns-else-fit-rest : goal.returns-else-fit-rest
returns-else-fit-rest c =
    let (inside, first) = c.in-Some.ensures.lookup.3 in
    let row = c.in-Some-rest_in.rest.now in
    let is = fitting_is row c.args.text.now (c.args.at + 1) c.fitting-fit.result c.fitting-fit.ensures in
    let stop = follow_stop row (drop (c.args.at + 1) c.args.text.now) 1 (λ same. c.if-fit-rest.false (is ∙ same)) in
    let place : c.args.at + 1 + c.fitting-fit.result ≡ c.args.at + (1 + c.fitting-fit.result) = omega arith in
    ap Err place ∙ found (rows c.args.planes) c.args.text.now c.args.at row (Err (1 + c.fitting-fit.result)) inside (c.in-Some-rest_in.ensures ∙ ap (rest_of (rows c.args.planes)) (first 0)) (stop ∙ ap (λ n. Err (1 + n)) (sym is))
