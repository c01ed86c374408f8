use Rattle.std.proofs.Common.{◌∙◌, ◌+◌, ◌∷◌, [], ap, arith, map, refl, rules, sym, tests}
use Rattle.std.proofs.lemmas.Iterator.Splits.{YieldsList-from_slice_split}
use Rattle.std.proofs.lemmas.Iterator.Consumers.{YieldsList-turn, YieldsList-end}
use Rattle.std.proofs.lemmas.List.{length-append}
use Rattle.std.proofs.lemmas.Result.{err_from_is_err_and}
use Rattle.pam_findings.specs.accepted.Views.{line_view}
use Rattle.pam_findings.proofs.AcceptedProofs.LineSteps.{is_feed, line_fails, line_read, lines_begin, lines_end, number_fits}
use Rattle.pam_findings.proofs.accepted.lines.lines_in.Goals as goal

pub loop-line-init : goal.loop-line-init
loop-line-init c = record {
  count = refl;
  same = lines_begin _ _ (ap (map line_view) c.new-lines.ensures.items);
}

pub overflow_add-number : goal.overflow_add-number
overflow_add-number c =
    omega (
      arith,
      number_fits c.args.source.bytes.now _ _
          (YieldsList-turn (YieldsList-from_slice_split _ is_feed c.args.source.bytes.now (cc) (cc) (cc) (λ x b q k. search (rules, tests)))
          c.loop-line.yielded _ c.loop-line.yielded_by _ _ c.in-Some.line c.in-Some.is c.next.ensures.steps).0
          c.loop-line.invariant.count c.args.source.short,
    )

pub loop-line-preserved : goal.loop-line-preserved
loop-line-preserved c =
    let cut = YieldsList-from_slice_split _ is_feed c.args.source.bytes.now (cc) (cc) (cc) (λ x b q k. search (rules, tests)) in
    let turn = YieldsList-turn cut c.loop-line.yielded _ c.loop-line.yielded_by _ _ c.in-Some.line c.in-Some.is c.next.ensures.steps in
    record {
      count = ap (λ n. n + 1) c.loop-line.invariant.count ∙ sym (length-append c.loop-line.yielded (c.in-Some.line ∷ []));
      same = line_read _ c.loop-line.yielded c.in-Some.line _ _ turn.0 turn.1 c.loop-line.invariant.same _ _ c.loop-line.invariant.count
          c.in_ok-add_line.ensures;
    }

pub returns-in_err-add_line : goal.returns-in_err-add_line
returns-in_err-add_line c =
    let cut = YieldsList-from_slice_split _ is_feed c.args.source.bytes.now (cc) (cc) (cc) (λ x b q k. search (rules, tests)) in
    let turn = YieldsList-turn cut c.loop-line.yielded _ c.loop-line.yielded_by _ _ c.in-Some.line c.in-Some.is c.next.ensures.steps in
    let error = err_from_is_err_and c.from_residual.result c.from_residual.ensures.1 in
    rw (error.1, error.2) (line_fails _ c.loop-line.yielded c.in-Some.line _ _ turn.0 turn.1 c.loop-line.invariant.same _
    (map line_view c.add_line.new.lines.items) c.in_err-add_line.field-0.0 c.loop-line.invariant.count c.in_err-add_line.ensures)

pub returns : goal.returns
returns c =
    let cut = YieldsList-from_slice_split _ is_feed c.args.source.bytes.now (cc) (cc) (cc) (λ x b q k. search (rules, tests)) in
    let end = YieldsList-end cut c.loop-line.yielded _ c.loop-line.yielded_by _ _ c.in-None.is c.next.ensures.steps in
    lines_end _ _ _ _ _ end.1 c.loop-line.invariant.same
