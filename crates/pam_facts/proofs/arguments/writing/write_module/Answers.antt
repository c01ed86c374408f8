use Rattle.std.proofs.Common.{◌++◌, [], map}
use Rattle.std.specs.Option.{option_map}
use Rattle.pam_facts.specs.arguments.Rows.{row_of}
use Rattle.pam_facts.specs.arguments.Texts.{row_line, rows_text}
use Rattle.pam_facts.specs.arguments.Views.{row_view}
use Rattle.pam_facts.specs.arguments.inner.Cuts.{parts_left}
use Rattle.pam_facts.proofs.ArgumentProofs.TextSteps.{next_row, rows_end, rows_start}
use Rattle.pam_text.proofs.Writing.{all-is, all-none, all-then, err-front, front-is, front-longer, front-then}
use Rattle.pam_facts.proofs.arguments.writing.write_module.Goals as goal

pub loop-part-init : goal.loop-part-init
loop-part-init g c = record {
  can = tt;
  finite = tt;
  front = [];
  parts = rw c.into_iter-part-iterator.ensures.into_iter_gives
      (rows_start c.args.name.now c.args.known.now.kinds.now (option_map (λ t. t.now) c.args.known.now.arguments) _ c.of-part-items.ensures);
  took = all-none _;
}

pub returns-in_err-write_row : goal.returns-in_err-write_row
returns-in_err-write_row g c =
    let l = c.loop-part.invariant in
    let kinds = c.args.known.now.kinds.now in
    err-front _ c.from_residual.ensures.0
    (front-is (front-longer (rows_text c.args.name.now kinds (map row_of (parts_left c.next.new.self.separator (option_map (λ t. t.now) c.next.new.self.rest))))
    (front-then l.took c.in_err-write_row.ensures))
    (next_row c.args.name.now kinds l.front _ _ _ _ _ c.in-Some.ensures.steps c.of-row.ensures l.parts))

pub loop-part-preserved : goal.loop-part-preserved
loop-part-preserved g c =
    let l = c.loop-part.invariant in
    let kinds = c.args.known.now.kinds.now in
    record {
      can = tt;
      finite = tt;
      front = l.front ++ row_line c.args.name.now kinds (row_view c.of-row.result);
      parts = next_row c.args.name.now kinds l.front _ _ _ _ _ c.in-Some.ensures.steps c.of-row.ensures l.parts;
      took = all-then l.took c.in_ok-write_row.ensures;
    }

pub returns : goal.returns
returns g c =
    let l = c.loop-part.invariant in
    all-is l.took (rows_end c.args.name.now c.args.known.now.kinds.now l.front _ _ c.in-None.ensures.steps.0 l.parts)
