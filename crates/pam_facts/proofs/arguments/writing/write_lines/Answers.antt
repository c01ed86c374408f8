use Rattle.std.proofs.Common.{◌++◌, []}
use Rattle.std.specs.Option.{option_map}
use Rattle.pam_facts.specs.arguments.Texts.{lines_text, module_text}
use Rattle.pam_facts.specs.arguments.Views.{module_view}
use Rattle.pam_facts.specs.arguments.inner.Cuts.{parts_left}
use Rattle.pam_facts.proofs.ArgumentProofs.TableSteps.{named_lines}
use Rattle.pam_facts.proofs.ArgumentProofs.TextSteps.{line_written, lines_end, lines_start}
use Rattle.pam_text.proofs.Writing.{all-is, all-none, all-then, err-front, front-is, front-longer, front-then}
use Rattle.pam_facts.proofs.arguments.writing.write_lines.Goals as goal

pub loop-line-init : goal.loop-line-init
loop-line-init g c = record {
  can = tt;
  finite = tt;
  front = [];
  parts = rw c.into_iter-line-iterator.ensures.into_iter_gives (lines_start c.args.text.now _ c.of-line-items.ensures);
  took = all-none _;
}

pub returns-in_err-write_module : goal.returns-in_err-write_module
returns-in_err-write_module g c =
    let l = c.loop-line.invariant in
    err-front _ c.from_residual.ensures.0
    (front-is (front-longer (lines_text (named_lines (parts_left c.next.new.self.separator (option_map (λ t. t.now) c.next.new.self.rest))))
    (front-then l.took c.in_err-write_module.ensures))
    (line_written l.front _ _ _ _ c.in-Some.ensures.steps l.parts _ _ _ c.in-Some-cut.ensures.value c.of-known.ensures))

pub loop-line-preserved-in-Continue-1 : goal.loop-line-preserved-in-Continue-1
loop-line-preserved-in-Continue-1 g c =
    let l = c.loop-line.invariant in
    record {
      can = tt;
      finite = tt;
      front = l.front ++ module_text c.in-Some-cut.name.now (module_view c.of-known.result);
      parts = line_written l.front _ _ _ _ c.in-Some.ensures.steps l.parts _ _ _ c.in-Some-cut.ensures.value c.of-known.ensures;
      took = all-then l.took c.in_ok-write_module.ensures;
    }

pub returns : goal.returns
returns g c =
    let l = c.loop-line.invariant in
    all-is l.took (lines_end l.front _ _ c.in-None.ensures.steps.0 l.parts)
