use Rattle.std.proofs.Common.{rules, ◌∙◌, List, ap, map, subst, sym}
use Rattle.std.proofs.lemmas.List.{take_rest}
use Rattle.pam_paths.specs.Paths.{PathValue, StepValue}
use Rattle.pam_paths.specs.Steps.{step_seen}
use Rattle.pam_paths.specs.inner.Tail.{EndsInTail}
use Rattle.pam_paths.proofs.Tails.{last-alike, last-steps}
use Rattle.pam_paths.proofs.path.Path.tail.Goals as goal

pub returns : goal.returns
returns c =
    let steps = c.as_slice-steps.result.now in
    let same = ap (map step_seen) c.as_slice-steps.ensures.value in
    let seen = same ∙ ap (λ (p : PathValue). p.steps) c.self.view_is in
    let alike = subst (λ (l : List StepValue). EndsInTail c.self.inside.tail l) (sym same) c.self.invariant in
    record {
      within = search rules;
      last = last-steps steps _ c.args.self.now.steps c.self.inside.tail seen alike (take_rest steps _);
      tail = last-alike steps _ c.args.self.now.steps c.self.inside.tail seen alike (take_rest steps _);
    }
