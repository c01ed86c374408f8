use Rattle.std.proofs.Common.{◌∙◌, ap, map, sym, take}
use Rattle.std.proofs.lemmas.List.{take-map}
use Rattle.pam_paths.specs.Paths.{PathValue}
use Rattle.pam_paths.specs.Steps.{step_seen}
use Rattle.pam_paths.proofs.Tails.{end-none}
use Rattle.pam_paths.proofs.path.Path.truncate.Goals as goal

pub invariant_of-self : goal.invariant_of-self
invariant_of-self c = end-none _

pub returns-clause-steps : goal.returns-clause-steps
returns-clause-steps c =
    ap (map step_seen) c.truncate.ensures.items ∙ sym (take-map step_seen c.args.count c.self.inside.steps.items)
    ∙ ap (λ (p : PathValue). take c.args.count p.steps) c.self.view_is
