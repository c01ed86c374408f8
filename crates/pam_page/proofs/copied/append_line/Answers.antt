use Rattle.std.proofs.Common.{◌∙◌, ◌++◌, ap, codes, ℕ}
use Rattle.pam_page.proofs.KeptTexts.{line_parts}
use Rattle.pam_page.specs.inner.KeptSteps.{undotted}
use Rattle.pam_page.specs.Page.{code_name}
use Rattle.pam_page.proofs.copied.append_line.Goals as goal

pub returns-then-append_parts : goal.returns-then-append_parts
returns-then-append_parts c =
    let old = c.args.lines.now in
    let front = (old ++ undotted (c.args.first_codes.now ++ c.args.last_codes.now)) ++ codes " " in
    let parts = c.append_parts.ensures.ok c.if-append_parts.true
    ∙ ap (λ (d : ℕ). (((front ++ code_name d) ++ c.args.first_steps.now) ++ c.args.last_steps.now) ++ codes "\n") c.decision-decision.ensures in
    line_parts c.args.path.now old _ c.args.first_codes.now c.args.last_codes.now c.args.first_steps.now c.args.last_steps.now parts
    c.requires.cursor c.requires.steps
