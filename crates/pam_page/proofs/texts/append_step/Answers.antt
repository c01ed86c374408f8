use Rattle.std.proofs.Common.{◌∙◌, ◌++◌, ◌∷◌, [], List, ap, append_assoc, codes, decimal, ℕ}
use Rattle.std.specs.List.{concat}
use Rattle.pam_codes.specs.SetText.{set_text}
use Rattle.pam_page.proofs.LineParts.{step_text-is}
use Rattle.pam_paths.specs.Steps.{step_seen}
use Rattle.pam_page.proofs.texts.append_step.Goals as goal

pub returns-then-append_number_to : goal.returns-then-append_number_to
returns-then-append_number_to c ok =
    let steps = c.args.steps.now in
    let number = concat (codes " " ∷ decimal c.number-number.result ∷ codes "=" ∷ []) in
    let class = set_text c.class.result in
    c.append_class.ensures ok ∙ ap (λ (l : List ℕ). l ++ class) c.if-append_number_to.ensures ∙ append_assoc steps number class
    ∙ ap (λ (l : List ℕ). steps ++ l) (step_text-is (step_seen c.args.step.now) c.number-number.result c.class.result c.number-number.ensures c.class.ensures)
