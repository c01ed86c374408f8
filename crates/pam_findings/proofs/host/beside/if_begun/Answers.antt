use Rattle.std.proofs.Common.{◌∙◌, List, ap, length, sym, ℕ}
use Rattle.std.proofs.lemmas.Bool.{eq-eqb, eqb-true, false≢true}
use Rattle.pam_conf.specs.SurveyText.{survey_text}
use Rattle.pam_findings.proofs.HostProofs.ReadBeside.{begun-nowhere, begun-somewhere}
use Rattle.pam_conf.proofs.ServiceSteps.{nothing}
use Rattle.pam_findings.proofs.host.beside.if_begun.Goals as goal

pub returns-then-is_empty : goal.returns-then-is_empty
returns-then-is_empty c =
    let reached = c.args.survey.reached in
    c.nothing_read.ensures
    ∙ begun-nowhere (survey_text c.args.survey)
    (nothing reached.items (sym reached.ok.0 ∙ eqb-true reached.len 0 (sym c.is_empty.ensures ∙ c.if-is_empty.true)))

pub returns : goal.returns
returns c =
    let reached = c.args.survey.reached in
    begun-somewhere (survey_text c.args.survey) reached.items (λ none.
    false≢true (sym c.if-is_empty.false ∙ c.is_empty.ensures ∙ eq-eqb reached.len 0 (reached.ok.0 ∙ ap (λ (l : List ℕ). length l) none)))
