use Rattle.std.proofs.Common.{List, Option, ◌∙◌, ap, map}
use Rattle.std.specs.Option.{option_map}
use Rattle.pam_findings.specs.declared.host.problem.Place.{Place}
use Rattle.pam_findings.specs.declared.host.report.Finding.{Finding}
use Rattle.pam_findings.specs.declared.misspelled.word.Misspelled.{Misspelled}
use Rattle.pam_findings.specs.misspelled.MisspelledView.{misspelled_view}
use Rattle.pam_report.specs.ReplyViews.{check_view}
use Rattle.pam_render.specs.declared.patch_text.mending.Mending.{Mending}
use Rattle.pam_render.specs.parts.Check.{Names}
use Rattle.pam_render.specs.parts.CheckNames.{names_view}
use Rattle.pam_render.specs.patch_text.Check.{diffs}
use Rattle.pam_render.specs.patch_text.Mendings.{mendings_of}
use Rattle.pam_render.specs.patch_text.inner.Views.{mendings_view}
use Rattle.pam_render.proofs.patch_text.document.patch_in.Goals as goal

pub returns : goal.returns
returns c =
    let files = c.args.files.now in
    let value = check_view c.args.reply.now in
    c.in_ok-text.ensures
    ∙ ap (λ (ms : List Mending). diffs files (names_view c.in_ok-names.names).paths (mendings_view ms)) c.deref-3.ensures.value
    ∙ ap (λ (n : Names). diffs files n.paths (mendings_view c.in_ok-mendings.mendings.items)) c.in_ok-names.ensures
    ∙ ap (diffs files value.paths) c.in_ok-mendings.ensures
    ∙ ap (λ (ws : List (Option Misspelled)). diffs files value.paths (mendings_of files (map (option_map misspelled_view) ws) c.deref.result.now))
    c.deref-2.ensures.value
    ∙ ap (λ (fs : List (Place × Finding)). diffs files value.paths (mendings_of files value.misspelled fs)) c.deref.ensures.value
