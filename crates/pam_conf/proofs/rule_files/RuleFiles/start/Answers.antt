use Rattle.std.proofs.Common.{ap, codes, map, sym, ◌∙◌}
use Rattle.pam_conf.specs.Files.{Folder, position_of}
use Rattle.pam_conf.specs.inner.Kept.{kept_view}
use Rattle.pam_conf.proofs.SurveyLemmas.{start_single}
use Rattle.pam_conf.proofs.TableLemmas.{good_lent}
use Rattle.pam_conf.proofs.rule_files.RuleFiles.start.Goals as goal

pub returns-in_ok-found-in-Single-clause-start : goal.returns-in_ok-found-in-Single-clause-start
returns-in_ok-found-in-Single-clause-start c =
    start_single c.args.self.now c.args.service.now c.in_ok-file-in-Single.file (map kept_view c.as_slice.result.now) _
    (ap (λ (f : Folder). f.form) (sym c.self.view_is) ∙ sym c.in-Single.ensures)
    (ap (λ (f : Folder). position_of (codes "pam.conf") f.entries) (sym c.self.view_is) ∙ sym c.in_ok-file-in-Single.ensures)
    (good_lent c.self.inside.files.now c.args.self.now c.self.inside.read.items c.deref.result.now c.in_ok-file-in-Single.file
    c.in_ok-found-in-Single.found (map kept_view c.as_slice.result.now) c.self.view_is c.deref.ensures.value c.in_ok-found-in-Single.ensures.lookup
    c.self.invariant (ap (map kept_view) c.as_slice.ensures.value))
    c.carried_start.ensures.start
