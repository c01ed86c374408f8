use Rattle.std.proofs.Common.{◌∙◌, ap, map, arith, refl}
use Rattle.pam_conf.specs.FileRules.{good_rules, own_faults}
use Rattle.pam_conf.specs.inner.FilesRead.{file_view}
use Rattle.pam_conf.proofs.FileFaults.{read_next, unwrapped}
use Rattle.pam_conf.proofs.rule_files.RuleFiles.read.Goals as goal

pub loop-position-preserved : goal.loop-position-preserved
loop-position-preserved c =
    ap (map file_view) c.in_ok-push.ensures.items
    ∙ read_next c.args.files.now c.loop-position.read.items c.in_ok-read_file.field-0 c.loop-position.position c.unwrap_or-bytes.result.now (omega arith)
    c.loop-position.invariant (unwrapped c.bytes.result _ _ _ c.unwrap_or-bytes.ensures c.bytes.ensures refl)
    (c.in_ok-read_file.ensures.rules ∙ ap (λ form. good_rules form c.unwrap_or-bytes.result.now) c.form.ensures)
    (c.in_ok-read_file.ensures.faults ∙ ap (λ form. own_faults form c.unwrap_or-bytes.result.now) c.form.ensures)
    c.in_ok-read_file.ensures.by_kind
