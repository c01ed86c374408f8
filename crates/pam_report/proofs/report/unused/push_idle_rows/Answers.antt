use Rattle.std.proofs.Common.{◌∙◌, map, sym}
use Rattle.std.proofs.lemmas.Bool.{eqb-true}
use Rattle.pam_report.proofs.IdleRows.{no-rows}
use Rattle.pam_report.specs.Unused.{unused_view}
use Rattle.pam_report.proofs.report.unused.push_idle_rows.Goals as goal

pub returns-then-is_empty : goal.returns-then-is_empty
returns-then-is_empty c =
    no-rows (map unused_view c.args.unused.now.items) c.args.files.now _ c.args.facts.now (eqb-true _ _ (sym c.is_empty.ensures ∙ c.if-is_empty.true))
