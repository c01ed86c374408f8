use Rattle.pam_findings.specs.tables.Tables.{tables_view}
use Rattle.pam_findings.proofs.TablesProofs.Reporting.{report-from}
use Rattle.pam_findings.proofs.tables.report.TableReport.of.Goals as goal

pub returns : goal.returns
returns c =
    report-from c.args.files.now c.args.services.now (tables_view c.args.tables.now) c.nothing-found.result c.put_problems.new.found
    c.nothing-found.ensures.found c.nothing-found.ensures.placed c.in_ok-put_problems.ensures c.len-count.ensures.ordered
