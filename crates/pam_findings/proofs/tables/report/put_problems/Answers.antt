use Rattle.std.proofs.Common.{◌∙◌, [], List, ap, map, not, subst, sym}
use Rattle.std.proofs.lemmas.Result.{on_ok_weaker}
use Rattle.pam_conf.specs.Files.{Folder}
use Rattle.pam_findings.specs.tables.Needs.{IsNeeded}
use Rattle.pam_findings.specs.tables.inner.Passes.{Adds, need_view}
use Rattle.pam_findings.specs.tables.Tables.{tables_view}
use Rattle.pam_findings.specs.declared.tables.needs.Needed.{Needed}
use Rattle.pam_findings.proofs.TablesProofs.Reporting.{no-access-given, no-problems, none-given, problems-of}
use Rattle.pam_findings.proofs.tables.report.put_problems.Goals as goal

pub returns-then-is_none-2 : goal.returns-then-is_none-2
returns-then-is_none-2 c =
    no-problems c.args.files.now c.args.services.now (tables_view c.args.tables.now) c.args.found.now
    (no-access-given c.args.tables.now.access (c.is_none.ensures ∙ ap not c.if-is_none.true))
    (none-given c.args.tables.now.time (c.is_none-then-is_none.ensures ∙ ap not c.if-is_none-2.true))

pub returns : goal.returns
returns c =
    let services = c.args.services.now in
    let adds = subst (λ (f : Folder). Adds (IsNeeded f services) [] (map need_view c.in_ok-needs.needs.items)) c.in_ok-rules.ensures c.in_ok-needs.ensures in
    on_ok_weaker c.put_needs.result
    (problems-of c.args.files.now services (tables_view c.args.tables.now) (map need_view c.deref.result.now) c.args.found.now c.put_needs.new.found
    (subst (λ (l : List Needed). Adds (IsNeeded c.args.files.now services) [] (map need_view l)) (sym c.deref.ensures.value) adds))
    c.put_needs.ensures
