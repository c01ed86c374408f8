use Rattle.std.proofs.Common.{◌∙◌, List, None, Option, ap, length, replicate, subst, ℕ}
use Rattle.pam_conf.specs.Files.{Folder}
use Rattle.pam_text.specs.Members.{Member}
use Rattle.pam_findings.specs.host.Beside.{beside}
use Rattle.pam_findings.specs.host.Host.{Host}
use Rattle.pam_findings.specs.host.inner.CutOff.{OfCut}
use Rattle.pam_findings.specs.host.Modules.{Modules}
use Rattle.pam_findings.specs.host.inner.Own.{IsRead, read_by}
use Rattle.pam_findings.specs.host.Report.{IsReportOn}
use Rattle.pam_conf.specs.Services.{checked_services}
use Rattle.pam_findings.specs.host.inner.SoFar.{SoFar, host_with}
use Rattle.pam_findings.specs.host.inner.Table.{Adds, Puts, Removes}
use Rattle.pam_findings.specs.declared.host.met.Met.{Met}
use Rattle.pam_findings.specs.declared.host.problem.Spot.{Spot}
use Rattle.pam_findings.proofs.HostProofs.OneService.{take-none}
use Rattle.pam_findings.proofs.HostProofs.Reporting.{report-from}
use Rattle.pam_findings.proofs.host.report.HostReport.of.Goals as goal

pub add_all-requires-clause-beside : goal.add_all-requires-clause-beside
add_all-requires-clause-beside c = λ kind.
    c.in_ok-beside.ensures kind ∙ ap (λ (f : Folder). beside f c.in_ok-services.services kind) c.in_ok-rules.ensures

pub add_all-requires-clause-known : goal.add_all-requires-clause-known
add_all-requires-clause-known c = c.in_ok-found.ensures.alone c.in_ok-rules.rules c.new-modules.result

pub add_all-requires-clause-sofar : goal.add_all-requires-clause-sofar
add_all-requires-clause-sofar c =
    take-none (host_with c.args.files.now c.args.vendor_start c.in_ok-services.services c.new-modules.result) c.in_ok-found.found
    (c.in_ok-found.ensures.readers ∙ ap (λ (n : ℕ). let none : Option Met = None in replicate n none) c.len.ensures)
    c.in_ok-found.ensures.found c.in_ok-found.ensures.placed c.in_ok-found.ensures.asked c.in_ok-found.ensures.cut_off

pub returns-clause-report : goal.returns-clause-report
returns-clause-report c =
    let host : List (List ℕ) → Host = λ services. host_with c.args.files.now c.args.vendor_start services c.new-modules.result in
    let services = c.in_ok-services.ensures in
    let found = c.add_all.new.found in
    let ways = c.in_ok-ways_in.ways_in.items in
    let asked = c.push_cut_off.new.asked.items in
    let sofar = subst (λ (l : List (List ℕ)). SoFar (host l) (length l) found ways) services c.in_ok-ways_in.ensures in
    let checked = checked_services c.args.files.now c.args.named.now in
    let Is : Modules → Type 0 = λ m. IsReportOn (host_with c.args.files.now c.args.vendor_start checked m) c.args.named.now c.put_folder.new.table ways in
    subst Is c.new-modules.ensures
    (report-from (host checked) c.args.named.now found ways sofar
    c.remove_all.new.table c.put_files.new.table c.put_folder.new.table asked
    (subst (λ (r : Folder). Adds (OfCut r found.cut_off) found.asked.items asked) c.in_ok-rules.ensures c.in_ok-push_cut_off.ensures)
    (subst (λ (l : List Spot). Removes (λ spot. Member spot l) found.table c.remove_all.new.table) c.deref.ensures.value c.remove_all.ensures)
    (subst (λ (l : List (Option Met)). Puts (IsRead c.args.files.now c.args.vendor_start l (length l)) (read_by l) c.remove_all.new.table c.put_files.new.table)
    c.deref-2.ensures.value c.in_ok-put_files.ensures)
    c.in_ok-put_folder.ensures c.len-count.ensures.ordered)
