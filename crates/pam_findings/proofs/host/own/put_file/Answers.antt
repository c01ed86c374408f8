use Rattle.std.proofs.Common.{◌∙◌, ◌++◌, List, ap, map}
use Rattle.pam_conf.specs.FileRules.{own_faults}
use Rattle.pam_conf.specs.declared.error.RuleFault.{RuleFault}
use Rattle.pam_conf.specs.declared.rule.Form.{Form}
use Rattle.pam_findings.specs.host.FileProblems.{released_in}
use Rattle.pam_findings.specs.host.inner.Own.{fault_spot, released_spot, vendor_spots_in}
use Rattle.pam_findings.specs.declared.host.problem.Spot.{Spot}
use Rattle.pam_conf.proofs.ServiceSteps.{seen-of}
use Rattle.pam_findings.proofs.HostProofs.Owned.{faults-of-file, puts-file}
use Rattle.pam_findings.proofs.host.own.put_file.Goals as goal

pub returns : goal.returns
returns c =
    let file = c.args.file in
    let checker = c.args.checker.now in
    let files = checker.files.now in
    let bytes = c.in-Some-Some.bytes.now in
    let there = seen-of _ c.bytes.result c.in-Some-Some.bytes _ c.bytes.ensures c.in-Some-Some.is-1 in
    let faults = faults-of-file files checker.rules.now file bytes c.in-Some-Some.faults.now checker.same there
    (seen-of _ c.faults.result c.in-Some-Some.faults _ c.faults.ensures c.in-Some-Some.is-0) in
    puts-file files checker.vendor_start file bytes c.args.met c.deref.result.now c.args.table.now c.put_all.new.table
    there
    (c.deref.ensures.value ∙ c.in_ok-push_from_vendor.ensures
    ∙ ap (λ (l : List Spot). l ++ vendor_spots_in files checker.vendor_start file) (c.in_ok-spots.ensures
    ∙ ap (λ (l : List RuleFault). map (fault_spot file) l ++ map (released_spot file) (released_in c.form.result bytes)) faults
    ∙ ap (λ (f : Form). map (fault_spot file) (own_faults files.form bytes) ++ map (released_spot file) (released_in f bytes)) c.form.ensures))
    c.in_ok-put_all.ensures
