use Rattle.std.proofs.Common.{◌∙◌, ◌++◌, List, ap, map, subst}
use Rattle.pam_conf.specs.Survey.{SurveyText}
use Rattle.pam_conf.specs.declared.conf_error.ConfError.{ConfError}
use Rattle.pam_text.specs.Members.{Member}
use Rattle.pam_findings.specs.host.inner.Besides.{beside_text}
use Rattle.pam_findings.specs.host.inner.Looked.{walk_spot}
use Rattle.pam_findings.specs.host.inner.Table.{Puts, with_stack}
use Rattle.pam_findings.specs.declared.host.problem.Spot.{Spot}
use Rattle.pam_findings.proofs.HostProofs.Adding.{adds-walk}
use Rattle.pam_findings.proofs.HostProofs.Others.{puts-beside}
use Rattle.pam_findings.proofs.host.stacks.Checker.add_beside.Goals as goal

pub returns : goal.returns
returns c =
    let rules = c.args.self.now.rules.now in
    let name = c.args.name.now in
    let at = c.args.at in
    let jumps = c.in_ok-spots.spots.items in
    let all = c.push_walk.new.spots.items in
    let faults = (beside_text c.args.self.now.beside.now at.kind).faults in
    puts-beside rules faults at.service name at.kind jumps all c.args.table.now c.put_stack_at_all.new.table
    (c.in_ok-spots.ensures name c.requires.survey)
    (adds-walk faults jumps all (c.in_ok-push_walk.ensures ∙ ap (λ (l : List ConfError). jumps ++ map walk_spot l)
    (c.deref.ensures.value ∙ ap (λ (s : SurveyText). s.faults) c.of_kind.ensures)))
    (subst (λ (l : List Spot). Puts (λ spot. Member spot l) (with_stack at.service at.kind) c.args.table.now c.put_stack_at_all.new.table)
    c.deref-2.ensures.value c.in_ok-put_stack_at_all.ensures)
