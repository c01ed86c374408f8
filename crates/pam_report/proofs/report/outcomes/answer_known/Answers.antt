use Rattle.std.proofs.Common.{Ok, ap, inr}
use Rattle.pam_conf.specs.Stack.{module_count}
use Rattle.pam_facts.proofs.KnownProofs.Listings.{same_listing}
use Rattle.pam_paths.specs.Known.{may_answer}
use Rattle.pam_paths.specs.Paths.{path_through}
use Rattle.pam_report.proofs.OutcomeLists.{outcomes_value-is}
use Rattle.pam_report.specs.Reply.{Outcomes, OutcomesValue}
use Rattle.pam_report.proofs.report.outcomes.answer_known.Goals as goal

pub returns-in-Ok-clause-answer : goal.returns-in-Ok-clause-answer
returns-in-Ok-clause-answer c allows agree =
    let request = c.args.request.now in
    let items = c.args.found.stack in
    let o = c.in-Ok.ensures in
    let listing = same_listing (module_count items) (may_answer c.args.found.known) allows (path_through items) o.0 agree o.1 in
    let reply = λ (value : OutcomesValue). Ok (Outcomes value) in
    inr (o.0, listing, ap reply (outcomes_value-is request.service.now request.kind items c.in-Ok.outcomes o.0 o.2))
