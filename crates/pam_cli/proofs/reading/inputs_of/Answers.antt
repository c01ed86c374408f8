use Rattle.std.proofs.Common.{◌≡◌, List, Result, map, subst, sym}
use Rattle.pam_cli.specs.Reading.{IsReading}
use Rattle.pam_cli.specs.System.{Told}
use Rattle.pam_report.specs.declared.inputs.InputError.{InputError}
use Rattle.pam_report.specs.declared.inputs.Inputs.{Inputs}
use Rattle.pam_words.specs.declared.wanted.Candidate.{Candidate}
use Rattle.pam_words.specs.Wanted.{candidate_view}
use Rattle.pam_words.specs.declared.wanted.Task.{Task}
use Rattle.pam_cli.proofs.reading.inputs_of.Goals as goal

-- what is read for a task with a view of the candidates is read for the request
read-as : (told : Told) (asked task : Task) (given used : List Candidate) (r : Result Inputs InputError) → asked ≡ task → used ≡ given
    → IsReading told (map candidate_view used) task r → IsReading told (map candidate_view given) asked r
read-as told asked task given used r is same h =
    subst (λ t. IsReading told (map candidate_view given) t r) (sym is)
    (subst (λ (cs : List Candidate). IsReading told (map candidate_view cs) task r) same h)

pub returns-in-Check : goal.returns-in-Check
returns-in-Check g c =
    read-as (g.S.System.told c.args.system.now) _ _ _ _ c.check_inputs.result c.in-Check.is c.deref.ensures.value
    (c.check_inputs.ensures c.in-Check.services c.in-Check.fail_on)

pub returns-in-Compare : goal.returns-in-Compare
returns-in-Compare g c =
    let candidates = map candidate_view c.args.request.now.candidates.items in
    subst (λ t. IsReading (g.S.System.told c.args.system.now) candidates t c.compare_inputs.result) (sym c.in-Compare.is)
    (c.compare_inputs.ensures candidates c.in-Compare.service c.in-Compare.kind)

pub returns-in-Access : goal.returns-in-Access
returns-in-Access g c =
    let candidates = map candidate_view c.args.request.now.candidates.items in
    subst (λ t. IsReading (g.S.System.told c.args.system.now) candidates t c.access_inputs.result) (sym c.in-Access.is)
    (c.access_inputs.ensures candidates c.in-Access.tables c.in-Access.login c.in-Access.arguments c.deref-in-Access.ensures.value)

pub returns-in-Policy : goal.returns-in-Policy
returns-in-Policy g c =
    read-as (g.S.System.told c.args.system.now) _ _ _ _ c.policy_inputs.result c.in-Policy.is c.deref-in-Policy.ensures.value
    (c.policy_inputs.ensures c.in-Policy.policies c.in-Policy.fail_on c.deref-in-Policy-2.ensures.value)
