use Rattle.std.proofs.Common.{◌&&◌, List, ap₂, inr, map, subst}
use Rattle.std.proofs.lemmas.Result.{err_from_is_err_and}
use Rattle.std.specs.Borrow.{Bor}
use Rattle.clap.specs.Words.{Text}
use Rattle.pam_cli.specs.AccessTables.{AreContents}
use Rattle.pam_cli.specs.Reading.{IsOfPolicies}
use Rattle.pam_cli.specs.Sources.{IsUnread}
use Rattle.pam_cli.proofs.AccessTables.{as_many}
use Rattle.pam_report.specs.declared.inputs.InputError.{InputError}
use Rattle.pam_report.specs.declared.inputs.InputError.TheVariants.{Memory, Read}
use Rattle.pam_text.specs.Members.{Member}
use Rattle.pam_words.specs.declared.wanted.ConfSource.{ConfSource}
use Rattle.pam_words.specs.declared.wanted.KnowledgeSource.{KnowledgeSource}
use Rattle.pam_cli.proofs.reading.policy_inputs.Goals as goal

-- a policy that cannot be read is one of those that are named
policy-unread : (source : ConfSource) (named : KnowledgeSource) (names : List Text) (error : InputError) → IsUnread (λ name. Member name names) error
    → IsUnread (IsOfPolicies source named names) error
policy-unread source named names Memory h = tt
policy-unread source named names (Read name why) h = inr h

pub returns : goal.returns
returns g c = λ named fail_on same.
    let told = g.S.System.told c.args.system.now in
    let found = c.in_ok-files.field-0 in
    let known = c.in_ok-given.ensures in
    let policies = c.in_ok-policies.field-0.contents in
    let read = subst (λ (names : List (Bor Text)). AreContents told (map (λ s. s.now) names) policies) same c.in_ok-policies.ensures.ok.1 in (
      ap₂ ◌&&◌ known.0 (as_many told (λ s. s.now) named.items policies read),
      ((found.paths, found.vendor_start, c.in_ok-files.ensures), (known.1, known.2, known.3), known.4, read),
    )

pub returns-in_err-policies : goal.returns-in_err-policies
returns-in_err-policies g c =
    let given = err_from_is_err_and c.from_residual-in_err-policies.result c.from_residual-in_err-policies.ensures.1 in
    let error = c.in_err-policies.field-0.0 in
    λ named fail_on same.
    let unread = subst (λ (names : List (Bor Text)). IsUnread (λ name. Member name (map (λ s. s.now) names)) error) same c.in_err-policies.ensures.error in
    rw (given.1, given.2) (policy-unread c.args.source c.args.named.now (map (λ s. s.now) named.items) error unread)
