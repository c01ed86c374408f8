-- What it means that nothing is found of a rule.
use Rattle.std.proofs.Common.{◌≡◌, ◌∙◌, ℕ, List, [], ◌∷◌, ◌++◌, Option, Some, None, map, refl, subst, sym}
use Rattle.std.specs.List.{filter_map}
use Rattle.pam_paths.proofs.Listings.{Member-map_back}
use Rattle.pam_text.specs.Members.{Member}
use Rattle.pam_policy.specs.declared.host.report.ClassReport.{ClassReport}
use Rattle.pam_policy.specs.declared.host.report.RuleReport.{RuleReport}
use Rattle.pam_policy.specs.declared.rules.verdict.Verdict.{Verdict}
use Rattle.pam_policy.specs.declared.rules.verdict.Verdict.TheVariants.{Holds, Broken, Shown, Impossible}
use Rattle.pam_policy.specs.host.Findings.{by_verdict, findings_of, not_known, not_upheld, of_argument, of_name, saying_nothing}
use Rattle.pam_policy.specs.host.Findings.{unless_judged}
use Rattle.pam_policy.specs.host.Laws.{IsUpheld, SilentRuleHolds}
use Rattle.pam_policy.specs.host.Reports.{IsVerdict, SaysOfClass}
use Rattle.pam_policy.specs.host.Stacks.{KnownSite, site_of}
use Rattle.pam_policy.specs.names.Words.{MisnamedText, NoService, FitsNone, NoModule, NoArgument, misnamed_view}
use Rattle.pam_policy.specs.search.Runs.{run_value}
use Rattle.pam_policy.specs.text.Sentences.{SentenceText, Never, Can, Before}
use Rattle.pam_policy.proofs.HostProofs.Classes.{spoken-class}
use Rattle.pam_policy.proofs.HostProofs.Known.{all-at}
use Rattle.pam_policy.proofs.NamesProofs.Silence.{both_empty, none_seen, silence}

-- no word is said to name nothing
no-words : (words : List MisnamedText) → filter_map of_name words ≡ [] → filter_map of_argument words ≡ [] → words ≡ []
no-words [] names arguments = refl
no-words (NoService word ∷ words) names arguments = absurd cc
no-words (FitsNone ∷ words) names arguments = absurd cc
no-words (NoModule word ∷ words) names arguments = absurd cc
no-words (NoArgument argument ∷ words) names arguments = absurd cc

-- a class of which nothing is found upholds the rule
upheld : (site : Option KnownSite) (sentence : SentenceText) (class : ℕ) (verdict : Option Verdict) → IsVerdict site sentence verdict →
    by_verdict class verdict ≡ None → unless_judged class verdict ≡ None → IsUpheld site sentence
upheld None sentence class None says right known = absurd cc
upheld None sentence class (Some verdict) says right known = says
upheld (Some site) sentence class None says right known = absurd says
upheld (Some site) (Never c) class (Some Holds) says right known = says
upheld (Some site) (Before first later) class (Some Holds) says right known = says
upheld (Some site) (Can c) class (Some Holds) says right known = absurd says
upheld (Some site) sentence class (Some (Broken run)) says right known = absurd cc
upheld (Some site) (Can c) class (Some (Shown run)) says right known = (run_value run, says)
upheld (Some site) (Never c) class (Some (Shown run)) says right known = absurd says
upheld (Some site) (Before first later) class (Some (Shown run)) says right known = absurd says
upheld (Some site) sentence class (Some Impossible) says right known = absurd cc

-- the parts of the findings are empty
record AreSilent (report : RuleReport) : Type 0 where
  pub classes : filter_map not_upheld report.classes.items ≡ []
  pub known : filter_map not_known report.classes.items ≡ []
  pub words : map misnamed_view report.misnamed.items ≡ []

silent-parts : (report : RuleReport) → findings_of report ≡ [] → AreSilent report
unfolding findings_of
silent-parts report none =
    let words = map misnamed_view report.misnamed.items in
    let one = filter_map not_upheld report.classes.items in
    let two = filter_map of_name words in
    let three = saying_nothing report.idle in
    let four = filter_map not_known report.classes.items in
    let last = both_empty (one ++ two ++ three ++ four) (filter_map of_argument words) none in
    let known = both_empty (one ++ two ++ three) four last.0 in
    let idle = both_empty (one ++ two) three known.0 in
    let first = both_empty one two idle.0 in
    record { classes = first.0; known = known.1; words = no-words words first.1 last.1 }

pub silent-holds : SilentRuleHolds
silent-holds host stacks rule report is none =
    let class_of : ClassReport → ℕ = λ report. report.class in
    let silent = silent-parts report none in
    let reports = report.classes.items in
    record {
      words = (silence host rule).0 (sym is.words ∙ silent.words);
      upheld = λ place there spoken.
          let judged = spoken-class rule stacks.places place.class (record { place = place; there = there; spoken = spoken; is_class = refl }) in
          let of = Member-map_back class_of place.class reports (subst (Member place.class) (sym is.classes) judged) in
          subst (λ (class : ℕ). IsUpheld (site_of stacks class) rule.sentence) (sym of.2)
          (upheld (site_of stacks of.0.class) rule.sentence of.0.class of.0.verdict
          (all-at (SaysOfClass stacks rule.sentence) reports of.0 is.verdicts of.1)
          (none_seen not_upheld reports silent.classes of.0 of.1) (none_seen not_known reports silent.known of.0 of.1));
    }
