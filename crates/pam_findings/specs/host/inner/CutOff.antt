-- For private contracts and proofs alone: the rules of the kinds of stacks whose walk a limit ends.
use Rattle.std.specs.Prelude.{◌≡◌, ℕ, ◌<◌, true, List, MatchOption, length, Option, Some}
use Rattle.pam_conf.specs.FileRules.{good_rules}
use Rattle.pam_conf.specs.Files.{Folder, bytes_at}
use Rattle.pam_conf.specs.Rule.{RuleText}
use Rattle.pam_conf.specs.declared.rule.Kind.{Kind}
use Rattle.pam_facts.specs.Kinds.{has_kind}
use Rattle.pam_facts.specs.declared.kinds.Kinds.{Kinds}
use Rattle.pam_text.specs.Members.{Member}
use Rattle.pam_findings.specs.declared.host.met.Met.{Met}
use Rattle.pam_findings.specs.declared.host.problem.Problem.TheVariants as problems
use Rattle.pam_findings.specs.declared.host.problem.Spot.{Spot}

-- S3 of a rule of a file, which has one of these kinds
pub record OfKinds (kinds : Kinds) (file : ℕ) (rule : RuleText) (spot : Spot) : Type 0 where
  pub problem : spot.problem ≡ problems.NeverAsked
  pub kind : Kind
  pub is_kind : rule.kind ≡ Some kind
  pub has : has_kind kind kinds ≡ true
  pub at : spot.file ≡ Some file
  pub line : spot.line ≡ rule.line

-- of one of these rules
abbrev pub OfAmong : Kinds → ℕ → List RuleText → Spot → Type 0
OfAmong kinds file rules spot = (rule : RuleText) × Member rule rules × OfKinds kinds file rule spot

-- of a rule without a fault of the file at a position
abbrev pub OfFile : Folder → Kinds → ℕ → Spot → Type 0
OfFile folder kinds file spot = MatchOption (bytes_at file folder.entries) ⊥ (λ bytes. OfAmong kinds file (good_rules folder.form bytes) spot)

-- of one of the first files
abbrev pub OfFiles : Folder → Kinds → ℕ → Spot → Type 0
OfFiles folder kinds files spot = (file : ℕ) × (file < files) × OfFile folder kinds file spot

-- of some file, where these stacks are cut off
abbrev pub OfCut : Folder → Option Met → Spot → Type 0
OfCut folder cut_off spot = MatchOption cut_off ⊥ (λ met. OfFiles folder met.kinds (length folder.entries) spot)
