-- What is wrong with a file itself, whatever stacks read it.
use Rattle.std.specs.Prelude.{◌≡◌, ℕ, Bool, true, false, nat_le, is_none, List, [], MatchOption}
use Rattle.std.specs.List.{range_with_len}
use Rattle.std.specs.Option.{option_map_or}
use Rattle.pam_text.specs.Source.{source_fault}
use Rattle.pam_conf.specs.FileRules.{good_rules, own_faults}
use Rattle.pam_conf.specs.Files.{Folder, bytes_at, position_of}
use Rattle.pam_conf.specs.Rule.{RuleBody, RuleText, Include, Module, Sub}
use Rattle.pam_conf.specs.declared.rule.Form.{Form}
use Rattle.pam_conf.specs.declared.rule.Form.TheVariants.{Dir, Single}
use Rattle.pam_text.specs.Members.{Member}
use Rattle.pam_released.specs.Findings.{findings_of}
use Rattle.pam_released.specs.declared.finding.Finding.{Finding}
use Rattle.pam_findings.specs.declared.host.problem.Problem.{Problem}
use Rattle.pam_findings.specs.declared.host.problem.Problem.TheVariants as problems

-- the files that are read where a walk reached some: each service reads the whole of pam.conf
abbrev pub files_read : Form → ℕ → List ℕ → List ℕ
files_read Dir files reached = reached
files_read Single files reached = range_with_len 0 files

-- the places at which released Linux-PAM reads a file otherwise; it reads none with a fault of the file as a whole
abbrev pub released_in : Form → List ℕ → List Finding
released_in form bytes = option_map_or (λ _. []) (source_fault bytes) (findings_of form bytes)

-- only the vendor folder has the file of this name. Its files come after those of the first folder, from this position on
abbrev pub is_of_vendor : Folder → ℕ → List ℕ → Bool
is_of_vendor folder vendor_start name = option_map_or (nat_le vendor_start) (position_of name folder.entries) false

-- a rule includes such a file, or has it as a substack
abbrev pub includes_vendor : Folder → ℕ → RuleBody → Bool
includes_vendor folder vendor_start (Module control path arguments) = false
includes_vendor folder vendor_start (Include target) = is_of_vendor folder vendor_start target
includes_vendor folder vendor_start (Sub target) = is_of_vendor folder vendor_start target

-- L10: Debian's Linux-PAM opens targets in the first folder alone, and a rule of these bytes names one that only the vendor folder has
pub record IncludesVendor (folder : Folder) (vendor_start : ℕ) (bytes : List ℕ) (line : ℕ) (is_at_include : Bool) : Type 0 where
  pub rule : RuleText
  pub is_rule : Member rule (good_rules folder.form bytes)
  pub at : rule.line ≡ line
  pub at_include : is_none rule.kind ≡ is_at_include
  pub includes : includes_vendor folder vendor_start rule.body ≡ true

-- the bytes of a file have a problem at a line
abbrev pub BytesHave : Folder → ℕ → List ℕ → ℕ → Problem → Type 0
BytesHave folder vendor_start bytes line (problems.Fault fault) = Member (record { kind = fault; line = line }) (own_faults folder.form bytes)
BytesHave folder vendor_start bytes line (problems.Released difference) =
    Member (record { line = line; difference = difference }) (released_in folder.form bytes)
BytesHave folder vendor_start bytes line (problems.IncludedFromVendor is_at_include) = IncludesVendor folder vendor_start bytes line is_at_include
BytesHave folder vendor_start bytes line problem = ⊥

-- the file at a position has a problem at a line, whatever stacks read it
abbrev pub FileHas : Folder → ℕ → ℕ → ℕ → Problem → Type 0
FileHas folder vendor_start file line problem =
    MatchOption (bytes_at file folder.entries) ⊥ (λ bytes. BytesHave folder vendor_start bytes line problem)
