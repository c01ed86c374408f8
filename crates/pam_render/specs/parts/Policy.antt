-- What a host says of policies, and the lines that tell it, in a form of answers: a line for each finding, for each rule, and a last line.
use Rattle.std.specs.Prelude.{◌≡◌, ℕ, Bool, false, List, [], ◌++◌, count_by, filter, fold, length, map, nat_eq, Option, None, Some, Result, Ok, slice_get}
use Rattle.std.specs.List.{flat_map, zip}
use Rattle.std.specs.Option.{option_map_or}
use Rattle.pam_conf.specs.Files.{Folder}
use Rattle.pam_explain.specs.declared.explanation.Level.{Level}
use Rattle.pam_explain.specs.declared.explanation.Level.TheVariants as levels
use Rattle.pam_paths.specs.declared.cursor.CursorError.{CursorError}
use Rattle.pam_policy.specs.declared.host.report.RuleReport.{RuleReport}
use Rattle.pam_policy.specs.declared.host.stacks.HostPlace.{HostPlace}
use Rattle.pam_policy.specs.declared.host.stacks.StackClass.{StackClass}
use Rattle.pam_policy.specs.declared.text.rule.Rule.{Rule}
use Rattle.pam_policy.specs.host.Findings.{FindingText, Broken, Impossible, NotKnown, findings_of}
use Rattle.pam_policy.specs.host.Told.{with_places}
use Rattle.pam_report.specs.Names.{kind_name}
use Rattle.pam_report.specs.PolicyLevels.{policy_level}
use Rattle.pam_report.specs.Reply.{Policy, PolicyValue, Reply}
use Rattle.pam_report.specs.declared.report.policy.JudgedPolicy.{JudgedPolicy}
use Rattle.pam_render.specs.parts.Check.{is_level, text_at}
use Rattle.pam_render.specs.declared.parts.check.Counts.{Counts}

-- THE HOST: its files, the names of its services, and the places and the classes of its stacks
pub record Host : Type 0 where
  pub files : Folder
  pub services : List (List ℕ)
  pub places : List HostPlace
  pub classes : List StackClass

abbrev pub host_of : PolicyValue → Host
host_of value = record {
  files = value.files;
  services = value.stacks.services;
  places = value.stacks.places.items;
  classes = value.stacks.classes.items;
}

abbrev pub class_at : Host → ℕ → Option StackClass
class_at host class = slice_get host.classes class

-- the name of the service of a place, and that of its kind, empty if there is none
abbrev pub service_of_place : Host → ℕ → List ℕ
service_of_place host position = option_map_or (λ place. text_at host.services place.service) (slice_get host.places position) []

abbrev pub kind_of_place : Host → ℕ → List ℕ
kind_of_place host position = option_map_or (λ place. kind_name place.kind) (slice_get host.places position) []

-- the stack at a place is of a class
abbrev pub is_of_class : Host → ℕ → ℕ → Bool
is_of_class host class position = option_map_or (λ place. nat_eq place.class class) (slice_get host.places position) false

-- RULES: the policy and the line of a rule, its words separated by single spaces, and what the host says of it
pub record ToldRule : Type 0 where
  pub policy : List ℕ
  pub line : ℕ
  pub text : List ℕ
  pub report : RuleReport

abbrev pub told_rule : List ℕ → Rule × RuleReport → ToldRule
told_rule policy told = record { policy = policy; line = told.0.line; text = told.0.text.items; report = told.1 }

-- the rules of a policy, in their order
abbrev pub rules_of_policy : JudgedPolicy → List ToldRule
rules_of_policy policy = map (told_rule policy.name.now) (zip policy.rules.items policy.reports.items)

abbrev pub rules_of : List JudgedPolicy → List ToldRule
rules_of policies = flat_map rules_of_policy policies

-- FINDINGS of rules, each with the positions of the places that it is about
pub record ToldFinding : Type 0 where
  pub rule : ToldRule
  pub finding : FindingText
  pub places : List ℕ

-- the class that a finding is about, if it is about one
abbrev pub class_of : FindingText → Option ℕ
class_of (Broken class run) = Some class
class_of (Impossible class) = Some class
class_of (NotKnown class) = Some class
class_of finding = None

-- of the places of which a rule speaks, those of the class of a finding
abbrev pub places_of : Host → List ℕ → FindingText → List ℕ
places_of host spoken finding = option_map_or (λ class. filter (is_of_class host class) spoken) (class_of finding) []

abbrev pub told_finding : Host → ToldRule → FindingText → ToldFinding
told_finding host rule finding = record { rule = rule; finding = finding; places = places_of host rule.report.places.items finding }

-- the findings of a rule, in the order of their numbers
abbrev pub found_of_rule : Host → ToldRule → List ToldFinding
found_of_rule host rule = map (told_finding host rule) (findings_of rule.report)

abbrev pub found_of : Host → List ToldRule → List ToldFinding
found_of host rules = flat_map (found_of_rule host) rules

-- the number of findings of a level
abbrev pub found_at : Level → List ToldFinding → ℕ
found_at level found = count_by (λ told. is_level (policy_level told.finding) level) found

abbrev pub counts_of : List ToldFinding → Counts
counts_of found = record {
  errors = found_at levels.Error found;
  warnings = found_at levels.Warning found;
  notes = found_at levels.Note found;
}

-- THE STACKS of which some rule speaks: the positions of their places, each once
abbrev pub spoken : List ToldRule → List ℕ
spoken rules = fold (λ places rule. with_places places rule.report) [] rules

abbrev pub spoken_count : List ToldRule → ℕ
spoken_count rules = length (spoken rules)

-- A LINE
pub data Line : Type 0 where
  -- a finding
  Found : Host → ToldFinding → Line
  -- a rule, of which it is told whether it holds
  Judged : ToldRule → Line
  -- the last line: the number of rules, that of the stacks of which some rule speaks, and those of findings
  Last : ℕ → ℕ → Counts → Line

-- if this is the text of a line
module _ (line : Line → List ℕ) where
  abbrev pub found_lines : Host → List ToldFinding → List ℕ
  found_lines host found = flat_map (λ told. line (Found host told)) found

  abbrev pub rule_lines : List ToldRule → List ℕ
  rule_lines rules = flat_map (λ rule. line (Judged rule)) rules

  -- the lines of findings, of rules, and the last line
  abbrev pub lines_of : Host → List ToldRule → List ToldFinding → ℕ → List ℕ
  lines_of host rules found stacks = found_lines host found ++ rule_lines rules ++ line (Last (length rules) stacks (counts_of found))

  -- THE LINES of policies
  abbrev pub policy_lines : PolicyValue → List ℕ
  policy_lines value =
      let rules = rules_of value.policies in
      lines_of (host_of value) rules (found_of (host_of value) rules) (spoken_count rules)

  -- they are the text of policies
  abbrev pub IsPolicyBy : Reply → Result (List ℕ) CursorError → Type 0
  IsPolicyBy (Policy value) text = text ≡ Ok (policy_lines value)
  IsPolicyBy reply text = ⊥
