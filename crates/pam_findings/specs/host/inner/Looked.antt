-- For private contracts and proofs alone: what is seen of a stack.
use Rattle.std.specs.Prelude.{◌≡◌, ℕ, false, List, [], MatchOption, Option, Some}
use Rattle.pam_findings.specs.declared.stack.soundness.Soundness.{Soundness}
use Rattle.pam_conf.specs.Files.{Folder}
use Rattle.pam_conf.specs.Stack.{Items, ModuleText, module_at, module_count}
use Rattle.pam_conf.specs.Survey.{SurveyText}
use Rattle.pam_conf.specs.declared.conf_error.ConfError.{ConfError}
use Rattle.pam_conf.specs.declared.rule.Kind.{Kind}
use Rattle.pam_conf.specs.declared.rule.Kind.TheVariants.{Auth}
use Rattle.pam_graph.specs.Walks.{walks}
use Rattle.pam_paths.specs.Known.{may_answer}
use Rattle.pam_paths.specs.Listing.{IsListing}
use Rattle.pam_paths.specs.Paths.{path_through}
use Rattle.pam_paths.specs.declared.knowledge.Known.{Known}
use Rattle.pam_text.specs.Members.{Member}
use Rattle.pam_findings.specs.host.Modules.{Modules}
use Rattle.pam_findings.specs.host.StackProblems.{ByVerdict, HasWayIn, InStack, IsAt, MayAsk, ModuleHas, StackAt}
use Rattle.pam_findings.specs.host.inner.Table.{Adds}
use Rattle.pam_findings.specs.host.Verdicts.{IsVerdict, Judgement, SaysWhoLogsIn, Verdict, refuses_all}
use Rattle.pam_findings.specs.declared.host.causes.Causes.{Causes}
use Rattle.pam_findings.specs.declared.host.judging.Judging.{Judging}
use Rattle.pam_findings.specs.declared.host.judging.Stacked.{Stacked}
use Rattle.pam_findings.specs.declared.host.judging.Told.{Told}
use Rattle.pam_findings.specs.declared.host.problem.Problem.{Problem}
use Rattle.pam_findings.specs.declared.host.problem.Problem.TheVariants as problems
use Rattle.pam_findings.specs.declared.host.problem.Spot.{Spot}

abbrev pub walk_spot : ConfError → Spot
walk_spot fault = record { file = fault.at; line = fault.line; problem = problems.Walk fault.kind }

-- a problem of the module with this number
pub record OfModule (problem : Problem) (items : Items) (number : ℕ) (spot : Spot) : Type 0 where
  pub problem_is : spot.problem ≡ problem
  pub rule : ModuleText
  pub at : IsAt items number spot rule

-- a problem of a module with one of these numbers
pub record OfModules (problem : Problem) (items : Items) (IsOne : ℕ → Type 0) (spot : Spot) : Type 0 where
  pub number : ℕ
  pub one : IsOne number
  pub of : OfModule problem items number spot

abbrev pub spot_at : ModuleText → Problem → Spot
spot_at rule problem = record { file = Some rule.file; line = rule.line; problem = problem }

-- a problem of a rule, whose module has it by itself
pub record OfRule (modules : Modules) (name : List ℕ) (kind : Kind) (rule : ModuleText) (spot : Spot) : Type 0 where
  pub file : spot.file ≡ Some rule.file
  pub line : spot.line ≡ rule.line
  pub has : ModuleHas modules name kind rule spot.problem

-- the same, by the number of the module
abbrev pub OfNumber : Modules → List ℕ → Kind → Items → ℕ → Spot → Type 0
OfNumber modules name kind items number spot = MatchOption (module_at number items) ⊥ (λ rule. OfRule modules name kind rule spot)

-- what the runs of a stack come to, as a judgement
abbrev pub judgement_of : Items → Known → Known → Soundness → Causes → Judgement
judgement_of items free failing s causes = record {
  items = items;
  free = free;
  failing = failing;
  nobody = s.lets_nobody_in;
  way = s.lets_anybody_in;
  never_asked = s.never_asked.items;
  jumps = s.jumps_past_end.items;
  never_counts = s.never_counts.items;
  causes = causes;
}

-- the judgement on a stack
abbrev pub judgement_in : Judging → Judgement
judgement_in of = judgement_of of.stack.now of.free.now of.failing.now of.soundness.now of.causes

-- the graph of a stack has its runs
abbrev pub HasGraph : Judging → Type 0
HasGraph of = IsListing (may_answer of.free.now) (module_count of.stack.now) (path_through of.stack.now) (walks of.soundness.now.graph)

-- S26 of a module of a stack that is judged
pub record VainIn (kind : Kind) (j : Judgement) (spot : Spot) : Type 0 where
  pub auth : kind ≡ Auth
  pub somebody : j.nobody ≡ false
  pub of : OfModules problems.SuccessNeverCounts j.items (λ number. Member number j.never_counts × SaysWhoLogsIn j.failing number) spot

-- the rules that a stack may ask, as S3 of them
pub record Asks (items : Option Items) (verdict : Verdict) (spot : Spot) : Type 0 where
  pub problem_is : spot.problem ≡ problems.NeverAsked
  pub may_ask : MayAsk items verdict spot

-- what is told of a stack, by the verdict on it
pub record Tells (kind : Kind) (verdict : Verdict) (told : Told) : Type 0 where
  pub way_in : kind ≡ Auth → HasWayIn verdict told.way_in
  pub nobody : told.lets_nobody_in ≡ refuses_all verdict

-- which stack this is
abbrev pub at_of : Stacked → StackAt
at_of at = record {
  service = at.service;
  kind = at.kind;
  named = at.named;
  home = at.home;
  is_only_included = at.is_only_included;
  is_included = at.is_included;
  is_greeter = at.is_greeter;
}

-- some verdict on a stack, the problems that it gives, the rules that it may ask, and what is told of it
pub record Judges (folder : Folder) (modules : Modules) (name : List ℕ) (at : Stacked) (items : Items) (old new asked more : List Spot)
    (told : Told) : Type 0 where
  pub verdict : Verdict
  pub is_verdict : IsVerdict folder modules name at.kind verdict
  pub adds : Adds (λ spot. ByVerdict (at_of at) verdict spot spot.problem) old new
  pub asks : Adds (Asks (Some items) verdict) asked more
  pub tells : Tells at.kind verdict told

-- the same, with all problems of the stack
pub record Looks (folder : Folder) (modules : Modules) (name : List ℕ) (service : ℕ) (kind : Kind) (survey : SurveyText)
    (spots asked more : List Spot) (told : Told) : Type 0 where
  pub verdict : Verdict
  pub is_verdict : IsVerdict folder modules name kind verdict
  pub adds : Adds (InStack folder modules service name kind survey verdict) [] spots
  pub asks : Adds (Asks survey.items verdict) asked more
  pub tells : Tells kind verdict told
