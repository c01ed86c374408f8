-- What a stack does to everybody: pam.conf(5), DESCRIPTION.
use Rattle.std.specs.Prelude.{◌≡◌, ◌⊎◌, ℕ, ◌&&◌, ◌||◌, Bool, true, false, not, List, [], map, codes, IsSome, if◌then◌else◌}
use Rattle.std.specs.Prelude.{Option, Some, None, Ok, slice_get, unwrap_or}
use Rattle.std.specs.Str.{bytes_eq}
use Rattle.std.specs.Option.{option_map, option_map_or}
use Rattle.pam_codes.specs.Code.{auth_err}
use Rattle.pam_codes.specs.Set.{codes_where, is_in}
use Rattle.pam_findings.specs.stack.Asked.{AreExactly, IsNeverAsked, JumpsPastEnd}
use Rattle.pam_findings.specs.stack.Counting.{NeverCounts}
use Rattle.pam_findings.specs.stack.Soundness.{HasTooManyPlaces, LetsIn, LetsNobodyIn, SaysNobody, SaysWayIn}
use Rattle.pam_conf.specs.Files.{Folder}
use Rattle.pam_conf.specs.Resolution.{resolved}
use Rattle.pam_conf.specs.Stack.{Items, ModuleText, module_at, module_count}
use Rattle.pam_conf.specs.Survey.{surveyed}
use Rattle.pam_conf.specs.declared.rule.Kind.{Kind}
use Rattle.pam_conf.specs.declared.rule.Kind.TheVariants.{Auth}
use Rattle.pam_dispatch.specs.State.{success}
use Rattle.pam_facts.specs.Answers.{Allows, failing_answers, free_answers, is_there}
use Rattle.pam_facts.specs.Facts.{has_function}
use Rattle.pam_facts.specs.Fitting.{fact_of}
use Rattle.pam_facts.specs.Paths.{module_name}
use Rattle.pam_facts.specs.Rows.{Row}
use Rattle.pam_paths.specs.Known.{may_answer}
use Rattle.pam_paths.specs.Listing.{Allowance}
use Rattle.pam_paths.specs.Paths.{PathValue, StepValue}
use Rattle.pam_paths.specs.declared.knowledge.Known.{Known}
use Rattle.pam_findings.specs.host.Causes.{IsCause}
use Rattle.pam_findings.specs.host.Closed.{begins_closed}
use Rattle.pam_findings.specs.host.Modules.{Modules}
use Rattle.pam_findings.specs.declared.host.causes.Causes.{Causes}
use Rattle.pam_findings.specs.declared.host.alone.Whole.{Whole}
use Rattle.pam_findings.specs.declared.host.alone.Whole.TheVariants.{Anybody, Nobody}
use Rattle.pam_findings.specs.declared.host.way_in.Answered.{Answered}

-- the answers of the modules of a stack, as far as facts say, and those if each module that checks who logs in fails
abbrev pub IsFree : Modules → Kind → Items → Known → Type 0
IsFree modules kind items known = Allows (module_count items) known (free_answers kind modules.facts modules.there items)

abbrev pub IsFailing : Modules → Kind → Items → Known → Type 0
IsFailing modules kind items known = Allows (module_count items) known (failing_answers kind modules.facts modules.there items)

-- the name of a module is that of one that denies, or only warns
abbrev pub denies_or_warns : List ℕ → Bool
denies_or_warns name = bytes_eq name (codes "pam_deny") || bytes_eq name (codes "pam_warn")

abbrev pub is_other : ModuleText → Bool
is_other m = not (option_map_or denies_or_warns (module_name m.path) false)

-- a stack has a module that does something else
abbrev pub HasOther : Items → Type 0
HasOther items = (number : ℕ) × (m : ModuleText) × (module_at number items ≡ Some m) × (is_other m ≡ true)

-- A STACK IS TO LET SOMEBODY IN: it has a module that neither denies nor only warns, and is not closed on purpose
abbrev pub IsOpen : Kind → Items → Type 0
IsOpen kind items = HasOther items × (begins_closed kind items ≡ false)

-- the runs of the stack of a service for a kind come to more places than a graph has nodes
pub record IsTooLarge (folder : Folder) (modules : Modules) (service : List ℕ) (kind : Kind) : Type 0 where
  pub items : Items
  pub free : Known
  pub failing : Known
  pub stack : resolved folder service kind ≡ Ok items
  pub is_free : IsFree modules kind items free
  pub is_failing : IsFailing modules kind items failing
  pub large : HasTooManyPlaces (may_answer free) items ⊎ HasTooManyPlaces (may_answer failing) items

-- A FILE BY ITSELF: looked up as a service by its own name, it has rules of its own for the kind, and S1 or S2 is said of their stack
abbrev pub HasName : Folder → ℕ → List ℕ → Type 0
HasName folder file name = option_map (λ f. f.0) (slice_get folder.entries file) ≡ Some name

pub record IsOwnStack (folder : Folder) (kind : Kind) (file : ℕ) (items : Items) : Type 0 where
  pub name : List ℕ
  pub is_name : HasName folder file name
  pub own : (surveyed folder name kind).other_answers ≡ false
  pub begins : slice_get (surveyed folder name kind).reached 0 ≡ Some file
  pub stack : resolved folder name kind ≡ Ok items

module _ (folder : Folder) (modules : Modules) (kind : Kind) (file : ℕ) where
  pub record LetsNobodyAlone : Type 0 where
    pub items : Items
    pub own : IsOwnStack folder kind file items
    pub free : Known
    pub is_free : IsFree modules kind items free
    pub nobody : LetsNobodyIn (may_answer free) items
    pub is_open : IsOpen kind items

  pub record LetsAnybodyAlone : Type 0 where
    pub auth : kind ≡ Auth
    pub items : Items
    pub own : IsOwnStack folder kind file items
    pub failing : Known
    pub is_failing : IsFailing modules kind items failing
    pub anybody : LetsIn (may_answer failing) items

  -- nothing is known of it
  pub record IsTooLargeAlone : Type 0 where
    pub name : List ℕ
    pub is_name : HasName folder file name
    pub large : IsTooLarge folder modules name kind

-- S1 or S2 of a file by itself
abbrev pub HasAlone : Folder → Modules → Kind → Whole → ℕ → Type 0
HasAlone folder modules kind Nobody file = LetsNobodyAlone folder modules kind file
HasAlone folder modules kind Anybody file = LetsAnybodyAlone folder modules kind file

abbrev pub LacksAlone : Folder → Modules → Kind → Whole → ℕ → Type 0
LacksAlone folder modules kind whole file = (HasAlone folder modules kind whole file → ⊥) ⊎ IsTooLargeAlone folder modules kind file

-- THE CAUSE of S1 or S2 of the stack of a service for a kind
abbrev pub IsCauseOf : Folder → Modules → List ℕ → Kind → Whole → Option ℕ → Type 0
IsCauseOf folder modules service kind whole cause =
    IsCause (HasAlone folder modules kind whole) (LacksAlone folder modules kind whole) folder.form (surveyed folder service kind).reached cause

-- what is found of a stack: its items; the answers that its modules can give, and those if each check fails; whether nobody is
-- let in, the first way in if each check fails, the modules that are never asked, those that can jump past the end of their list,
-- those whose success never counts, and the files that are the causes of S1 and S2
pub record Judgement : Type 0 where
  pub items : Items
  pub free : Known
  pub failing : Known
  pub nobody : Bool
  pub way : Option PathValue
  pub never_asked : List ℕ
  pub jumps : List ℕ
  pub never_counts : List ℕ
  pub causes : Causes

pub data Verdict : Type 0 where
  Refused : Verdict
  TooLarge : Verdict
  Judged : Judgement → Verdict

-- the stack of a service for a kind
module _ (folder : Folder) (modules : Modules) (service : List ℕ) (kind : Kind) where
  pub record IsJudgement (j : Judgement) : Type 0 where
    pub stack : resolved folder service kind ≡ Ok j.items
    pub free : IsFree modules kind j.items j.free
    pub failing : IsFailing modules kind j.items j.failing
    pub nobody : SaysNobody (may_answer j.free) j.items j.nobody
    pub way : SaysWayIn (may_answer j.failing) j.items j.way
    pub never_asked : AreExactly (IsNeverAsked (may_answer j.free) j.items) j.never_asked
    pub jumps : AreExactly (JumpsPastEnd (may_answer j.free) j.items) j.jumps
    pub never_counts : AreExactly (NeverCounts (may_answer j.free) j.items) j.never_counts
    pub nobody_cause : j.nobody ≡ true → IsOpen kind j.items → IsCauseOf folder modules service kind Nobody j.causes.nobody
    pub anybody_cause : kind ≡ Auth → IsSome j.way → IsCauseOf folder modules service kind Anybody j.causes.anybody

  -- THE VERDICT on it
  abbrev pub IsVerdict : Verdict → Type 0
  IsVerdict Refused = (items : Items) → resolved folder service kind ≡ Ok items → ⊥
  IsVerdict TooLarge = IsTooLarge folder modules service kind
  IsVerdict (Judged j) = IsJudgement j

-- S1 and S2, by the verdict
abbrev pub LetsNobody : Kind → Verdict → Type 0
LetsNobody kind Refused = ⊥
LetsNobody kind TooLarge = ⊥
LetsNobody kind (Judged j) = (j.nobody ≡ true) × IsOpen kind j.items

-- S10: the stack is known to let nobody in
abbrev pub refuses_all : Verdict → Bool
refuses_all Refused = false
refuses_all TooLarge = false
refuses_all (Judged j) = j.nobody

abbrev pub way_in_of : Verdict → Option PathValue
way_in_of Refused = None
way_in_of TooLarge = None
way_in_of (Judged j) = j.way

-- where S1 and S2 are told
abbrev pub causes_of : Verdict → Causes
causes_of Refused = record { nobody = None; anybody = None }
causes_of TooLarge = record { nobody = None; anybody = None }
causes_of (Judged j) = j.causes

-- S3: the modules that are known never to be asked
abbrev pub never_asked_in : Verdict → List ℕ
never_asked_in Refused = []
never_asked_in TooLarge = []
never_asked_in (Judged j) = j.never_asked

-- a module that may succeed says who logs in: it does not succeed if each check fails
abbrev pub SaysWhoLogsIn : Known → ℕ → Type 0
SaysWhoLogsIn failing number = may_answer failing number success ≡ false

-- S5: a module is not there
abbrev pub is_missing : Modules → ModuleText → Bool
is_missing modules m = not (is_there modules.there m.path)

-- S13: a module has no function in a kind
abbrev pub has_no_function : List Row → Kind → ModuleText → Bool
has_no_function facts kind m = not (has_function kind (fact_of facts m.path m.arguments))

-- of some codes auth_err if it is one of them, else the first
abbrev pub answer_among : List ℕ → ℕ
answer_among codes = if is_in auth_err codes then auth_err else unwrap_or (slice_get codes 0) 0

-- THE ANSWERS on a path: of each class a code that the module may answer
abbrev pub answer_on : Allowance → StepValue → Answered
answer_on allows step = record {
  number = step.module_number;
  code = answer_among (codes_where (λ code. is_in code step.class && is_in code (codes_where (allows step.module_number))));
}

abbrev pub answers_on : Allowance → PathValue → List Answered
answers_on allows path = map (answer_on allows) path.steps
