-- Laws of the definitions, in the words of pam.conf(5).
use Rattle.std.specs.Prelude.{All, IsSome, ◌≡◌, ◌↔◌, ◌+◌, ◌-◌, ◌==◌, ◌≤◌, ℕ, nat_lt, false, List, [], ◌∷◌, ◌++◌, length, map}
use Rattle.std.specs.Prelude.{if◌then◌else◌, Option, Some, None, Ok, Err}
use Rattle.std.specs.List.{list_any}
use Rattle.pam_codes.specs.declared.action.Action.{Action}
use Rattle.pam_conf.specs.FileRules.{good_rules, own_faults, unless_faulty}
use Rattle.pam_conf.specs.Files.{Folder}
use Rattle.pam_conf.specs.Lines.{rules_of}
use Rattle.pam_conf.specs.Resolution.{items_or_fault, resolved, stack_from}
use Rattle.pam_conf.specs.Listed.{ListedText, listed}
use Rattle.pam_conf.specs.Stack.{IsNumbered, Items, End, ThenModule, ThenSub, depth, module_count}
use Rattle.pam_conf.specs.Survey.{SurveyText, faults_at, survey_from, surveyed, told}
use Rattle.pam_conf.specs.Walk.{Deeper, Event, Failed, Followed, Met, Reads, Walk, fault_at, file_walk, refusal, rules_at, target_walk, walk}
use Rattle.pam_conf.specs.Words.{IsSplit, words_of}
use Rattle.pam_conf.specs.declared.error.FaultKind.TheVariants.{TooDeep, TooManyFollowed, TooManyModules}
use Rattle.pam_conf.specs.declared.rule.Form.{Form}
use Rattle.pam_conf.specs.declared.rule.Kind.{Kind}
use Rattle.pam_conf.specs.declared.stack.TheConstants.{MAX_MODULES}
use Rattle.pam_conf.specs.declared.trail.TheConstants.{MAX_OPEN_FILES}
use Rattle.pam_conf.specs.declared.walk.TheConstants.{MAX_FOLLOWS}

-- WORDS

-- the words of a line are the one way to write it as blanks and spellings of words; if there is no way it has no words
abbrev pub WordsAreOneSplit : Type 0
WordsAreOneSplit = (line : List ℕ) (words : List (List ℕ)) → (words_of line ≡ Some words) ↔ IsSplit line words

-- THE FAULTS OF A FILE

-- a file without a fault of its own has the rules of its lines; the result of any other is its first fault
abbrev pub FirstFaultOrRules : Type 0
FirstFaultOrRules = (form : Form) (bytes : List ℕ) → rules_of form bytes ≡ unless_faulty (own_faults form bytes) (good_rules form bytes)

-- THE WALK BY ITS TRAIL ALONE: the room of a walk is `MAX_OPEN_FILES` less the files of its trail

-- the walk of the last file of a trail, with the room that the trail leaves
abbrev pub trail_walk : Folder → Reads → Kind → Option (List ℕ) → List ℕ → ℕ → Walk
trail_walk folder reads kind service trail file = walk folder reads kind service (MAX_OPEN_FILES - length trail) trail file

-- one more file may be opened as long as fewer than `MAX_OPEN_FILES` are open
abbrev pub one_more : Folder → Reads → Kind → Option (List ℕ) → List ℕ → Deeper
one_more folder reads kind service trail = if nat_lt (length trail) MAX_OPEN_FILES then Some (trail_walk folder reads kind service) else None

-- a stack is the walk of its first file, with that file as the whole trail
abbrev pub StackBeginsATrail : Type 0
StackBeginsATrail = (folder : Folder) (kind : Kind) (service : Option (List ℕ)) (file : ℕ) →
    stack_from folder kind record { file = file; service = service } ≡ items_or_fault (trail_walk folder (rules_at folder) kind service (file ∷ []) file)

-- a file is walked rule by rule, and its targets likewise with the longer trail
abbrev pub WalkFollowsItsTrail : Type 0
WalkFollowsItsTrail = (folder : Folder) (reads : Reads) (kind : Kind) (service : Option (List ℕ)) (trail : List ℕ) (file : ℕ) →
    trail_walk folder reads kind service trail file ≡ file_walk folder reads kind service (one_more folder reads kind service trail) trail file

-- a target that exists and is not open is too deep if and only if 16 files are open
abbrev pub DeepWhereAllAreOpen : Type 0
DeepWhereAllAreOpen = (folder : Folder) (reads : Reads) (kind : Kind) (service : Option (List ℕ)) (trail : List ℕ) (target : ℕ) →
    list_any (λ p. p == target) trail ≡ false →
    (target_walk (one_more folder reads kind service trail) trail (Some target) ≡ Err TooDeep) ↔ (16 ≤ length trail)

-- THE LIMITS, by their numbers

abbrev pub MostModules : Type 0
MostModules = MAX_MODULES ≡ 256

abbrev pub MostFollows : Type 0
MostFollows = MAX_FOLLOWS ≡ 256

abbrev pub MostOpenFiles : Type 0
MostOpenFiles = MAX_OPEN_FILES ≡ 16

-- a walk meets no fault
abbrev pub Unfailed : List Event → Type 0
Unfailed [] = Unit {0}
Unfailed (Failed fault ∷ events) = ⊥
Unfailed (Met file line ∷ events) = Unfailed events
Unfailed (Followed file line target ∷ events) = Unfailed events

-- the modules that it meets
abbrev pub modules_met : List Event → ℕ
modules_met [] = 0
modules_met (Met file line ∷ events) = modules_met events + 1
modules_met (Followed file line target ∷ events) = modules_met events
modules_met (Failed fault ∷ events) = modules_met events

-- the includes and substacks that it follows
abbrev pub follows_made : List Event → ℕ
follows_made [] = 0
follows_made (Met file line ∷ events) = follows_made events
follows_made (Followed file line target ∷ events) = follows_made events + 1
follows_made (Failed fault ∷ events) = follows_made events

-- a walk without a fault, with at most 256 modules and at most 256 follows
abbrev pub IsWithin : List Event → Type 0
IsWithin events = Unfailed events × (modules_met events ≤ 256) × (follows_made events ≤ 256)

-- it is not refused
abbrev pub WithinIsAllowed : Type 0
WithinIsAllowed = (events : List Event) → IsWithin events → refusal 0 0 events ≡ None

-- the 257th module is refused, whatever comes after it
abbrev pub NextModuleIsRefused : Type 0
NextModuleIsRefused = (before after : List Event) (file line : ℕ) → IsWithin before → modules_met before ≡ 256 →
    refusal 0 0 (before ++ Met file line ∷ after) ≡ Some (fault_at file line TooManyModules)

-- so is the 257th follow
abbrev pub NextFollowIsRefused : Type 0
NextFollowIsRefused = (before after : List Event) (file line target : ℕ) → IsWithin before → follows_made before ≡ 256 →
    refusal 0 0 (before ++ Followed file line target ∷ after) ≡ Some (fault_at file line TooManyFollowed)

-- a walk that goes on after faults tells at most 257
abbrev pub FaultsAreFew : Type 0
FaultsAreFew = (events : List Event) → length (told 0 0 events) ≤ 257

-- THE STACK OF A SERVICE

-- a stack has at most `MAX_MODULES` modules, numbered from 1 on from the left, and at most `MAX_OPEN_FILES` of its lists
-- are open at once
abbrev pub IsStack : Items → Type 0
IsStack items = IsNumbered items × (module_count items ≤ MAX_MODULES) × (depth items ≤ MAX_OPEN_FILES)

-- the items of a service are such a stack
abbrev pub ResolvedIsStack : Type 0
ResolvedIsStack = (folder : Folder) (service : List ℕ) (kind : Kind) (items : Items) → resolved folder service kind ≡ Ok items → IsStack items

-- THE STACK AND THE SURVEY OF A SERVICE

-- a survey without a fault, of the walk and of each file that it reached
abbrev pub IsSound : Folder → SurveyText → Type 0
IsSound folder survey = (survey.faults ≡ []) × All (λ file. faults_at folder file ≡ []) survey.reached

-- a service has a stack if and only if its survey has no fault, and then it is the survey's
abbrev pub StackIsSoundSurvey : Type 0
StackIsSoundSurvey = (folder : Folder) (service : List ℕ) (kind : Kind) (items : Items) →
    (resolved folder service kind ≡ Ok items) ↔ (((surveyed folder service kind).items ≡ Some items) × IsSound folder (surveyed folder service kind))

-- a survey without a fault of the walk has a stack
abbrev pub FaultlessHasStack : Type 0
FaultlessHasStack = (folder : Folder) (service : List ℕ) (kind : Kind) → (surveyed folder service kind).faults ≡ [] →
    IsSome (surveyed folder service kind).items

-- THE LIST OF A FILE

-- an item, whatever includes it came in by; a substack has no control
pub record ListedItem : Type 0 where
  pub file : ℕ
  pub line : ℕ
  pub control : Option (List Action)

abbrev pub listed_item : ListedText → ListedItem
listed_item item = record { file = item.file; line = item.line; control = item.control }

-- the items of a list, without those of its substacks
abbrev pub items_listed : Items → List ListedItem
items_listed End = []
items_listed (ThenModule m rest) = record { file = m.file; line = m.line; control = Some m.control } ∷ items_listed rest
items_listed (ThenSub s inner rest) = record { file = s.file; line = s.line; control = None } ∷ items_listed rest

-- where the walk from a file has no fault, the list of the file has its items, in order
abbrev pub ListIsOfWalk : Type 0
ListIsOfWalk = (folder : Folder) (kind : Kind) (file : ℕ) (items : Items) →
    (survey_from folder kind record { file = file; service = None }).faults ≡ [] →
    (survey_from folder kind record { file = file; service = None }).items ≡ Some items →
    items_listed items ≡ map listed_item (listed folder kind file)
