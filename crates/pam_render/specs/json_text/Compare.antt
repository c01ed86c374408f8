-- The JSON of `compare`: a line for each change, and a last line with their numbers.
use Rattle.std.specs.Prelude.{ℕ, List, [], ◌∷◌, codes, map, Option, None, Some, option_map}
use Rattle.std.specs.Option.{option_map_or}
use Rattle.pam_changes.specs.declared.counts.Counts.{Counts}
use Rattle.pam_changes.specs.declared.guards.Guard.{Guard}
use Rattle.pam_changes.specs.declared.guards.Guard.TheVariants as guards
use Rattle.pam_changes.specs.declared.guards.GuardingModule.{GuardingModule}
use Rattle.pam_changes.specs.declared.modules.MatchedPair.{MatchedPair}
use Rattle.pam_changes.specs.declared.pair.Shown.{Shown}
use Rattle.pam_changes.specs.declared.pair.StackPair.{StackPair}
use Rattle.pam_changes.specs.declared.steps.AskedModule.{AskedModule}
use Rattle.pam_changes.specs.declared.steps.AskedModule.TheVariants.{Old, New, Both}
use Rattle.pam_codes.specs.SetText.{name_of}
use Rattle.pam_compare.specs.declared.comparing.TheConstants.{MAX_SITUATIONS}
use Rattle.pam_conf.specs.Files.{Folder}
use Rattle.pam_conf.specs.Stack.{Items, module_at}
use Rattle.pam_conf.specs.declared.conf_error.ConfError.{ConfError}
use Rattle.pam_render.specs.json_lines.Line.{items_of, kind, line, members_of, number_or_null, readable, readable_or_null, strings}
use Rattle.pam_render.specs.parts.Changes.{change_name, configuration_name, file_of_rule, line_of_rule, occurrence}
use Rattle.pam_render.specs.parts.Compared.{Arguments, As, Change, Guard as GuardOf, Head, Last, Line, NotKnown, OnlyInNew, OnlyInOld, Refused, Same, Side}
use Rattle.pam_render.specs.parts.Compared.{StackOfOne, compared_lines}
use Rattle.pam_report.specs.Decide.{path_at}
use Rattle.pam_report.specs.Fault.{file_at}
use Rattle.pam_findings.specs.host.Rows.{row_of}
use Rattle.pam_findings.specs.declared.host.problem.Problem.TheVariants.{Fault}
use Rattle.pam_report.specs.Reply.{CompareValue}
use Rattle.serde_json.specs.Data.{Data, array, null, number, object, string, unsigned}
use Rattle.pam_render.specs.json_text.Header.{kind_name}

-- A STACK

-- the members with which the line of a stack begins
abbrev pub head_members : List ℕ → Head → List (List ℕ × Data) → List (List ℕ × Data)
head_members name head members = kind name ∷ (codes "service", readable head.service) ∷ (codes "type", string (kind_name head.kind)) ∷ members

-- MODULES

-- a module by its number in the stack of a configuration: its path, and which it is there of those with this path
abbrev pub module_members : List ℕ → Items → ℕ → List (List ℕ × Data) → List (List ℕ × Data)
module_members place items which members =
    (codes "module", readable (path_at which items)) ∷ (codes "occurrence", number (unsigned (occurrence items which)))
    ∷ (codes "counted_in", string place) ∷ members

unfoldable pub module_object : List ℕ → Items → ℕ → Data
module_object place items which = object (members_of (module_members place items which []))

abbrev pub modules_array : List ℕ → Items → List ℕ → Data
modules_array place items numbers = array (items_of (map (module_object place items) numbers))

-- modules that the old stack has, and some that the new one alone has
abbrev pub old_modules : StackPair → List ℕ → Data
old_modules pair numbers = modules_array (codes "old") pair.old numbers

abbrev pub new_modules : StackPair → List ℕ → Data
new_modules pair numbers = modules_array (codes "new") pair.new numbers

-- the arguments of a module, none for a number that no module has
unfoldable pub arguments_array : Items → ℕ → Data
arguments_array items which = option_map_or (λ m. strings m.arguments) (module_at which items) (strings [])

-- a module that is asked, and its answer: in which configurations, and by its number in the stack of one
unfoldable pub asked_object : List ℕ → List ℕ → Items → ℕ → ℕ → Data
asked_object configuration place items which code =
    object (members_of ((codes "configuration", string configuration) ∷ module_members place items which ((codes "code", string (name_of code)) ∷ [])))

-- one that only a stack has, or that is in both
abbrev pub step_object : StackPair → AskedModule → Data
step_object pair (Old which code) = asked_object (codes "old") (codes "old") pair.old which code
step_object pair (New which code) = asked_object (codes "new") (codes "new") pair.new which code
step_object pair (Both which new code) = asked_object (codes "both") (codes "old") pair.old which code

abbrev pub steps_array : StackPair → List AskedModule → Data
steps_array pair asked = array (items_of (map (step_object pair) asked))

-- TWO STACKS

abbrev pub change_members : Head → StackPair → List ℕ → Shown → List (List ℕ × Data)
change_members head pair change shown =
    head_members (codes "change") head
    ((codes "change", string change) ∷ (codes "old", string (name_of shown.witness.old)) ∷ (codes "new", string (name_of shown.witness.new))
    ∷ (codes "steps", steps_array pair shown.asked.items) ∷ [])

unfoldable pub change_json : Head → StackPair → List ℕ → Shown → List ℕ
change_json head pair change shown = line (change_members head pair change shown)

-- stacks with the same decisions, and what changes in their modules
abbrev pub same_members : Head → StackPair → List (List ℕ × Data)
same_members head pair =
    let m = pair.modules in
    head_members (codes "same_decisions") head
    ((codes "removed", old_modules pair m.removed.items) ∷ (codes "added", new_modules pair m.added.items)
    ∷ (codes "moved", old_modules pair m.moved.items) ∷ (codes "controls", old_modules pair m.controls.items) ∷ [])

unfoldable pub same_json : Head → StackPair → List ℕ
same_json head pair = line (same_members head pair)

abbrev pub not_known_members : Head → List (List ℕ × Data)
not_known_members head = head_members (codes "not_known") head ((codes "situations", number (unsigned MAX_SITUATIONS)) ∷ [])

-- matched modules with other arguments
abbrev pub arguments_members : Head → StackPair → MatchedPair → List (List ℕ × Data)
arguments_members head pair matched =
    head_members (codes "arguments") head
    (module_members (codes "old") pair.old matched.old
    ((codes "old", arguments_array pair.old matched.old) ∷ (codes "new", arguments_array pair.new matched.new) ∷ []))

unfoldable pub arguments_json : Head → StackPair → MatchedPair → List ℕ
arguments_json head pair matched = line (arguments_members head pair matched)

-- A MODULE THAT GUARDS A LOGIN

-- what it does
abbrev pub guard_name : Guard → List ℕ
guard_name guards.Checks = codes "checks"
guard_name guards.Refuses = codes "refuses"
guard_name guards.Counts = codes "counts"

-- the file and line of its rule
abbrev pub rule_members : Option (List ℕ) → ℕ → List (List ℕ × Data)
rule_members file line_number =
    (codes "file", readable_or_null file) ∷ (codes "line", number_or_null (option_map (λ _. line_number) file)) ∷ []

abbrev pub guard_members : StackOfOne → GuardingModule → List (List ℕ × Data)
guard_members stack g =
    head_members (codes "guard") stack.head
    ((codes "change", string (change_name stack.configuration))
    ∷ module_members (configuration_name stack.configuration) stack.items g.number
    ((codes "guard", string (guard_name g.guard))
    ∷ rule_members (file_of_rule stack.files stack.items g.number) (line_of_rule stack.items g.number)))

unfoldable pub guard_json : StackOfOne → GuardingModule → List ℕ
guard_json stack g = line (guard_members stack g)

-- STACKS

-- the first fault of a configuration, and where it is, if it is in a file
unfoldable pub fault_object : Folder → ConfError → Data
fault_object files fault =
    let row = row_of (Fault fault.kind) in
    object (members_of ((codes "number", string row.number) ∷ (codes "name", string row.name)
    ∷ (codes "file", readable_or_null (file_at files fault.at)) ∷ (codes "line", number_or_null (option_map (λ _. fault.line) (file_at files fault.at))) ∷ []))

-- nothing where the configuration accepts the service
abbrev pub fault_if_any : Folder → Option ConfError → Data
fault_if_any files None = null
fault_if_any files (Some fault) = fault_object files fault

abbrev pub refused_members : Head → Side → Side → List (List ℕ × Data)
refused_members head old new =
    head_members (codes "refused") head ((codes "old", fault_if_any old.files old.fault) ∷ (codes "new", fault_if_any new.files new.fault) ∷ [])

unfoldable pub refused_json : Head → Side → Side → List ℕ
refused_json head old new = line (refused_members head old new)

-- a stack with the same items as one that was told before
abbrev pub as_members : Head → Head → List (List ℕ × Data)
as_members head first =
    head_members (codes "as") head
    ((codes "first_service", readable first.service) ∷ (codes "first_type", string (kind_name first.kind)) ∷ [])

-- ALL STACKS

-- which configuration alone has a service
abbrev pub only_members : List ℕ → List ℕ → List (List ℕ × Data)
only_members name configuration = kind (codes "only") ∷ (codes "service", readable name) ∷ (codes "configuration", string configuration) ∷ []

-- the numbers of stacks and services
abbrev pub compared_members : ℕ → Counts → List (List ℕ × Data)
compared_members stacks counts =
    kind (codes "compared") ∷ (codes "stacks", number (unsigned stacks)) ∷ (codes "equal", number (unsigned counts.equal))
    ∷ (codes "same_decisions", number (unsigned counts.same_decisions)) ∷ (codes "changed", number (unsigned counts.changed))
    ∷ (codes "refused", number (unsigned counts.refused)) ∷ (codes "not_known", number (unsigned counts.not_known))
    ∷ (codes "only_in_old", number (unsigned counts.only_in_old)) ∷ (codes "only_in_new", number (unsigned counts.only_in_new)) ∷ []

unfoldable pub compared_json : ℕ → Counts → List ℕ
compared_json stacks counts = line (compared_members stacks counts)

-- ONE LINE
abbrev pub line_json : Line → List ℕ
line_json (OnlyInOld name) = line (only_members name (codes "old"))
line_json (OnlyInNew name) = line (only_members name (codes "new"))
line_json (Refused head old new) = refused_json head old new
line_json (As head first) = line (as_members head first)
line_json (Arguments head pair matched) = arguments_json head pair matched
line_json (Change head pair change shown) = change_json head pair change shown
line_json (Same head pair) = same_json head pair
line_json (NotKnown head) = line (not_known_members head)
line_json (GuardOf stack guarding) = guard_json stack guarding
line_json (Last stacks counts) = compared_json stacks counts

-- THE JSON of `compare`: which lines come, in which order, says `compared_lines`
abbrev pub compare_json : CompareValue → List ℕ
compare_json value = compared_lines line_json value
