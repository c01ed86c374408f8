-- The text of `compare`: a line for each change, and a last line with their numbers.
use Rattle.std.specs.Prelude.{ℕ, ◌==◌, ◌||◌, nat_lt, Bool, true, false, List, [], ◌∷◌, ◌++◌, codes, decimal, if◌then◌else◌}
use Rattle.std.specs.Prelude.{Option, None, Some}
use Rattle.std.specs.List.{flat_map}
use Rattle.std.specs.Option.{option_map_or}
use Rattle.pam_changes.specs.declared.counts.Counts.{Counts}
use Rattle.pam_changes.specs.declared.guards.Guard.{Guard}
use Rattle.pam_changes.specs.declared.guards.Guard.TheVariants as guards
use Rattle.pam_changes.specs.declared.guards.GuardingModule.{GuardingModule}
use Rattle.pam_changes.specs.declared.modules.MatchedPair.{MatchedPair}
use Rattle.pam_changes.specs.declared.pair.Shown.{Shown}
use Rattle.pam_changes.specs.declared.pair.StackPair.{StackPair}
use Rattle.pam_changes.specs.declared.steps.AskedModule.{AskedModule}
use Rattle.pam_changes.specs.declared.steps.AskedModule.TheVariants.{Old, New, Both}
use Rattle.pam_codes.specs.SetText.{name_of}
use Rattle.pam_compare.specs.declared.comparing.TheConstants.{MAX_SITUATIONS}
use Rattle.pam_conf.specs.Files.{Folder}
use Rattle.pam_conf.specs.Stack.{Items, module_at}
use Rattle.pam_conf.specs.declared.conf_error.ConfError.{ConfError}
use Rattle.pam_render.specs.declared.parts.compared.line.Configuration.{Configuration}
use Rattle.pam_render.specs.declared.parts.compared.line.Configuration.TheVariants as one
use Rattle.pam_render.specs.parts.Changes.{change_name, configuration_name, file_of_rule, line_of_rule, occurrence}
use Rattle.pam_render.specs.parts.Compared.{Arguments, As, Change, Guard as GuardOf, Head, Last, Line, NotKnown, OnlyInNew, OnlyInOld, Refused, Same, Side}
use Rattle.pam_render.specs.parts.Compared.{StackOfOne, compared_lines}
use Rattle.pam_report.specs.Decide.{path_at}
use Rattle.pam_report.specs.Fault.{file_at}
use Rattle.pam_findings.specs.host.Rows.{row_of}
use Rattle.pam_findings.specs.declared.host.problem.Problem.TheVariants.{Fault}
use Rattle.pam_report.specs.Reply.{CompareValue}
use Rattle.pam_render.specs.text.Check.{counted}
use Rattle.pam_render.specs.sentences.Shown.{shown_name}
use Rattle.pam_render.specs.text.Header.{kind_name}

-- MODULES

-- nothing for the first module with a path
abbrev pub occurrence_text : List ℕ → ℕ → List ℕ
occurrence_text place which = if nat_lt 1 which then codes "#" ++ decimal which ++ place else []

-- the path of a module, and which it is of those with this path, with this text after the number
unfoldable pub module_text : List ℕ → Items → ℕ → List ℕ
module_text place items number = shown_name (path_at number items) ++ occurrence_text place (occurrence items number)

-- `PATH` or `PATH#N`: a module of the old stack, by its number there
abbrev pub old_module : StackPair → ℕ → List ℕ
old_module pair number = module_text [] pair.old number

-- `PATH` or `PATH#N of new`: one of the new stack alone, by its number there
abbrev pub new_module : StackPair → ℕ → List ℕ
new_module pair number = module_text (codes " of new") pair.new number

-- a space before a name that is not the first
abbrev pub if_more : Bool → List ℕ → List ℕ
if_more more name = (if more then codes " " else []) ++ shown_name name

-- names, with a space between each two
abbrev pub spaced : Bool → List (List ℕ) → List ℕ
spaced more [] = []
spaced more (name ∷ names) = if_more more name ++ spaced true names

unfoldable pub arguments_text : Items → ℕ → List ℕ
arguments_text items number = option_map_or (λ m. spaced false m.arguments) (module_at number items) []

-- TWO STACKS

-- `SERVICE KIND`
abbrev pub head_text : Head → List ℕ
head_text head = shown_name head.service ++ codes " " ++ kind_name head.kind

-- a module that is asked, and its answer; `-` for one that only the old stack has, `+` for one that only the new stack has
unfoldable pub asked_text : StackPair → AskedModule → List ℕ
asked_text pair (Old number code) = codes "-" ++ old_module pair number ++ codes " " ++ name_of code
asked_text pair (New number code) = codes "+" ++ new_module pair number ++ codes " " ++ name_of code
asked_text pair (Both number new code) = old_module pair number ++ codes " " ++ name_of code

abbrev pub next_asked : StackPair → AskedModule → List ℕ
next_asked pair asked = codes ", " ++ asked_text pair asked

-- with commas
abbrev pub asked_texts : StackPair → List AskedModule → List ℕ
asked_texts pair [] = []
asked_texts pair (asked ∷ others) = asked_text pair asked ++ flat_map (next_asked pair) others

-- `SERVICE KIND CHANGE: CODE becomes CODE where MODULE CODE, MODULE CODE`
unfoldable pub change_line : Head → StackPair → List ℕ → Shown → List ℕ
change_line head pair change shown =
    head_text head ++ codes " " ++ change ++ codes ": " ++ name_of shown.witness.old ++ codes " becomes " ++ name_of shown.witness.new
    ++ codes " where " ++ asked_texts pair shown.asked.items ++ codes "\n"

-- a colon before the first, a comma before each other
abbrev pub separator : Bool → List ℕ
separator more = if more then codes ", " else codes ": "

-- a module, and what changes in it; the first argument comes after its number
unfoldable pub numbered_text : List ℕ → Items → List ℕ → Bool → ℕ → List ℕ
numbered_text place items change more number = separator more ++ module_text place items number ++ codes " " ++ change

abbrev pub numbered : List ℕ → Items → List ℕ → Bool → List ℕ → List ℕ
numbered place items change more [] = []
numbered place items change more (number ∷ numbers) =
    numbered_text place items change more number ++ flat_map (numbered_text place items change true) numbers

abbrev pub has_any : List ℕ → Bool
has_any [] = false
has_any (n ∷ ns) = true

-- the modules that were moved, or got another control
abbrev pub moved_text : StackPair → Bool → List ℕ
moved_text pair more =
    let m = pair.modules in
    numbered [] pair.old (codes "moved") more m.moved.items
    ++ numbered [] pair.old (codes "with another control") (more || has_any m.moved.items) m.controls.items

-- those that were added, before them
abbrev pub added_text : StackPair → Bool → List ℕ
added_text pair more =
    let m = pair.modules in
    numbered (codes " of new") pair.new (codes "added") more m.added.items ++ moved_text pair (more || has_any m.added.items)

-- the modules that were removed, added or moved, or got another control
abbrev pub module_changes : StackPair → List ℕ
module_changes pair =
    let m = pair.modules in
    numbered [] pair.old (codes "removed") false m.removed.items ++ added_text pair (has_any m.removed.items)

-- `SERVICE KIND same decisions: MODULE removed, MODULE moved`
unfoldable pub same_line : Head → StackPair → List ℕ
same_line head pair = head_text head ++ codes " same decisions" ++ module_changes pair ++ codes "\n"

-- `SERVICE KIND not known: more than N situations`
unfoldable pub not_known_line : Head → List ℕ
not_known_line head = head_text head ++ codes " not known: more than " ++ decimal MAX_SITUATIONS ++ codes " situations\n"

-- `SERVICE KIND arguments of MODULE: "ARGUMENTS" becomes "ARGUMENTS"`
unfoldable pub argument_line : Head → StackPair → MatchedPair → List ℕ
argument_line head pair matched =
    head_text head ++ codes " arguments of " ++ old_module pair matched.old ++ codes ": \"" ++ arguments_text pair.old matched.old
    ++ codes "\" becomes \"" ++ arguments_text pair.new matched.new ++ codes "\"\n"

-- A STACK

-- ` FILE:LINE`, if there is a file
abbrev pub place_text : Option (List ℕ) → ℕ → List ℕ
place_text None line = []
place_text (Some file) line = codes " " ++ shown_name file ++ codes ":" ++ decimal line

-- `NUMBER NAME FILE:LINE`
unfoldable pub fault_text : Folder → ConfError → List ℕ
fault_text files fault =
    let row = row_of (Fault fault.kind) in
    row.number ++ codes " " ++ row.name ++ place_text (file_at files fault.at) fault.line

abbrev pub side_text : Folder → Option ConfError → List ℕ
side_text files None = codes "accepted"
side_text files (Some fault) = fault_text files fault

-- `SERVICE KIND refused: old FAULT, new FAULT`
unfoldable pub refused_line : Head → Side → Side → List ℕ
refused_line head old new =
    head_text head ++ codes " refused: old " ++ side_text old.files old.fault ++ codes ", new " ++ side_text new.files new.fault ++ codes "\n"

-- A MODULE THAT GUARDS A LOGIN

-- what it does
abbrev pub guard_words : Guard → List ℕ
guard_words guards.Checks = codes "checks who logs in"
guard_words guards.Refuses = codes "may refuse a login"
guard_words guards.Counts = codes "counts failed logins"

-- what comes after its number
abbrev pub counted_in : Configuration → List ℕ
counted_in one.Old = []
counted_in one.New = codes " of new"

-- ` FILE:LINE` of its rule, if there is a file
abbrev pub rule_place : Folder → Items → ℕ → List ℕ
rule_place files items number = place_text (file_of_rule files items number) (line_of_rule items number)

-- `SERVICE KIND removed: MODULE, which counts failed logins (old FILE:LINE)`
unfoldable pub guard_line : StackOfOne → GuardingModule → List ℕ
guard_line stack g =
    head_text stack.head ++ codes " " ++ change_name stack.configuration ++ codes ": "
    ++ module_text (counted_in stack.configuration) stack.items g.number ++ codes ", which " ++ guard_words g.guard ++ codes " ("
    ++ configuration_name stack.configuration ++ rule_place stack.files stack.items g.number ++ codes ")\n"

-- `SERVICE KIND as SERVICE KIND`
unfoldable pub as_line : Head → Head → List ℕ
as_line head first = head_text head ++ codes " as " ++ head_text first ++ codes "\n"

-- THE LAST LINE

-- `; N services WHERE`, but nothing for none
abbrev pub only_count : ℕ → List ℕ → List ℕ
only_count count place = if count == 0 then [] else codes "; " ++ counted count (codes "service") ++ place

-- `compared STACKS: N equal, N with the same decisions, N changed, N refused, N not known; N services only in old`
unfoldable pub last_line : ℕ → Counts → List ℕ
last_line stacks counts =
    codes "compared " ++ counted stacks (codes "stack") ++ codes ": " ++ decimal counts.equal ++ codes " equal, " ++ decimal counts.same_decisions
    ++ codes " with the same decisions, " ++ decimal counts.changed ++ codes " changed, " ++ decimal counts.refused ++ codes " refused, "
    ++ decimal counts.not_known ++ codes " not known" ++ only_count counts.only_in_old (codes " only in old")
    ++ only_count counts.only_in_new (codes " only in new") ++ codes "\n"

-- ONE LINE
abbrev pub line_text : Line → List ℕ
line_text (OnlyInOld name) = shown_name name ++ codes " only in old\n"
line_text (OnlyInNew name) = shown_name name ++ codes " only in new\n"
line_text (Refused head old new) = refused_line head old new
line_text (As head first) = as_line head first
line_text (Arguments head pair matched) = argument_line head pair matched
line_text (Change head pair change shown) = change_line head pair change shown
line_text (Same head pair) = same_line head pair
line_text (NotKnown head) = not_known_line head
line_text (GuardOf stack guarding) = guard_line stack guarding
line_text (Last stacks counts) = last_line stacks counts

-- THE TEXT of `compare`: which lines come, in which order, says `compared_lines`
abbrev pub compare_text : CompareValue → List ℕ
compare_text value = compared_lines line_text value
