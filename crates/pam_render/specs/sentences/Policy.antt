-- What `policy` says of each finding: the phrases of its sentence.
use Rattle.std.specs.Prelude.{ℕ, ◌==◌, List, [], ◌∷◌, ◌++◌, codes, if◌then◌else◌, Option, None, Some}
use Rattle.std.specs.List.{flat_map, list_any}
use Rattle.std.specs.Option.{option_map_or}
use Rattle.pam_codes.specs.SetText.{name_of}
use Rattle.pam_conf.specs.Files.{Folder}
use Rattle.pam_conf.specs.Stack.{Items}
use Rattle.pam_conf.specs.declared.conf_error.ConfError.{ConfError}
use Rattle.pam_facts.specs.known.Answers.{name_of_path}
use Rattle.pam_graph.specs.declared.graph.TheConstants.{MAX_NODES}
use Rattle.pam_policy.specs.declared.host.idle.Idle.{Idle}
use Rattle.pam_policy.specs.declared.host.idle.Idle.TheVariants.{CannotEnd, CannotHappen}
use Rattle.pam_policy.specs.declared.host.stacks.ClassStack.{ClassStack}
use Rattle.pam_policy.specs.declared.host.stacks.ClassStack.TheVariants.{Known, Refused, TooLarge}
use Rattle.pam_policy.specs.declared.host.stacks.StackClass.{StackClass}
use Rattle.pam_policy.specs.declared.search.run.Step.{Step}
use Rattle.pam_policy.specs.host.Findings.{FindingText, Broken, Impossible, Misnamed, NotKnown, SaysNothing}
use Rattle.pam_policy.specs.names.Words.{ArgumentText, MisnamedText, WordText, FitsNone, NoArgument, NoModule, NoService}
use Rattle.pam_policy.specs.search.Runs.{RunValue}
use Rattle.pam_report.specs.Decide.{path_at}
use Rattle.pam_report.specs.Fault.{file_at}
use Rattle.pam_findings.specs.host.Rows.{row_of}
use Rattle.pam_findings.specs.declared.host.problem.Problem.TheVariants.{Fault}
use Rattle.pam_report.specs.Names.{kind_name}
use Rattle.pam_render.specs.parts.Policy.{Host, class_at}
use Rattle.pam_render.specs.sentences.Phrases.{Phrase, Name, Number, Said}

-- P1: THE RUN THAT BREAKS A RULE

-- a module that is asked, after these words: `NUMBER FILE CODE`
abbrev pub step_phrases : List ℕ → Items → Step → List Phrase
step_phrases before items step =
    Said before ∷ Number step.module_number ∷ Said (codes " ") ∷ Name (name_of_path (path_at step.module_number items)) ∷ Said (codes " ")
    ∷ Said (name_of step.code) ∷ []

abbrev pub next_phrases : Items → List Step → List Phrase
next_phrases items steps = flat_map (step_phrases (codes ", ") items) steps

-- the modules that are asked, and their answers
abbrev pub steps_phrases : Items → List Step → List Phrase
steps_phrases items [] = Said (codes " and asks no module") ∷ []
steps_phrases items (step ∷ steps) = step_phrases (codes " where ") items step ++ next_phrases items steps

-- those of a stack that is known
abbrev pub asked_phrases : ClassStack → List Step → List Phrase
asked_phrases (Known known) steps = steps_phrases known.stack steps
asked_phrases stack steps = []

-- `"RULE" does not hold: KIND decides CODE where N FILE CODE, N FILE CODE`
abbrev pub broken_at : List ℕ → RunValue → StackClass → List Phrase
broken_at rule run class =
    (Said (codes "\"") ∷ Name rule ∷ Said (codes "\" does not hold: ") ∷ Said (kind_name class.kind) ∷ Said (codes " decides ")
    ∷ Said (name_of run.decision) ∷ [])
    ++ asked_phrases class.stack run.steps

abbrev pub broken_phrases : Host → List ℕ → ℕ → RunValue → List Phrase
broken_phrases host rule class run = option_map_or (broken_at rule run) (class_at host class) []

-- P2 AND P5: A RULE AND WHAT IS SAID OF IT

-- `"RULE" SAID`
abbrev pub rule_phrases : List ℕ → List ℕ → List Phrase
rule_phrases rule said = Said (codes "\"") ∷ Name rule ∷ Said (codes "\"") ∷ Said said ∷ []

abbrev pub impossible_words : List ℕ
impossible_words = codes " does not hold: no answers of the modules make it so"

abbrev pub idle_words : Idle → List ℕ
idle_words CannotHappen = codes " says nothing here: no modules of its stacks can answer so"
idle_words CannotEnd = codes " says nothing here: none of its stacks can end so"

-- P6: WHY A RULE IS NOT KNOWN TO HOLD

-- ` FILE:LINE`, if there is a file
abbrev pub place_phrases : Option (List ℕ) → ℕ → List Phrase
place_phrases None line = []
place_phrases (Some file) line = Said (codes " ") ∷ Name file ∷ Said (codes ":") ∷ Number line ∷ []

abbrev pub fault_phrases : Folder → ConfError → List Phrase
fault_phrases files fault =
    let row = row_of (Fault fault.kind) in
    (Said (codes "the stack is refused, ") ∷ Said row.number ∷ Said (codes " ") ∷ Said row.name ∷ []) ++ place_phrases (file_at files fault.at) fault.line

-- the fault of a stack that is refused, or that its runs are too many
abbrev pub reason_phrases : Folder → ClassStack → List Phrase
reason_phrases files (Refused fault) = fault_phrases files fault
reason_phrases files TooLarge = Said (codes "its runs come to more than ") ∷ Number MAX_NODES ∷ Said (codes " places") ∷ []
reason_phrases files (Known known) = []

-- `"RULE" is not known to hold: REASON`
abbrev pub not_known_at : Folder → List ℕ → StackClass → List Phrase
not_known_at files rule class =
    (Said (codes "\"") ∷ Name rule ∷ Said (codes "\" is not known to hold: ") ∷ []) ++ reason_phrases files class.stack

abbrev pub not_known_phrases : Host → List ℕ → ℕ → List Phrase
not_known_phrases host rule class = option_map_or (not_known_at host.files rule) (class_at host class) []

-- P3, P4 AND P7: WORDS THAT NAME NOTHING

-- the nearest right word, else these words
abbrev pub near_phrases : Option (List ℕ) → List ℕ → List Phrase
near_phrases None else_said = Said else_said ∷ []
near_phrases (Some right) else_said = Said (codes "; did you mean \"") ∷ Name right ∷ Said (codes "\"?") ∷ []

-- `there is no service "NAME"; did you mean "NAME"?`
abbrev pub service_phrases : WordText → List Phrase
service_phrases word =
    (Said (codes "there is no service \"") ∷ Name word.text ∷ Said (codes "\"") ∷ [])
    ++ near_phrases word.nearest (codes "; mend the name, or leave it out")

-- what is said of a name, but not of a path
abbrev pub unknown_phrases : WordText → List Phrase
unknown_phrases word =
    if list_any (λ b. b == 47) word.text then []
    else Said (codes ", and none of this name is known") ∷ near_phrases word.nearest []

-- `no rule calls a module "NAME", and none of this name is known; did you mean "NAME"?`
abbrev pub module_phrases : WordText → List Phrase
module_phrases word = (Said (codes "no rule calls a module \"") ∷ Name word.text ∷ Said (codes "\"") ∷ []) ++ unknown_phrases word

-- `no rule of "NAME" has an argument "KEY"; did you mean "KEY"?`
abbrev pub argument_phrases : ArgumentText → List Phrase
argument_phrases argument =
    Said (codes "no rule of \"") ∷ Name argument.name ∷ Said (codes "\" has an argument \"") ∷ Name argument.key
    ∷ Said (codes "\"; did you mean \"") ∷ Name argument.nearest ∷ Said (codes "\"?") ∷ []

abbrev pub word_phrases : MisnamedText → List Phrase
word_phrases (NoService word) = service_phrases word
word_phrases FitsNone = Said (codes "the rule fits no service; mend its first word") ∷ []
word_phrases (NoModule word) = module_phrases word
word_phrases (NoArgument argument) = argument_phrases argument

-- THE SENTENCE of a finding of a rule with these words
abbrev pub finding_phrases : Host → List ℕ → FindingText → List Phrase
finding_phrases host rule (Broken class run) = broken_phrases host rule class run
finding_phrases host rule (Impossible class) = rule_phrases rule impossible_words
finding_phrases host rule (Misnamed word) = word_phrases word
finding_phrases host rule (SaysNothing idle) = rule_phrases rule (idle_words idle)
finding_phrases host rule (NotKnown class) = not_known_phrases host rule class
