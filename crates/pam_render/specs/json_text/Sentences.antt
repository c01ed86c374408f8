-- What `check` says of each problem: the texts of which its sentence consists, with names and words whole.
use Rattle.std.specs.Prelude.{ℕ, List, [], ◌∷◌, codes, Option, None, Some}
use Rattle.std.specs.Option.{option_map_or}
use Rattle.pam_conf.specs.declared.error.FaultKind.{FaultKind}
use Rattle.pam_conf.specs.declared.rule.Kind.{Kind}
use Rattle.pam_findings.specs.declared.host.problem.ArgumentProblem.{ArgumentProblem}
use Rattle.pam_findings.specs.declared.host.problem.Problem.{Problem}
use Rattle.pam_findings.specs.declared.host.problem.Problem.TheVariants as problems
use Rattle.pam_findings.specs.misspelled.Misspelled.{MisspelledText}
use Rattle.pam_released.specs.tables.Meanings as tables
use Rattle.pam_released.specs.declared.tables.difference.TableDifference.{TableDifference}
use Rattle.pam_released.specs.declared.tables.difference.TableDifference.TheVariants.{EmptySeparator}
use Rattle.pam_released.specs.Meanings.{meaning_of, mending_of}
use Rattle.pam_released.specs.declared.difference.Difference.{Difference}
use Rattle.pam_report.specs.Names.{kind_name, stack_of}
use Rattle.pam_report.specs.Unused.{OfAccept, OfFacts, UnusedText}
use Rattle.pam_render.specs.sentences.Faults.{Naming, dead_naming, naming_for, naming_of, plain_sentence}
use Rattle.pam_render.specs.sentences.Sentences.{argument_naming, idle_naming, naming_of_module, problem_sentence, unused_sentence}
use Rattle.pam_render.specs.sentences.Shown.{hidden_text}
use Rattle.pam_render.specs.sentences.Tables.{table_fault_sentence, time_fault_sentence}
use Rattle.pam_findings.specs.declared.tables.problem.TableProblem.{TableProblem}
use Rattle.pam_findings.specs.declared.tables.problem.TableProblem.TheVariants as wrong

-- the nearest right word, or else how to mend the word
abbrev pub mending_parts : Option (List ℕ) → List ℕ → List (List ℕ)
mending_parts None mending = codes "; " ∷ mending ∷ []
mending_parts (Some right) mending = codes "; did you mean \"" ∷ right ∷ codes "\"?" ∷ []

abbrev pub named_parts : MisspelledText → Naming → List (List ℕ)
named_parts misspelled naming =
    misspelled.of ∷ naming.before ∷ codes "\"" ∷ misspelled.word ∷ codes "\"" ∷ naming.after ∷ hidden_text misspelled.word
    ∷ mending_parts misspelled.nearest naming.mending

-- the same, of the name of a link that leads nowhere that it does
abbrev pub naming_parts : MisspelledText → Naming → List (List ℕ)
naming_parts misspelled naming = named_parts misspelled (naming_for misspelled naming)

-- of a fault at a line, with the word that is wrong if it is known
abbrev pub fault_parts : ℕ → FaultKind → Option MisspelledText → List (List ℕ)
fault_parts line fault None = plain_sentence line fault ∷ []
fault_parts line fault (Some misspelled) = option_map_or (naming_parts misspelled) (naming_of fault) (plain_sentence line fault ∷ [])

abbrev pub released_parts : Difference → List (List ℕ)
released_parts difference = meaning_of difference ∷ codes "; " ∷ mending_of difference ∷ []

abbrev pub table_difference_parts : TableDifference → List (List ℕ)
table_difference_parts difference = tables.meaning_of difference ∷ codes "; " ∷ tables.mending_of difference ∷ []

-- a problem of a whole stack begins with its kind
abbrev pub subject_name : Option (Option ℕ × Kind) → List ℕ
subject_name None = []
subject_name (Some stack) = kind_name stack.1

-- of a problem that is neither a fault nor a difference, nor about the module of a rule
abbrev pub plain_parts : Problem → List (List ℕ)
plain_parts problem = subject_name (stack_of problem) ∷ problem_sentence problem ∷ []

-- of the module of a rule, with its path if it is known
abbrev pub module_parts : Naming → Option MisspelledText → List (List ℕ)
module_parts naming None = naming.before ∷ codes "the module" ∷ naming.after ∷ codes "; " ∷ naming.mending ∷ []
module_parts naming (Some misspelled) = naming_parts misspelled naming

-- of a problem that is neither a fault nor a difference
abbrev pub problem_parts : Problem → Option MisspelledText → List (List ℕ)
problem_parts problem misspelled = option_map_or (λ naming. module_parts naming misspelled) (naming_of_module problem) (plain_parts problem)

-- of a wrong argument, with it if it is known
abbrev pub argument_parts : Problem → ArgumentProblem → Option MisspelledText → List (List ℕ)
argument_parts problem wrong None = plain_parts problem
argument_parts problem wrong (Some misspelled) = naming_parts misspelled (argument_naming wrong misspelled.word)

-- S6, of `other` if that is a link that leads nowhere
abbrev pub other_parts : Option MisspelledText → List (List ℕ)
other_parts None = plain_parts problems.NoOther
other_parts (Some misspelled) = naming_parts misspelled dead_naming

-- WHAT IS SAID of a problem at a line, with the word that is wrong if it is known
abbrev pub said_parts : ℕ → Problem → Option MisspelledText → List (List ℕ)
said_parts line (problems.Fault fault) misspelled = fault_parts line fault misspelled
said_parts line (problems.Walk fault) misspelled = fault_parts line fault misspelled
said_parts line (problems.Released difference) misspelled = released_parts difference
said_parts line problems.EmptySeparator misspelled = table_difference_parts EmptySeparator
said_parts line problems.NoOther misspelled = other_parts misspelled
said_parts line (problems.Argument argument why) misspelled = argument_parts (problems.Argument argument why) why misspelled
said_parts line problem misspelled = problem_parts problem misspelled

-- of a problem of a table
abbrev pub table_parts : TableProblem → List (List ℕ)
table_parts (wrong.Fault fault) = table_fault_sentence fault ∷ []
table_parts (wrong.TimeFault fault) = time_fault_sentence fault ∷ []
table_parts (wrong.Released difference) = table_difference_parts difference

-- of a line that says nothing of the host
abbrev pub unused_parts : UnusedText → List (List ℕ)
unused_parts (OfAccept line) = unused_sentence ∷ []
unused_parts (OfFacts line name) = naming_parts name idle_naming
