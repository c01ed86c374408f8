-- What `check` says of each problem: what is wrong, and how to mend it.
use Rattle.std.specs.Prelude.{ℕ, Bool, true, false, ◌||◌, List, [], ◌++◌, codes, if◌then◌else◌, nat_eq, Option, None, Some}
use Rattle.std.specs.List.{ends_with}
use Rattle.std.specs.Option.{option_map_or}
use Rattle.std.specs.Str.{bytes_eq}
use Rattle.pam_facts.specs.declared.arguments.lacks.Lack.{Lack}
use Rattle.pam_facts.specs.declared.arguments.lacks.Lack.TheVariants as lacks
use Rattle.pam_facts.specs.declared.arguments.verdict.Reaction.{Reaction}
use Rattle.pam_facts.specs.declared.arguments.verdict.Reaction.TheVariants.{Fails, Ignores, Logs}
use Rattle.pam_explain.specs.declared.explanation.Level.{Level}
use Rattle.pam_explain.specs.declared.explanation.Level.TheVariants.{Error, Note, Warning}
use Rattle.pam_findings.specs.declared.host.missing_files.Absence.{Absence}
use Rattle.pam_findings.specs.declared.host.missing_files.Absence.TheVariants as absences
use Rattle.pam_findings.specs.declared.host.problem.ArgumentProblem.{ArgumentProblem}
use Rattle.pam_findings.specs.declared.host.problem.ArgumentProblem.TheVariants as arguments
use Rattle.pam_findings.specs.declared.host.problem.Problem.{Problem}
use Rattle.pam_findings.specs.declared.host.problem.Problem.TheVariants as problems
use Rattle.pam_findings.specs.declared.host.refusing.Refuser.{Refuser}
use Rattle.pam_findings.specs.declared.host.refusing.Refuser.TheVariants as refusers
use Rattle.pam_findings.specs.misspelled.Misspelled.{MisspelledText}
use Rattle.pam_released.specs.declared.tables.difference.TableDifference.TheVariants.{EmptySeparator}
use Rattle.pam_released.specs.Meanings.{meaning_of, mending_of}
use Rattle.pam_released.specs.declared.difference.Difference.{Difference}
use Rattle.pam_report.specs.Unused.{OfAccept, OfFacts, UnusedText}
use Rattle.pam_render.specs.sentences.Faults.{Naming, dead_naming, fault_text, naming_text}
use Rattle.pam_render.specs.sentences.Tables.{table_difference_sentence}

abbrev pub level_name : Level → List ℕ
level_name Note = codes "note"
level_name Warning = codes "warning"
level_name Error = codes "error"

abbrev pub released_sentence : Difference → List ℕ
released_sentence difference = meaning_of difference ++ codes "; " ++ mending_of difference

-- A5: the argument of a rule that names no separators
abbrev pub separator_sentence : List ℕ
separator_sentence = table_difference_sentence EmptySeparator

-- L10
abbrev pub at_included_sentence : List ℕ
at_included_sentence =
    codes "Debian's Linux-PAM looks for the file that is named in the first folder alone, so it refuses the whole "
    ++ codes "configuration; copy the file there from the second folder"

abbrev pub included_sentence : List ℕ
included_sentence =
    codes "Debian's Linux-PAM looks for the file that is named in the first folder alone, so the rule fails; "
    ++ codes "copy the file there from the second folder"

abbrev pub nobody_sentence : List ℕ
nobody_sentence = codes " never succeeds, whatever its modules answer; look for a jump over too many items, or a module that always fails"

abbrev pub anybody_sentence : List ℕ
anybody_sentence = codes " succeeds although no module that checks who logs in does"

abbrev pub jump_sentence : List ℕ
jump_sentence = codes "a jump past the end of the list, which fails the stack; jump over fewer items"

abbrev pub no_other_sentence : List ℕ
no_other_sentence = codes "there is no file other, which decides for each service without a file; make one that denies"

abbrev pub unreachable_sentence : List ℕ
unreachable_sentence = codes "services are looked up in lowercase, so no program finds this file; write its name in lowercase"

-- S22: of a rule that refuses who failed too often, and of one that counts failures
abbrev pub not_counted_sentence : List ℕ
not_counted_sentence =
    codes "no pam_faillock.so with authfail is ever asked, so failures are not counted, and nobody is locked out; "
    ++ codes "put a rule with it where a failure leads"

abbrev pub not_refused_sentence : List ℕ
not_refused_sentence =
    codes "failures are counted, but no pam_faillock.so with preauth or authsucc is ever asked, so nobody is locked out; "
    ++ codes "put a rule with preauth before the modules that check"

-- S22: of one that counts failures after none
abbrev pub no_failure_sentence : List ℕ
no_failure_sentence =
    codes "the rule counts failures, but is never asked after a module that checks who logs in has failed, so nobody is locked out; "
    ++ codes "put it where a failure leads"

-- S21: the file of the module that refuses passwords
abbrev pub refuser_file : Refuser → List ℕ
refuser_file refusers.Cracklib = codes "pam_cracklib.so"
refuser_file refusers.Passwdqc = codes "pam_passwdqc.so"
refuser_file refusers.Pwhistory = codes "pam_pwhistory.so"
refuser_file refusers.Pwquality = codes "pam_pwquality.so"

abbrev pub refused_sentence : Refuser → List ℕ
refused_sentence by =
    codes "where " ++ refuser_file by
    ++ codes " refuses a new password, this module asks for one itself, and stores it unchecked; add use_authtok to its rule"

abbrev pub large_sentence : List ℕ
large_sentence =
    codes " can come to more than 65,536 places, so it is not known whether it lets nobody or anybody in; "
    ++ codes "use include in place of substack where done, die and reset need not stay inside"

-- S10: whether the file of the service has no rule, and whether `other` lets nobody in
abbrev pub other_sentence : Bool → Bool → List ℕ
other_sentence false false = codes " has no rules of its own, so those of other decide; write rules for it"
other_sentence false true = codes " has no rules of its own, so those of other decide, which let nobody in; write rules for it"
other_sentence true false = codes " is left to the rules of other, since the file has no rule at all; write rules, or remove the file"
other_sentence true true =
    codes " is left to the rules of other, which let nobody in, since the file has no rule at all; write rules, or remove the file"

abbrev pub left_over_sentence : List ℕ
left_over_sentence = codes "a copy that an editor or a package left, for which no program asks; it is not checked, and may be removed"

abbrev pub inside_sentence : List ℕ
inside_sentence =
    codes "a jump into the middle of what an include brings in, so a line added there changes where it goes; jump to its first item or past its last"

-- S27
abbrev pub link_sentence : List ℕ
link_sentence = codes "the file is a link that leads out of the folder, so none of its words are shown; copy the file here, if it belongs here"

-- S15 to S18, S20, S23 and S24, where the argument is not known
abbrev pub argument_sentence : List ℕ
argument_sentence = codes "an argument is not one that the module takes; mend it, or remove it"

-- the kind of a rule, or what may be the path of its module: so a line feed is missing
abbrev pub is_of_rule : List ℕ → Bool
is_of_rule word =
    bytes_eq word (codes "auth") || (bytes_eq word (codes "account") || (bytes_eq word (codes "password") || (bytes_eq word (codes "session")
    || ends_with nat_eq word (codes ".so"))))

abbrev pub unknown_after : Reaction → List ℕ
unknown_after Fails = codes ", so it always fails"
unknown_after Ignores = []
unknown_after Logs = []

abbrev pub unknown_mending : List ℕ → List ℕ
unknown_mending word = if is_of_rule word then codes "put a line feed before the next rule" else codes "mend it, or remove it"

-- what a module does without the file of an argument
abbrev pub without_file : Absence → List ℕ
without_file absences.Fails = codes ", so it always fails"
without_file absences.Passes = codes ", so it lets pass whoever asks"

-- the text before the argument, which comes after the name of the module, and after it, and how to mend it if no argument is near
unfoldable pub argument_naming : ArgumentProblem → List ℕ → Naming
argument_naming (arguments.Unknown reaction) word =
    record { before = codes " knows no argument "; after = unknown_after reaction; mending = unknown_mending word }
argument_naming arguments.Longer word =
    record { before = codes " takes "; after = codes " for an argument that it begins with"; mending = codes "write that argument" }
argument_naming arguments.OtherKind word = record { before = codes " does not read "; after = codes " in this kind"; mending = codes "remove it" }
argument_naming arguments.BadValue word =
    record { before = codes " cannot use the value of "; after = []; mending = codes "write one that its manual page names" }
argument_naming arguments.NoToken word = record {
  before = codes " takes by ";
  after = codes " only a password that a module before it asked for, and no run asks for one, so it fails";
  mending = codes "remove the argument, or ask for the password before it";
}
argument_naming arguments.Weak word =
    record { before = codes " stores passwords by a weak hash with "; after = []; mending = codes "write yescrypt in its place" }
argument_naming (arguments.MissingFile absence) word =
    record { before = codes " does not find the file of "; after = without_file absence; mending = codes "make the file, or mend its path" }

-- with the argument if it is known
abbrev pub argument_text : ArgumentProblem → Option MisspelledText → List ℕ
argument_text wrong None = argument_sentence
argument_text wrong (Some misspelled) = naming_text misspelled (argument_naming wrong misspelled.word)

-- S19: what the rule of a module lacks
abbrev pub lack_sentence : Lack → List ℕ
lack_sentence lacks.Program = codes "pam_exec.so has no program to run, so it always fails; name one after its options"
lack_sentence lacks.List = codes "pam_listfile.so lacks one of item=, sense= and file=, so it always answers as onerr= says; write all three"
lack_sentence lacks.Database = codes "pam_userdb.so has no database, so it always fails; name one by db="
lack_sentence lacks.UserType = codes "pam_usertype.so has no type of user to test for, so it always fails; write issystem or isregular"
lack_sentence lacks.Condition =
    codes "pam_succeed_if.so has a condition that it cannot judge, so it always fails; write a field, a test and a value for each"

-- S8: a line of the accept file that accepts nothing
abbrev pub unused_sentence : List ℕ
unused_sentence = codes "no finding has this number and place; remove the line, or mend it"

-- S8: a row of the facts file about a module that no rule calls, and that is not there
unfoldable pub idle_naming : Naming
idle_naming = record {
  before = codes "no rule calls ";
  after = codes ", and no folder of modules has it";
  mending = codes "mend the name, or remove the line";
}

abbrev pub unused_said : UnusedText → List ℕ
unused_said (OfAccept line) = unused_sentence
unused_said (OfFacts line name) = naming_text name idle_naming

-- S14: in the service of a daemon, and in one that may be that of another program
abbrev pub caller_naming : Bool → Naming
caller_naming true =
    record { before = []; after = codes " looks at the user of the process, which in this service is always root"; mending = codes "remove the rule" }
caller_naming false = record {
  before = [];
  after = codes " looks at the user of the process, which is root where a daemon asks";
  mending = codes "remove the rule unless users start the program";
}

-- the findings that are about the module of a rule: the text before and after its path, and how to mend it if no module that is there is near
unfoldable pub naming_of_module : Problem → Option Naming
naming_of_module problems.NeverAsked = Some record {
  before = [];
  after = codes " is never asked, whatever other modules answer";
  mending = codes "remove the rule, or mend a control above that ends the stack or jumps over it";
}
naming_of_module (problems.NoModule is_dashed) = Some record {
  before = codes "no folder of modules has ";
  after = codes ", so it always answers module_unknown";
  mending = codes "install it, or remove the rule";
}
naming_of_module problems.NoFunction = Some record {
  before = [];
  after = codes " has no function for this kind, so it always answers module_unknown";
  mending = codes "remove the rule";
}
naming_of_module (problems.CallerIsRoot is_daemon) = Some (caller_naming is_daemon)
naming_of_module problems.UnknownModule = Some record {
  before = codes "nothing is known of ";
  after = codes ", so it is taken for one that checks who logs in";
  mending = codes "a row of a facts file says what it does";
}
naming_of_module problems.SuccessNeverCounts = Some record {
  before = codes "whenever ";
  after = codes " answers success, the stack fails, whatever other modules answer";
  mending = codes "mend its control, or what a success leads to";
}
naming_of_module problem = None

-- where the path of the module is not told
abbrev pub untold_text : Naming → List ℕ
untold_text naming = naming.before ++ codes "the module" ++ naming.after ++ codes "; " ++ naming.mending

abbrev pub module_text : Naming → Option MisspelledText → List ℕ
module_text naming None = untold_text naming
module_text naming (Some misspelled) = naming_text misspelled naming

-- of a problem that is neither a fault nor a difference, nor about the module of a rule
unfoldable pub problem_sentence : Problem → List ℕ
problem_sentence (problems.Fault fault) = []
problem_sentence (problems.Walk fault) = []
problem_sentence (problems.Released difference) = []
problem_sentence problems.EmptySeparator = []
problem_sentence (problems.IncludedFromVendor is_at_include) = if is_at_include then at_included_sentence else included_sentence
problem_sentence (problems.LetsNobodyIn service kind) = nobody_sentence
problem_sentence (problems.LetsAnybodyIn service is_greeter) = anybody_sentence
problem_sentence problems.NeverAsked = []
problem_sentence problems.JumpPastEnd = jump_sentence
problem_sentence (problems.NoModule is_dashed) = []
problem_sentence problems.NoOther = no_other_sentence
problem_sentence problems.UnreachableName = unreachable_sentence
problem_sentence (problems.TooLarge service kind) = large_sentence
problem_sentence (problems.OtherAnswers service kind has_no_rule lets_nobody_in) = other_sentence has_no_rule lets_nobody_in
problem_sentence problems.LeftOver = left_over_sentence
problem_sentence problems.JumpIntoInclude = inside_sentence
problem_sentence problems.NoFunction = []
problem_sentence (problems.CallerIsRoot is_daemon) = []
problem_sentence (problems.Argument argument wrong) = argument_sentence
problem_sentence (problems.BadArguments lack) = lack_sentence lack
problem_sentence (problems.StoredThoughRefused by) = refused_sentence by
problem_sentence (problems.NotCounted counts) = if counts then not_refused_sentence else not_counted_sentence
problem_sentence problems.NoFailureCounted = no_failure_sentence
problem_sentence problems.UnknownModule = []
problem_sentence problems.SuccessNeverCounts = []
problem_sentence problems.LinkOutside = link_sentence

-- with the path of the module if it is known
abbrev pub problem_text : Problem → Option MisspelledText → List ℕ
problem_text problem misspelled = option_map_or (λ naming. module_text naming misspelled) (naming_of_module problem) (problem_sentence problem)

-- S6, of `other` if that is a link that leads nowhere
abbrev pub other_text : Option MisspelledText → List ℕ
other_text None = no_other_sentence
other_text (Some misspelled) = naming_text misspelled dead_naming

-- WHAT IS SAID of a problem at a line, with the word that is wrong if it is known
abbrev pub said : ℕ → Problem → Option MisspelledText → List ℕ
said line (problems.Fault fault) misspelled = fault_text line fault misspelled
said line (problems.Walk fault) misspelled = fault_text line fault misspelled
said line (problems.Released difference) misspelled = released_sentence difference
said line problems.EmptySeparator misspelled = separator_sentence
said line problems.NoOther misspelled = other_text misspelled
said line (problems.Argument argument wrong) misspelled = argument_text wrong misspelled
said line problem misspelled = problem_text problem misspelled
