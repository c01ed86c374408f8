-- The word of a line that a finding is about, with the nearest right word if it is wrong.
use Rattle.std.specs.Prelude.{ℕ, Bool, true, false, if◌then◌else◌, List, [], Option, None}
use Rattle.std.specs.List.{list_any}
use Rattle.std.specs.Option.{option_and_then, option_map}
use Rattle.std.specs.Str.{bytes_eq}
use Rattle.pam_facts.specs.arguments.Modules.{nearest_argument}
use Rattle.pam_facts.specs.arguments.Table.{module_named}
use Rattle.pam_codes.specs.declared.error.ControlError.TheVariants.{BadControl, OpenBracket}
use Rattle.pam_conf.specs.FaultWord.{word_at_fault}
use Rattle.pam_conf.specs.declared.error.FaultKind.{FaultKind}
use Rattle.pam_conf.specs.declared.error.FaultKind.TheVariants.{Control, NoService}
use Rattle.pam_conf.specs.declared.rule.Form.{Form}
use Rattle.pam_facts.specs.Paths.{module_name}
use Rattle.pam_facts.specs.known.Answers.{name_of_path}
use Rattle.pam_findings.specs.declared.host.problem.ArgumentProblem.{ArgumentProblem}
use Rattle.pam_findings.specs.declared.host.problem.ArgumentProblem.TheVariants.{BadValue, Longer, MissingFile, NoToken, OtherKind, Unknown, Weak}
use Rattle.pam_findings.specs.misspelled.Certain.{is_certain, is_certain_argument, is_certain_fault}
use Rattle.pam_findings.specs.misspelled.Open.{open_piece}
use Rattle.pam_findings.specs.misspelled.Pairs.{wrong_in}
use Rattle.pam_findings.specs.misspelled.Paths.{argument_in, path_in}
use Rattle.pam_findings.specs.misspelled.RightWords.{nearest_module, nearest_right}
use Rattle.pam_findings.specs.declared.misspelled.spot.Spot.{Spot}
use Rattle.pam_findings.specs.declared.misspelled.word.Wrong.{Wrong}
use Rattle.pam_findings.specs.declared.misspelled.word.Wrong.TheVariants.{Argument, Fault, NoModule, Path, Target}

-- a word; the name of the module that it is an argument of, if it is one; the nearest right word; whether no other one is as near; whether
-- it is the name of a link that leads nowhere; and its spot in the file
pub record MisspelledText : Type 0 where
  pub of : List ℕ
  pub word : List ℕ
  pub nearest : Option (List ℕ)
  pub is_certain : Bool
  pub leads_nowhere : Bool
  pub spot : Option Spot

-- the names of files, the modules that are there, and the names of links that lead nowhere
pub record Right : Type 0 where
  pub files : List (List ℕ)
  pub modules : List (List ℕ)
  pub dead : List (List ℕ)

-- the word of a fault: of one in brackets, a word of the control; of a bracket that stays open, the rest of the line from it on
abbrev pub fault_word : Form → FaultKind → List ℕ → Option (List ℕ)
fault_word form (Control OpenBracket) line = option_map (λ piece. piece.1) (open_piece line)
fault_word form (Control error) line = option_and_then (wrong_in error) (word_at_fault form (Control BadControl) line)
fault_word form fault line = word_at_fault form fault line

abbrev pub wrong_word : Form → Wrong → List ℕ → Option (List ℕ)
wrong_word form (Fault fault) line = fault_word form fault line
wrong_word form NoModule line = path_in form line
wrong_word form Path line = path_in form line
wrong_word form Target line = word_at_fault form NoService line
wrong_word form (Argument position wrong) line = argument_in form position line

abbrev pub nearest_to : Right → Wrong → List ℕ → Option (List ℕ)
nearest_to right (Fault fault) word = nearest_right right.files fault word
nearest_to right NoModule path = nearest_module right.modules path
nearest_to right why word = None

-- the name of a link that leads nowhere, which is spelled right
abbrev pub dead_link : List ℕ → MisspelledText
dead_link name = record { of = []; word = name; nearest = None; is_certain = false; leads_nowhere = true; spot = None }

-- the name of a target that is not there may be that of such a link
abbrev pub is_dead : Right → Wrong → List ℕ → Bool
is_dead right (Fault NoService) name = list_any (bytes_eq name) right.dead
is_dead right why word = false

-- no other right word is as near as the one that is found
abbrev pub is_certain_right : Right → Wrong → List ℕ → Option (List ℕ) → Bool
is_certain_right right (Fault fault) word found = is_certain_fault right.files fault word found
is_certain_right right NoModule path found = is_certain right.modules (name_of_path path) found
is_certain_right right why word found = false

abbrev pub with_nearest : Right → Wrong → List ℕ → MisspelledText
with_nearest right wrong word =
    if is_dead right wrong word then dead_link word
    else record {
      of = [];
      word = word;
      nearest = nearest_to right wrong word;
      is_certain = is_certain_right right wrong word (nearest_to right wrong word);
      leads_nowhere = false;
      spot = None;
    }

-- the nearest of the arguments that the module at a path knows
abbrev pub nearest_known : List ℕ → List ℕ → Option (List ℕ)
nearest_known path word = option_and_then (λ m. nearest_argument m word) (option_and_then module_named (module_name path))

-- only a word that is no argument as it is written has a right one beside it
abbrev pub nearest_by : ArgumentProblem → List ℕ → List ℕ → Option (List ℕ)
nearest_by (Unknown reaction) path word = nearest_known path word
nearest_by Longer path word = nearest_known path word
nearest_by OtherKind path word = None
nearest_by BadValue path word = None
nearest_by NoToken path word = None
nearest_by Weak path word = None
nearest_by (MissingFile absence) path word = None

abbrev pub of_argument : ArgumentProblem → List ℕ → List ℕ → MisspelledText
of_argument wrong path word = record {
  of = name_of_path path;
  word = word;
  nearest = nearest_by wrong path word;
  is_certain = is_certain_argument path word (nearest_by wrong path word);
  leads_nowhere = false;
  spot = None;
}

abbrev pub misspelled_argument : Form → ℕ → ArgumentProblem → List ℕ → Option MisspelledText
misspelled_argument form position wrong line =
    option_and_then (λ path. option_map (of_argument wrong path) (argument_in form position line)) (path_in form line)

-- THE WORD of a line that a finding is about, without its spot
abbrev pub misspelled_in : Right → Form → Wrong → List ℕ → Option MisspelledText
misspelled_in right form (Argument position wrong) line = misspelled_argument form position wrong line
misspelled_in right form why line = option_map (with_nearest right why) (wrong_word form why line)

-- the same with its spot
abbrev pub with_spot : Option Spot → MisspelledText → MisspelledText
with_spot spot m = record m { spot = spot }
