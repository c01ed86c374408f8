-- The line of a fault of a request, which says what the request names.
use Rattle.std.specs.Prelude.{ℕ, ◌==◌, ◌-◌, Bool, true, false, length, not, if◌then◌else◌, List, []}
use Rattle.std.specs.Prelude.{◌∷◌, ◌++◌, codes, filter, find, map, Option, Some, None, slice_get, unwrap_or}
use Rattle.std.specs.Char.{to_ascii_lowercase}
use Rattle.std.specs.List.{concat, list_any}
use Rattle.std.specs.Option.{option_copied, option_map_or, option_or}
use Rattle.std.specs.Str.{bytes_eq}
use Rattle.pam_conf.specs.Files.{Folder, Named}
use Rattle.pam_conf.specs.declared.rule.Form.{Form}
use Rattle.pam_conf.specs.declared.rule.Form.TheVariants.{Dir as FolderForm, Single}
use Rattle.pam_conf.specs.Services.{services_in}
use Rattle.pam_spelling.specs.Nearest.{nearest}
use Rattle.pam_words.specs.declared.wanted.ConfSource.{ConfSource}
use Rattle.pam_words.specs.declared.wanted.ConfSource.TheVariants.{Dir, Over, Conf, Root}
use Rattle.pam_words.specs.declared.wanted.Task.{Task}
use Rattle.pam_words.specs.declared.wanted.Task.TheVariants.{Check, Compare, Explain, Outcomes, Graph, Needs, Policy}
use Rattle.pam_report.specs.Candidates.{CandidateText, first_unused}
use Rattle.pam_report.specs.Compare.{side_of}
use Rattle.pam_report.specs.Fault.{fault_line, line_of, line_place, policy_place}
use Rattle.pam_report.specs.FaultTable.{candidate_row, key_row, number_row, policy_row, service_row}
use Rattle.pam_report.specs.Inputs.{dead_given, files_given, new_given, no_files, old_given}
use Rattle.pam_report.specs.Keys.{key_said, wrong_setting}
use Rattle.pam_report.specs.Mistakes.{hint, number_text}
use Rattle.pam_report.specs.Services.{has_service, is_there}
use Rattle.pam_report.specs.declared.fault.policies.PolicyFileError.{PolicyFileError}
use Rattle.pam_report.specs.declared.fault.Fault.{Fault}
use Rattle.pam_report.specs.declared.fault.Fault.TheVariants as faults
use Rattle.pam_report.specs.declared.inputs.Inputs.{Inputs}

-- the names that may be meant: those of the files of a folder, or the services that the rules of pam.conf name
abbrev pub names_in : Form → List Named → List (List ℕ)
names_in FolderForm files = map (λ f. f.0) files
names_in Single files = services_in Single files

-- the nearest of them
abbrev pub nearest_in : Folder → List ℕ → Option (List ℕ)
nearest_in folder name = nearest (names_in folder.form folder.entries) (map to_ascii_lowercase name)

-- where there is no file or rule: a source as it is named, or in a system the folder or the file
abbrev pub place_in : ConfSource → Form → List ℕ
place_in (Dir folder) form = folder.now
place_in (Over folder vendor) form = concat (folder.now ∷ codes " or " ∷ vendor.now ∷ [])
place_in (Conf file) form = file.now
place_in (Root root) FolderForm = codes "etc/pam.d"
place_in (Root root) Single = codes "etc/pam.conf"

-- a source as the command line names it
abbrev pub side_named : ConfSource → List ℕ
side_named (Dir folder) = folder.now
side_named (Over folder vendor) = folder.now
side_named (Conf file) = file.now
side_named (Root root) = root.now

abbrev pub what_is_missing : Form → List ℕ
what_is_missing FolderForm = codes ": there is no file \""
what_is_missing Single = codes ": there is no rule of \""

-- `: there is no file "NAME" in PLACE`, and the nearest name
abbrev pub missing_text : Folder → List ℕ → List ℕ → List ℕ
missing_text folder place name = concat (what_is_missing folder.form ∷ name ∷ codes "\" in " ∷ place ∷ hint (nearest_in folder name) ∷ [])

-- a root that has neither of the two folders, nor the one file
abbrev pub lacks_configuration : ConfSource → Folder → Bool
lacks_configuration (Root root) folder = not (is_there folder)
lacks_configuration source folder = false

-- what is said of it
abbrev pub no_configuration_text : List ℕ → List ℕ
no_configuration_text root =
    concat (codes ": there is none of etc/pam.d, usr/lib/pam.d and etc/pam.conf below " ∷ root ∷ codes "; write the root folder of a system" ∷ [])

-- what is said of a name that is no service of a source
abbrev pub missing_in : ConfSource → Folder → List ℕ → List ℕ
missing_in source folder name =
    if lacks_configuration source folder then no_configuration_text (side_named source) else missing_text folder (place_in source folder.form) name

-- the first of these that is no service
abbrev pub first_missing : Folder → List (List ℕ) → Option (List ℕ)
first_missing folder names = find (λ name. not (has_service folder name)) names

-- it may be the name of a link that leads nowhere, in lower case among these
abbrev pub dead_text : List ℕ → List ℕ
dead_text name = concat (codes ": \"" ∷ name ∷ codes "\" is a link that leads nowhere; make the file that it names, or mend the link" ∷ [])

abbrev pub is_dead : List (List ℕ) → List ℕ → Bool
is_dead dead name = list_any (bytes_eq (map to_ascii_lowercase name)) dead

abbrev pub missing_or_dead : ConfSource → Folder → List (List ℕ) → List ℕ → List ℕ
missing_or_dead source folder dead name = if is_dead dead name then dead_text name else missing_in source folder name

-- what is said of it, or of a root without a configuration, whether or not services are named
abbrev pub missing_among : Folder → ConfSource → List (List ℕ) → List (List ℕ) → List ℕ
missing_among folder source dead names =
    if lacks_configuration source folder then no_configuration_text (side_named source)
    else option_map_or (missing_or_dead source folder dead) (first_missing folder names) []

-- the nearest name of the new configuration, or else of the old one
abbrev pub hint_of_sides : Folder → Folder → List ℕ → List ℕ
hint_of_sides old new name = hint (option_or (nearest_in new name) (nearest_in old name))

-- `: neither OLD nor NEW has a service "NAME"`, and a hint
abbrev pub neither_with : List ℕ → List ℕ → List ℕ → List ℕ → List ℕ
neither_with old new name hinted =
    concat (codes ": neither " ∷ old ∷ codes " nor " ∷ new ∷ codes " has a service \"" ∷ name ∷ codes "\"" ∷ hinted ∷ [])

-- the same with the nearest name
abbrev pub neither_text : Folder → Folder → List ℕ → List ℕ → List ℕ → List ℕ
neither_text old_files new_files old new name = neither_with old new name (hint_of_sides old_files new_files name)

-- what is said of a name that is no service
abbrev pub unknown_text : List ℕ → Task → Folder → Inputs → List ℕ
unknown_text service (Check source services fail_on named) files inputs = missing_among files source (dead_given inputs) services
unknown_text service (Outcomes source kind knowledge) files inputs = missing_in source files service
unknown_text service (Graph source kind format knowledge) files inputs = missing_in source files service
unknown_text service (Needs source kind knowledge) files inputs = missing_in source files service
unknown_text service (Compare old new named kind given) files inputs =
    option_map_or (neither_text (side_of (old_given inputs)).folder (side_of (new_given inputs)).folder (side_named old) (side_named new)) (option_copied named) []
unknown_text service task files inputs = []

-- the names of the other files, and the nearest of them
abbrev pub other_names : Folder → List ℕ → List (List ℕ)
other_names folder name = filter (λ other. not (bytes_eq name other)) (map (λ f. f.0) folder.entries)

abbrev pub nearest_other : Folder → List ℕ → Option (List ℕ)
nearest_other folder name = nearest (other_names folder name) (map to_ascii_lowercase name)

-- `: no service that is checked reads "NAME"`, and the nearest name of another file
abbrev pub unused_with : List ℕ → List ℕ → List ℕ
unused_with name hinted = concat (codes ": no service that is checked reads \"" ∷ name ∷ codes "\"" ∷ hinted ∷ [])

abbrev pub unused_text : Folder → List ℕ → List ℕ
unused_text folder name = unused_with name (hint (nearest_other folder name))

-- what is said of the first candidate that none of these services reads
abbrev pub unused_among : List CandidateText → List (List ℕ) → Folder → List ℕ
unused_among candidates services files = option_map_or (unused_text files) (first_unused files services candidates) []

-- what is said of the first candidate that no service reads. Policies speak of all services
abbrev pub unused_of : List CandidateText → Task → Folder → List ℕ
unused_of candidates (Check source services fail_on named) files = unused_among candidates services files
unused_of candidates (Policy source names fail_on knowledge) files = unused_among candidates [] files
unused_of candidates task files = []

-- the name of the policy of a number, from 1
abbrev pub policy_name : List (List ℕ) → ℕ → Option (List ℕ)
policy_name names number = if number == 0 then None else slice_get names (number - 1)

-- ` FILE:LINE`, with the name of the policy
abbrev pub named_place : Option (List ℕ) → PolicyFileError → List ℕ
named_place None e = policy_place e
named_place (Some name) e = line_place (Some name) e.error.line

abbrev pub place_in_policy : List (List ℕ) → PolicyFileError → List ℕ
place_in_policy names e = named_place (policy_name names e.number) e

-- the place of a fault of a policy, which has the name that the task gives it
abbrev pub place_of_policy : Task → PolicyFileError → List ℕ
place_of_policy (Policy source names fail_on knowledge) e = place_in_policy (map (λ n. n.now) names.items) e
place_of_policy task e = policy_place e

-- what is said of the number that is to be explained
abbrev pub number_said : Task → List ℕ
number_said (Explain number) = option_map_or number_text (option_copied number) []
number_said task = []

-- THE LINE of a fault of a request: what U18 says of the name, U19 of the candidate, U14 of the number, and U10 of the key, that of a
-- policy with its name, and of others the line of the fault
abbrev pub refusal_line : List ℕ → List CandidateText → Task → Inputs → Fault → List ℕ
refusal_line service candidates task inputs faults.NoSuchService =
    line_of service_row (unknown_text service task (unwrap_or (files_given inputs) no_files) inputs)
refusal_line service candidates task inputs faults.UnusedCandidate =
    line_of candidate_row (unused_of candidates task (unwrap_or (files_given inputs) no_files))
refusal_line service candidates task inputs faults.NoSuchNumber = line_of number_row (number_said task)
refusal_line service candidates task inputs faults.NoSuchKey =
    line_of key_row (key_said (wrong_setting service task (unwrap_or (files_given inputs) no_files) inputs))
refusal_line service candidates task inputs (faults.Policy e) = line_of (policy_row e.error.fault) (place_of_policy task e)
refusal_line service candidates task inputs fault = fault_line (unwrap_or (files_given inputs) no_files) fault
