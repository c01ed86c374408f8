-- The words that findings are about.
use Rattle.std.specs.Prelude.{ℕ, Bool, List, Option, Some, None, codes, if◌then◌else◌}
use Rattle.std.specs.List.{list_any}
use Rattle.std.specs.Option.{option_and_then, option_map, option_or}
use Rattle.std.specs.Str.{bytes_eq}
use Rattle.pam_conf.specs.Files.{Folder}
use Rattle.pam_findings.specs.host.Links.{is_outside}
use Rattle.pam_findings.specs.declared.host.problem.Place.{Place}
use Rattle.pam_findings.specs.declared.host.problem.Problem.{Problem}
use Rattle.pam_findings.specs.declared.host.problem.Problem.TheVariants as problems
use Rattle.pam_findings.specs.declared.host.report.Finding.{Finding}
use Rattle.pam_findings.specs.misspelled.About.{piece_of}
use Rattle.pam_findings.specs.misspelled.Lines.{bytes_of, line_of}
use Rattle.pam_findings.specs.misspelled.Misspelled.{MisspelledText, Right, dead_link, misspelled_in, with_spot}
use Rattle.pam_findings.specs.misspelled.RightWords.{first_modules, first_names}
use Rattle.pam_findings.specs.misspelled.Spots.{from_line, spot_of}
use Rattle.pam_findings.specs.declared.misspelled.spot.Spot.{Spot}
use Rattle.pam_findings.specs.declared.misspelled.word.Wrong.{Wrong}
use Rattle.pam_findings.specs.declared.misspelled.word.Wrong.TheVariants as wrong

-- which word a problem is about, if it is about one: that of a fault, a module, an argument, or a target
abbrev pub wrong_of : Problem → Option Wrong
wrong_of (problems.Fault fault) = Some (wrong.Fault fault)
wrong_of (problems.Walk fault) = Some (wrong.Fault fault)
wrong_of (problems.NoModule is_dashed) = Some wrong.NoModule
wrong_of (problems.Argument argument why) = Some (wrong.Argument argument why)
wrong_of problems.NeverAsked = Some wrong.Path
wrong_of problems.NoFunction = Some wrong.Path
wrong_of (problems.CallerIsRoot is_daemon) = Some wrong.Path
wrong_of problems.UnknownModule = Some wrong.Path
wrong_of problems.SuccessNeverCounts = Some wrong.Path
wrong_of (problems.IncludedFromVendor is_dead) = Some wrong.Target
wrong_of problem = None

-- of a file that is a link which leads out of its folder no word is told
abbrev pub wrong_at : List Bool → Place × Finding → Option Wrong
wrong_at outside entry = if is_outside outside entry.0.file then None else wrong_of entry.1.problem

abbrev pub right_names : Folder → Option (List (List ℕ)) → List (List ℕ) → Right
right_names files there dead = record { files = first_names files; modules = first_modules there; dead = dead }

-- the spot of the piece of the line that the finding is about, in the bytes of the file from this line on
abbrev pub spot_in : Folder → Place → Wrong → List ℕ → Option Spot
spot_in files place why line = option_and_then (spot_of place.line (from_line place.line (bytes_of files place.file))) (piece_of files.form why line)

abbrev pub spotted_in : Folder → Right → Place → Wrong → List ℕ → Option MisspelledText
spotted_in files right place why line = option_map (with_spot (spot_in files place why line)) (misspelled_in right files.form why line)

-- the word of the line of a finding
unfoldable pub word_at : Folder → Right → List Bool → Place × Finding → Option MisspelledText
word_at files right outside entry =
    option_and_then (λ why. option_and_then (spotted_in files right entry.0 why) (line_of files entry.0.file entry.0.line)) (wrong_at outside entry)

-- S6 is about `other` where this is a link that leads nowhere
abbrev pub dead_other : List (List ℕ) → Problem → Option MisspelledText
dead_other dead problems.NoOther = if list_any (bytes_eq (codes "other")) dead then Some (dead_link (codes "other")) else None
dead_other dead problem = None

-- THE WORD that a finding is about, where a module is there at these paths, if that is known, these files are links which lead out of
-- the folder, and these names are those of links which lead nowhere
unfoldable pub misspelled_at : Folder → Option (List (List ℕ)) → List Bool → List (List ℕ) → Place × Finding → Option MisspelledText
misspelled_at files there outside dead entry =
    option_or (dead_other dead entry.1.problem) (word_at files (right_names files there dead) outside entry)
