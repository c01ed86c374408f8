-- The text of `check --format full`: that of `check`, with the line of its file below each finding.
use Rattle.std.specs.Prelude.{◌≡◌, ℕ, ◌-◌, ◌==◌, ◌||◌, Bool, List, [], ◌++◌, if◌then◌else◌, Option, Result, Ok}
use Rattle.std.specs.List.{enumerate_from, flat_map}
use Rattle.pam_conf.specs.Files.{Folder}
use Rattle.pam_findings.specs.host.Links.{is_outside}
use Rattle.pam_findings.specs.declared.host.problem.Place.{Place}
use Rattle.pam_findings.specs.declared.host.report.Finding.{Finding}
use Rattle.pam_findings.specs.misspelled.Lines.{bytes_of}
use Rattle.pam_findings.specs.misspelled.Misspelled.{MisspelledText}
use Rattle.pam_findings.specs.misspelled.Spots.{after_feeds, from_line}
use Rattle.pam_findings.specs.declared.misspelled.spot.Spot.{Spot}
use Rattle.pam_paths.specs.declared.cursor.CursorError.{CursorError}
use Rattle.pam_render.specs.full_text.Excerpt.{excerpt}
use Rattle.pam_render.specs.full_text.Witness.{witness}
use Rattle.pam_render.specs.parts.Check.{Names, names_of_value, spot_of, told_line, word_at}
use Rattle.pam_render.specs.parts.Findings.{rest_lines}
use Rattle.pam_render.specs.text.Check.{finding_line, line_text}
use Rattle.pam_report.specs.Reply.{Check, CheckValue, Reply}

-- of a file as a whole no line is shown, and none of a file that is a link which leads out of its folder
abbrev pub is_untold : List Bool → Place → Bool
is_untold outside place = is_outside outside place.file || (place.line == 0)

-- the bytes of its file from the line of a place on
abbrev pub bytes_from : Folder → List Bool → Place → List ℕ
bytes_from files outside place = if is_untold outside place then [] else from_line place.line (bytes_of files place.file)

-- those from the line on that is told
abbrev pub bytes_there : Folder → List Bool → Place → Option Spot → List ℕ
bytes_there files outside place spot = after_feeds (told_line place.line spot - place.line) (bytes_from files outside place)

-- A FINDING: its line, that of its file, and the modules of a way in
abbrev pub full_finding : Names → Folder → List Bool → Place × Finding → Option MisspelledText → List ℕ
full_finding names files outside entry word =
    finding_line names entry word
    ++ (excerpt (told_line entry.0.line (spot_of word)) (bytes_there files outside entry.0 (spot_of word)) (spot_of word)
    ++ witness names entry.1.met entry.1.problem)

abbrev pub numbered_full : Names → Folder → List Bool → List (Option MisspelledText) → ℕ × (Place × Finding) → List ℕ
numbered_full names files outside words entry = full_finding names files outside entry.1 (word_at words entry.0)

abbrev pub full_findings : Names → Folder → List Bool → List (Option MisspelledText) → List (Place × Finding) → List ℕ
full_findings names files outside words found = flat_map (numbered_full names files outside words) (enumerate_from 0 found)

-- those of a check whose files are these
abbrev pub found_full : Names → Folder → CheckValue → List ℕ
found_full names files value = full_findings names files value.outside value.misspelled value.found

-- the findings, and what comes after them in the text of `check`
abbrev pub named_full : Names → CheckValue → List ℕ
named_full names value = found_full names value.files value ++ rest_lines line_text value

-- THE FULL TEXT of `check`
abbrev pub check_full : CheckValue → List ℕ
check_full value = named_full (names_of_value value) value

-- THE FULL TEXT of a reply, which those of other commands have not
abbrev pub IsFull : Reply → Result (List ℕ) CursorError → Type 0
IsFull (Check found) text = text ≡ Ok (check_full found)
IsFull reply text = ⊥
