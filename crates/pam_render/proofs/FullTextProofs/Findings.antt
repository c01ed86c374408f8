-- Findings with their excerpts, by equal values.
use Rattle.std.proofs.Common.{◌≡◌, ◌++◌, Bool, ℕ, List, Option, refl}
use Rattle.pam_conf.specs.Files.{Folder}
use Rattle.pam_findings.specs.declared.host.problem.Place.{Place}
use Rattle.pam_findings.specs.declared.host.report.Finding.{Finding}
use Rattle.pam_findings.specs.misspelled.Misspelled.{MisspelledText}
use Rattle.pam_findings.specs.declared.misspelled.spot.Spot.{Spot}
use Rattle.pam_render.specs.full_text.Check.{bytes_there, found_full, full_finding, full_findings, numbered_full}
use Rattle.pam_render.specs.full_text.Excerpt.{excerpt}
use Rattle.pam_render.specs.full_text.Witness.{witness}
use Rattle.pam_render.specs.parts.Check.{Names, spot_of, told_line, word_at}
use Rattle.pam_render.specs.text.Check.{finding_line}
use Rattle.pam_report.specs.Reply.{CheckValue}

-- a finding, by the bytes of its file and the line that is told
pub finding-is : (names : Names) (files : Folder) (outside : List Bool) (entry : Place × Finding) (word : Option MisspelledText) (spot : Option Spot)
    (number : ℕ) (bytes : List ℕ) → spot ≡ spot_of word → number ≡ told_line entry.0.line spot → bytes ≡ bytes_there files outside entry.0 spot
    → finding_line names entry word ++ (excerpt number bytes spot ++ witness names entry.1.met entry.1.problem)
    ≡ full_finding names files outside entry word
finding-is names files outside entry word spot number bytes s n b = rw (n, b, s) refl

-- those of a check, by equal lists
pub found-are : (names : Names) (files : Folder) (value : CheckValue) (outside : List Bool) (words : List (Option MisspelledText))
    (found : List (Place × Finding)) → outside ≡ value.outside → words ≡ value.misspelled → found ≡ value.found
    → full_findings names files outside words found ≡ found_full names files value
found-are names files value outside words found o w f = rw (o, w, f) refl

-- one that is numbered, by the files of a cursor and its word
pub numbered-is : (names : Names) (files others : Folder) (outside : List Bool) (words : List (Option MisspelledText)) (position : ℕ)
    (entry : Place × Finding) (word : Option MisspelledText) → others ≡ files → word ≡ word_at words position
    → full_finding names others outside entry word ≡ numbered_full names files outside words (position, entry)
numbered-is names files others outside words position entry word f w = rw (f, w) refl
