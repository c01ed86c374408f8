-- Rows of a facts file that say nothing.
use Rattle.std.proofs.Common.{◌≡◌, ◌∙◌, ◌≤◌, ◌++◌, ℕ, List, [], ◌∷◌, Option, ap, append-nil, arith, length, refl, sym, take}
use Rattle.std.proofs.lemmas.List.{take-append-le, take_all}
use Rattle.pam_conf.specs.Files.{Folder}
use Rattle.pam_report.specs.Unused.{UnusedText, idle_rows}
use Rattle.pam_tables.specs.Lines.{lines_from}
use Rattle.pam_text.specs.Source.{source_fault}

-- the first names, where others follow or none
pub first-names : (names others all : List (List ℕ)) (n : ℕ) → names ++ others ≡ all → length names ≡ n → names ≡ take n all
first-names names others all n e long =
    sym (take_all n names (omega (arith, long))) ∙ sym (take-append-le n names others (omega (arith, long))) ∙ ap (take n) e

pub few-names : (names all : List (List ℕ)) (n : ℕ) → names ++ [] ≡ all → length names ≤ n → names ≡ take n all
few-names names all n e few = sym (take_all n names few) ∙ ap (take n) (sym (append-nil names) ∙ e)

-- an empty file has no rows
pub no-rows : (before : List UnusedText) (files : Folder) (there : Option (List (List ℕ))) (facts : List ℕ) → length facts ≡ 0
    → before ≡ before ++ idle_rows files there facts
unfolding idle_rows source_fault lines_from
no-rows before files there [] h = sym (append-nil before)
no-rows before files there (byte ∷ facts) h = absurd (omega (arith, h))
