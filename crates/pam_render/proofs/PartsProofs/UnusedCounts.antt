-- The numbers of lines that say nothing, by their values.
use Rattle.std.proofs.Common.{◌≡◌, ◌+◌, ℕ, List, cond, map, sym}
use Rattle.std.proofs.lemmas.List.Folds.{fold-map}
use Rattle.std.specs.Prelude.{count_by}
use Rattle.pam_explain.specs.declared.explanation.Level.{Level}
use Rattle.pam_render.specs.parts.Check.{is_level, unused_number_at}
use Rattle.pam_report.specs.Unused.{UnusedText, level_of_unused, unused_view}
use Rattle.pam_report.specs.declared.report.unused.UnusedLine.{UnusedLine}

pub numbers-are : (level : Level) (unused : List UnusedLine)
    → count_by (λ line. is_level (level_of_unused (unused_view line)) level) unused ≡ unused_number_at level (map unused_view unused)
numbers-are level unused =
    sym (fold-map (λ (count : ℕ) (line : UnusedText). count + cond (is_level (level_of_unused line) level) 1 0) unused_view 0 unused)
