-- Lines that say nothing, by their values.
use Rattle.std.proofs.Common.{◌≡◌, ◌||◌, Bool, List, [], ◌∷◌, ap, map, refl}
use Rattle.std.specs.List.{list_any}
use Rattle.pam_words.specs.declared.wanted.LevelName.{LevelName}
use Rattle.pam_report.specs.Reply.{counts, has_counting_line}
use Rattle.pam_report.specs.Unused.{level_of_unused, unused_view}
use Rattle.pam_report.specs.declared.report.unused.UnusedLine.{UnusedLine}

pub some-counts : (fail_on : LevelName) (unused : List UnusedLine)
    → list_any (λ line. counts fail_on (level_of_unused (unused_view line))) unused ≡ has_counting_line fail_on (map unused_view unused)
some-counts fail_on [] = refl
some-counts fail_on (line ∷ unused) = ap (λ (b : Bool). counts fail_on (level_of_unused (unused_view line)) || b) (some-counts fail_on unused)
