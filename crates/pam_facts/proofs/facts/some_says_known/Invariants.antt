use Rattle.std.proofs.Common.{◌≡◌, drop, map}
use Rattle.std.specs.List.{list_any}
use Rattle.pam_facts.specs.Knowing.{says_known}
use Rattle.pam_facts.specs.Views.{row_view}
use Rattle.pam_facts.proofs.facts.some_says_known.Given as goal

abbrev pub invariant-loop-row : goal.invariant-loop-row
invariant-loop-row l =
    let test = says_known l.name l.kind l.word in
    list_any test (map row_view (drop l.row-index l.rows)) ≡ list_any test (map row_view l.rows)
