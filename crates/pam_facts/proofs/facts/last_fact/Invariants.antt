use Rattle.std.proofs.Common.{◌≡◌, drop, map}
use Rattle.pam_facts.specs.Facts.{unknown}
use Rattle.pam_facts.specs.Fitting.{fits, last_fact}
use Rattle.pam_facts.specs.Options.{arguments_read}
use Rattle.pam_facts.specs.Views.{row_view}
use Rattle.pam_facts.proofs.facts.last_fact.Given as goal

abbrev pub invariant-loop-row : goal.invariant-loop-row
invariant-loop-row l =
    let read = arguments_read l.name l.arguments in
    last_fact (fits l.name read) l.fact (map row_view (drop l.row-index l.rows)) ≡ last_fact (fits l.name read) unknown (map row_view l.rows)
