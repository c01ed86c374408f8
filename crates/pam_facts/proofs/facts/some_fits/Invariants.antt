use Rattle.std.proofs.Common.{◌≡◌, drop, map}
use Rattle.std.specs.List.{list_any}
use Rattle.pam_facts.specs.Fitting.{fits}
use Rattle.pam_facts.specs.Options.{arguments_read}
use Rattle.pam_facts.specs.Views.{row_view}
use Rattle.pam_facts.proofs.facts.some_fits.Given as goal

abbrev pub invariant-loop-row : goal.invariant-loop-row
invariant-loop-row l =
    let test = fits l.name (arguments_read l.name l.arguments) in
    list_any test (map row_view (drop l.row-index l.rows)) ≡ list_any test (map row_view l.rows)
