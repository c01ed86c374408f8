use Rattle.std.proofs.Common.{◌∙◌, ap, map, rules}
use Rattle.std.proofs.lemmas.Fn.{filter_same}
use Rattle.pam_released.specs.Readings.{numbered_view, reading_view}
use Rattle.pam_report.specs.Released.{concerns}
use Rattle.pam_report.proofs.ReleasedRules.{filter-viewed}
use Rattle.pam_report.proofs.report.released.keep_those_of.Goals as goal

pub returns : goal.returns
returns c =
    let service = c.args.service.now in
    let kind = c.args.kind in
    ap (map numbered_view)
    (filter_same _ (λ rule. concerns service kind (reading_view rule.reading)) _ (λ rule b f h. search rules) _ _ c.retain.ensures.filtered)
    ∙ filter-viewed numbered_view (λ rule. concerns service kind rule.1) c.args.rules.now.items
