use Rattle.std.proofs.Common.{◌++◌, Option, ap, nat_lt}
use Rattle.pam_findings.specs.misspelled.Misspelled.{MisspelledText}
use Rattle.pam_text.proofs.Writing.{writes-is, writes-then}
use Rattle.pam_render.specs.parts.CheckNames.{names_view}
use Rattle.pam_render.specs.sarif.Results.{finding_result}
use Rattle.serde_json.specs.Written.{comma_if, compact_text}
use Rattle.pam_render.proofs.sarif.results.put_numbered.Goals as goal

pub returns : goal.returns
returns g c =
    let entry = c.args.entry.now in
    writes-is _ _ _ _ _ _ (writes-then _ _ _ c.in_ok-put_comma.ensures c.put_finding.ensures)
    (ap (λ (word : Option MisspelledText).
    comma_if (nat_lt 0 c.args.position) ++ compact_text (finding_result (names_view c.args.names.now) entry.0 entry.1 word)) c.word_at-word.ensures)
