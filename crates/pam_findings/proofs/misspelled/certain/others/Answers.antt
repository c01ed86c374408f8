use Rattle.std.proofs.Common.{Bor, List, ◌∙◌, ap, map, not, ℕ}
use Rattle.std.specs.Str.{bytes_eq}
use Rattle.pam_findings.proofs.MisspelledProofs.NearestNames.{map_filter}
use Rattle.pam_findings.proofs.misspelled.certain.others.Goals as goal

abbrev text_of : Bor (List ℕ) → List ℕ
text_of w = w.now

pub returns : goal.returns
returns c =
    ap (map text_of) c.in_ok-rest.ensures
    ∙ map_filter (λ w. not (bytes_eq w c.args.found.now)) c.args.words.now
