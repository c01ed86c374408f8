use Rattle.std.proofs.Common.{Bor, List, ◌∙◌, ap, map, ℕ}
use Rattle.pam_findings.proofs.MisspelledProofs.NearestNames.{kinds-are}
use Rattle.pam_findings.proofs.misspelled.right_words.kinds.Goals as goal

abbrev text_of : Bor (List ℕ) → List ℕ
text_of w = w.now

pub returns : goal.returns
returns c =
    ap (map text_of) c.in_ok-words.ensures.items
    ∙ kinds-are _ _ _ _ c.as_bytes.ensures.value c.as_bytes-2.ensures.value c.as_bytes-3.ensures.value c.as_bytes-4.ensures.value
