use Rattle.std.proofs.Common.{◌≡◌, ◌∙◌, ◌∷◌, ◌++◌, [], Bor, List, ℕ, ap, arith, map}
use Rattle.std.proofs.lemmas.List.{map-append}
use Rattle.pam_codes.specs.Code.{code_names}
use Rattle.pam_findings.proofs.MisspelledProofs.NearestNames.{one_word, values-are}
use Rattle.pam_findings.proofs.misspelled.right_words.values.Goals as goal

abbrev text_of : Bor (List ℕ) → List ℕ
text_of w = w.now

pub loop-number-preserved : goal.loop-number-preserved
loop-number-preserved c =
    ap (map text_of) c.in_ok-push.ensures.items ∙ map-append text_of c.loop-number.words.items (c.name_of.result ∷ [])
    ∙ one_word code_names c.loop-number.number _ c.name_of.result.now c.loop-number.invariant c.name_of.ensures

pub returns : goal.returns
returns c =
    let done : c.loop-number.number ≡ 31 = omega (arith, c.loop-number-test.false, c.loop-number.auto.number-end) in
    ap (map text_of) c.in_ok-push-3.ensures.items ∙ map-append text_of c.push-2.new.self.items (c.as_bytes-2.result ∷ [])
    ∙ ap (λ (words : List (List ℕ)). words ++ c.as_bytes-2.result.now ∷ [])
    (ap (map text_of) c.in_ok-push-2.ensures.items ∙ map-append text_of c.loop-number.words.items (c.as_bytes.result ∷ []))
    ∙ values-are _ c.loop-number.number _ _ c.loop-number.invariant done c.as_bytes.ensures.value c.as_bytes-2.ensures.value
