use Rattle.std.proofs.Common.{◌≡◌, ◌∙◌, ◌∷◌, ◌++◌, [], Bor, List, ℕ, ap, arith, map, take}
use Rattle.std.proofs.lemmas.List.{map-append}
use Rattle.pam_findings.specs.misspelled.Actions.{number_words, other_actions}
use Rattle.pam_findings.proofs.MisspelledProofs.NearestActions.{all-are, none-are, one_more_word}
use Rattle.pam_findings.proofs.misspelled.actions.after_sign.Goals as goal

abbrev text_of : Bor (List ℕ) → List ℕ
text_of w = w.now

pub loop-place-init : goal.loop-place-init
loop-place-init c =
    ap (map text_of) c.in_ok-words.ensures.items
    ∙ none-are _ _ _ _ _ c.as_bytes.ensures.value c.as_bytes-2.ensures.value c.as_bytes-3.ensures.value c.as_bytes-4.ensures.value
    c.as_bytes-5.ensures.value

pub loop-place-preserved : goal.loop-place-preserved
loop-place-preserved c =
    ap (map text_of) c.in_ok-push.ensures.items ∙ map-append text_of c.loop-place.words.items (c.name_at.result ∷ [])
    ∙ one_more_word c.loop-place.place _ c.name_at.result.now c.loop-place.invariant c.name_at.ensures

pub returns : goal.returns
returns c =
    let done : c.loop-place.place ≡ 20 = omega (arith, c.loop-place-test.false, c.loop-place.auto.place-end) in
    ap (map text_of) c.in_ok-push-2.ensures.items ∙ map-append text_of c.loop-place.words.items (c.as_bytes-6.result ∷ [])
    ∙ all-are (map text_of c.loop-place.words.items) c.as_bytes-6.result.now
    (c.loop-place.invariant ∙ ap (λ (n : ℕ). other_actions ++ take n number_words) done) c.as_bytes-6.ensures.value
