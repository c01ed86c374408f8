use Rattle.std.proofs.Common.{◌≡◌, ◌∙◌, List, arith, ap, drop, refl, sym, ℕ, Some}
use Rattle.std.specs.Str.{bytes_eq}
use Rattle.pam_findings.specs.misspelled.Actions.{numbers}
use Rattle.pam_findings.proofs.MisspelledProofs.NearestActions.{digits_from, no_word, word_here, word_later}
use Rattle.pam_findings.proofs.misspelled.actions.digits_of.Goals as goal

pub loop-place-init : goal.loop-place-init
loop-place-init c = refl

pub loop-place-preserved : goal.loop-place-preserved
loop-place-preserved c =
    word_later c.loop-place.place (c.number_at.result.0.now, c.number_at.result.1.now) c.args.word.now _ c.number_at.ensures c.loop-place.invariant
    (ap (λ (name : List ℕ). bytes_eq name c.args.word.now) (sym c.as_bytes.ensures.value) ∙ sym c.eq.ensures ∙ c.if-eq.false)

pub returns-then-eq : goal.returns-then-eq
returns-then-eq c =
    ap Some c.as_bytes-then-eq.ensures.value
    ∙ word_here c.loop-place.place (c.number_at.result.0.now, c.number_at.result.1.now) c.args.word.now _ c.number_at.ensures c.loop-place.invariant
    (ap (λ (name : List ℕ). bytes_eq name c.args.word.now) (sym c.as_bytes.ensures.value) ∙ sym c.eq.ensures ∙ c.if-eq.true)

pub returns : goal.returns
returns c =
    let done : c.loop-place.place ≡ 20 = omega (arith, c.loop-place-test.false, c.loop-place.auto.place-end) in
    no_word c.args.word.now _ (c.loop-place.invariant ∙ ap (λ (n : ℕ). digits_from c.args.word.now (drop n numbers)) done)
