use Rattle.std.proofs.Common.{◌≡◌, ◌∙◌, ◌∷◌, ◌+◌, ap, arith, drop, length, sym, ℕ}
use Rattle.pam_conf.specs.Remaining.{words_left, words_to_come}
use Rattle.pam_findings.specs.misspelled.Pieces.{first_start}
use Rattle.pam_findings.proofs.MisspelledProofs.Pieces.{found, sought, word_cut}
use Rattle.pam_findings.proofs.misspelled.pieces.word_at.Goals as goal

pub split_at-requires : goal.split_at-requires
split_at-requires c =
    let first : words_left c.loop.rest.now ≡ c.in_ok-word.word.now ∷ words_to_come c.in_ok-word.others =
    sym c.loop.invariant.words ∙ c.in_ok-word.ensures.value in
    omega (arith, (word_cut c.loop.rest.now c.in_ok-word.word.now _ first).within, c.text_blank_len.ensures.value)

pub loop-preserved : goal.loop-preserved
loop-preserved c =
    let rest = c.loop.rest.now in
    let word = c.in_ok-word.word.now in
    let first : words_left rest ≡ word ∷ words_to_come c.in_ok-word.others = sym c.loop.invariant.words ∙ c.in_ok-word.ensures.value in
    let cut = word_cut rest word _ first in
    let ends : c.text_blank_len.result + length word ≡ first_start words_left rest + length word =
    ap (λ (n : ℕ). n + length word) c.text_blank_len.ensures.value in
    let back = c.split_at.ensures.back in
    let after : words_left c.split_at.result.1.now ≡ words_to_come c.in_ok-word.others =
    ap words_left back ∙ ap (λ (n : ℕ). words_left (drop n rest)) ends ∙ cut.after in
    record {
      few = omega (arith, c.loop-test.true);
      moved = omega (arith, c.loop.invariant.moved, c.split_at.ensures.back_len, cut.within, ends);
      words = sym after;
      there =
          sought words_left c.args.line.now rest c.args.number c.loop.counter c.loop.passed c.loop.invariant.there c.loop-test.true word _
          (c.text_blank_len.result + length word) c.split_at.result.1.now first ends back after;
    }

pub returns-clause-value : goal.returns-clause-value
returns-clause-value c =
    let first : words_left c.loop.rest.now ≡ c.in_ok-word-2.word.now ∷ words_to_come c.in_ok-word-2.field-0-1 =
    sym c.loop.invariant.words ∙ c.in_ok-word-2.ensures.value in
    found words_left c.args.line.now c.loop.rest.now c.args.number c.loop.counter c.loop.passed c.loop.invariant.there
    (omega (arith, c.loop.invariant.few, c.loop-test.false)) c.in_ok-word-2.word.now _ _ first
    (ap (λ (n : ℕ). c.loop.passed + n) c.text_blank_len-2.ensures.value)

pub returns-clause-bound : goal.returns-clause-bound
returns-clause-bound c =
    let first : words_left c.loop.rest.now ≡ c.in_ok-word-2.word.now ∷ words_to_come c.in_ok-word-2.field-0-1 =
    sym c.loop.invariant.words ∙ c.in_ok-word-2.ensures.value in
    let cut = word_cut c.loop.rest.now c.in_ok-word-2.word.now _ first in
    omega (arith, cut.within, c.loop.invariant.moved, c.text_blank_len-2.ensures.value)
