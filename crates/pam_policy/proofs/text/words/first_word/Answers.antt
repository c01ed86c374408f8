use Rattle.std.proofs.Common.{◌≡◌, ◌∙◌, ◌∷◌, sym, ap, List, ℕ, drop, take}
use Rattle.std.specs.List.{prefix_len}
use Rattle.std.proofs.lemmas.Bool.{eqb-true, eqb-false}
use Rattle.pam_text.specs.Blanks.{is_text_blank}
use Rattle.pam_policy.specs.text.Words.{words_of}
use Rattle.pam_policy.proofs.TextProofs.WordSteps.{blanks_skipped, comment_first, no_words, none_after, word_first}
use Rattle.pam_policy.proofs.text.words.first_word.Goals as goal
use Rattle.pam_policy.proofs.text.words.first_word.Goals.{then-is_empty-via-then-is_empty, then-is_empty-via-else-is_empty+then-starts_with}

pub returns-then-is_empty : goal.returns-then-is_empty
returns-then-is_empty c =
    let after : prefix_len is_text_blank c.split_at.result.1.now ≡ 0 =
    rw (c.split_at.ensures.back, c.text_blank_len.ensures.value) (none_after c.args.line.now) in
    blanks_skipped c.args.line.now ∙ ap (λ (n : ℕ). words_of (drop n c.args.line.now)) (sym c.text_blank_len.ensures.value)
    ∙ ap words_of (sym c.split_at.ensures.back)
    ∙ elim c.then-is_empty.branch [
      | then-is_empty-via-then-is_empty w ↦ no_words _ (eqb-true _ _ (sym c.is_empty.ensures ∙ w.if-is_empty.true))
      | then-is_empty-via-else-is_empty+then-starts_with w ↦ comment_first _ after (sym w.starts_with.ensures.value ∙ w.if-starts_with.true)
    ]

pub returns : goal.returns
returns c =
    let text = c.split_at.result.1.now in
    let after : prefix_len is_text_blank c.split_at.result.1.now ≡ 0 =
    rw (c.split_at.ensures.back, c.text_blank_len.ensures.value) (none_after c.args.line.now) in
    blanks_skipped c.args.line.now ∙ ap (λ (n : ℕ). words_of (drop n c.args.line.now)) (sym c.text_blank_len.ensures.value)
    ∙ ap words_of (sym c.split_at.ensures.back)
    ∙ word_first text (eqb-false _ _ (sym c.is_empty.ensures ∙ c.if-is_empty.false)) after (sym c.starts_with.ensures.value ∙ c.if-starts_with.false)
    ∙ ap (λ (n : ℕ). take n text ∷ words_of (drop n text)) (sym c.word_len.ensures.value)
    ∙ ap (λ (t : List ℕ). t ∷ words_of (drop c.word_len.result text)) (sym c.split_at-2.ensures.front)
    ∙ ap (λ (t : List ℕ). c.split_at-2.result.0.now ∷ words_of t) (sym c.split_at-2.ensures.back)
