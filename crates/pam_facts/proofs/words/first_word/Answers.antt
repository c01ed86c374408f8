use Rattle.std.proofs.Common.{◌∙◌, ◌∷◌, sym, ap, List, ℕ, drop, take}
use Rattle.std.proofs.lemmas.Bool.{eqb-true, eqb-false}
use Rattle.pam_facts.specs.Words.{words_of}
use Rattle.pam_facts.proofs.WordSteps.{blanks_skipped, no_words, none_after, word_first}
use Rattle.pam_facts.proofs.words.first_word.Goals as goal

pub returns-then-is_empty : goal.returns-then-is_empty
returns-then-is_empty c =
    blanks_skipped c.args.line.now ∙ ap (λ (n : ℕ). words_of (drop n c.args.line.now)) (sym c.blank_len.ensures.value)
    ∙ ap words_of (sym c.split_at.ensures.back) ∙ no_words _ (eqb-true _ _ (sym c.is_empty.ensures ∙ c.if-is_empty.true))

pub returns : goal.returns
returns c =
    let rest = c.split_at.result.1.now in
    blanks_skipped c.args.line.now ∙ ap (λ (n : ℕ). words_of (drop n c.args.line.now)) (sym c.blank_len.ensures.value)
    ∙ ap words_of (sym c.split_at.ensures.back)
    ∙ word_first rest (eqb-false _ _ (sym c.is_empty.ensures ∙ c.if-is_empty.false))
    (rw (c.split_at.ensures.back, c.blank_len.ensures.value) (none_after c.args.line.now))
    ∙ ap (λ (n : ℕ). take n rest ∷ words_of (drop n rest)) (sym c.word_len.ensures.value)
    ∙ ap (λ (t : List ℕ). t ∷ words_of (drop c.word_len.result rest)) (sym c.split_at-2.ensures.front)
    ∙ ap (λ (t : List ℕ). c.split_at-2.result.0.now ∷ words_of t) (sym c.split_at-2.ensures.back)
