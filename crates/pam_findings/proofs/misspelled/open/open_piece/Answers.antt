use Rattle.std.proofs.Common.{◌≡◌, ◌+◌, ◌∙◌, None, Some, List, ℕ, ap, arith, drop, length, subst, sym}
use Rattle.std.proofs.lemmas.Bool.{eqb-false, eqb-true}
use Rattle.std.proofs.lemmas.List.{drop-drop}
use Rattle.std.specs.Option.{option_map}
use Rattle.pam_findings.specs.misspelled.Open.{open_piece}
use Rattle.pam_findings.specs.misspelled.inner.Opening.{Skips}
use Rattle.pam_findings.proofs.MisspelledProofs.Opening.{begins_word, no_open, skip_blanks, skip_both, skip_piece}
use Rattle.pam_findings.proofs.MisspelledProofs.Pieces.{shifted, shifted_twice}
use Rattle.pam_findings.proofs.misspelled.open.open_piece.Goals as goal

pub returns-then-is_empty : goal.returns-then-is_empty
returns-then-is_empty c =
    let rest = c.loop-word.rest.now in
    let blanks = c.text_blank_len-start.result in
    let skips : Skips blanks rest = skip_blanks rest blanks c.text_blank_len-start.ensures.value c.text_blank_len-start.ensures.bound in
    let none : open_piece (drop blanks rest) ≡ None =
    ap open_piece (sym c.split_at.ensures.back) ∙ no_open c.split_at.result.1.now (eqb-true _ _ (sym c.is_empty.ensures ∙ c.if-is_empty.true)) in
    sym (ap (option_map (shifted c.loop-word.passed)) (skip_piece rest blanks skips ∙ ap (option_map (shifted blanks)) none)) ∙ c.loop-word.invariant.there

pub word_len-requires : goal.word_len-requires
word_len-requires c =
    let some : length c.split_at.result.1.now ≡ 0 → ⊥ = eqb-false _ _ (sym c.is_empty.ensures ∙ c.if-is_empty.false) in
    record {
      some = omega (arith, some);
      word = begins_word c.loop-word.rest.now c.text_blank_len-start.result c.split_at.result.1.now c.text_blank_len-start.ensures.value
          c.split_at.ensures.back some;
    }

pub returns-in-None : goal.returns-in-None
returns-in-None c =
    let rest = c.loop-word.rest.now in
    let word = c.split_at.result.1.now in
    let blanks = c.text_blank_len-start.result in
    let passed = c.loop-word.passed in
    let skips : Skips blanks rest = skip_blanks rest blanks c.text_blank_len-start.ensures.value c.text_blank_len-start.ensures.bound in
    let opens : open_piece (drop blanks rest) ≡ Some (0, word) = ap open_piece (sym c.split_at.ensures.back) ∙ c.in-None.ensures in
    let sum : passed + blanks ≡ passed + (blanks + 0) = omega arith in
    ap (λ (n : ℕ). Some (n, word)) sum
    ∙ sym (ap (option_map (shifted passed)) (skip_piece rest blanks skips ∙ ap (option_map (shifted blanks)) opens))
    ∙ c.loop-word.invariant.there

pub loop-word-preserved : goal.loop-word-preserved
loop-word-preserved c =
    let rest = c.loop-word.rest.now in
    let word = c.split_at.result.1.now in
    let left = c.split_at-in-Some.result.1.now in
    let blanks = c.text_blank_len-start.result in
    let len = c.in-Some.len in
    let passed = c.loop-word.passed in
    let skips : Skips blanks rest = skip_blanks rest blanks c.text_blank_len-start.ensures.value c.text_blank_len-start.ensures.bound in
    let both : Skips (blanks + len) rest = skip_both rest blanks len skips (subst (Skips len) c.split_at.ensures.back c.in-Some.ensures.1) in
    let after : left ≡ drop (blanks + len) rest =
    c.split_at-in-Some.ensures.back ∙ ap (drop len) c.split_at.ensures.back ∙ drop-drop len blanks rest in
    record {
      moved = omega (
        arith,
        c.loop-word.invariant.moved,
        c.split_at.ensures.back_len,
        c.split_at-in-Some.ensures.back_len,
        c.in-Some.ensures.1.within,
        c.text_blank_len-start.ensures.bound,
      );
      there =
          shifted_twice passed (blanks + len) (open_piece left)
          ∙ ap (option_map (shifted passed))
          (ap (λ (xs : List ℕ). option_map (shifted (blanks + len)) (open_piece xs)) after ∙ sym (skip_piece rest (blanks + len) both))
          ∙ c.loop-word.invariant.there;
    }
