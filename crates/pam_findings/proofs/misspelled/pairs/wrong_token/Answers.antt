use Rattle.std.proofs.Common.{◌≡◌, ◌∙◌, ◌∷◌, ◌+◌, ◌<◌, ap, arith, drop, length, refl, sym, ℕ, suc}
use Rattle.std.specs.Option.{option_map}
use Rattle.pam_codes.specs.Tokens.{tokens_of}
use Rattle.pam_findings.specs.misspelled.Pairs.{wrong_from}
use Rattle.pam_findings.specs.misspelled.Pieces.{first_start}
use Rattle.pam_findings.proofs.MisspelledProofs.Pieces.{shifted, shifted_twice, token_cut}
use Rattle.pam_findings.proofs.MisspelledProofs.Thirds.{shorter}
use Rattle.pam_findings.proofs.MisspelledProofs.WrongTokens.{passed_token, right_token, wrong_token}
use Rattle.pam_findings.proofs.misspelled.pairs.wrong_token.Goals as goal
use Rattle.pam_findings.proofs.misspelled.pairs.wrong_token.Goals.{then-skipped-gt0, else-skipped-gt0+else-not-is_right}

pub split_at-requires : goal.split_at-requires
split_at-requires c =
    omega (arith, (token_cut c.loop-token.rest.now c.in-Some.token.now _ c.in-Some.ensures).within, c.text_blank_len-start.ensures.value)

pub returns-then-not-is_right-clause-value : goal.returns-then-not-is_right-clause-value
returns-then-not-is_right-clause-value c =
    let none : c.loop-token.skipped ≡ 0 = omega (arith, c.if-skipped-gt0.false) in
    ap (option_map (shifted c.loop-token.passed))
    (sym (wrong_token c.args.error c.loop-token.rest.now c.in-Some.token.now _ c.in-Some.ensures c.loop-token.skipped c.text_blank_len-start.result none
    (sym c.is_right.ensures ∙ c.if-not-is_right.true) c.text_blank_len-start.ensures.value))
    ∙ c.loop-token.invariant.there

pub loop-token-smaller : goal.loop-token-smaller
loop-token-smaller c =
    let rest = c.loop-token.rest.now in
    let token = c.in-Some.token.now in
    let ends : c.text_blank_len-start.result + length token ≡ first_start tokens_of rest + length token =
    ap (λ (n : ℕ). n + length token) c.text_blank_len-start.ensures.value in
    let left : tokens_of c.split_at.result.1.now ≡ tokens_of c.in-Some.field-0-1.now =
    ap tokens_of c.split_at.ensures.back ∙ ap (λ (n : ℕ). tokens_of (drop n rest)) ends ∙ (token_cut rest token _ c.in-Some.ensures).after in
    let less : length (tokens_of c.in-Some.field-0-1.now) < length (tokens_of rest) = shorter c.args.error (tokens_of rest) token _ c.in-Some.ensures in
    let same : length (tokens_of c.split_at.result.1.now) ≡ length (tokens_of c.in-Some.field-0-1.now) = ap length left in
    omega (arith, less, same)

pub loop-token-preserved : goal.loop-token-preserved
loop-token-preserved c =
    let rest = c.loop-token.rest.now in
    let token = c.in-Some.token.now in
    let after = c.split_at.result.1.now in
    let cut = token_cut rest token _ c.in-Some.ensures in
    let ends : c.text_blank_len-start.result + length token ≡ first_start tokens_of rest + length token =
    ap (λ (n : ℕ). n + length token) c.text_blank_len-start.ensures.value in
    let back = c.split_at.ensures.back in
    let left : tokens_of after ≡ tokens_of c.in-Some.field-0-1.now =
    ap tokens_of back ∙ ap (λ (n : ℕ). tokens_of (drop n rest)) ends ∙ cut.after in
    let later : wrong_from c.args.error c.loop-token.skipped rest
    ≡ option_map (shifted (c.text_blank_len-start.result + length token)) (wrong_from c.args.error c.if-skipped-gt0.skipped after) =
    elim c.if-skipped-gt0.branch [
      | then-skipped-gt0 w ↦
          passed_token c.args.error rest token _ c.in-Some.ensures (c.text_blank_len-start.result + length token) after ends back left
          c.loop-token.skipped c.if-skipped-gt0.skipped (omega (arith, w.if-skipped-gt0.true, w.skipped-is))
      | else-skipped-gt0+else-not-is_right w ↦
          right_token c.args.error rest token _ c.in-Some.ensures (c.text_blank_len-start.result + length token) after ends back left
          c.loop-token.skipped (omega (arith, w.if-skipped-gt0.false)) (sym w.is_right.ensures ∙ w.if-not-is_right.false)
          ∙ ap (λ (n : ℕ). option_map (shifted (c.text_blank_len-start.result + length token)) (wrong_from c.args.error n after)) (sym w.skipped-is)
    ] in
    record {
      moved = omega (arith, c.loop-token.invariant.moved, c.split_at.ensures.back_len, cut.within, ends);
      there =
          shifted_twice c.loop-token.passed (c.text_blank_len-start.result + length token) (wrong_from c.args.error c.if-skipped-gt0.skipped after)
          ∙ ap (option_map (shifted c.loop-token.passed)) (sym later)
          ∙ c.loop-token.invariant.there;
    }
