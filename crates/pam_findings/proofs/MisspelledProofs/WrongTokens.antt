-- The first token that is wrong between brackets, and where it begins.
use Rattle.std.proofs.Common.{◌≡◌, ◌+◌, ◌<◌, ◌∙◌, ℕ, zero, suc, Bool, true, false, List, [], ◌∷◌, Option, None, Some, ap, arith, cond, drop, length, refl, sym}
use Rattle.std.specs.Option.{option_and_then, option_map}
use Rattle.pam_codes.specs.Tokens.{tokens_of}
use Rattle.pam_codes.specs.declared.error.ControlError.{ControlError}
use Rattle.pam_findings.specs.misspelled.Pairs.{is_right, wrong_from, wrong_number}
use Rattle.pam_findings.specs.misspelled.Pieces.{first_start, piece_at}
use Rattle.pam_findings.proofs.MisspelledProofs.Pieces.{later_piece, shifted, this_piece}

abbrev among : List ℕ → Option ℕ → Option (ℕ × List ℕ)
among text found = option_and_then (λ number. piece_at tokens_of number text) found

module _ (error : ControlError) (rest token : List ℕ) (others : List (List ℕ)) (is : tokens_of rest ≡ token ∷ others) where
  pub wrong_token : (skipped start : ℕ) → skipped ≡ 0 → is_right error token ≡ false → start ≡ first_start tokens_of rest
      → wrong_from error skipped rest ≡ Some (start, token)
  unfolding wrong_number
  wrong_token skipped start none wrong e =
      rw none (ap (λ (ts : List (List ℕ)). among rest (wrong_number error 0 ts)) is
      ∙ ap (λ (t : Bool). among rest (cond t (option_map (λ n. n + 1) (wrong_number error 2 others)) (Some 0))) wrong
      ∙ this_piece tokens_of rest token others is 0 start refl e)

  module _ (end : ℕ) (after : List ℕ) (ends : end ≡ first_start tokens_of rest + length token) (cut : after ≡ drop end rest)
      (left : tokens_of after ≡ others) where
    later : (found : Option ℕ) → among rest (option_map (λ n. n + 1) found) ≡ option_map (shifted end) (among after found)
    later None = refl
    later (Some number) = later_piece tokens_of rest token others is (number + 1) number end after (omega arith) ends cut left

    pub passed_token : (skipped before : ℕ) → skipped ≡ suc before → wrong_from error skipped rest ≡ option_map (shifted end) (wrong_from error before after)
    unfolding wrong_number
    passed_token skipped before some =
        rw some (ap (λ (ts : List (List ℕ)). among rest (wrong_number error (suc before) ts)) is
        ∙ later (wrong_number error before others)
        ∙ ap (λ (ts : List (List ℕ)). option_map (shifted end) (among after (wrong_number error before ts))) (sym left))

    pub right_token : (skipped : ℕ) → skipped ≡ 0 → is_right error token ≡ true
        → wrong_from error skipped rest ≡ option_map (shifted end) (wrong_from error 2 after)
    unfolding wrong_number
    right_token skipped none right =
        rw none (ap (λ (ts : List (List ℕ)). among rest (wrong_number error 0 ts)) is
        ∙ ap (λ (t : Bool). among rest (cond t (option_map (λ n. n + 1) (wrong_number error 2 others)) (Some 0))) right
        ∙ later (wrong_number error 2 others)
        ∙ ap (λ (ts : List (List ℕ)). option_map (shifted end) (among after (wrong_number error 2 ts))) (sym left))

pub no_token : (error : ControlError) (skipped : ℕ) (rest : List ℕ) → tokens_of rest ≡ [] → wrong_from error skipped rest ≡ None
unfolding wrong_number
no_token error skipped rest none = ap (λ (ts : List (List ℕ)). among rest (wrong_number error skipped ts)) none
