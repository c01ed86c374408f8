-- Every third token.
use Rattle.std.proofs.Common.{◌≡◌, ◌<◌, ◌-◌, ◌∙◌, ℕ, zero, suc, Bool, true, false, List, [], ◌∷◌, None, Some, ap, arith, cond, find}
use Rattle.std.proofs.Common.{length, not, sym}
use Rattle.pam_codes.specs.declared.error.ControlError.{ControlError}
use Rattle.pam_findings.specs.misspelled.Pairs.{is_right, thirds}

abbrev pub is_wrong : ControlError → List ℕ → Bool
is_wrong error token = not (is_right error token)

module _ (error : ControlError) (all : List (List ℕ)) (token : List ℕ) (tokens : List (List ℕ)) (is : all ≡ token ∷ tokens) where
  -- one of the tokens that are passed over
  pub one_passed : (passed : ℕ) → 0 < passed → find (is_wrong error) (thirds (passed - 1) tokens) ≡ find (is_wrong error) (thirds passed all)
  unfolding thirds
  one_passed zero h = absurd (omega (arith, h))
  one_passed (suc passed) h =
      let less : suc passed - 1 ≡ passed = omega arith in
      rw less (sym (ap (λ (ts : List (List ℕ)). find (is_wrong error) (thirds (suc passed) ts)) is))

  here : find (is_wrong error) (thirds 0 all) ≡ cond (is_wrong error token) (Some token) (find (is_wrong error) (thirds 2 tokens))
  unfolding thirds
  here = ap (λ (ts : List (List ℕ)). find (is_wrong error) (thirds 0 ts)) is

  pub wrong_here : (passed : ℕ) → passed ≡ 0 → is_right error token ≡ false → Some token ≡ find (is_wrong error) (thirds passed all)
  wrong_here passed e f =
      sym (ap (λ (n : ℕ). find (is_wrong error) (thirds n all)) e ∙ here
      ∙ ap (λ (t : Bool). cond (not t) (Some token) (find (is_wrong error) (thirds 2 tokens))) f)

  pub right_here : (passed : ℕ) → passed ≡ 0 → is_right error token ≡ true → find (is_wrong error) (thirds 2 tokens) ≡ find (is_wrong error) (thirds passed all)
  right_here passed e f =
      sym (ap (λ (n : ℕ). find (is_wrong error) (thirds n all)) e ∙ here
      ∙ ap (λ (t : Bool). cond (not t) (Some token) (find (is_wrong error) (thirds 2 tokens))) f)

  pub shorter : length tokens < length all
  shorter = let e : length all ≡ length (token ∷ tokens) = ap length is in omega (arith, e)

pub none_left : (error : ControlError) (passed : ℕ) (tokens : List (List ℕ)) → tokens ≡ [] → None ≡ find (is_wrong error) (thirds passed tokens)
unfolding thirds
none_left error passed tokens is = sym (ap (λ (ts : List (List ℕ)). find (is_wrong error) (thirds passed ts)) is)
