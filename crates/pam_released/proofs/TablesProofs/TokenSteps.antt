-- The tests of tokens, one token after another.
use Rattle.std.proofs.Common.{◌≡◌, ◌∙◌, ◌||◌, ℕ, Bool, List, [], ◌∷◌, ap, sym}
use Rattle.std.specs.List.{list_any}
use Rattle.std.proofs.Math.Bool.{or-false, or_assoc}

pub one_token : (test : List ℕ → Bool) (before after whole : Bool) (token : List ℕ) (all tokens : List (List ℕ)) → all ≡ token ∷ tokens →
    after ≡ (before || test token) → (before || list_any test all) ≡ whole → (after || list_any test tokens) ≡ whole
one_token test before after whole token all tokens split is h =
    ap (λ (x : Bool). x || list_any test tokens) is ∙ or_assoc before (test token) (list_any test tokens)
    ∙ ap (λ (ts : List (List ℕ)). before || list_any test ts) (sym split) ∙ h

pub no_token : (test : List ℕ → Bool) (before whole : Bool) (all : List (List ℕ)) → all ≡ [] → (before || list_any test all) ≡ whole → before ≡ whole
no_token test before whole all none h =
    sym (or-false before) ∙ ap (λ (ts : List (List ℕ)). before || list_any test ts) (sym none) ∙ h
