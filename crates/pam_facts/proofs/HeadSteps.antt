-- The head of a row, word by word.
use Rattle.std.proofs.Common.{◌≡◌, ◌∙◌, ℕ, zero, suc, List, [], ◌∷◌, Option, Some, None, sym, ap}
use Rattle.std.specs.Option.{option_map, option_or}
use Rattle.pam_facts.specs.Rows.{class_named, head_of, with_argument}
use Rattle.pam_facts.specs.declared.row.Class.{Class}

module _ (words : List (List ℕ)) where
  pub nothing_left : (most : ℕ) → words ≡ [] → head_of most words ≡ None
  unfolding head_of
  nothing_left zero e = ap (head_of 0) e
  nothing_left (suc most) e = ap (head_of (suc most)) e

  module _ (word : List ℕ) (others : List (List ℕ)) (e : words ≡ word ∷ others) where
    pub class_found : (most : ℕ) (class : Class) → Some class ≡ class_named word →
        Some (record { arguments = []; class = class; rest = others }) ≡ head_of most words
    unfolding head_of
    class_found zero class named =
        ap (option_map (λ (k : Class). record { arguments = []; class = k; rest = others })) named ∙ ap (head_of 0) (sym e)
    class_found (suc most) class named =
        ap (λ (o : Option Class). option_or (option_map (λ (k : Class). record { arguments = []; class = k; rest = others }) o)
        (option_map (with_argument word) (head_of most others))) named ∙ ap (head_of (suc most)) (sym e)

    pub no_class : None ≡ class_named word → None ≡ head_of 0 words
    unfolding head_of
    no_class named = ap (option_map (λ (k : Class). record { arguments = []; class = k; rest = others })) named ∙ ap (head_of 0) (sym e)

    pub argument : (most : ℕ) → None ≡ class_named word → option_map (with_argument word) (head_of most others) ≡ head_of (suc most) words
    unfolding head_of
    argument most named =
        ap (λ (o : Option Class). option_or (option_map (λ (k : Class). record { arguments = []; class = k; rest = others }) o)
        (option_map (with_argument word) (head_of most others))) named ∙ ap (head_of (suc most)) (sym e)
