-- Conditions word by word, and three words at a time.
use Rattle.std.proofs.Common.{◌≡◌, ◌&&◌, ℕ, Bool, true, false, not, List, [], ◌∷◌, cond, refl, ap, ◌∙◌}
use Rattle.std.specs.List.{filter}
use Rattle.pam_facts.specs.arguments.Conditions.{are_conditions, is_field, is_flag, is_test}
use Rattle.pam_facts.specs.arguments.inner.Conditions.{go_on}
use Rattle.pam_facts.specs.declared.arguments.conditions.Part.TheVariants.{Field, Test, Value}

-- the words that are no flags
abbrev pub others : List (List ℕ) → List (List ℕ)
others words = filter (λ word. not (is_flag word)) words

never : (a : Bool) → (a && false) ≡ false
never true = refl
never false = refl

-- words that go on from a part, after the parts before it
record Goes (words : List (List ℕ)) : Type 0 where
  from_field : go_on Field words ≡ are_conditions (others words)
  from_test : (field : List ℕ) → (is_field field && go_on Test words) ≡ are_conditions (field ∷ others words)
  from_value : (field test : List ℕ) → (is_field field && (is_test test && go_on Value words)) ≡ are_conditions (field ∷ test ∷ others words)

goes : (words : List (List ℕ)) → Goes words
goes [] = record {
  from_field = refl;
  from_test = λ field. never (is_field field);
  from_value = λ field test. ap (λ (b : Bool). is_field field && b) (never (is_test test)) ∙ never (is_field field);
}
goes (word ∷ words) =
    let rest : Goes words = goes words in
    record {
      from_field =
          elim (is_flag word) as (λ (t : Bool). cond t (go_on Field words) (is_field word && go_on Test words)
          ≡ are_conditions (cond (not t) (word ∷ others words) (others words))) [
            | true ↦ rest.from_field
            | false ↦ rest.from_test word
          ];
      from_test = λ field.
          elim (is_flag word) as (λ (t : Bool). (is_field field && cond t (go_on Test words) (is_test word && go_on Value words))
          ≡ are_conditions (field ∷ cond (not t) (word ∷ others words) (others words))) [
            | true ↦ rest.from_test field
            | false ↦ rest.from_value field word
          ];
      from_value = λ field test.
          elim (is_flag word) as (λ (t : Bool). (is_field field && (is_test test && cond t (go_on Value words) (go_on Field words)))
          ≡ are_conditions (field ∷ test ∷ cond (not t) (word ∷ others words) (others words))) [
            | true ↦ rest.from_value field test
            | false ↦ ap (λ (b : Bool). is_field field && (is_test test && b)) rest.from_field
          ];
    }

pub all_go_on : (words : List (List ℕ)) → go_on Field words ≡ are_conditions (others words)
all_go_on words = (goes words).from_field
