-- Names that are known, each once, and the list of names that has them.
use Rattle.std.proofs.Common.{◌≡◌, ◌∙◌, ◌||◌, ℕ, Bool, true, false, List, [], ◌∷◌, ◌++◌, ap, cond, map, refl, sym}
use Rattle.std.proofs.lemmas.List.{map-append}
use Rattle.std.proofs.lemmas.List.Folds.{list_any-append}
use Rattle.std.proofs.lemmas.Slice.Eq.{bytes_eq-Decides}
use Rattle.std.specs.List.{list_any}
use Rattle.std.specs.Str.{bytes_eq}
use Rattle.indexmap.specs.IndexSet.{insert_key}
use Rattle.pam_conf.specs.inner.NameList.{HasNames}

any_text : {T : Type 0} (text : T → List ℕ) (name : List ℕ) (xs : List T) → list_any (λ x. bytes_eq name (text x)) xs ≡ list_any (bytes_eq name) (map text xs)
any_text text name [] = refl
any_text text name (x ∷ xs) = ap (λ t. bytes_eq name (text x) || t) (any_text text name xs)

or_false : (t : Bool) → (t || false) ≡ t
or_false true = refl
or_false false = refl

or_assoc : (a b c : Bool) → ((a || b) || c) ≡ (a || (b || c))
or_assoc true b c = refl
or_assoc false b c = refl

-- a name that is known already adds none
any_there : (name one : List ℕ) (known : List (List ℕ)) (t : Bool) → bytes_eq name one ≡ t → list_any (bytes_eq one) known ≡ true
    → list_any (bytes_eq name) known ≡ (list_any (bytes_eq name) known || t)
any_there name one known true same found =
    let all : list_any (bytes_eq name) known ≡ true = ap (λ k. list_any (bytes_eq k) known) ((bytes_eq-Decides name one).0 same) ∙ found in
    all ∙ sym (ap (λ t. t || true) all)
any_there name one known false other found = sym (or_false (list_any (bytes_eq name) known))

module _ {T : Type 0} (text : T → List ℕ) (known new : List T) (one : T) (put : new ≡ insert_key (λ a b. bytes_eq (text a) (text b)) known one) where
  -- a name is known with one more, if it was known before or is that one
  any_with : (name : List ℕ) → list_any (bytes_eq name) (map text new) ≡ (list_any (bytes_eq name) (map text known) || bytes_eq name (text one))
  any_with name =
      ap (λ ks. list_any (bytes_eq name) (map text ks)) put
      ∙ (elim (list_any (λ b. bytes_eq (text one) (text b)) known) as (λ (t : Bool). list_any (λ b. bytes_eq (text one) (text b)) known ≡ t
      → list_any (bytes_eq name) (map text (cond t known (known ++ one ∷ []))) ≡ (list_any (bytes_eq name) (map text known) || bytes_eq name (text one))) [
        | true ↦ λ e. any_there name (text one) (map text known) (bytes_eq name (text one)) refl (sym (any_text text (text one) known) ∙ e)
        | false ↦ λ e.
            ap (list_any (bytes_eq name)) (map-append text known (one ∷ []))
            ∙ list_any-append (bytes_eq name) (map text known) (text one ∷ [])
            ∙ ap (λ t. list_any (bytes_eq name) (map text known) || t) (or_false (bytes_eq name (text one)))
      ] refl)

  -- one more name, of the known ones and of the list
  pub has-with : (names more : List (List ℕ)) (last : List ℕ) → text one ≡ last → more ≡ names ++ last ∷ [] →
      HasNames (map text known) names → HasNames (map text new) more
  has-with names more last copy pushed has = λ name.
      let had = list_any (bytes_eq name) names in
      any_with name
      ∙ ap (λ t. t || bytes_eq name (text one)) (has name)
      ∙ ap (λ k. had || bytes_eq name k) copy
      ∙ ap (λ t. had || t) (sym (or_false (bytes_eq name last)))
      ∙ sym (list_any-append (bytes_eq name) names (last ∷ []))
      ∙ ap (list_any (bytes_eq name)) (sym pushed)

  -- the next name of those that are left
  pub has-next : (names rest : List (List ℕ)) (next : List ℕ) → text one ≡ next → HasNames (map text known ++ next ∷ rest) names →
      HasNames (map text new ++ rest) names
  has-next names rest next copy has = λ name.
      let had = list_any (bytes_eq name) (map text known) in
      let later = list_any (bytes_eq name) rest in
      list_any-append (bytes_eq name) (map text new) rest
      ∙ ap (λ t. t || later) (any_with name ∙ ap (λ k. had || bytes_eq name k) copy)
      ∙ or_assoc had (bytes_eq name next) later
      ∙ sym (list_any-append (bytes_eq name) (map text known) (next ∷ rest))
      ∙ has name

-- a name that is looked up
pub has-found : {T : Type 0} (text : T → List ℕ) (name : List ℕ) (known : List T) (names all : List (List ℕ)) (found : Bool) →
    HasNames (map text known) names → names ≡ all → found ≡ list_any (λ k. bytes_eq name (text k)) known → found ≡ list_any (bytes_eq name) all
has-found text name known names all found has same is = is ∙ any_text text name known ∙ has name ∙ ap (list_any (bytes_eq name)) same
