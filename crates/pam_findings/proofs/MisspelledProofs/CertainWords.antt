-- A nearest word that is certain.
use Rattle.std.proofs.Common.{◌≡◌, ◌∙◌, ℕ, Bool, true, false, List, [], ◌∷◌, ◌++◌, Option, Some, None, refl, sym, ap, if◌then◌else◌, not}
use Rattle.std.proofs.lemmas.Bool.{false≢true}
use Rattle.std.proofs.lemmas.Slice.Eq.{bytes_eq-Decides}
use Rattle.std.specs.Option.{option_map_or}
use Rattle.std.specs.Str.{bytes_eq}
use Rattle.pam_spelling.specs.Laws.{IsNearer, Listed, first, later}
use Rattle.pam_spelling.specs.Nearest.{allowed_errors, nearest}
use Rattle.pam_spelling.proofs.Nearing.{nearer_within}
use Rattle.pam_findings.specs.misspelled.Certain.{is_alone, others}

-- a word is not listed where neither the first one is it nor one of the others
no_other : (w found : List ℕ) (words : List (List ℕ)) → bytes_eq w found ≡ false → (Listed found words → ⊥) → Listed found (w ∷ words) → ⊥
no_other _ found words e more (first _ _) = false≢true (sym e ∙ (bytes_eq-Decides found found).1 refl)
no_other w found words e more (later _ _ _ l) = more l

-- the word itself is not among the others
not_listed : (words : List (List ℕ)) (found : List ℕ) → Listed found (others words found) → ⊥
not_listed [] found = λ l. elim l [ ]
not_listed (w ∷ words) found = elim (bytes_eq w found) as (λ (t : Bool). bytes_eq w found ≡ t →
    Listed found (if not t then w ∷ others words found else others words found) → ⊥) [
      | true ↦ λ e l. not_listed words found l
      | false ↦ λ e l. no_other w found (others words found) e (not_listed words found) l
    ] refl

-- what is found after all others is nearer than each of them
found_last : (words : List (List ℕ)) (word found : List ℕ) → nearest (others words found ++ found ∷ []) word ≡ Some found
    → IsNearer (others words found) word found
unfolding nearest
found_last words word found h = nearer_within (allowed_errors word) (others words found) [] word found h (not_listed words found)

pub certain_is_nearer : (words : List (List ℕ)) (word found : List ℕ) → is_alone words word found ≡ true → IsNearer (others words found) word found
certain_is_nearer words word found = elim (nearest (others words found ++ found ∷ []) word) as (λ (o : Option (List ℕ)).
    nearest (others words found ++ found ∷ []) word ≡ o → option_map_or (bytes_eq found) o false ≡ true → IsNearer (others words found) word found) [
      | None ↦ λ e h. absurd (false≢true h)
      | Some w ↦ λ e h. found_last words word found (e ∙ ap Some (sym ((bytes_eq-Decides found w).0 h)))
    ] refl
