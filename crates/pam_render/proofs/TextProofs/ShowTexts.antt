-- The texts of `show`, part by part.
use Rattle.std.proofs.Common.{◌≡◌, ℕ, ◌+◌, ◌-◌, ◌*◌, ◌<◌, List, [], ◌∷◌, ◌++◌, length, take, drop, get_or, map, codes, refl, sym, ap, ◌∙◌, arith}
use Rattle.std.proofs.lemmas.List.{replicate-append-replicate}
use Rattle.std.specs.Prelude.{replicate}
use Rattle.std.specs.List.{concat, flat_map}
use Rattle.pam_codes.specs.ControlText.{control_text}
use Rattle.pam_conf.specs.Files.{Folder}
use Rattle.pam_conf.specs.Stack.{ModuleText, SubText}
use Rattle.pam_text.proofs.FlatTexts.{flat_map-at}
use Rattle.pam_render.specs.text.Header.{name_at}
use Rattle.pam_render.specs.text.Show.{indent, module_front, module_line, place_text, sub_line, words_text}
use Rattle.pam_render.specs.text.WordText.{word_text}

-- LEVELS

pub indent-zero : indent 0 ≡ []
unfolding indent
indent-zero = refl

indent-sum : (a b : ℕ) → indent a ++ indent b ≡ indent (a + b)
unfolding indent
indent-sum a b =
    let doubled : 2 * a + 2 * b ≡ 2 * (a + b) = omega arith in
    replicate-append-replicate (2 * a) (2 * b) 32 ∙ ap (λ (n : ℕ). replicate n 32) doubled

indent-one : indent 1 ≡ codes "  "
unfolding indent
indent-one = refl

-- one more level
pub indent-more : (n : ℕ) → indent n ++ codes "  " ≡ indent (n + 1)
indent-more n = ap (λ (l : List ℕ). indent n ++ l) (sym indent-one) ∙ indent-sum n 1

-- a level and the later ones
pub indent-at : (n level : ℕ) → n < level → (indent n ++ codes "  ") ++ indent (level - (n + 1)) ≡ indent level
indent-at n level h =
    let all : n + 1 + (level - (n + 1)) ≡ level = omega arith in
    ap (λ (l : List ℕ). l ++ indent (level - (n + 1))) (indent-more n) ∙ indent-sum (n + 1) (level - (n + 1)) ∙ ap indent all

-- WORDS

flat_map-map : {A B : Type 0} (text : B → List ℕ) (view : A → B) (xs : List A) → flat_map text (map view xs) ≡ flat_map (λ x. text (view x)) xs
flat_map-map text view [] = refl
flat_map-map text view (x ∷ xs) = ap (λ (l : List ℕ). text (view x) ++ l) (flat_map-map text view xs)

-- the elements before the i-th, that element and the others, each by its view
pub flat_map-viewed_at : {A B : Type 0} (text : B → List ℕ) (view : A → B) (xs : List A) (i : ℕ) (d : A) → i < length xs →
    (flat_map text (map view (take i xs)) ++ text (view (get_or xs i d))) ++ flat_map text (map view (drop (i + 1) xs)) ≡ flat_map text (map view xs)
flat_map-viewed_at text view xs i d h =
    rw (flat_map-map text view (take i xs), flat_map-map text view (drop (i + 1) xs), flat_map-map text view xs) (flat_map-at (λ x. text (view x)) xs i d h)

-- LINES

pub module_line-is : (files : Folder) (level : ℕ) (m : ModuleText) (word : List ℕ) (words : List (List ℕ)) → word ≡ m.path → words ≡ m.arguments →
    module_front files level m ++ control_text m.control ++ (codes " " ++ word_text word) ++ words_text words ++ codes "\n" ≡ module_line files level m
unfolding module_line
module_line-is files level m word words e f = rw (e, f) refl

pub sub_line-is : (files : Folder) (level : ℕ) (t s : SubText) (name : List ℕ) → t ≡ s → name ≡ name_at files t.target →
    indent level ++ codes "sub " ++ place_text files t.file t.line ++ concat (codes " " ∷ name ∷ codes "\n" ∷ []) ≡ sub_line files level s
unfolding sub_line
sub_line-is files level t s name e f = rw f (ap (λ (u : SubText). sub_line files level u) e)
