-- Codes word by word, the entry of a line of a returns file, lines that have codes, and those of a map's entries.
use Rattle.std.proofs.Common.{◌≡◌, ◌≢◌, ◌∙◌, ◌++◌, ◌||◌, ◌&&◌, ◌<◌, ◌==◌, ℕ, Bool, true, false, List, [], ◌∷◌, cond, eqb, codes, nat_eq, is_some}
use Rattle.std.proofs.Common.{map, Option, Some, None, IfSome, Result, Ok, Err, eq-eqb, if◌then◌else◌, refl, sym, ap}
use Rattle.std.specs.List.{list_any, list_all, starts_with}
use Rattle.std.specs.Map.{lookup}
use Rattle.std.specs.Option.{option_map, option_map_or}
use Rattle.std.specs.Str.{bytes_eq}
use Rattle.std.proofs.lemmas.List.Quantifiers.{position-Some}
use Rattle.pam_codes.specs.Code.{all_codes, code_names, same_name}
use Rattle.pam_codes.specs.Set.{codes_where, is_in, IsCodeSet}
use Rattle.pam_codes.specs.inner.SetBits.{codes_where-same, is_in-codes_where}
use Rattle.pam_tables.specs.Returns.{ReturnLine, codes_for, code_named, names_code, codes_of_words, words_of, line_of_words, some_codes, return_at}
use Rattle.pam_tables.specs.inner.Returns.{HaveCodes}
use Rattle.pam_tables.specs.declared.error.TableFault.{TableFault}
use Rattle.pam_tables.specs.declared.error.TableFault.TheVariants.{BadCode, BadModule, MissingField}
use Rattle.pam_tables.proofs.NamedSteps.{entry_view, value_of_name}

-- ---- words one after another

-- the codes read so far, with those of the later words
abbrev pub codes_with : List ℕ → List (List ℕ) → Result (List ℕ) TableFault
codes_with set words =
    if list_all (λ w. is_some (code_named w)) words then Ok (codes_where (λ code. is_in code set || list_any (names_code code) words)) else Err BadCode

-- codes with those of more words, the first of which names this code, or none
abbrev codes_with_first : List ℕ → Option ℕ → List (List ℕ) → Result (List ℕ) TableFault
codes_with_first set first words =
    if is_some first && list_all (λ w. is_some (code_named w)) words
    then Ok (codes_where (λ code. is_in code set || (option_map_or (λ c. code == c) first false || list_any (names_code code) words))) else Err BadCode

pub nothing_read : IsCodeSet []
unfolding all_codes
nothing_read = refl

module _ (set new : List ℕ) (n : ℕ) (put : new ≡ codes_where (λ code. code == n || is_in code set)) where
  put_in : (code : ℕ) → code < 31 → is_in code new ≡ (eqb code n || is_in code set)
  put_in code low = ap (is_in code) put ∙ is_in-codes_where (λ c. c == n || is_in c set) code low

  pub code_put : IsCodeSet new
  code_put = put ∙ codes_where-same _ _ (λ code low. sym (put_in code low))

  either : (a b c : Bool) → ((a || b) || c) ≡ (b || (a || c))
  either true true c = refl
  either true false c = refl
  either false true c = refl
  either false false c = refl

  pub word_read : (word : List ℕ) (all words : List (List ℕ)) → all ≡ word ∷ words → Some n ≡ code_named word → codes_with new words ≡ codes_with set all
  word_read word all words e named =
      ap (λ (xs : List ℕ). if list_all (λ w. is_some (code_named w)) words then Ok xs else Err BadCode)
      (codes_where-same _ _ (λ code low. ap (λ (t : Bool). t || list_any (names_code code) words) (put_in code low)
      ∙ either (eqb code n) (is_in code set) (list_any (names_code code) words)))
      ∙ ap (λ (o : Option ℕ). codes_with_first set o words) named ∙ ap (codes_with set) (sym e)

pub word_refused : (set word : List ℕ) (all words : List (List ℕ)) → all ≡ word ∷ words → None ≡ code_named word → codes_with set all ≡ Err BadCode
word_refused set word all words e named =
    ap (codes_with set) e ∙ sym (ap (λ (o : Option ℕ). codes_with_first set o words) named)

or_false : (b : Bool) → (b || false) ≡ b
or_false true = refl
or_false false = refl

pub words_end : (set : List ℕ) (all : List (List ℕ)) → IsCodeSet set → all ≡ [] → codes_with set all ≡ Ok set
words_end set all order e =
    ap (codes_with set) e ∙ ap Ok (codes_where-same _ _ (λ code low. or_false (is_in code set)) ∙ sym order)

code_below : (word : List ℕ) (n : ℕ) → code_named word ≡ Some n → n < 31
unfolding code_names
code_below word n h = (position-Some (λ name. same_name name word) code_names n [] h).0

one_code : (test : ℕ → Bool) (n : ℕ) → n < 31 → test n ≡ true → codes_where test ≢ []
one_code test n low h none =
    let there : true ≡ false = sym h ∙ sym (is_in-codes_where test n low) ∙ ap (is_in n) none in
    absurd (cc)

-- ---- all words of a line

pub bad_code : (words : List (List ℕ)) → codes_with [] words ≡ Err BadCode → codes_of_words words ≡ Err BadCode
unfolding codes_of_words
bad_code [] h = absurd (cc)
bad_code (word ∷ words) h = h

pub some_code : (words : List (List ℕ)) (set : List ℕ) → set ≢ [] → codes_with [] words ≡ Ok set → codes_of_words words ≡ Ok set
unfolding codes_of_words all_codes
some_code [] set some h = absurd (some (cc))
some_code (word ∷ words) set some h = h

pub no_code : (words : List (List ℕ)) → codes_with [] words ≡ Ok [] → codes_of_words words ≡ Err MissingField
unfolding codes_of_words
no_code [] h = refl
no_code (word ∷ words) h = absurd (go (code_named word) refl (list_all (λ w. is_some (code_named w)) words) h)
  where
    go : (o : Option ℕ) → code_named word ≡ o → (t : Bool) →
        (if is_some o && t then Ok (codes_where (λ code. option_map_or (λ c. code == c) o false || list_any (names_code code) words)) else Err BadCode)
        ≡ Ok [] → ⊥
    go None e t f = absurd (cc)
    go (Some n) e false f = absurd (cc)
    go (Some n) e true f =
        let none : codes_where (λ code. code == n || list_any (names_code code) words) ≡ [] = cc in
        one_code _ n (code_below word n e) (ap (λ (t : Bool). t || list_any (names_code n) words) (eq-eqb n n refl)) none

-- ---- a line

module _ (line : List ℕ) where
  pub comment : starts_with nat_eq line (codes "#") ≡ true → return_at line ≡ Ok None
  unfolding return_at
  comment h = rw h refl

  module _ (kept : starts_with nat_eq line (codes "#") ≡ false) where
    said : (words : List (List ℕ)) → words_of line ≡ words → return_at line ≡ line_of_words words
    unfolding return_at
    said words e = rw kept (ap line_of_words e)

    pub no_words : words_of line ≡ [] → return_at line ≡ Ok None
    no_words e = said [] e

    module _ (name : List ℕ) (words : List (List ℕ)) (e : words_of line ≡ name ∷ words) where
      pub bad_module : list_any (λ b. b == 47) name ≡ true → return_at line ≡ Err BadModule
      bad_module h = said (name ∷ words) e ∙ ap (λ (t : Bool). if t then Err BadModule else some_codes name (codes_of_words words)) h

      pub codes_said : list_any (λ b. b == 47) name ≡ false → (read : Result (List ℕ) TableFault) → codes_of_words words ≡ read →
          return_at line ≡ some_codes name read
      codes_said h read f =
          said (name ∷ words) e ∙ ap (λ (t : Bool). if t then Err BadModule else some_codes name (codes_of_words words)) h ∙ ap (some_codes name) f

-- ---- lines that have codes

pub one_line_more : (lines : List ReturnLine) (line : ReturnLine) → HaveCodes lines → line.1 ≢ [] → HaveCodes (lines ++ line ∷ [])
one_line_more [] line h some = (some, tt)
one_line_more (first ∷ lines) line h some = (h.0, one_line_more lines line h.1 some)

pub has_code : (lines : List ReturnLine) (name : List ℕ) → HaveCodes lines → IfSome (codes_for lines name) (λ set. set ≢ [])
has_code [] name h = tt
has_code (line ∷ lines) name h = elim (bytes_eq name line.0) as (λ (t : Bool). IfSome (cond t (Some line.1) (codes_for lines name)) (λ set. set ≢ [])) [
  | true ↦ h.0
  | false ↦ has_code lines name h.1
]

-- ---- a map's entries as lines

same_option : {A : Type 0} (o : Option A) → option_map (λ x. x) o ≡ o
same_option None = refl
same_option (Some x) = refl

pub codes_for-map : {K : Type 0} (name : K → List ℕ) (key : List ℕ) (es : List (K × List ℕ)) →
    lookup {K = K} {X = List ℕ} (λ k. bytes_eq key (name k)) es ≡ codes_for (map (entry_view name (λ set. set)) es) key
codes_for-map name key es = sym (value_of_name name (λ set. set) key es ∙ same_option _)
