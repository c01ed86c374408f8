-- A code is looked for among those whose names have the length of a text.
use Rattle.std.proofs.Common.{◌≡◌, ◌<◌, ◌+◌, ℕ, Bool, All, add-one, drop, true, false, List, [], ◌∷◌, length, get_or, Some, cond, ap, ◌∙◌, subst, sym, refl}
use Rattle.std.proofs.Common.{filter}
use Rattle.std.proofs.lemmas.List.Elements.{All-filter, All-get_or}
use Rattle.std.proofs.Math.Seq.{drop-cons}
use Rattle.std.specs.List.{find, position}
use Rattle.std.proofs.lemmas.Bool.{eqb-false}
use Rattle.std.proofs.lemmas.List.{length-map}
use Rattle.std.proofs.lemmas.Slice.Eq.{bytes_eq-Decides}
use Rattle.std.proofs.lemmas.Iterator.Adapters.{position_from-zero}
use Rattle.pam_codes.specs.Code.{all_codes, code_names, same_name}
use Rattle.pam_codes.specs.inner.Code.{has_len}
use Rattle.pam_codes.specs.Set.{codes_where}
use Rattle.pam_codes.proofs.CodeSets.{all_codes-within}

-- whether the text is the name of a code
abbrev pub has_name : List ℕ → ℕ → Bool
has_name text code = same_name (get_or code_names code []) text

pub first_code : (text : List ℕ) → find (has_name text) all_codes ≡ position (λ n. same_name n text) code_names
unfolding all_codes code_names
first_code text = sym (position_from-zero (λ n. same_name n text) code_names)

-- looking among the elements that pass a test, without which none is found
pub find-filter : (p test : ℕ → Bool) → ((n : ℕ) → test n ≡ false → p n ≡ false) → (ns : List ℕ) → find p (filter test ns) ≡ find p ns
find-filter p test none [] = refl
find-filter p test none (n ∷ ns) =
    elim (test n) as (λ (t : Bool). test n ≡ t → find p (cond t (n ∷ filter test ns) (filter test ns)) ≡ cond (p n) (Some n) (find p ns)) [
      | true ↦ λ e. ap (cond (p n) (Some n)) (find-filter p test none ns)
      | false ↦ λ e. find-filter p test none ns ∙ ap (λ (t : Bool). cond t (Some n) (find p ns)) (sym (none n e))
    ] refl

pub other_len : (text : List ℕ) (code : ℕ) → has_len (length text) code ≡ false → has_name text code ≡ false
other_len text code h =
    elim (has_name text code) as (λ (t : Bool). has_name text code ≡ t → t ≡ false) [
      | true ↦ λ e. let same = (bytes_eq-Decides _ _).0 e in
          let len : length (get_or code_names code []) ≡ length text = sym (length-map _ _) ∙ ap length same ∙ length-map _ _ in
          absurd (eqb-false _ _ h len)
      | false ↦ λ e. refl
    ] refl

pub first_of_len : (text : List ℕ) → find (has_name text) (codes_where (has_len (length text))) ≡ position (λ n. same_name n text) code_names
first_of_len text = find-filter (has_name text) (has_len (length text)) (other_len text) all_codes ∙ first_code text

-- the codes that pass a test are codes
pub low_code : (test : ℕ → Bool) (codes : List ℕ) (i : ℕ) → codes ≡ codes_where test → i < length codes → get_or codes i 0 < 31
low_code test codes i e h =
    All-get_or (λ code. code < 31) codes i 0 h (subst (All (λ code. code < 31)) (sym e) (All-filter test (λ code. code < 31) all_codes all_codes-within))

-- the first of the codes from an index on
pub first_from : (p : ℕ → Bool) (codes : List ℕ) (i code : ℕ) → i < length codes → code ≡ get_or codes i 0
    → find p (drop i codes) ≡ cond (p code) (Some code) (find p (drop (i + 1) codes))
first_from p codes i code h e = rw (add-one, drop-cons codes i 0, e) refl
