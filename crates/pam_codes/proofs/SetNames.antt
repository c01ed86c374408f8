-- The names of a set's codes, written one by one.
use Rattle.std.proofs.Common.{◌≡◌, ℕ, ◌<◌, ◌≤◌, ◌==◌, ◌&&◌, Bool, true, not, List, [], ◌∷◌, ◌++◌, drop, length, ltb, map, codes, slice_get, Option}
use Rattle.std.proofs.Common.{Some, None, eq-eqb, refl, sym, ◌∙◌, ap, arith, append_assoc, append-nil}
use Rattle.std.specs.List.{join_with_byte}
use Rattle.std.proofs.lemmas.Bool.{cond-false, cond-true, le-ltb, lt-ltb, ne_eqb}
use Rattle.std.proofs.lemmas.Option.{get_or_from_slice_get}
use Rattle.pam_text.specs.declared.out.Out.{Out}
use Rattle.pam_codes.specs.Code.{all_codes, code_names}
use Rattle.pam_text.specs.Out.{TookAll, TookFront}
use Rattle.pam_codes.specs.Set.{codes_where, is_in}
use Rattle.pam_codes.specs.inner.SetBits.{codes_where-same, is_in-codes_where}
use Rattle.pam_codes.specs.SetText.{name_of, names_text, set_text}
use Rattle.pam_codes.proofs.Firsts.{first_and_rest, none_first}
use Rattle.pam_text.proofs.Writing.{all-is, all-none, all-then, front-is, front-longer, front-then}

-- the names of codes, each after a comma, but the first after another separator
abbrev pub names_after : List ℕ → List ℕ → List ℕ
names_after separator [] = []
names_after separator (c ∷ cs) = (separator ++ name_of c) ++ names_after (codes ",") cs

after_comma : (c : ℕ) (cs : List ℕ) → names_after (codes ",") (c ∷ cs) ≡ 44 ∷ join_with_byte 44 (map name_of (c ∷ cs))
after_comma c [] = ap (λ (text : List ℕ). 44 ∷ text) (append-nil (name_of c))
after_comma c (d ∷ ds) = ap (λ (text : List ℕ). (44 ∷ name_of c) ++ text) (after_comma d ds)

pub names_after-none : (set : List ℕ) → names_after [] set ≡ names_text set
unfolding names_text
names_after-none [] = refl
names_after-none (c ∷ []) = append-nil (name_of c)
names_after-none (c ∷ d ∷ ds) = ap (λ (text : List ℕ). name_of c ++ text) (after_comma d ds)

-- the first names are written, and those of the remaining codes complete them
pub record AreWritten {W : Type 0} (contents : W → Option (List ℕ)) (old new : Out W) (separator remaining set : List ℕ) : Type 0 where
  pub written : List ℕ
  pub took : TookAll contents old new written
  pub parts : written ++ names_after separator remaining ≡ names_text set

module _ {W : Type 0} (contents : W → Option (List ℕ)) (old : Out W) (set : List ℕ) where
  pub AreWritten-none : (separator : List ℕ) → separator ≡ [] → AreWritten contents old old separator set set
  AreWritten-none separator none = record {
    written = [];
    took = all-none old;
    parts = ap (λ (text : List ℕ). names_after text set) none ∙ names_after-none set;
  }

  pub AreWritten-all : (new : Out W) (separator remaining : List ℕ) → AreWritten contents old new separator remaining set →
      slice_get remaining 0 ≡ None → TookAll contents old new (names_text set)
  AreWritten-all new separator remaining now none =
      all-is now.took (sym (append-nil now.written)
      ∙ sym (ap (λ (codes : List ℕ). now.written ++ names_after separator codes) (none_first remaining none))
      ∙ now.parts)

  module _ (mid : Out W) (separator remaining : List ℕ) (now : AreWritten contents old mid separator remaining set)
      (code : ℕ) (name : List ℕ) (first : slice_get remaining 0 ≡ Some code) (named : slice_get code_names code ≡ Some name) where
    whole : (now.written ++ (separator ++ (name ++ []))) ++ names_after (codes ",") (drop 1 remaining) ≡ names_text set
    whole =
        ap (λ (text : List ℕ). (now.written ++ (separator ++ text)) ++ names_after (codes ",") (drop 1 remaining))
        (append-nil name ∙ sym (get_or_from_slice_get code_names code name [] named))
        ∙ append_assoc now.written (separator ++ name_of code) (names_after (codes ",") (drop 1 remaining))
        ∙ sym (ap (λ (cs : List ℕ). now.written ++ names_after separator cs) (first_and_rest remaining code first))
        ∙ now.parts

    pub AreWritten-failed : (new : Out W) → TookFront contents mid new (separator ++ (name ++ [])) → TookFront contents old new (names_text set)
    AreWritten-failed new failed = front-is (front-longer (names_after (codes ",") (drop 1 remaining)) (front-then now.took failed)) whole

    pub AreWritten-more : (new : Out W) (next : List ℕ) → TookAll contents mid new (separator ++ (name ++ [])) → next ≡ drop 1 remaining →
        AreWritten contents old new (codes ",") next set
    AreWritten-more new next more next_is = record {
      written = now.written ++ (separator ++ (name ++ []));
      took = all-then now.took more;
      parts =
          ap (λ (cs : List ℕ). (now.written ++ (separator ++ (name ++ []))) ++ names_after (codes ",") cs) next_is ∙ whole;
    }

-- the set has one code less
pub less_codes : (remaining next : List ℕ) (code : ℕ) → slice_get remaining 0 ≡ Some code → next ≡ drop 1 remaining → length next < length remaining
less_codes remaining next code first next_is =
    omega (arith, ap (λ (cs : List ℕ). length cs) next_is, ap (λ (cs : List ℕ). length cs) (first_and_rest remaining code first))

-- the text of a set, by the number of codes
pub set_text-any : (set : List ℕ) → length set ≡ 31 → set_text set ≡ codes "any"
unfolding set_text
set_text-any set all = cond-true (length set == 31) _ _ (eq-eqb _ _ all)

pub set_text-names : (set : List ℕ) → (length set ≡ 31 → ⊥) → length set ≤ 15 → set_text set ≡ names_text set
unfolding set_text
set_text-names set other few = cond-false (length set == 31) _ _ (ne_eqb _ _ other) ∙ cond-false (ltb 15 (length set)) _ _ (le-ltb _ _ few)

in_all : (code : ℕ) → code < 31 → is_in code all_codes ≡ true
unfolding all_codes
in_all code low = is_in-codes_where (λ c. true) code low

pub set_text-but : (set missing : List ℕ) → (length set ≡ 31 → ⊥) → 15 < length set → missing ≡ codes_where (λ c. is_in c all_codes && not (is_in c set)) →
    codes "but:" ++ names_text missing ≡ set_text set
unfolding set_text
set_text-but set missing other many are =
    ap (λ (cs : List ℕ). codes "but:" ++ names_text cs)
    (are ∙ codes_where-same _ _ (λ code low. ap (λ (t : Bool). t && not (is_in code set)) (in_all code low)))
    ∙ sym (cond-false (length set == 31) _ _ (ne_eqb _ _ other) ∙ cond-true (ltb 15 (length set)) _ _ (lt-ltb _ _ many))
