-- What holds of one physical line that is read alike.
use Rattle.std.proofs.Common.{◌≡◌, ◌&&◌, ◌||◌, ◌∙◌, ℕ, Bool, true, false, not, List, [], ◌∷◌, cond, eqb, ap, sym, refl}
use Rattle.std.specs.List.{list_all, list_any}
use Rattle.std.proofs.lemmas.Bool.{and_parts, or_parts, eqb-true}
use Rattle.pam_text.specs.Blanks.{is_text_blank}
use Rattle.pam_released.specs.Lines.{before_hash, ends_in_backslash, front_part, goes_on, has_hash, is_space_or_tab, is_blank_line, last_is_space}
use Rattle.pam_released.specs.Lines.{without_end_blanks}
use Rattle.pam_released.specs.Findings.{ends_in_blank, has_backslash_blank, has_backslash_comment, has_return}

pub record Agrees (line : List ℕ) : Type 0 where
  pub goes : goes_on line ≡ ends_in_backslash (before_hash line)
  pub front : goes_on line ≡ true → front_part line ≡ last_is_space (before_hash line)
  pub empty : is_blank_line line ≡ list_all is_text_blank (before_hash line)
  pub clean : has_return line ≡ false
  pub whole : goes_on line ≡ true → (has_hash line ≡ false) × (ends_in_backslash line ≡ true)

no_hash : (line : List ℕ) → has_hash line ≡ false → before_hash line ≡ line
unfolding before_hash
no_hash [] h = refl
no_hash (b ∷ bs) h = let parts = or_parts (eqb b 35) (has_hash bs) h in rw parts.0 (ap (λ (r : List ℕ). b ∷ r) (no_hash bs parts.1))

all_blank_ends : (b : ℕ) (bs : List ℕ) → list_all is_space_or_tab (b ∷ bs) ≡ true → ends_in_blank (b ∷ bs) ≡ true
unfolding ends_in_blank
all_blank_ends b [] h = (and_parts (is_space_or_tab b) true h).0
all_blank_ends b (c ∷ bs) h = all_blank_ends c bs (and_parts (is_space_or_tab b) (list_all is_space_or_tab (c ∷ bs)) h).1

not_all : (t u : Bool) → (t ≡ true → u ≡ true) → u ≡ false → t ≡ false
not_all true u f h = sym (f refl) ∙ h
not_all false u f h = refl

one_not : (t : Bool) → t ≡ false → (t && true) ≡ false
one_not t h = rw h refl

no_end_blanks : (line : List ℕ) → ends_in_blank line ≡ false → without_end_blanks line ≡ line
unfolding without_end_blanks ends_in_blank
no_end_blanks [] h = refl
no_end_blanks (b ∷ []) h = rw h refl
no_end_blanks (b ∷ c ∷ bs) h =
    let rest : list_all is_space_or_tab (c ∷ bs) ≡ false = not_all (list_all is_space_or_tab (c ∷ bs)) (ends_in_blank (c ∷ bs)) (all_blank_ends c bs) h in
    let whole : list_all is_space_or_tab (b ∷ c ∷ bs) ≡ false = not_all (list_all is_space_or_tab (b ∷ c ∷ bs)) (list_all is_space_or_tab (c ∷ bs))
    (λ k. (and_parts (is_space_or_tab b) (list_all is_space_or_tab (c ∷ bs)) k).1) rest in
    ap (λ (t : Bool). cond t [] (b ∷ without_end_blanks (c ∷ bs))) whole ∙ ap (λ (r : List ℕ). b ∷ r) (no_end_blanks (c ∷ bs) h)

blank_no_backslash : (b : ℕ) → is_space_or_tab b ≡ true → eqb b 92 ≡ false
blank_no_backslash b h =
    elim (eqb b 92) as (λ (t : Bool). eqb b 92 ≡ t → t ≡ false) [
      | true ↦ λ e. let is : b ≡ 92 = eqb-true b 92 e in sym (rw is at h)
      | false ↦ λ e. refl
    ] refl

blank_end : (line : List ℕ) → ends_in_blank line ≡ true → ends_in_backslash line ≡ false
unfolding ends_in_blank ends_in_backslash
blank_end [] h = refl
blank_end (b ∷ []) h = blank_no_backslash b h
blank_end (b ∷ c ∷ bs) h = blank_end (c ∷ bs) h

goes_as : (line : List ℕ) → has_hash line ≡ false → has_backslash_blank line ≡ false →
    (goes_on line ≡ ends_in_backslash line) × (goes_on line ≡ true → without_end_blanks line ≡ line)
goes_as line h k =
    elim (ends_in_blank line) as (λ (t : Bool). ends_in_blank line ≡ t → (goes_on line && t) ≡ false →
    (goes_on line ≡ ends_in_backslash line) × (goes_on line ≡ true → without_end_blanks line ≡ line)) [
      | true ↦ λ e f. let no : goes_on line ≡ false = left_false (goes_on line) f in
          (no ∙ sym (blank_end line e), λ g. absurd (differ (goes_on line) g no))
      | false ↦ λ e f. let same : without_end_blanks line ≡ line = no_end_blanks line e in
          (ap (λ (t : Bool). not t && ends_in_backslash (without_end_blanks line)) h ∙ ap ends_in_backslash same, λ g. same)
    ] refl k
  where
    left_false : (t : Bool) → (t && true) ≡ false → t ≡ false
    left_false true f = f
    left_false false f = f

    differ : (t : Bool) → t ≡ true → t ≡ false → ⊥
    differ t g f = let e : true ≡ false = sym g ∙ f in absurd (cc)

pub text_blank : (b : ℕ) → eqb b 13 ≡ false → is_space_or_tab b ≡ is_text_blank b
text_blank b h = rw h (or_false (eqb b 32) (eqb b 9))
  where
    or_false : (x y : Bool) → (x || y) ≡ ((x || y) || false)
    or_false true y = refl
    or_false false true = refl
    or_false false false = refl

same_blank : (bs : List ℕ) → list_any (λ b. eqb b 13) bs ≡ false → list_all is_space_or_tab bs ≡ list_all is_text_blank bs
same_blank [] h = refl
same_blank (b ∷ bs) h =
    let parts = or_parts (eqb b 13) (list_any (λ c. eqb c 13) bs) h in
    ap (λ (t : Bool). t && list_all is_space_or_tab bs) (text_blank b parts.0) ∙ ap (λ (t : Bool). is_text_blank b && t) (same_blank bs parts.1)

pub agrees : (line : List ℕ) → has_return line ≡ false → has_backslash_blank line ≡ false → has_backslash_comment line ≡ false → Agrees line
agrees line r k c =
    elim (has_hash line) as (λ (t : Bool). has_hash line ≡ t → (t && ends_in_backslash (before_hash line)) ≡ false → Agrees line) [
      | true ↦ λ h d. let no : goes_on line ≡ false = ap (λ (t : Bool). not t && ends_in_backslash (without_end_blanks line)) h in
          record {
            goes = no ∙ sym d;
            front = λ g. absurd (differ (goes_on line) g no);
            empty = same_blank (before_hash line) r;
            clean = r;
            whole = λ g. absurd (differ (goes_on line) g no);
          }
      | false ↦ λ h d. let same : before_hash line ≡ line = no_hash line h in let alike = goes_as line h k in
          record {
            goes = alike.0 ∙ ap ends_in_backslash (sym same);
            front = λ g. ap last_is_space (alike.1 g ∙ sym same);
            empty = same_blank (before_hash line) r;
            clean = r;
            whole = λ g. (h, sym alike.0 ∙ g);
          }
    ] refl c
  where
    differ : (t : Bool) → t ≡ true → t ≡ false → ⊥
    differ t g f = let e : true ≡ false = sym g ∙ f in absurd (cc)
