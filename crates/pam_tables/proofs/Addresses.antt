-- Texts of IPv4 addresses.
use Rattle.std.proofs.Common.{◌≡◌, ◌∙◌, ◌&&◌, ◌||◌, ℕ, Bool, true, false, List, [], ◌∷◌, length, cond, nat_lt, nat_le, codes, Option, Some, None, refl, sym, ap}
use Rattle.std.proofs.Common.{map, eqb}
use Rattle.std.specs.Prelude.{option_and_then, slice_index}
use Rattle.std.specs.List.{slice_split, list_all}
use Rattle.std.specs.Char.{is_digit, digit_value}
use Rattle.std.proofs.lemmas.Bool.{eqb-true}
use Rattle.pam_tables.specs.Lines.{is_among, cut_at}
use Rattle.pam_tables.specs.Address.{numeral, number_in, octet_of, all_four, four_octets, v4_of}
use Rattle.pam_tables.proofs.Cutting.{split_two, split_three, none_passes, found_within, split_parts}
use Rattle.pam_text.proofs.Splits.{split_found, split_none}

-- a set of one byte has only that byte
pub among_one : (c b : ℕ) → is_among (c ∷ []) b ≡ true → c ≡ b
unfolding is_among
among_one c b h =
    elim (eqb c b) as (λ (t : Bool). eqb c b ≡ t → (t || false) ≡ true → c ≡ b) [ true ↦ λ e f. eqb-true c b e | false ↦ λ e f. absurd (cc) ] refl h

and_false : (b : Bool) → (b && false) ≡ false
and_false true = refl
and_false false = refl

pub numeral_none : (base most : ℕ) (text : List ℕ) → list_all (λ c. is_digit c base) text ≡ false → numeral base most text ≡ None
unfolding numeral
numeral_none base most text h =
    ap (λ (t : Bool). cond (nat_lt 0 (length text) && nat_le (length text) most && t) (Some (number_in base (map digit_value text))) None) h
    ∙ ap (λ (t : Bool). cond t (Some (number_in base (map digit_value text))) None) (and_false (nat_lt 0 (length text) && nat_le (length text) most))

octet_none : (text : List ℕ) → numeral 10 3 text ≡ None → octet_of text ≡ None
unfolding octet_of
octet_none text h =
    elim (nat_lt 1 (length text) && eqb (slice_index text 0) 48) as
    (λ (t : Bool). cond t None (option_and_then (λ n. cond (nat_lt n 256) (Some n) None) (numeral 10 3 text)) ≡ None) [
      | true ↦ refl
      | false ↦ ap (option_and_then (λ n. cond (nat_lt n 256) (Some n) None)) h
    ]

dot_not_digit : (b : ℕ) → is_among (codes ".") b ≡ true → is_digit b 10 ≡ false
dot_not_digit b h = rw (← among_one 46 b h) refl

all_four_none : (a b c : Option ℕ) → all_four a b c None ≡ None
all_four_none None b c = refl
all_four_none (Some a) None c = refl
all_four_none (Some a) (Some b) None = refl
all_four_none (Some a) (Some b) (Some c) = refl

-- three texts, and the text after the third dot
pub four_parts : (a b c d : List ℕ) → four_octets (a ∷ b ∷ c ∷ slice_split (is_among (codes ".")) d)
    ≡ all_four (octet_of a) (octet_of b) (octet_of c) (octet_of d)
four_parts a b c d =
    elim (cut_at (is_among (codes ".")) d) as (λ (o : Option (List ℕ × List ℕ)). o ≡ cut_at (is_among (codes ".")) d →
    four_octets (a ∷ b ∷ c ∷ slice_split (is_among (codes ".")) d) ≡ all_four (octet_of a) (octet_of b) (octet_of c) (octet_of d)) [
      | None ↦ λ e. ap (λ (ps : List (List ℕ)). four_octets (a ∷ b ∷ c ∷ ps)) (split_none _ d e)
      | Some x ↦ λ e.
          let none : octet_of d ≡ None = octet_none d (numeral_none 10 3 d (none_passes _ _ d dot_not_digit (found_within _ d x e))) in
          ap (λ (ps : List (List ℕ)). four_octets (a ∷ b ∷ c ∷ ps)) (split_found _ d x.0 x.1 e) ∙ too_many x.0 x.1
          ∙ sym (ap (all_four (octet_of a) (octet_of b) (octet_of c)) none ∙ all_four_none (octet_of a) (octet_of b) (octet_of c))
    ] refl
  where
    too_many : (x y : List ℕ) → four_octets (a ∷ b ∷ c ∷ x ∷ slice_split (is_among (codes ".")) y) ≡ None
    too_many x y = let ps = split_parts (is_among (codes ".")) y in ap (λ (ts : List (List ℕ)). four_octets (a ∷ b ∷ c ∷ x ∷ ts)) ps.are

pub v4_none : (text : List ℕ) → None ≡ cut_at (is_among (codes ".")) text → None ≡ v4_of text
unfolding v4_of
v4_none text e = sym (ap four_octets (split_none _ text e))

pub v4_one : (text a r : List ℕ) → Some (a, r) ≡ cut_at (is_among (codes ".")) text → None ≡ cut_at (is_among (codes ".")) r → None ≡ v4_of text
unfolding v4_of
v4_one text a r e f = sym (ap four_octets (split_found _ text a r e ∙ ap (λ (ps : List (List ℕ)). a ∷ ps) (split_none _ r f)))

pub v4_two : (text a r b s : List ℕ) → Some (a, r) ≡ cut_at (is_among (codes ".")) text → Some (b, s) ≡ cut_at (is_among (codes ".")) r →
    None ≡ cut_at (is_among (codes ".")) s → None ≡ v4_of text
unfolding v4_of
v4_two text a r b s e f g = sym (ap four_octets (split_two _ text a r b s e f ∙ ap (λ (ps : List (List ℕ)). a ∷ b ∷ ps) (split_none _ s g)))

pub v4_three : (text a r b s c d : List ℕ) → Some (a, r) ≡ cut_at (is_among (codes ".")) text → Some (b, s) ≡ cut_at (is_among (codes ".")) r →
    Some (c, d) ≡ cut_at (is_among (codes ".")) s → v4_of text ≡ all_four (octet_of a) (octet_of b) (octet_of c) (octet_of d)
unfolding v4_of
v4_three text a r b s c d e f g = ap four_octets (split_three _ text a r b s c d e f g) ∙ four_parts a b c d
