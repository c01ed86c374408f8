-- The members of a group are those of its line, and the users whose lines have its number.
use Rattle.std.proofs.Common.{◌≡◌, ◌∙◌, ◌++◌, ◌&&◌, ◌||◌, ◌==◌, ℕ, Bool, true, false, not, List, [], ◌∷◌, All, arith, codes, cond, eqb, filter}
use Rattle.std.proofs.Common.{Option, Some, None}
use Rattle.std.proofs.Common.{append_assoc, refl, subst, sym, ap}
use Rattle.std.proofs.lemmas.Bool.{eqb-true}
use Rattle.std.proofs.lemmas.List.Elements.{All-cons}
use Rattle.std.proofs.lemmas.List.Splits.{slice_split_at}
use Rattle.std.specs.List.{list_any, slice_split}
use Rattle.std.specs.Str.{bytes_eq}
use Rattle.pam_report.specs.Passwd.{is_mark, is_number, is_user, user_at, user_in, user_of_fields, users_of, without_zeros}
use Rattle.pam_cli.specs.PasswdLaws.{PrimaryMembersAreListed, has_primary, is_primary}
use Rattle.pam_tables.specs.Groups.{members_of}
use Rattle.pam_tables.specs.Lines.{has_bytes}
use Rattle.pam_text.specs.Cut.{is_among}

abbrev comma : ℕ → Bool
comma = is_among (codes ",")

comma-other : (b : ℕ) → (b == 44) ≡ false → comma b ≡ false
unfolding is_among
comma-other b h = elim (eqb 44 b) as (λ (t : Bool). eqb 44 b ≡ t → (t || false) ≡ false) [
  | true ↦ λ e. let same : 44 ≡ b = eqb-true 44 b e in let is : eqb 44 44 ≡ false = rw (← same) at h in absurd (cc)
  | false ↦ λ e. refl
] refl

first-false : (a b : Bool) → (a || b) ≡ false → a ≡ false
first-false true b h = absurd (cc)
first-false false b h = refl

second-false : (a b : Bool) → (a || b) ≡ false → b ≡ false
second-false true b h = absurd (cc)
second-false false b h = h

no-comma : (name : List ℕ) → list_any (λ c. c == 44) name ≡ false → All (λ c. comma c ≡ false) name
no-comma [] h = λ k d l. absurd (omega arith)
no-comma (b ∷ bs) h =
    All-cons (λ c. comma c ≡ false) b bs (comma-other b (first-false (b == 44) (list_any (λ c. c == 44) bs) h))
    (no-comma bs (second-false (b == 44) (list_any (λ c. c == 44) bs) h))

-- a user's name is not empty and has no comma
pub record Name (name : List ℕ) : Type 0 where
  pub some : has_bytes name ≡ true
  pub plain : list_any (λ c. c == 44) name ≡ false

both-true : (a b : Bool) → (a && b) ≡ true → b ≡ true
both-true true b h = h
both-true false b h = absurd (cc)

first-true : (a b : Bool) → (a && b) ≡ true → a ≡ true
first-true true b h = refl
first-true false b h = absurd (cc)

and-true : (a : Bool) → (a && true) ≡ a
and-true true = refl
and-true false = refl

and-false : (a : Bool) → (a && false) ≡ false
and-false true = refl
and-false false = refl

not-true : (a : Bool) → not a ≡ true → a ≡ false
not-true true h = absurd (cc)
not-true false h = refl

name-of : (name : List ℕ) → is_user name ≡ true → Name name
name-of [] h = absurd (let e : false ≡ true = h in cc)
name-of (b ∷ bs) h = record { some = refl; plain = not-true _ (both-true (not (is_mark b)) _ h) }

user-of : (fields : List (List ℕ)) (name number : List ℕ) → user_of_fields fields ≡ Some (name, number) → Name name
user-of [] name number h = absurd (cc)
user-of (a ∷ []) name number h = absurd (cc)
user-of (a ∷ b ∷ []) name number h = absurd (cc)
user-of (a ∷ b ∷ c ∷ []) name number h = absurd (cc)
user-of (a ∷ b ∷ c ∷ d ∷ fields) name number h = go (is_user a && is_number d) refl h
  where
    go : (t : Bool) → (is_user a && is_number d) ≡ t
        → cond {A = Option (List ℕ × List ℕ)} t (Some (a, without_zeros d)) None ≡ Some (name, number) → Name name
    go true e f =
        let pair : (a, without_zeros d) ≡ (name, number) = cc in
        let same : a ≡ name = ap (λ (p : List ℕ × List ℕ). p.0) pair in
        subst Name same (name-of a (first-true (is_user a) (is_number d) e))
    go false e f = absurd (cc)

-- a name with a comma is a member, before the others
name-listed : (name rest : List ℕ) → Name name → members_of ((name ++ 44 ∷ []) ++ rest) ≡ name ∷ members_of rest
unfolding members_of is_among
name-listed name rest h =
    ap (λ (text : List ℕ). filter has_bytes (slice_split comma text)) (append_assoc name (44 ∷ []) rest)
    ∙ ap (filter has_bytes) (slice_split_at comma name 44 rest (no-comma name h.plain) refl)
    ∙ ap (λ (t : Bool). cond t (name ∷ members_of rest) (members_of rest)) h.some

abbrev lists : List ℕ → List ℕ → Bool
lists user text = list_any (λ m. bytes_eq m user) (members_of text)

or-later : (a b c : Bool) → (a || (b || c)) ≡ (b || (a || c))
or-later true true c = refl
or-later true false c = refl
or-later false b c = refl

or-none : (a : Bool) → (a || false) ≡ a
or-none true = refl
or-none false = refl

-- one more line
one-line : (user number rest : List ℕ) (found : Option (List ℕ × List ℕ)) → ((name own : List ℕ) → found ≡ Some (name, own) → Name name)
    → lists user (user_in number found ++ rest) ≡ (is_primary user number found || lists user rest)
one-line user number rest None h = refl
one-line user number rest (Some (name, own)) h = go (bytes_eq number own) refl
  where
    go : (t : Bool) → bytes_eq number own ≡ t
        → lists user (cond t (name ++ 44 ∷ []) [] ++ rest) ≡ ((bytes_eq name user && t) || lists user rest)
    go true e =
        ap (list_any (λ m. bytes_eq m user)) (name-listed name rest (h name own refl))
        ∙ ap (λ (t : Bool). t || lists user rest) (sym (and-true (bytes_eq name user)))
    go false e = ap (λ (t : Bool). t || lists user rest) (sym (and-false (bytes_eq name user)))

pub listed : PrimaryMembersAreListed
unfolding user_at
listed user number members [] = sym (or-none (lists user members))
listed user number members (line ∷ lines) =
    let others = users_of number lines in
    ap (lists user) (append_assoc (user_in number (user_at line)) others members)
    ∙ one-line user number (others ++ members) (user_at line) (λ name own is. user-of (slice_split (is_among (codes ":")) line) name own is)
    ∙ ap (λ (t : Bool). is_primary user number (user_at line) || t) (listed user number members lines)
    ∙ or-later (is_primary user number (user_at line)) (lists user members) (has_primary user number lines)
