-- Lists without bytes that a fault needs.
use Rattle.std.proofs.Common.{◌≡◌, ◌∙◌, ◌||◌, ◌==◌, ℕ, zero, suc, length, arith, one-add, Bool, true, false, List, [], ◌∷◌, take, drop, map, filter, cond}
use Rattle.std.proofs.Common.{codes, nat_eq, Option, Some, None, Result, Ok, refl, ap, sym}
use Rattle.std.proofs.lemmas.Bool.{eqb-true, le-ltb}
use Rattle.std.specs.List.{list_any, position_or_len, slice_split, onto_first, starts_with}
use Rattle.pam_text.proofs.Cutting.{or_false}
use Rattle.pam_text.proofs.Searching.{same_byte}
use Rattle.pam_tables.specs.Error.{verdict}
use Rattle.pam_tables.specs.Lines.{has_bytes, is_among, trimmed, trimmed_start}
use Rattle.pam_tables.specs.Network.{network_of}
use Rattle.pam_tables.specs.Tokens.{each_token, group_name, origin_token, tokens_of, user_token}
use Rattle.pam_tables.specs.declared.error.TableFault.{TableFault}
use Rattle.pam_tables.proofs.Cutting.{FirstPart, split_parts}
use Rattle.pam_tables.proofs.MarkSteps.{group_passes, plain_passes}
use Rattle.pam_tables.proofs.TokenSteps.{neither, passes}

-- of two tests the other one, where none passes the second
pub any_other : (p q : ℕ → Bool) (text : List ℕ) → list_any q text ≡ false → list_any p text ≡ list_any (λ b. p b || q b) text
any_other p q [] h = refl
any_other p q (b ∷ bs) h =
    let both = neither (q b) (list_any q bs) h in
    ap (λ (t : Bool). p b || t) (any_other p q bs both.1)
    ∙ ap (λ (t : Bool). t || list_any (λ c. p c || q c) bs) (sym (ap (λ (t : Bool). p b || t) both.0 ∙ or_false (p b)))

module _ (bad : ℕ → Bool) where
  -- a text without such bytes
  abbrev pub Clean : List ℕ → Type 0
  Clean text = list_any bad text ≡ false

  abbrev AllClean : List (List ℕ) → Type 0
  AllClean [] = Unit {0}
  AllClean (text ∷ texts) = Clean text × AllClean texts

  clean_drop : (n : ℕ) (text : List ℕ) → Clean text → Clean (drop n text)
  clean_drop zero text h = h
  clean_drop (suc n) [] h = h
  clean_drop (suc n) (b ∷ bs) h = clean_drop n bs (neither (bad b) (list_any bad bs) h).1

  clean_take : (n : ℕ) (text : List ℕ) → Clean text → Clean (take n text)
  clean_take zero text h = refl
  clean_take (suc n) [] h = refl
  clean_take (suc n) (b ∷ bs) h =
      let both = neither (bad b) (list_any bad bs) h in ap (λ (t : Bool). t || list_any bad (take n bs)) both.0 ∙ clean_take n bs both.1

  onto_clean : (b : ℕ) (parts : List (List ℕ)) → bad b ≡ false → FirstPart parts → AllClean parts → AllClean (onto_first b parts)
  onto_clean b parts h f all =
      let parts_clean : AllClean (f.first ∷ f.others) = rw f.are at all in
      rw f.are (ap (λ (t : Bool). t || list_any bad f.first) h ∙ parts_clean.0, parts_clean.1)

  clean_parts : (p : ℕ → Bool) (text : List ℕ) → Clean text → AllClean (slice_split p text)
  clean_parts p [] h = (refl, tt)
  clean_parts p (b ∷ bs) h =
      let both = neither (bad b) (list_any bad bs) h in
      elim (p b) as (λ (t : Bool). AllClean (cond t ([] ∷ slice_split p bs) (onto_first b (slice_split p bs)))) [
        | true ↦ (refl, clean_parts p bs both.1)
        | false ↦ onto_clean b _ both.0 (split_parts p bs) (clean_parts p bs both.1)
      ]

  module _ {A : Type 0} (read : List ℕ → Result A TableFault) (sound : (token : List ℕ) → Clean token → Ok tt ≡ verdict (read token)) where
    clean_tokens : (parts : List (List ℕ)) → AllClean parts → Ok tt ≡ verdict (each_token read (filter has_bytes (map trimmed parts)))
    unfolding each_token
    clean_tokens [] h = refl
    clean_tokens (part ∷ parts) h =
        elim (has_bytes (trimmed part)) as (λ (t : Bool).
        Ok tt ≡ verdict (each_token read (cond t (trimmed part ∷ filter has_bytes (map trimmed parts)) (filter has_bytes (map trimmed parts))))) [
          | true ↦ clean_tokens parts h.1 ∙ passes (read (trimmed part)) _ (sound (trimmed part) (clean_take _ (trimmed_start part) (clean_drop _ part h.0)))
          | false ↦ clean_tokens parts h.1
        ]

    -- where no token of a list has such a byte, none has a fault
    pub clean_list : (s text : List ℕ) → Clean text → Ok tt ≡ verdict (each_token read (tokens_of s text))
    unfolding tokens_of
    clean_list s text h = clean_tokens _ (clean_parts (is_among s) text h)

-- a byte that is not `@`, compared from the other side
not_at : (b : ℕ) → nat_eq b 64 ≡ false → nat_eq 64 b ≡ false
not_at b h =
    elim (nat_eq 64 b) as (λ (t : Bool). nat_eq 64 b ≡ t → t ≡ false) [
      | true ↦ λ e. let same : 64 ≡ b = eqb-true 64 b e in let wrong : true ≡ false = rw (← same) at h in absurd (cc)
      | false ↦ λ e. refl
    ] refl

at_first : (token : List ℕ) → list_any (λ b. b == 64) token ≡ false → starts_with nat_eq token (codes "@") ≡ false
at_first [] h = refl
at_first (b ∷ bs) h = rw (not_at b (neither (nat_eq b 64) (list_any (λ b. b == 64) bs) h).0) refl

-- a token of users without `@` has no fault
pub no_at_passes : (token : List ℕ) → list_any (λ b. b == 64) token ≡ false → Ok tt ≡ verdict (user_token token)
no_at_passes token h =
    elim (group_name token) as (λ (o : Option (List ℕ)). o ≡ group_name token → Ok tt ≡ verdict (user_token token)) [
      | Some name ↦ λ e. group_passes token (at_first token h) name e
      | None ↦ λ e. plain_passes token (at_first token h) e h
    ] refl

-- a token of origins without `@` and slashes has no fault
abbrev is_mark : ℕ → Bool
is_mark b = b == 64 || b == 47

only_at : (token : List ℕ) → list_any is_mark token ≡ false → list_any (λ b. b == 64) token ≡ false
only_at [] h = refl
only_at (b ∷ bs) h =
    let both = neither (is_mark b) (list_any is_mark bs) h in
    ap (λ (t : Bool). t || list_any (λ c. c == 64) bs) (neither (b == 64) (b == 47) both.0).0 ∙ only_at bs both.1

no_slash : (token : List ℕ) → list_any is_mark token ≡ false → position_or_len (is_among (codes "/")) token ≡ length token
no_slash [] h = refl
no_slash (b ∷ bs) h =
    let both = neither (is_mark b) (list_any is_mark bs) h in
    let kept : is_among (codes "/") b ≡ false = same_byte 47 b ∙ (neither (b == 64) (b == 47) both.0).1 in
    rw (kept, no_slash bs both.1, one-add) refl

no_network : (token : List ℕ) → list_any is_mark token ≡ false → network_of token ≡ Ok None
unfolding network_of
no_network token h =
    rw (no_slash token h, le-ltb (length token) (length token) (omega arith)) refl

pub no_mark_passes : (token : List ℕ) → list_any is_mark token ≡ false → Ok tt ≡ verdict (origin_token token)
unfolding origin_token
no_mark_passes token h = rw (at_first token (only_at token h), no_network token h) refl
