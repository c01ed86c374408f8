-- The words of a line, part by part.
use Rattle.std.proofs.Common.{◌≡◌, ◌∙◌, ◌+◌, ◌<◌, ℕ, true, false, List, [], ◌∷◌, ◌++◌, Bor, append-nil, append_assoc, ap, arith}
use Rattle.std.proofs.Common.{codes, cond, drop, eqb, get_or, length, map, refl, sym}
use Rattle.std.proofs.lemmas.Bool.{eqb-true}
use Rattle.std.proofs.lemmas.List.{drop_all, drop_more, length-append, map-append}
use Rattle.std.specs.List.{slice_split, starts_with}
use Rattle.std.specs.Prelude.{nat_eq}
use Rattle.pam_text.specs.Blanks.{is_text_blank}
use Rattle.pam_findings.specs.accepted.Words.{before_comment, filled, words_of}

-- the words of parts
abbrev pub said : List (List ℕ) → List (List ℕ)
said parts = before_comment (filled parts)

abbrev pub texts : List (Bor (List ℕ)) → List (List ℕ)
texts parts = map (λ part. part.now) parts

comment_first : (part : List ℕ) (parts : List (List ℕ)) → starts_with nat_eq part (codes "#") ≡ true → said (part ∷ parts) ≡ []
comment_first [] parts is = absurd (cc)
comment_first (b ∷ bs) parts is = ap (λ t. cond t [] ((b ∷ bs) ∷ said parts)) is

empty_first : (part : List ℕ) (parts : List (List ℕ)) → eqb (length part) 0 ≡ true → said (part ∷ parts) ≡ said parts
empty_first [] parts is = refl
empty_first (b ∷ bs) parts is = let none = eqb-true (length (b ∷ bs)) 0 is in absurd (omega (arith, none))

word_first : (part : List ℕ) (parts : List (List ℕ)) → starts_with nat_eq part (codes "#") ≡ false → eqb (length part) 0 ≡ false
    → said (part ∷ parts) ≡ part ∷ said parts
word_first [] parts plain is = absurd (cc)
word_first (b ∷ bs) parts plain is = ap (λ t. cond t [] ((b ∷ bs) ∷ said parts)) plain

pub at_start : (line : List ℕ) (words : List (Bor (List ℕ))) → words ≡ [] → texts words ++ said (slice_split is_text_blank line) ≡ words_of line
unfolding words_of
at_start line words none = ap (λ (ws : List (Bor (List ℕ))). texts ws ++ said (slice_split is_text_blank line)) none

-- the parts, and the words so far
module _ (parts : List (List ℕ)) (seen words : List (Bor (List ℕ))) (part : Bor (List ℕ)) (all : List (List ℕ))
    (within : length seen < length parts) (is : part.now ≡ get_or parts (length seen) part.now)
    (same : texts words ++ said (drop (length seen) parts) ≡ all) where
  abbrev left : List (List ℕ)
  left = drop (length (seen ++ part ∷ [])) parts

  next : drop (length seen) parts ≡ part.now ∷ drop (length (seen ++ part ∷ [])) parts
  next = drop_more parts (length seen) part.now within
      ∙ ap (λ (p : List ℕ). p ∷ drop (length seen + 1) parts) (sym is)
      ∙ ap (λ (n : ℕ). part.now ∷ drop n parts) (sym (length-append seen (part ∷ [])))

  pub at_comment : starts_with nat_eq part.now (codes "#") ≡ true → texts words ≡ all
  at_comment comment =
      sym (append-nil (texts words))
      ∙ ap (λ (ws : List (List ℕ)). texts words ++ ws) (sym (ap said next ∙ comment_first part.now left comment))
      ∙ same

  pub at_empty : eqb (length part.now) 0 ≡ true → texts words ++ said (drop (length (seen ++ part ∷ [])) parts) ≡ all
  at_empty empty = ap (λ (ws : List (List ℕ)). texts words ++ ws) (sym (ap said next ∙ empty_first part.now left empty)) ∙ same

  pub at_word : (new : List (Bor (List ℕ))) → starts_with nat_eq part.now (codes "#") ≡ false → eqb (length part.now) 0 ≡ false → new ≡ words ++ part ∷ []
      → texts new ++ said (drop (length (seen ++ part ∷ [])) parts) ≡ all
  at_word new plain some put =
      let rest = said (drop (length (seen ++ part ∷ [])) parts) in
      ap (λ (ws : List (Bor (List ℕ))). texts ws ++ rest) put
      ∙ ap (λ (ws : List (List ℕ)). ws ++ rest) (map-append (λ (p : Bor (List ℕ)). p.now) words (part ∷ []))
      ∙ append_assoc (texts words) (part.now ∷ []) rest
      ∙ ap (λ (ws : List (List ℕ)). texts words ++ ws) (sym (ap said next ∙ word_first part.now left plain some))
      ∙ same

pub at_end : (parts : List (List ℕ)) (seen words : List (Bor (List ℕ))) (all : List (List ℕ)) → length seen ≡ length parts
    → texts words ++ said (drop (length seen) parts) ≡ all → texts words ≡ all
at_end parts seen words all whole same =
    sym (append-nil (texts words))
    ∙ ap (λ (ws : List (List ℕ)). texts words ++ ws) (sym (ap said (nothing_left parts (length seen) whole)))
    ∙ same
  where
    nothing_left : (xs : List (List ℕ)) (n : ℕ) → n ≡ length xs → drop n xs ≡ []
    nothing_left xs n e = drop_all n xs (omega (arith, e))
