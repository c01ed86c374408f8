-- The words of a rule, with one space between them.
use Rattle.std.proofs.Common.{◌≡◌, ◌∙◌, ◌<◌, ◌++◌, ℕ, List, [], ◌∷◌, ap, append_assoc, arith, length, refl, sym}
use Rattle.std.specs.List.{join_with_byte}

-- a text, and the words after it
abbrev pub after_text : List ℕ → List (List ℕ) → List ℕ
after_text text [] = text
after_text text (word ∷ words) = text ++ (32 ∷ join_with_byte 32 (word ∷ words))

after_first : (first : List ℕ) (words : List (List ℕ)) → after_text first words ≡ join_with_byte 32 (first ∷ words)
after_first first [] = refl
after_first first (word ∷ words) = refl

pub texts_begin : (text first : List ℕ) (words all : List (List ℕ)) → text ≡ first → all ≡ first ∷ words → after_text text words ≡ join_with_byte 32 all
texts_begin text first words all same e =
    ap (λ (t : List ℕ). after_text t words) same ∙ after_first first words ∙ ap (join_with_byte 32) (sym e)

one_word : (text word : List ℕ) (words : List (List ℕ)) → after_text ((text ++ 32 ∷ []) ++ word) words ≡ after_text text (word ∷ words)
one_word text word [] = append_assoc text (32 ∷ []) word
one_word text word (next ∷ words) =
    append_assoc (text ++ 32 ∷ []) word (32 ∷ join_with_byte 32 (next ∷ words))
    ∙ append_assoc text (32 ∷ []) (word ++ (32 ∷ join_with_byte 32 (next ∷ words)))

pub word_added : (text with_space new word : List ℕ) (all words : List (List ℕ)) → all ≡ word ∷ words → with_space ≡ text ++ 32 ∷ [] → new ≡ with_space ++ word
    → after_text new words ≡ after_text text all
word_added text with_space new word all words e space put =
    ap (λ (t : List ℕ). after_text t words) (put ∙ ap (λ (t : List ℕ). t ++ word) space) ∙ one_word text word words ∙ ap (after_text text) (sym e)

pub texts_end : (text : List ℕ) (all : List (List ℕ)) (whole : List ℕ) → all ≡ [] → after_text text all ≡ whole → text ≡ whole
texts_end text all whole none same = sym (ap (after_text text) none) ∙ same

pub no_text : (text : List ℕ) (all : List (List ℕ)) → text ≡ [] → all ≡ [] → text ≡ join_with_byte 32 all
no_text text all empty none = empty ∙ ap (join_with_byte 32) (sym none)

pub fewer : (all words : List (List ℕ)) (word : List ℕ) → all ≡ word ∷ words → length words < length all
fewer all words word e = let lengths : length all ≡ length (word ∷ words) = ap length e in omega arith
