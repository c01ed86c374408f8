-- The text of `explain`, part by part.
use Rattle.std.proofs.Common.{◌≡◌, ◌∙◌, ℕ, true, false, List, [], ◌∷◌, ◌++◌, ap, append-nil, append_assoc, codes, eqb, length, refl, sym}
use Rattle.std.proofs.lemmas.Bool.{false≢true}
use Rattle.std.specs.List.{concat, flat_map}
use Rattle.pam_explain.specs.Explanation.{Explanation}
use Rattle.pam_words.specs.Words.{version}
use Rattle.pam_render.specs.text.About.{version_text}
use Rattle.pam_render.specs.sentences.Sentences.{level_name}
use Rattle.pam_render.specs.text.Explain.{example_line, example_text, head_text, lines_of, rest_text, row_text}

head_parts : (number name level meaning : List ℕ)
    → concat (number ∷ codes " " ∷ name ∷ codes " (" ∷ level ∷ codes ")\n" ∷ meaning ∷ codes "\n" ∷ [])
    ≡ number ++ codes " " ++ name ++ codes " (" ++ level ++ codes ")\n" ++ meaning ++ codes "\n"
head_parts number name level meaning = simp (append_assoc, append-nil)

pub head-is : (e : Explanation) (number name level meaning : List ℕ) → number ≡ e.number → name ≡ e.name → level ≡ level_name e.level → meaning ≡ e.meaning
    → concat (number ∷ codes " " ∷ name ∷ codes " (" ∷ level ∷ codes ")\n" ∷ meaning ∷ codes "\n" ∷ []) ≡ head_text e
unfolding head_text
head-is e number name level meaning a b c d = head_parts number name level meaning ∙ rw (a, b, c, d) refl

rest_parts : (before linux_pam between mending : List ℕ)
    → concat (before ∷ linux_pam ∷ between ∷ mending ∷ codes "\n" ∷ []) ≡ before ++ linux_pam ++ between ++ mending ++ codes "\n"
rest_parts before linux_pam between mending = simp (append_assoc, append-nil)

pub rest-is : (e : Explanation) (linux_pam mending : List ℕ) → linux_pam ≡ e.linux_pam → mending ≡ e.mending
    → concat (codes "\nLinux-PAM: " ∷ linux_pam ∷ codes "\nTo mend it: " ∷ mending ∷ codes "\n" ∷ []) ≡ rest_text e
unfolding rest_text
rest-is e linux_pam mending a b = rest_parts (codes "\nLinux-PAM: ") linux_pam (codes "\nTo mend it: ") mending ∙ rw (a, b) refl

row_parts : (number name level : List ℕ)
    → concat (number ∷ codes " " ∷ name ∷ codes " " ∷ level ∷ codes "\n" ∷ []) ≡ number ++ codes " " ++ name ++ codes " " ++ level ++ codes "\n"
row_parts number name level = simp (append_assoc, append-nil)

pub row-is : (e : Explanation) (number name level : List ℕ) → number ≡ e.number → name ≡ e.name → level ≡ level_name e.level
    → concat (number ∷ codes " " ∷ name ∷ codes " " ∷ level ∷ codes "\n" ∷ []) ≡ row_text e
unfolding row_text
row-is e number name level a b c = row_parts number name level ∙ rw (a, b, c) refl

pub line-is : (line bytes : List ℕ) → bytes ≡ line → concat (codes "    " ∷ bytes ∷ codes "\n" ∷ []) ≡ example_line line
line-is line bytes a = rw (a) (simp (append_assoc, append-nil))

-- an example that is there
pub example-some : (text : List ℕ) → eqb (length text) 0 ≡ false → codes "\nExample:\n" ++ flat_map example_line (lines_of text) ≡ example_text text
unfolding example_text
example-some [] h = absurd (false≢true (sym h))
example-some (byte ∷ bytes) h = refl

-- the version
version_parts : (before after : List ℕ) → concat (before ∷ after ∷ codes "\n" ∷ []) ≡ before ++ after ++ codes "\n"
version_parts before after = simp (append_assoc, append-nil)

pub version-is : (text : List ℕ) → text ≡ version → concat (codes "pamcheck " ∷ text ∷ codes "\n" ∷ []) ≡ version_text
version-is text e = version_parts (codes "pamcheck ") text ∙ ap (λ (t : List ℕ). codes "pamcheck " ++ t ++ codes "\n") e
