-- The text of a file, byte by byte: what each byte of the file adds to it.
use Rattle.std.proofs.Common.{◌≡◌, ◌+◌, ℕ, Bool, true, false, not, List, [], ◌∷◌, length, get_or, drop, cond, eqb, ap, ◌∙◌, sym, refl, arith, one-add}
use Rattle.std.specs.List.{prefix_len}
use Rattle.std.proofs.lemmas.Bool.{eqb-true}
use Rattle.pam_text.specs.Text.{FileByte, file_bytes, uncommented, joined, text_of}
use Rattle.pam_text.specs.inner.Text.{past_comment}

pub unequal : (a b : ℕ) → (a ≡ b → ⊥) → eqb a b ≡ false
unequal a b h = elim (eqb a b) as (λ (t : Bool). eqb a b ≡ t → t ≡ false) [ true ↦ λ e. absurd (h (eqb-true a b e)) | false ↦ λ e. refl ] refl

-- inside a comment all goes up to the line feed
rest_of_comment : (l : ℕ) (bs : List ℕ) → uncommented true (file_bytes l bs) ≡ uncommented false (file_bytes l (drop (prefix_len (λ c. not (eqb c 10)) bs) bs))
unfolding file_bytes uncommented
rest_of_comment l [] = refl
rest_of_comment l (b ∷ bs) =
    elim (eqb b 10) as (λ (t : Bool).
    eqb b 10 ≡ t
    → uncommented true (file_bytes l (b ∷ bs)) ≡ uncommented false (file_bytes l (drop (prefix_len (λ c. not (eqb c 10)) (b ∷ bs)) (b ∷ bs)))) [
      | true ↦ λ e.
          let stop : prefix_len (λ c. not (eqb c 10)) (b ∷ bs) ≡ 0 = ap (λ (t : Bool). cond (not t) (1 + prefix_len (λ c. not (eqb c 10)) bs) 0) e in
          let is : b ≡ 10 = eqb-true b 10 e in rw stop (rw is refl)
      | false ↦ λ e.
          let more : prefix_len (λ c. not (eqb c 10)) (b ∷ bs) ≡ 1 + prefix_len (λ c. not (eqb c 10)) bs =
          ap (λ (t : Bool). cond (not t) (1 + prefix_len (λ c. not (eqb c 10)) bs) 0) e in
          rw more (rw one-add (rw e (rest_of_comment l bs)))
    ] refl

-- a comment in front says nothing
skip : (l : ℕ) (bs : List ℕ) → uncommented false (file_bytes l bs) ≡ uncommented false (file_bytes l (past_comment bs))
unfolding file_bytes uncommented past_comment
skip l [] = refl
skip l (b ∷ bs) =
    elim (eqb b 35) as (λ (t : Bool). eqb b 35 ≡ t → uncommented false (file_bytes l (b ∷ bs)) ≡ uncommented false (file_bytes l (past_comment (b ∷ bs)))) [
      | true ↦ λ e.
          let is : b ≡ 35 = eqb-true b 35 e in
          rw is (rest_of_comment l bs ∙ rw one-add refl)
      | false ↦ λ e. rw e (rw e refl)
    ] refl

pub skipped : (l : ℕ) (bs : List ℕ) → text_of l bs ≡ text_of l (past_comment bs)
skipped l bs = ap joined (skip l bs)

comment_end : (bs : List ℕ) (b : ℕ) (r : List ℕ) → drop (prefix_len (λ c. not (eqb c 10)) bs) bs ≡ b ∷ r → eqb b 35 ≡ false
comment_end [] b r h = absurd (cc)
comment_end (a ∷ bs) b r h =
    elim (eqb a 10) as (λ (t : Bool).
    eqb a 10 ≡ t → drop (cond (not t) (1 + prefix_len (λ c. not (eqb c 10)) bs) 0) (a ∷ bs) ≡ b ∷ r → eqb b 35 ≡ false) [
      | true ↦ λ e g. let same : a ≡ b = cc in let is : a ≡ 10 = eqb-true a 10 e in rw (← same, is) refl
      | false ↦ λ e g. comment_end bs b r (rw one-add at g)
    ] refl h

-- what is after a comment does not begin as one
pub no_comment : (bs : List ℕ) (b : ℕ) (r : List ℕ) → past_comment bs ≡ b ∷ r → eqb b 35 ≡ false
unfolding past_comment
no_comment [] b r h = absurd (cc)
no_comment (a ∷ bs) b r h =
    elim (eqb a 35) as (λ (t : Bool).
    eqb a 35 ≡ t → cond t (drop (prefix_len (λ c. not (eqb c 10)) (a ∷ bs)) (a ∷ bs)) (a ∷ bs) ≡ b ∷ r → eqb b 35 ≡ false) [
      | true ↦ λ e g. comment_end (a ∷ bs) b r g
      | false ↦ λ e g. let same : a ≡ b = cc in rw (← same) e
    ] refl h

pub past_comment-yes : (bs : List ℕ) → get_or bs 0 0 ≡ 35 → past_comment bs ≡ drop (prefix_len (λ c. not (eqb c 10)) bs) bs
unfolding past_comment
past_comment-yes [] h = refl
past_comment-yes (b ∷ bs) h = rw h refl

pub past_comment-empty : (bs : List ℕ) → length bs ≡ 0 → past_comment bs ≡ bs
unfolding past_comment
past_comment-empty [] h = refl
past_comment-empty (b ∷ bs) h = absurd (omega arith)

pub past_comment-no : (bs : List ℕ) → (get_or bs 0 0 ≡ 35 → ⊥) → past_comment bs ≡ bs
unfolding past_comment
past_comment-no [] h = refl
past_comment-no (b ∷ bs) h = rw (unequal b 35 h) refl

-- a byte that is no backslash joins nothing
joined-plain : (m : FileByte) (ms : List FileByte) → eqb m.1 92 ≡ false → joined (m ∷ ms) ≡ m ∷ joined ms
unfolding joined
joined-plain m [] h = refl
joined-plain m (n ∷ ms) h = rw h refl

pub step_none : (bs : List ℕ) (l : ℕ) → past_comment bs ≡ [] → text_of l bs ≡ []
unfolding file_bytes uncommented joined
step_none bs l h = ap joined (skip l bs ∙ ap (λ (s : List ℕ). uncommented false (file_bytes l s)) h)

pub step_feed : (bs r : List ℕ) (l : ℕ) → past_comment bs ≡ 10 ∷ r → text_of l bs ≡ (l, 10) ∷ text_of (l + 1) r
unfolding file_bytes uncommented
step_feed bs r l h =
    ap joined (skip l bs ∙ ap (λ (s : List ℕ). uncommented false (file_bytes l s)) h) ∙ joined-plain (l, 10) (uncommented false (file_bytes (l + 1) r)) refl

plain_byte : (b : ℕ) (r : List ℕ) (l : ℕ) → eqb b 10 ≡ false → eqb b 35 ≡ false
    → uncommented false (file_bytes l (b ∷ r)) ≡ (l, b) ∷ uncommented false (file_bytes l r)
unfolding file_bytes uncommented
plain_byte b r l h k = rw (k, h) refl

pub step_plain : (bs : List ℕ) (b : ℕ) (r : List ℕ) (l : ℕ) → past_comment bs ≡ b ∷ r → (b ≡ 10 → ⊥) → (b ≡ 92 → ⊥) → text_of l bs ≡ (l, b) ∷ text_of l r
step_plain bs b r l h n m =
    ap joined (skip l bs ∙ ap (λ (s : List ℕ). uncommented false (file_bytes l s)) h ∙ plain_byte b r l (unequal b 10 n) (no_comment bs b r h))
    ∙ joined-plain (l, b) _ (unequal b 92 m)

backslash : (bs r : List ℕ) (l : ℕ) → past_comment bs ≡ 92 ∷ r → text_of l bs ≡ joined ((l, 92) ∷ uncommented false (file_bytes l (past_comment r)))
backslash bs r l h =
    ap joined (skip l bs
    ∙ ap (λ (s : List ℕ). uncommented false (file_bytes l s)) h
    ∙ plain_byte 92 r l refl refl
    ∙ ap (λ (ms : List FileByte). (l, 92) ∷ ms) (skip l r))

pub step_joined : (bs r more : List ℕ) (l : ℕ) → past_comment bs ≡ 92 ∷ r → past_comment r ≡ 10 ∷ more → text_of l bs ≡ (l, 32) ∷ text_of (l + 1) more
unfolding file_bytes uncommented joined
step_joined bs r more l h k = backslash bs r l h ∙ ap (λ (s : List ℕ). joined ((l, 92) ∷ uncommented false (file_bytes l s))) k

joined-kept : (l b : ℕ) (ms : List FileByte) → eqb b 10 ≡ false → joined ((l, 92) ∷ (l, b) ∷ ms) ≡ (l, 92) ∷ joined ((l, b) ∷ ms)
unfolding joined
joined-kept l b ms h = ap (λ (t : Bool). cond t ((l, 32) ∷ joined ms) ((l, 92) ∷ joined ((l, b) ∷ ms))) h

kept : (r s : List ℕ) (l : ℕ) → past_comment r ≡ s → ((more : List ℕ) → s ≡ 10 ∷ more → ⊥)
    → joined ((l, 92) ∷ uncommented false (file_bytes l s)) ≡ (l, 92) ∷ joined (uncommented false (file_bytes l s))
unfolding file_bytes uncommented joined
kept r [] l e h = refl
kept r (b ∷ s) l e h =
    let f : eqb b 10 ≡ false = unequal b 10 (λ q. h s (ap (λ (x : ℕ). x ∷ s) q)) in
    let plain : uncommented false (file_bytes l (b ∷ s)) ≡ (l, b) ∷ uncommented false (file_bytes l s) = plain_byte b s l f (no_comment r b s e) in
    ap (λ (ms : List FileByte). joined ((l, 92) ∷ ms)) plain ∙ joined-kept l b _ f ∙ ap (λ (ms : List FileByte). (l, 92) ∷ joined ms) (sym plain)

pub step_backslash : (bs r : List ℕ) (l : ℕ) → past_comment bs ≡ 92 ∷ r → ((more : List ℕ) → past_comment r ≡ 10 ∷ more → ⊥)
    → text_of l bs ≡ (l, 92) ∷ text_of l r
step_backslash bs r l h n = backslash bs r l h ∙ kept r _ l refl n ∙ ap (λ (ms : List FileByte). (l, 92) ∷ joined ms) (sym (skip l r))

-- a list that begins with another number, or with none
pub not_first : (bs : List ℕ) (b : ℕ) (r : List ℕ) → bs ≡ b ∷ r → (b ≡ 10 → ⊥) → (more : List ℕ) → bs ≡ 10 ∷ more → ⊥
not_first bs b r e n more f = n (cc)

pub none_first : (bs : List ℕ) → length bs ≡ 0 → (more : List ℕ) → bs ≡ 10 ∷ more → ⊥
none_first bs n more f = omega (arith, ap length f)

pub empty_list : (bs : List ℕ) → length bs ≡ 0 → bs ≡ []
empty_list [] h = refl
empty_list (b ∷ bs) h = absurd (omega arith)
