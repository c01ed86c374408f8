-- Where the bytes of a text stand in its file, byte by byte.
use Rattle.std.proofs.Common.{◌≡◌, ◌≤◌, ◌+◌, ◌-◌, ◌&&◌, ◌∙◌, ℕ, Bool, true, false, not, List, [], ◌∷◌, length, drop, map, cond, eqb, ap, sym, refl}
use Rattle.std.proofs.Common.{arith, one-add, subst, length-drop}
use Rattle.std.proofs.lemmas.List.Sums.{prefix_len-le-length}
use Rattle.std.specs.List.{enumerate_from, prefix_len}
use Rattle.std.proofs.lemmas.Bool.{eqb-true}
use Rattle.pam_text.specs.Text.{FileByte, joined, uncommented}
use Rattle.pam_text.specs.inner.Text.{past_comment}
use Rattle.pam_text.proofs.TextSteps.{no_comment, unequal}
use Rattle.pam_findings.specs.misspelled.Spots.{offsets_from}

abbrev placed : ℕ → List ℕ → List FileByte
placed first bytes = uncommented false (enumerate_from first bytes)

abbrev before_feed : List ℕ → ℕ
before_feed bytes = prefix_len (λ c. not (eqb c 10)) bytes

-- inside a comment all goes up to the line feed
rest_of_comment : (first : ℕ) (bs : List ℕ) → uncommented true (enumerate_from first bs) ≡ placed (first + before_feed bs) (drop (before_feed bs) bs)
unfolding uncommented
rest_of_comment first [] = refl
rest_of_comment first (b ∷ bs) =
    elim (eqb b 10) as (λ (t : Bool).
    eqb b 10 ≡ t
    → uncommented true (enumerate_from first (b ∷ bs)) ≡ placed (first + before_feed (b ∷ bs)) (drop (before_feed (b ∷ bs)) (b ∷ bs))) [
      | true ↦ λ e.
          let stop : before_feed (b ∷ bs) ≡ 0 = ap (λ (t : Bool). cond (not t) (1 + before_feed bs) 0) e in
          let is : b ≡ 10 = eqb-true b 10 e in
          let here : first + 0 ≡ first = omega arith in
          rw stop (rw (here, is) refl)
      | false ↦ λ e.
          let more : before_feed (b ∷ bs) ≡ 1 + before_feed bs = ap (λ (t : Bool). cond (not t) (1 + before_feed bs) 0) e in
          let next : first + (1 + before_feed bs) ≡ first + 1 + before_feed bs = omega arith in
          rw more (rw next (rw one-add (rw e (rest_of_comment (first + 1) bs))))
    ] refl

-- a comment in front says nothing
skip_here : (first offset : ℕ) (bs : List ℕ) → offset + length (drop (before_feed (35 ∷ bs)) (35 ∷ bs)) ≡ first + length (35 ∷ bs)
    → uncommented true (enumerate_from (first + 1) bs) ≡ placed offset (drop (before_feed (35 ∷ bs)) (35 ∷ bs))
skip_here first offset bs g =
    let cut : drop (before_feed (35 ∷ bs)) (35 ∷ bs) ≡ drop (before_feed bs) bs = rw one-add refl in
    let size : length (drop (before_feed bs) bs) ≡ length bs - before_feed bs = length-drop (before_feed bs) bs in
    let fits : before_feed bs ≤ length bs = prefix_len-le-length (λ c. not (eqb c 10)) bs in
    let moved : offset + length (drop (before_feed bs) bs) ≡ first + length (35 ∷ bs) = ap (λ (s : List ℕ). offset + length s) (sym cut) ∙ g in
    let there : offset ≡ first + 1 + before_feed bs = omega (arith, moved, size, fits) in
    rw (cut, there) (rest_of_comment (first + 1) bs)

skip : (first offset : ℕ) (bs : List ℕ) → offset + length (past_comment bs) ≡ first + length bs → placed first bs ≡ placed offset (past_comment bs)
unfolding uncommented past_comment
skip first offset [] h = refl
skip first offset (b ∷ bs) h =
    elim (eqb b 35) as (λ (t : Bool).
    eqb b 35 ≡ t → offset + length (cond t (drop (before_feed (b ∷ bs)) (b ∷ bs)) (b ∷ bs)) ≡ first + length (b ∷ bs)
    → cond t (uncommented true (enumerate_from (first + 1) bs)) ((first, b) ∷ placed (first + 1) bs)
    ≡ placed offset (cond t (drop (before_feed (b ∷ bs)) (b ∷ bs)) (b ∷ bs))) [
      | true ↦ λ e g.
          let is : b ≡ 35 = eqb-true b 35 e in
          rw is (skip_here first offset bs (subst
          (λ (c : ℕ). offset + length (drop (before_feed (c ∷ bs)) (c ∷ bs)) ≡ first + length (c ∷ bs)) is g))
      | false ↦ λ e g.
          let same : offset ≡ first = omega (arith, g) in
          rw (same, e) refl
    ] refl h

abbrev of_text : List FileByte → List ℕ
of_text ms = map (λ m. m.0) (joined ms)

pub none : (first : ℕ) (bs : List ℕ) → past_comment bs ≡ [] → offsets_from first bs ≡ []
unfolding uncommented joined
none first bs h =
    let size : length (past_comment bs) ≡ 0 = ap length h in
    ap of_text (skip first (first + length bs) bs (omega (arith, size)) ∙ ap (placed (first + length bs)) h)

plain_byte : (offset b : ℕ) (r : List ℕ) → eqb b 35 ≡ false → placed offset (b ∷ r) ≡ (offset, b) ∷ placed (offset + 1) r
unfolding uncommented
plain_byte offset b r h = rw h refl

joined-plain : (m : FileByte) (ms : List FileByte) → eqb m.1 92 ≡ false → joined (m ∷ ms) ≡ m ∷ joined ms
unfolding joined
joined-plain m [] h = refl
joined-plain m (n ∷ ms) h = rw h refl

joined-kept : (m n : FileByte) (ms : List FileByte) → eqb n.1 10 ≡ false → joined (m ∷ n ∷ ms) ≡ m ∷ joined (n ∷ ms)
unfolding joined
joined-kept m n ms h = elim (eqb m.1 92) as (λ (t : Bool). cond (t && eqb n.1 10) ((m.0, 32) ∷ joined ms) (m ∷ joined (n ∷ ms)) ≡ m ∷ joined (n ∷ ms)) [
  | true ↦ rw h refl
  | false ↦ refl
]

joined-feed : (offset from : ℕ) (ms : List FileByte) → of_text ((offset, 92) ∷ (from, 10) ∷ ms) ≡ offset ∷ of_text ms
unfolding joined
joined-feed offset from ms = refl

-- what is after a comment, and begins with no line feed, is not joined
joined-other : (m : FileByte) (r s : List ℕ) (from : ℕ) → past_comment r ≡ s → ((more : List ℕ) → s ≡ 10 ∷ more → ⊥)
    → joined (m ∷ placed from s) ≡ m ∷ joined (placed from s)
unfolding uncommented joined
joined-other m r [] from e h = refl
joined-other m r (b ∷ s) from e h =
    let f : eqb b 10 ≡ false = unequal b 10 (λ q. h s (ap (λ (x : ℕ). x ∷ s) q)) in
    let plain : placed from (b ∷ s) ≡ (from, b) ∷ placed (from + 1) s = plain_byte from b s (no_comment r b s e) in
    ap (λ (ms : List FileByte). joined (m ∷ ms)) plain ∙ joined-kept m (from, b) _ f ∙ ap (λ (ms : List FileByte). m ∷ joined ms) (sym plain)

-- a byte after a comment, if there is one
module _ (bytes r : List ℕ) (first offset b : ℕ) (is : past_comment bytes ≡ b ∷ r)
    (moved : offset + length (past_comment bytes) ≡ first + length bytes) where
  here : placed first bytes ≡ (offset, b) ∷ placed (offset + 1) r
  here = skip first offset bytes moved ∙ ap (placed offset) is ∙ plain_byte offset b r (no_comment bytes b r is)

  pub plain : (b ≡ 92 → ⊥) → (next : ℕ) → offset + 1 ≡ next → offsets_from first bytes ≡ offset ∷ offsets_from next r
  plain n next e =
      rw (sym e) (ap of_text here ∙ ap (map (λ (m : FileByte). m.0)) (joined-plain (offset, b) (placed (offset + 1) r) (unequal b 92 n)))

  pub joining : b ≡ 92 → (more : List ℕ) (from next : ℕ) → past_comment r ≡ 10 ∷ more → from + length (past_comment r) ≡ offset + 1 + length r
      → next ≡ from + 1 → offsets_from first bytes ≡ offset ∷ offsets_from next more
  joining f more from next feed gone e =
      let after : placed (offset + 1) r ≡ (from, 10) ∷ placed (from + 1) more =
      skip (offset + 1) from r gone ∙ ap (placed from) feed ∙ plain_byte from 10 more refl in
      rw e (ap of_text (here ∙ ap (λ (c : ℕ). (offset, c) ∷ placed (offset + 1) r) f ∙ ap (λ (ms : List FileByte). (offset, 92) ∷ ms) after)
      ∙ joined-feed offset from (placed (from + 1) more))

  pub kept : (from : ℕ) → from + length (past_comment r) ≡ offset + 1 + length r → ((more : List ℕ) → past_comment r ≡ 10 ∷ more → ⊥)
      → (next : ℕ) → offset + 1 ≡ next → offsets_from first bytes ≡ offset ∷ offsets_from next r
  kept from gone none next e =
      let after : placed (offset + 1) r ≡ placed from (past_comment r) = skip (offset + 1) from r gone in
      rw (sym e) (ap of_text (here ∙ ap (λ (ms : List FileByte). (offset, b) ∷ ms) after)
      ∙ ap (map (λ (m : FileByte). m.0)) (joined-other (offset, b) r (past_comment r) from refl none)
      ∙ ap (λ (ms : List FileByte). offset ∷ of_text ms) (sym after))
