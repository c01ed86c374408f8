-- A word of a text, and the bytes of the file at its place.
use Rattle.std.proofs.Common.{◌≡◌, ◌≤◌, ◌<◌, ◌+◌, ◌-◌, ◌∙◌, ◌++◌, ◌⊎◌, ◌&&◌, ◌||◌, inl, inr, ℕ, zero, suc, Bool, true, false, not, List, [], ◌∷◌, Option, None, Some, length, drop, take, map, nat_eq, slice_get, cond, eqb, ap, sym, refl, arith, one-add, length-drop, subst}
use Rattle.std.proofs.lemmas.Bool.{and_parts, cases_eq, eq-eqb, eqb-true}
use Rattle.std.proofs.lemmas.List.{drop-drop}
use Rattle.std.proofs.lemmas.List.Sums.{prefix_len-le-length}
use Rattle.std.specs.List.{common_prefix_len, list_all, list_any}
use Rattle.pam_text.proofs.TextSteps.{no_comment, skipped, step_backslash, step_feed, step_joined, step_none, step_plain, unequal}
use Rattle.pam_text.specs.Text.{FileByte, first_line, text_of}
use Rattle.pam_text.specs.inner.Text.{past_comment}
use Rattle.pam_findings.specs.misspelled.Spots.{is_feed, line_len, offsets_from}
use Rattle.pam_findings.specs.misspelled.Written.{continues, ends_line}
use Rattle.pam_findings.proofs.MisspelledProofs.LinesFrom.{slash_stays, whole_first}
use Rattle.pam_findings.proofs.MisspelledProofs.Offsets.{joining, kept, none, plain}

-- THE FIRST BYTES OF A FILE

abbrev pub bytes_in : List FileByte → List ℕ
bytes_in text = map (λ m. m.1) text

-- a word, and bytes of a file that are its own, all or up to the blank in it that stands for the end of a line
abbrev pub common : List ℕ → List ℕ → ℕ
common word bs = common_prefix_len nat_eq word bs

abbrev pub Stands : List ℕ → List ℕ → Type 0
Stands word bs = (common word bs ≡ length word) ⊎ ((slice_get word (common word bs) ≡ Some 32) × (continues (drop (common word bs) bs) ≡ true))

abbrev pub has_no_feed : List ℕ → Bool
has_no_feed word = list_all (λ b. not (is_feed b)) word

-- the bytes that a text begins with
abbrev pub Begins : List ℕ → List FileByte → Type 0
Begins word text = (more : List ℕ) × (word ++ more ≡ bytes_in text)

feed_in : (bs more : List ℕ) → drop (line_len bs) bs ≡ 10 ∷ more → list_any is_feed bs ≡ true
feed_in [] more h = absurd (cc)
feed_in (b ∷ bs) more h =
    elim (eqb b 10) as (λ (t : Bool). drop (cond (not t) (1 + line_len bs) 0) (b ∷ bs) ≡ 10 ∷ more → (t || list_any is_feed bs) ≡ true) [
      | true ↦ λ g. refl
      | false ↦ λ g. feed_in bs more (rw one-add at g)
    ] h

line_ends : (r more : List ℕ) → past_comment r ≡ 10 ∷ more → ends_line r ≡ true
unfolding past_comment
line_ends [] more h = absurd (cc)
line_ends (b ∷ bs) more h =
    elim (cases_eq b 35) [
      | inl e ↦
          let hash : past_comment (35 ∷ bs) ≡ 10 ∷ more = ap (λ (x : ℕ). past_comment (x ∷ bs)) (sym e) ∙ h in
          rw e (feed_in bs more (rw one-add at hash))
      | inr n ↦
          let same : b ∷ bs ≡ 10 ∷ more = ap (λ (t : Bool). cond t (drop (line_len (b ∷ bs)) (b ∷ bs)) (b ∷ bs)) (sym (unequal b 35 n)) ∙ h in
          let is : b ≡ 10 = cc in rw is refl
    ]

stands_more : (b : ℕ) (word r : List ℕ) → Stands word r → Stands (b ∷ word) (b ∷ r)
stands_more b word r s =
    let sum : 1 + common word r ≡ suc (common word r) = omega arith in
    let more : common (b ∷ word) (b ∷ r) ≡ suc (common word r) = ap (λ (t : Bool). cond t (1 + common word r) 0) (eq-eqb b b refl) ∙ sum in
    elim s [
      | inl e ↦ inl (omega (arith, more, e))
      | inr p ↦
          inr (ap (slice_get (b ∷ word)) more ∙ p.0, ap (λ (n : ℕ). continues (drop n (b ∷ r))) more ∙ p.1)
    ]

stands_joint : (word r : List ℕ) → ends_line r ≡ true → Stands (32 ∷ word) (92 ∷ r)
stands_joint word r e = inr (refl, e)

-- a word that a text begins with, if its other bytes stand in what is left
module _ (c : ℕ) (word : List ℕ) (shorter : (bs : List ℕ) (l : ℕ) → has_no_feed word ≡ true → Begins word (text_of l bs) → Stands word bs) (bs : List ℕ) (l : ℕ)
    (n : has_no_feed (c ∷ word) ≡ true) (begins : Begins (c ∷ word) (text_of l bs)) where
  first_is : (m : FileByte) (ms : List FileByte) → text_of l bs ≡ m ∷ ms → (c ≡ m.1) × Begins word ms
  first_is m ms e =
      let is : c ∷ (word ++ begins.0) ≡ m.1 ∷ bytes_in ms = begins.1 ∙ ap bytes_in e in
      let first : c ≡ m.1 = cc in
      let later : word ++ begins.0 ≡ bytes_in ms = cc in
      (first, (begins.0, later))

  no_text : text_of l bs ≡ [] → ⊥
  no_text e = let clash : c ∷ (word ++ begins.0) ≡ [] = begins.1 ∙ ap bytes_in e in absurd (cc)

  no_feed : (ms : List FileByte) → text_of l bs ≡ (l, 10) ∷ ms → ⊥
  no_feed ms e =
      let is : c ≡ 10 = (first_is (l, 10) ms e).0 in
      let clash : has_no_feed (10 ∷ word) ≡ true = ap (λ (x : ℕ). has_no_feed (x ∷ word)) (sym is) ∙ n in
      absurd (cc)

  others : has_no_feed word ≡ true
  others = (and_parts (not (is_feed c)) (has_no_feed word) n).1

  at_byte : (b : ℕ) (r : List ℕ) → bs ≡ b ∷ r → text_of l bs ≡ (l, b) ∷ text_of l r → Stands (c ∷ word) bs
  at_byte b r whole step =
      let first = first_is (l, b) (text_of l r) step in
      let same : c ∷ word ≡ b ∷ word = ap (λ (x : ℕ). x ∷ word) first.0 in
      subst (λ (w : List ℕ). Stands w bs) (sym same) (subst (Stands (b ∷ word)) (sym whole) (stands_more b word r (shorter r l others first.1)))

  at_joint : (r more : List ℕ) → bs ≡ 92 ∷ r → past_comment r ≡ 10 ∷ more → text_of l bs ≡ (l, 32) ∷ text_of (l + 1) more → Stands (c ∷ word) bs
  at_joint r more whole k step =
      let same : c ∷ word ≡ 32 ∷ word = ap (λ (x : ℕ). x ∷ word) (first_is (l, 32) (text_of (l + 1) more) step).0 in
      subst (λ (w : List ℕ). Stands w bs) (sym same) (subst (Stands (32 ∷ word)) (sym whole) (stands_joint word r (line_ends r more k)))

  at_backslash : (r s : List ℕ) → past_comment bs ≡ 92 ∷ r → bs ≡ 92 ∷ r → past_comment r ≡ s → Stands (c ∷ word) bs
  at_backslash r [] h whole k =
      at_byte 92 r whole (step_backslash bs r l h (λ more e. let clash : [] ≡ 10 ∷ more = sym k ∙ e in absurd (cc)))
  at_backslash r (x ∷ s) h whole k = elim (cases_eq x 10) [
    | inl e ↦ let feed : past_comment r ≡ 10 ∷ s = k ∙ ap (λ (y : ℕ). y ∷ s) e in at_joint r s whole feed (step_joined bs r s l h feed)
    | inr m ↦ at_byte 92 r whole (step_backslash bs r l h (λ more e. let clash : x ∷ s ≡ 10 ∷ more = sym k ∙ e in m (cc)))
  ]

  at_first : (s : List ℕ) → past_comment bs ≡ s → Stands (c ∷ word) bs
  at_first [] h = absurd (no_text (step_none bs l h))
  at_first (b ∷ r) h = elim (cases_eq b 10) [
    | inl e ↦ absurd (no_feed (text_of (l + 1) r) (step_feed bs r l (h ∙ ap (λ (x : ℕ). x ∷ r) e)))
    | inr m ↦ elim (cases_eq b 92) [
      | inl e ↦
          let slash : past_comment bs ≡ 92 ∷ r = h ∙ ap (λ (x : ℕ). x ∷ r) e in
          at_backslash r (past_comment r) slash (whole_first bs 92 r slash slash_stays) refl
      | inr k ↦ at_byte b r (whole_first bs b r h m) (step_plain bs b r l h m k)
    ]
  ]

-- a word that the text of a file begins with stands at the start of the file
pub stands : (word bs : List ℕ) (l : ℕ) → has_no_feed word ≡ true → Begins word (text_of l bs) → Stands word bs
stands [] bs l n begins = inl refl
stands (c ∷ word) bs l n begins = at_first c word (stands word) bs l n begins (past_comment bs) refl

-- FROM A PLACE OF THE TEXT ON

-- the last bytes of a file
record IsSuffix (rest bs : List ℕ) : Type 0 where
  from : ℕ
  fits : from ≤ length bs
  is : rest ≡ drop from bs

suffix_of_suffix : (more rest bs : List ℕ) → IsSuffix more rest → IsSuffix rest bs → IsSuffix more bs
suffix_of_suffix more rest bs later first =
    let size : length rest ≡ length bs - first.from = ap length first.is ∙ length-drop first.from bs in
    record {
      from = first.from + later.from;
      fits = omega (arith, later.fits, first.fits, size);
      is = later.is ∙ ap (drop later.from) first.is ∙ drop-drop later.from first.from bs;
    }

past_cut : (bs : List ℕ) → IsSuffix (past_comment bs) bs
unfolding past_comment
past_cut [] = record { from = 0; fits = omega arith; is = refl }
past_cut (b ∷ bs) =
    elim (eqb b 35) as (λ (t : Bool). IsSuffix (cond t (drop (line_len (b ∷ bs)) (b ∷ bs)) (b ∷ bs)) (b ∷ bs)) [
      | true ↦ record { from = line_len (b ∷ bs); fits = prefix_len-le-length (λ c. not (is_feed c)) (b ∷ bs); is = refl }
      | false ↦ record { from = 0; fits = omega arith; is = refl }
    ]

tail_cut : (bs : List ℕ) (b : ℕ) (r : List ℕ) → past_comment bs ≡ b ∷ r → IsSuffix r bs
tail_cut bs b r h =
    let one : IsSuffix r (past_comment bs) = record { from = 1; fits = omega (arith, ap length h); is = ap (drop 1) (sym h) } in
    suffix_of_suffix r (past_comment bs) bs one (past_cut bs)

-- how far a suffix is from the start
suffix_at : (rest bs : List ℕ) (first next : ℕ) → IsSuffix rest bs → next + length rest ≡ first + length bs → rest ≡ drop (next - first) bs
suffix_at rest bs first next s moved =
    let size : length rest ≡ length bs - s.from = ap length s.is ∙ length-drop s.from bs in
    let there : s.from ≡ next - first = omega (arith, size, moved, s.fits) in
    s.is ∙ ap (λ (n : ℕ). drop n bs) there

-- the first byte of a text, its offset in the file, and what is left of both
record Step (l first : ℕ) (bs : List ℕ) : Type 0 where
  here : ℕ
  next : ℕ
  line : ℕ
  byte : FileByte
  rest : List ℕ
  offsets : offsets_from first bs ≡ here ∷ offsets_from next rest
  text : text_of l bs ≡ byte ∷ text_of line rest
  from : first ≤ here
  onward : first ≤ next
  left : rest ≡ drop (next - first) bs
  less : length rest < length bs
  standing : (word : List ℕ) → has_no_feed word ≡ true → Begins word (text_of l bs) → Stands word (drop (here - first) bs)

feed_begins : (word : List ℕ) (m : FileByte) (ms : List FileByte) (bs : List ℕ) → m.1 ≡ 10 → has_no_feed word ≡ true → Begins word (m ∷ ms) → Stands word bs
feed_begins [] m ms bs e n begins = inl refl
feed_begins (c ∷ word) m ms bs e n begins =
    let is : c ∷ (word ++ begins.0) ≡ m.1 ∷ bytes_in ms = begins.1 in
    let same : c ≡ m.1 = cc in
    let feed : c ≡ 10 = same ∙ e in
    let clash : has_no_feed (10 ∷ word) ≡ true = ap (λ (x : ℕ). has_no_feed (x ∷ word)) (sym feed) ∙ n in
    absurd (cc)

-- a line feed comes first, or none does
first_of : (s : List ℕ) → ((more : List ℕ) × (s ≡ 10 ∷ more)) ⊎ ((more : List ℕ) → s ≡ 10 ∷ more → ⊥)
first_of [] = inr (λ more e. absurd (cc))
first_of (b ∷ s) = elim (cases_eq b 10) [
  | inl e ↦ inl (s, ap (λ (x : ℕ). x ∷ s) e)
  | inr n ↦ inr (λ more e. n (cc))
]

-- the offset of the first byte after a comment
abbrev offset_after : ℕ → List ℕ → ℕ
offset_after first bs = first + (length bs - length (past_comment bs))

moved : (first : ℕ) (bs : List ℕ) → offset_after first bs + length (past_comment bs) ≡ first + length bs
moved first bs =
    let cut = past_cut bs in
    let size : length (past_comment bs) ≡ length bs - cut.from = ap length cut.is ∙ length-drop cut.from bs in
    omega (arith, size)

module _ (l first : ℕ) (bs : List ℕ) (offset : ℕ) (same : offset ≡ offset_after first bs) where
  reached : offset + length (past_comment bs) ≡ first + length bs
  reached = omega (arith, moved first bs, same)

  module _ (b : ℕ) (r : List ℕ) (h : past_comment bs ≡ b ∷ r) where
    size : offset + (1 + length r) ≡ first + length bs
    size = omega (arith, reached, ap length h)

    not_before : first ≤ offset
    not_before = omega (arith, same)

    after : r ≡ drop (offset + 1 - first) bs
    after = suffix_at r bs first (offset + 1) (tail_cut bs b r h) (omega (arith, size))

    shorter : length r < length bs
    shorter = omega (arith, ap length h, (past_cut bs).fits, ap length (past_cut bs).is, length-drop (past_cut bs).from bs)

    -- a byte that is no line feed is the first one
    first_byte : (b ≡ 10 → ⊥) → drop (offset - first) bs ≡ bs
    first_byte n =
        let none : offset - first ≡ 0 = omega (arith, size, ap length (whole_first bs b r h n)) in
        ap (λ (k : ℕ). drop k bs) none

    step_of_feed : b ≡ 10 → Step l first bs
    step_of_feed e =
        let feed : past_comment bs ≡ 10 ∷ r = h ∙ ap (λ (x : ℕ). x ∷ r) e in
        let text : text_of l bs ≡ (l, 10) ∷ text_of (l + 1) r = step_feed bs r l feed in
        record {
          here = offset;
          next = offset + 1;
          line = l + 1;
          byte = (l, 10);
          rest = r;
          offsets = plain bs r first offset b h reached (λ f. omega (arith, e, f)) (offset + 1) refl;
          text = text;
          from = not_before;
          onward = omega (arith, not_before);
          left = after;
          less = shorter;
          standing =
              λ word n begins. feed_begins word (l, 10) (text_of (l + 1) r) (drop (offset - first) bs) refl n
              (begins.0, begins.1 ∙ ap bytes_in text);
        }

    step_of_other : (b ≡ 10 → ⊥) → text_of l bs ≡ (l, b) ∷ text_of l r → offsets_from first bs ≡ offset ∷ offsets_from (offset + 1) r → Step l first bs
    step_of_other n text offsets = record {
      here = offset;
      next = offset + 1;
      line = l;
      byte = (l, b);
      rest = r;
      offsets = offsets;
      text = text;
      from = not_before;
      onward = omega (arith, not_before);
      left = after;
      less = shorter;
      standing = λ word m begins. subst (Stands word) (sym (first_byte n)) (stands word bs l m begins);
    }

    step_of_plain : (b ≡ 10 → ⊥) → (b ≡ 92 → ⊥) → Step l first bs
    step_of_plain n m = step_of_other n (step_plain bs b r l h n m) (plain bs r first offset b h reached m (offset + 1) refl)

    step_of_joint : b ≡ 92 → (more : List ℕ) → past_comment r ≡ 10 ∷ more → Step l first bs
    step_of_joint e more feed =
        let n : b ≡ 10 → ⊥ = λ f. omega (arith, e, f) in
        let slash : past_comment bs ≡ 92 ∷ r = h ∙ ap (λ (x : ℕ). x ∷ r) e in
        let from = offset_after (offset + 1) r in
        let there : from + length (past_comment r) ≡ offset + 1 + length r = moved (offset + 1) r in
        let suffix : IsSuffix more bs = suffix_of_suffix more r bs (tail_cut r 10 more feed) (tail_cut bs b r h) in
        let long : from + (1 + length more) ≡ offset + 1 + length r = omega (arith, there, ap length feed) in
        record {
          here = offset;
          next = from + 1;
          line = l + 1;
          byte = (l, 32);
          rest = more;
          offsets = joining bs r first offset b h reached e more from (from + 1) feed there refl;
          text = step_joined bs r more l slash feed;
          from = not_before;
          onward = omega (arith, not_before);
          left = suffix_at more bs first (from + 1) suffix (omega (arith, long, size));
          less = omega (arith, long, shorter);
          standing = λ word m begins. subst (Stands word) (sym (first_byte n)) (stands word bs l m begins);
        }

    step_of_backslash : b ≡ 92 → (s : List ℕ) → past_comment r ≡ s → Step l first bs
    step_of_backslash e s k =
        let n : b ≡ 10 → ⊥ = λ f. omega (arith, e, f) in
        let slash : past_comment bs ≡ 92 ∷ r = h ∙ ap (λ (x : ℕ). x ∷ r) e in
        let there : offset_after (offset + 1) r + length (past_comment r) ≡ offset + 1 + length r = moved (offset + 1) r in
        let alone : ((more : List ℕ) → past_comment r ≡ 10 ∷ more → ⊥) → Step l first bs =
        λ no. step_of_other n (step_backslash bs r l slash no ∙ ap (λ (x : ℕ). (l, x) ∷ text_of l r) (sym e))
        (kept bs r first offset b h reached (offset_after (offset + 1) r) there no (offset + 1) refl) in
        elim (first_of s) [
          | inl f ↦ step_of_joint e f.0 (k ∙ f.1)
          | inr f ↦ alone (λ more g. f more (sym k ∙ g))
        ]

step : (l first : ℕ) (bs s : List ℕ) → past_comment bs ≡ s → (offsets_from first bs ≡ []) ⊎ Step l first bs
step l first bs [] h = inl (none first bs h)
step l first bs (b ∷ r) h = elim (cases_eq b 10) [
  | inl e ↦ inr (step_of_feed l first bs (offset_after first bs) refl b r h e)
  | inr n ↦ elim (cases_eq b 92) [
    | inl e ↦ inr (step_of_backslash l first bs (offset_after first bs) refl b r h e (past_comment r) refl)
    | inr m ↦ inr (step_of_plain l first bs (offset_after first bs) refl b r h n m)
  ]
]

-- a word that begins at a place of the text stands at the offset of this place
abbrev StandsAt : ℕ → ℕ → List ℕ → List ℕ → Type 0
StandsAt first offset word bs = (first ≤ offset) × Stands word (drop (offset - first) bs)

module _ (word : List ℕ) (n : has_no_feed word ≡ true) where
  at_step : (l first : ℕ) (bs : List ℕ) (offset : ℕ) (s : Step l first bs) → slice_get (offsets_from first bs) 0 ≡ Some offset
      → Begins word (text_of l bs) → StandsAt first offset word bs
  at_step l first bs offset s at begins =
      let got : Some s.here ≡ Some offset = ap (λ (xs : List ℕ). slice_get xs 0) (sym s.offsets) ∙ at in
      let same : s.here ≡ offset = cc in
      subst (λ (o : ℕ). StandsAt first o word bs) same (s.from, s.standing word n begins)

  abbrev Found : ℕ → Type 0
  Found fuel =
      (l first place offset : ℕ) (bs : List ℕ) → length bs ≤ fuel → slice_get (offsets_from first bs) place ≡ Some offset
      → Begins word (drop place (text_of l bs)) → StandsAt first offset word bs

  no_offset : (first place offset : ℕ) (bs : List ℕ) → offsets_from first bs ≡ [] → slice_get (offsets_from first bs) place ≡ Some offset → ⊥
  no_offset first place offset bs e at = let clash : None ≡ Some offset = ap (λ (xs : List ℕ). slice_get xs place) (sym e) ∙ at in absurd (cc)

  later : (fuel : ℕ) → Found fuel → (l first place offset : ℕ) (bs : List ℕ) → length bs ≤ suc fuel → slice_get (offsets_from first bs) place ≡ Some offset
      → Begins word (drop place (text_of l bs)) → Step l first bs → StandsAt first offset word bs
  later fuel shorter l first zero offset bs fits at begins s = at_step l first bs offset s at begins
  later fuel shorter l first (suc place) offset bs fits at begins s =
      let got : slice_get (offsets_from s.next s.rest) place ≡ Some offset = ap (λ (xs : List ℕ). slice_get xs (suc place)) (sym s.offsets) ∙ at in
      let more : Begins word (drop place (text_of s.line s.rest)) =
      (begins.0, begins.1 ∙ ap (λ (t : List FileByte). bytes_in (drop (suc place) t)) s.text) in
      let found = shorter s.line s.next place offset s.rest (omega (arith, fits, s.less)) got more in
      let sum : s.next - first + (offset - s.next) ≡ offset - first = omega (arith, found.0, s.onward) in
      let same : drop (offset - s.next) s.rest ≡ drop (offset - first) bs =
      ap (drop (offset - s.next)) s.left ∙ drop-drop (offset - s.next) (s.next - first) bs ∙ ap (λ (k : ℕ). drop k bs) sum in
      (omega (arith, found.0, s.onward), subst (Stands word) same found.1)

  walk : (fuel : ℕ) → Found fuel
  walk zero l first place offset bs fits at begins = elim (step l first bs (past_comment bs) refl) [
    | inl e ↦ absurd (no_offset first place offset bs e at)
    | inr s ↦ absurd (omega (arith, fits, s.less))
  ]
  walk (suc fuel) l first place offset bs fits at begins = elim (step l first bs (past_comment bs) refl) [
    | inl e ↦ absurd (no_offset first place offset bs e at)
    | inr s ↦ later fuel (walk fuel) l first place offset bs fits at begins s
  ]

-- A WORD that begins at a place of the text of a file stands at the offset of this place
pub stands_at : (word bs : List ℕ) (l place offset : ℕ) → has_no_feed word ≡ true → slice_get (offsets_from 0 bs) place ≡ Some offset
    → Begins word (drop place (text_of l bs)) → Stands word (drop offset bs)
stands_at word bs l place offset n at begins =
    let same : offset - 0 ≡ offset = omega arith in
    subst (λ (k : ℕ). Stands word (drop k bs)) same (walk word n (length bs) l 0 place offset bs (omega arith) at begins).1
