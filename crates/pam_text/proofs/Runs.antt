-- A run of plain bytes in front of a text.
use Rattle.std.proofs.Common.{◌≡◌, ◌≤◌, ◌+◌, ◌++◌, ◌∙◌, sym, ap, refl, one-add, append-nil, append_assoc, length-append, length, arith, ℕ, Bool, true}
use Rattle.std.proofs.Common.{false, List, [], ◌∷◌, take, drop, get_or, cond, eqb}
use Rattle.std.specs.List.{prefix_len}
use Rattle.std.proofs.lemmas.Bool.{eqb-true, false≢true}
use Rattle.pam_text.specs.Text.{FileByte, text_of, first_line, after_line}
use Rattle.pam_text.specs.inner.Text.{is_plain, past_comment}
use Rattle.pam_text.proofs.TextSteps.{step_plain, step_joined, past_comment-no}

-- a plain byte is none of the three
not_feed : (b : ℕ) → is_plain b ≡ true → b ≡ 10 → ⊥
not_feed b h e = false≢true (sym (ap is_plain e) ∙ h)

not_hash : (b : ℕ) → is_plain b ≡ true → b ≡ 35 → ⊥
not_hash b h e = false≢true (sym (ap is_plain e) ∙ h)

not_backslash : (b : ℕ) → is_plain b ≡ true → b ≡ 92 → ⊥
not_backslash b h e = false≢true (sym (ap is_plain e) ∙ h)

pub plain_step : (b : ℕ) (bs : List ℕ) (l : ℕ) → is_plain b ≡ true → text_of l (b ∷ bs) ≡ (l, b) ∷ text_of l bs
plain_step b bs l h = step_plain (b ∷ bs) b bs l (past_comment-no (b ∷ bs) (not_hash b h)) (not_feed b h) (not_backslash b h)

first_plain : (b l : ℕ) (ms : List FileByte) → is_plain b ≡ true → first_line ((l, b) ∷ ms) ≡ b ∷ first_line ms
first_plain b l ms h =
    elim (eqb b 10) as (λ (t : Bool). eqb b 10 ≡ t → cond t [] (b ∷ first_line ms) ≡ b ∷ first_line ms) [
      | true ↦ λ e. absurd (not_feed b h (eqb-true b 10 e))
      | false ↦ λ e. refl
    ] refl

after_plain : (b l : ℕ) (ms : List FileByte) → is_plain b ≡ true → after_line ((l, b) ∷ ms) ≡ after_line ms
after_plain b l ms h =
    elim (eqb b 10) as (λ (t : Bool). eqb b 10 ≡ t → cond t ms (after_line ms) ≡ after_line ms) [
      | true ↦ λ e. absurd (not_feed b h (eqb-true b 10 e))
      | false ↦ λ e. refl
    ] refl

pub run_line : (l : ℕ) (bs : List ℕ) → first_line (text_of l bs) ≡ take (prefix_len is_plain bs) bs ++ first_line (text_of l (drop (prefix_len is_plain bs) bs))
run_line l [] = refl
run_line l (b ∷ bs) =
    elim (is_plain b) as (λ (t : Bool).
    is_plain b ≡ t
    → first_line (text_of l (b ∷ bs))
    ≡ take (cond t (1 + prefix_len is_plain bs) 0) (b ∷ bs) ++ first_line (text_of l (drop (cond t (1 + prefix_len is_plain bs) 0) (b ∷ bs)))) [
      | true ↦ λ h. rw one-add (ap first_line (plain_step b bs l h) ∙ first_plain b l (text_of l bs) h ∙ ap (λ (xs : List ℕ). b ∷ xs) (run_line l bs))
      | false ↦ λ h. refl
    ] refl

pub run_after : (l : ℕ) (bs : List ℕ) → after_line (text_of l bs) ≡ after_line (text_of l (drop (prefix_len is_plain bs) bs))
run_after l [] = refl
run_after l (b ∷ bs) =
    elim (is_plain b) as (λ (t : Bool).
    is_plain b ≡ t → after_line (text_of l (b ∷ bs)) ≡ after_line (text_of l (drop (cond t (1 + prefix_len is_plain bs) 0) (b ∷ bs)))) [
      | true ↦ λ h. rw one-add (ap after_line (plain_step b bs l h) ∙ after_plain b l (text_of l bs) h ∙ run_after l bs)
      | false ↦ λ h. refl
    ] refl

-- a run of plain bytes, and what is left after it
module _ (l n : ℕ) (bs v s : List ℕ) (e : n ≡ prefix_len is_plain bs) (front : v ≡ take n bs) (back : s ≡ drop n bs) where
  pub line_of_run : first_line (text_of l bs) ≡ v ++ first_line (text_of l s)
  line_of_run = rw (front, back, e) (run_line l bs)

  pub rest_of_run : after_line (text_of l bs) ≡ after_line (text_of l s)
  rest_of_run = rw (back, e) (run_after l bs)

  -- a text with a run in front is not empty
  pub nothing_run : text_of l bs ≡ [] → length v ≡ 0
  nothing_run h =
      let none : length (v ++ first_line (text_of l s)) ≡ 0 = ap length (sym line_of_run ∙ ap first_line h) in
      omega (arith, none, length-append v (first_line (text_of l s)))

  pub nothing_after : text_of l bs ≡ [] → length v ≡ n → text_of l s ≡ []
  nothing_after h k = let zero : n ≡ 0 = omega (arith, k, nothing_run h) in ap (text_of l) (back ∙ ap (λ (m : ℕ). drop m bs) zero) ∙ h

  -- where nothing of the text is left
  pub last_run : text_of l s ≡ [] → first_line (text_of l bs) ≡ v
  last_run h = line_of_run ∙ ap (λ (ms : List FileByte). v ++ first_line ms) h ∙ append-nil v

  pub no_rest : text_of l s ≡ [] → after_line (text_of l bs) ≡ text_of l s
  no_rest h = rest_of_run ∙ ap after_line h ∙ sym h

  pub joins_last : (old new : List ℕ) → text_of l s ≡ [] → new ≡ old ++ v → old ++ first_line (text_of l bs) ≡ new ++ []
  joins_last old new h k = ap (λ (xs : List ℕ). old ++ xs) (last_run h) ∙ sym k ∙ sym (append-nil new)

  -- where this byte comes next
  module _ (b : ℕ) (ms : List FileByte) (h : text_of l s ≡ (l, b) ∷ ms) where
    pub line_to : first_line (text_of l bs) ≡ v ++ first_line ((l, b) ∷ ms)
    line_to = line_of_run ∙ ap (λ (ns : List FileByte). v ++ first_line ns) h

    pub rest_to : after_line (text_of l bs) ≡ after_line ((l, b) ∷ ms)
    rest_to = rest_of_run ∙ ap after_line h

    pub joins_on : (old new : List ℕ) → new ≡ old ++ v → old ++ first_line (text_of l bs) ≡ new ++ first_line ((l, b) ∷ ms)
    joins_on old new k = ap (λ (xs : List ℕ). old ++ xs) line_to ∙ sym (append_assoc old v _) ∙ ap (λ (xs : List ℕ). xs ++ first_line ((l, b) ∷ ms)) (sym k)

    -- a line feed ends the line
    pub whole_run : b ≡ 10 → first_line (text_of l bs) ≡ v
    whole_run e10 = line_to ∙ ap (λ (x : ℕ). v ++ first_line ((l, x) ∷ ms)) e10 ∙ append-nil v

    pub rest_fed : b ≡ 10 → after_line (text_of l bs) ≡ ms
    rest_fed e10 = rest_to ∙ ap (λ (x : ℕ). after_line ((l, x) ∷ ms)) e10

-- a text with a run in front is not empty, and one with none and nothing after it is
pub no_text : (l n : ℕ) (bs s v : List ℕ) → n ≡ prefix_len is_plain bs → v ≡ take n bs → s ≡ drop n bs → length v ≡ n → length v ≡ 0
    → text_of l s ≡ [] → text_of l bs ≡ []
no_text l n bs s v e f b k z h =
    let zero : n ≡ 0 = omega (arith, k, z) in sym (ap (λ (m : ℕ). text_of l (drop m bs)) zero) ∙ ap (λ (xs : List ℕ). text_of l xs) (sym b) ∙ h

-- a byte that is no line feed belongs to the line
pub kept_byte : (b l : ℕ) (ms : List FileByte) (old new : List ℕ) → (b ≡ 10 → ⊥) → new ≡ old ++ b ∷ [] → new ++ first_line ms ≡ old ++ first_line ((l, b) ∷ ms)
kept_byte b l ms old new n k =
    elim (eqb b 10) as (λ (t : Bool). eqb b 10 ≡ t → new ++ first_line ms ≡ old ++ cond t [] (b ∷ first_line ms)) [
      | true ↦ λ e. absurd (n (eqb-true b 10 e))
      | false ↦ λ e. ap (λ (xs : List ℕ). xs ++ first_line ms) k ∙ append_assoc old (b ∷ []) (first_line ms)
    ] refl

pub kept_rest : (b l : ℕ) (ms : List FileByte) → (b ≡ 10 → ⊥) → after_line ms ≡ after_line ((l, b) ∷ ms)
kept_rest b l ms n =
    elim (eqb b 10) as (λ (t : Bool). eqb b 10 ≡ t → after_line ms ≡ cond t ms (after_line ms)) [
      | true ↦ λ e. absurd (n (eqb-true b 10 e))
      | false ↦ λ e. refl
    ] refl

pub feed_line : (b l : ℕ) (ms : List FileByte) → b ≡ 10 → first_line ((l, b) ∷ ms) ≡ []
feed_line b l ms e = ap (λ (x : ℕ). first_line ((l, x) ∷ ms)) e

pub feed_rest : (b l : ℕ) (ms : List FileByte) → b ≡ 10 → after_line ((l, b) ∷ ms) ≡ ms
feed_rest b l ms e = ap (λ (x : ℕ). after_line ((l, x) ∷ ms)) e

-- a backslash and a line feed are a space
module _ (l : ℕ) (bs more : List ℕ) (h : bs ≡ 92 ∷ 10 ∷ more) where
  joint : text_of l bs ≡ (l, 32) ∷ text_of (l + 1) more
  unfolding past_comment
  joint = step_joined bs (10 ∷ more) more l (ap past_comment h) refl

  pub joint_line : (old new : List ℕ) → new ≡ old ++ 32 ∷ [] → new ++ first_line (text_of (l + 1) more) ≡ old ++ first_line (text_of l bs)
  joint_line old new k =
      kept_byte 32 l (text_of (l + 1) more) old new (λ e. absurd (cc)) k ∙ ap (λ (ms : List FileByte). old ++ first_line ms) (sym joint)

  pub joint_rest : after_line (text_of (l + 1) more) ≡ after_line (text_of l bs)
  joint_rest = ap after_line (sym joint)

-- two bytes at the beginning
pub two_first : (bs more : List ℕ) → 2 ≤ length bs → get_or bs 0 0 ≡ 92 → get_or bs 1 0 ≡ 10 → more ≡ drop 2 bs → bs ≡ 92 ∷ 10 ∷ more
two_first [] more n e f d = absurd (omega arith)
two_first (a ∷ []) more n e f d = absurd (omega arith)
two_first (a ∷ b ∷ bs) more n e f d = rw (e, f, d) refl

-- a line that goes on after a run and one more byte
module _ (l n : ℕ) (bs v s : List ℕ) (e : n ≡ prefix_len is_plain bs) (front : v ≡ take n bs) (back : s ≡ drop n bs) (b : ℕ) (ms : List FileByte)
    (h : text_of l s ≡ (l, b) ∷ ms) (not10 : b ≡ 10 → ⊥) where
  pub joined_line : (w0 w1 w2 r : List ℕ) → w0 ≡ [] → w1 ≡ w0 ++ v → w2 ≡ w1 ++ b ∷ [] → r ≡ w2 ++ first_line ms → r ≡ first_line (text_of l bs)
  joined_line w0 w1 w2 r e0 e1 e2 e3 =
      e3
      ∙ kept_byte b l ms w1 w2 not10 e2
      ∙ ap (λ (xs : List ℕ). xs ++ first_line ((l, b) ∷ ms)) (e1 ∙ ap (λ (xs : List ℕ). xs ++ v) e0)
      ∙ sym (line_to l n bs v s e front back b ms h)

  pub joined_rest : after_line ms ≡ after_line (text_of l bs)
  joined_rest = kept_rest b l ms not10 ∙ sym (rest_to l n bs v s e front back b ms h)

pub some_text : (l n : ℕ) (bs v s : List ℕ) (b : ℕ) (ms : List FileByte) → n ≡ prefix_len is_plain bs → v ≡ take n bs → s ≡ drop n bs → length v ≡ n
    → text_of l s ≡ (l, b) ∷ ms → text_of l bs ≡ [] → ⊥
some_text l n bs v s b ms e f k m h none =
    let empty : text_of l s ≡ [] = nothing_after l n bs v s e f k none m in
    let both : ◌≡◌ {A = List FileByte} [] ((l, b) ∷ ms) = sym empty ∙ h in absurd (cc)
