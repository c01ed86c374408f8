-- The lists of a line, each up to its `;`, item by item.
use Rattle.std.proofs.Common.{◌≡◌, ◌∙◌, ◌+◌, ◌||◌, ℕ, Bool, true, false, not, List, [], ◌∷◌, length, get_or, take, drop, cond, eqb, nat_lt, codes, suc, ap₂}
use Rattle.std.proofs.Common.{Option, Some, None, Result, Ok, arith, refl, sym, ap, one-add}
use Rattle.std.proofs.lemmas.Bool.{eqb-true}
use Rattle.std.proofs.lemmas.Bool.Decides.{nat_tests}
use Rattle.std.specs.List.{prefix_len}
use Rattle.std.specs.Option.{option_map}
use Rattle.pam_codes.specs.Tokens.{is_blank}
use Rattle.pam_text.specs.Cut.{is_among}
use Rattle.pam_tables.specs.times.inner.Checks.{line_checked, list_checked, token_checked}
use Rattle.pam_tables.specs.times.inner.Items.{items_after, items_left}
use Rattle.pam_tables.specs.times.Logic.{SignText, Not, Join, Token, ExpectJoint, is_token_byte, items_from, onto_items, signs_of}
use Rattle.pam_tables.specs.times.inner.OnePass.{IsLeft, PassesItem, before, is_inside, onward}
use Rattle.pam_tables.specs.times.Reading.{FieldTexts, rule_of, semicolon_cut, and_then}
use Rattle.pam_tables.specs.declared.times.error.TimeFault.{TimeFault}
use Rattle.pam_tables.specs.declared.times.logic.Joint.{Joint}
use Rattle.pam_tables.specs.declared.times.logic.Joint.TheVariants.{First, And, Or}
use Rattle.pam_tables.specs.declared.times.reading.Field.{Field}
use Rattle.pam_tables.specs.declared.times.reading.Field.TheVariants.{Services, Terminals, Users, Times}
use Rattle.pam_tables.proofs.TimesProofs.CheckSteps.{any_joint, fault_from, none_fails, token_fault}
use Rattle.pam_tables.proofs.TimesProofs.LogicSteps.{both_first, either_first, not_first, signs_blank, token_next}

-- ---- bytes

apart : (b : ℕ) (p : ℕ → Bool) → p b ≡ true → p 59 ≡ false → eqb b 59 ≡ false
apart b p h k = elim (eqb b 59) as (λ (t : Bool). eqb b 59 ≡ t → t ≡ false) [
  | true ↦ λ e. absurd (clash (sym h ∙ ap p (eqb-true b 59 e) ∙ k))
  | false ↦ λ e. refl
] refl
  where
    clash : ◌≡◌ {A = Bool} true false → ⊥
    clash e = absurd (cc)

same_test : (a b : ℕ) → eqb a b ≡ eqb b a
same_test a b = grind (arith, nat_tests)

-- a byte inside a token that a `;` may end is in a token, and no `;`
inside_is : (b : ℕ) → is_inside b ≡ cond (eqb b 59) false (is_token_byte b)
unfolding is_among
inside_is b =
    rw (same_test 32 b, same_test 9 b, same_test 13 b, same_test 33 b, same_test 38 b, same_test 124 b, same_test 59 b)
    (cases (eqb b 32) (eqb b 9) (eqb b 13) (eqb b 33) (eqb b 38) (eqb b 124) (eqb b 59))
  where
    cases : (s t u v w x y : Bool) → not (s || (t || (u || (v || (w || (x || (y || false))))))) ≡ cond y false (not ((s || t || u) || v || w || x))
    cases true t u v w x true = refl
    cases true t u v w x false = refl
    cases false true u v w x true = refl
    cases false true u v w x false = refl
    cases false false true v w x true = refl
    cases false false true v w x false = refl
    cases false false false true w x true = refl
    cases false false false true w x false = refl
    cases false false false false true x true = refl
    cases false false false false true x false = refl
    cases false false false false false true true = refl
    cases false false false false false true false = refl
    cases false false false false false false true = refl
    cases false false false false false false false = refl

-- ---- the part of a text before a `;`

module _ (b : ℕ) (bs : List ℕ) (other : eqb b 59 ≡ false) where
  before_next : before (b ∷ bs) ≡ b ∷ before bs
  before_next = ap (λ (t : Bool). cond t [] (b ∷ before bs)) other

  onward_next : onward (b ∷ bs) ≡ onward bs
  onward_next = ap (λ (t : Bool). cond t (b ∷ bs) (onward bs)) other

pub blank_before : (rest : List ℕ) (b : ℕ) (bs : List ℕ) → rest ≡ b ∷ bs → is_blank b ≡ true → signs_of (before bs) ≡ signs_of (before rest)
blank_before rest b bs e h =
    sym (ap (λ (l : List ℕ). signs_of (before l)) e ∙ ap signs_of (before_next b bs (apart b is_blank h refl)) ∙ signs_blank b (before bs) h)

pub blank_onward : (rest : List ℕ) (b : ℕ) (bs : List ℕ) → rest ≡ b ∷ bs → is_blank b ≡ true → onward bs ≡ onward rest
blank_onward rest b bs e h = sym (ap onward e ∙ onward_next b bs (apart b is_blank h refl))

pub not_before : (bs r : List ℕ) → (length bs ≡ 0 → ⊥) → get_or bs 0 0 ≡ 33 → r ≡ drop 1 bs →
    (signs_of (before bs) ≡ Not ∷ signs_of (before r)) × (onward bs ≡ onward r)
not_before [] r n h q = absurd (n refl)
not_before (b ∷ bs) r n h q =
    let other : eqb b 59 ≡ false = ap (λ (k : ℕ). eqb k 59) h in
    let some : length (b ∷ before bs) ≡ 0 → ⊥ = λ e. absurd (omega arith) in
    rw q (ap signs_of (before_next b bs other) ∙ not_first (b ∷ before bs) (before bs) some h refl, onward_next b bs other)

-- the bytes of a token that a `;` may end are those of the token before it
inside_len : (text : List ℕ) → prefix_len is_inside text ≡ prefix_len is_token_byte (before text)
inside_len [] = refl
inside_len (b ∷ bs) = elim (eqb b 59) as (λ (t : Bool). eqb b 59 ≡ t → prefix_len is_inside (b ∷ bs) ≡ prefix_len is_token_byte (before (b ∷ bs))) [
  | true ↦ λ e.
      ap (λ (t : Bool). cond t (1 + prefix_len is_inside bs) 0) (inside_is b ∙ ap (λ (t : Bool). cond t false (is_token_byte b)) e)
      ∙ sym (ap (prefix_len is_token_byte) (ap (λ (t : Bool). cond t [] (b ∷ before bs)) e))
  | false ↦ λ e.
      ap (λ (t : Bool). cond t (1 + prefix_len is_inside bs) 0) (inside_is b ∙ ap (λ (t : Bool). cond t false (is_token_byte b)) e)
      ∙ ap (λ (n : ℕ). cond (is_token_byte b) (1 + n) 0) (inside_len bs) ∙ sym (ap (prefix_len is_token_byte) (before_next b bs e))
] refl

-- a token, and the text after it, lie before the `;`
record Cut (text : List ℕ) (n : ℕ) : Type 0 where
  front : take n (before text) ≡ take n text
  back : drop n (before text) ≡ before (drop n text)
  end : onward text ≡ onward (drop n text)

cut_next : (b : ℕ) (bs : List ℕ) → eqb b 59 ≡ false → (n : ℕ) → Cut bs n → Cut (b ∷ bs) (1 + n)
cut_next b bs other n c = record {
  front = rw one-add (rw (before_next b bs other) (ap (λ (l : List ℕ). b ∷ l) c.front));
  back = rw one-add (rw (before_next b bs other) c.back);
  end = onward_next b bs other ∙ rw one-add c.end;
}

cut_token : (text : List ℕ) → Cut text (prefix_len is_inside text)
unfolding is_among
cut_token [] = record { front = refl; back = refl; end = refl }
cut_token (b ∷ bs) = elim (is_inside b) as (λ (t : Bool). is_inside b ≡ t → Cut (b ∷ bs) (cond t (1 + prefix_len is_inside bs) 0)) [
  | true ↦ λ e. cut_next b bs (apart b is_inside e refl) _ (cut_token bs)
  | false ↦ λ e. record { front = refl; back = refl; end = refl }
] refl

-- ---- one item after another

left_signs : (inverted : Bool) (text begin : List ℕ) → IsLeft inverted text begin → (onward text ≡ onward begin)
left_signs true text begin s = s.1
left_signs false text begin s = s.1

left_items : (inverted : Bool) (text begin token : List ℕ) (after : List SignText) → IsLeft inverted text begin →
    signs_of (before begin) ≡ Token token ∷ after → (joint : Joint) →
    items_after joint (before text) ≡ onto_items joint inverted token (items_from ExpectJoint after)
unfolding items_from
left_items true text begin token after s e joint = rw s.0 (rw e refl)
left_items false text begin token after s e joint = rw s.0 (rw e refl)

pub item_passed : (field : Field) (inverted : Bool) (text begin token rest left : List ℕ) (n : ℕ) → IsLeft inverted text begin →
    n ≡ prefix_len is_inside begin → (n ≡ 0 → ⊥) → token ≡ take n begin → rest ≡ drop n begin → Ok tt ≡ token_checked field token →
    signs_of (before rest) ≡ signs_of (before left) → onward rest ≡ onward left → PassesItem field text left
item_passed field inverted text begin token rest left n s e some f g fine signs end =
    let c : Cut begin n = rw e (cut_token begin) in
    let len : n ≡ prefix_len is_token_byte (before begin) = e ∙ inside_len begin in
    let is : signs_of (before begin) ≡ Token token ∷ signs_of (before rest) =
    token_next (before begin) token (before rest) (λ z. some (len ∙ z))
    (f ∙ sym c.front ∙ ap (λ (k : ℕ). take k (before begin)) len)
    (ap before g ∙ sym c.back ∙ ap (λ (k : ℕ). drop k (before begin)) len) in
    record {
      is_inverted = inverted;
      token = token;
      fine = sym fine;
      first = λ joint. left_items inverted text begin token _ s is joint
          ∙ ap (λ (l : List SignText). onto_items joint inverted token (items_from ExpectJoint l)) signs;
      end = left_signs inverted text begin s ∙ c.end ∙ sym (ap onward g) ∙ end;
    }

-- ---- the items of a list, up to its end

module _ (field : Field) (all : Result (Unit {0}) TimeFault) (rest : List ℕ)
    (same : fault_from (token_checked field) (Ok tt) (items_after First (before rest)) ≡ all) (left : List ℕ) (p : PassesItem field rest left) where
  passed : fault_from (token_checked field) (Ok tt) (items_left (before left)) ≡ all
  passed =
      sym (ap (λ (c : Result (Unit {0}) TimeFault). fault_from (token_checked field) c (items_left (before left))) p.fine)
      ∙ sym (token_fault (token_checked field) (Ok tt) First p.is_inverted p.token (items_left (before left)))
      ∙ sym (ap (fault_from (token_checked field) (Ok tt)) (p.first First)) ∙ same

  ended : before left ≡ [] → Ok tt ≡ all
  unfolding items_from signs_of
  ended e = sym (ap (λ (l : List ℕ). fault_from (token_checked field) (Ok tt) (items_left l)) e) ∙ passed

  pub end_here : length left ≡ 0 → all ≡ Ok tt
  end_here e = sym (ended (empty left e))
    where
      empty : (l : List ℕ) → length l ≡ 0 → before l ≡ []
      empty [] h = refl
      empty (b ∷ bs) h = absurd (omega arith)

  module _ (b : ℕ) (after : List ℕ) (is : left ≡ b ∷ after) where
    pub end_semicolon : b ≡ 59 → all ≡ Ok tt
    end_semicolon e = sym (ended (ap before is ∙ ap (λ (k : ℕ). before (k ∷ after)) e))

    joined : (joint : Joint) → signs_of (before left) ≡ Join joint ∷ signs_of (before after) →
        fault_from (token_checked field) (Ok tt) (items_after First (before after)) ≡ all
    unfolding items_from
    joined joint e =
        any_joint (token_checked field) (Ok tt) First joint (signs_of (before after))
        ∙ sym (ap (λ (l : List SignText). fault_from (token_checked field) (Ok tt) (items_from ExpectJoint l)) e) ∙ passed

    pub next_item : (eqb b 38 || eqb b 124) ≡ true → fault_from (token_checked field) (Ok tt) (items_after First (before after)) ≡ all
    next_item h = elim (eqb b 38) as (λ (t : Bool). eqb b 38 ≡ t → fault_from (token_checked field) (Ok tt) (items_after First (before after)) ≡ all) [
      | true ↦ λ e.
          let k : b ≡ 38 = eqb-true b 38 e in
          joined And (ap (λ (l : List ℕ). signs_of (before l)) is ∙ ap signs_of (before_next b after (ap (λ (i : ℕ). eqb i 59) k))
          ∙ both_first (b ∷ before after) (before after) (λ z. absurd (omega arith)) k refl)
      | false ↦ λ e.
          let k : b ≡ 124 = eqb-true b 124 (sym (ap (λ (t : Bool). t || eqb b 124) e) ∙ h) in
          joined Or (ap (λ (l : List ℕ). signs_of (before l)) is ∙ ap signs_of (before_next b after (ap (λ (i : ℕ). eqb i 59) k))
          ∙ either_first (b ∷ before after) (before after) (λ z. absurd (omega arith)) k refl)
    ] refl

    pub next_end : (eqb b 38 || eqb b 124) ≡ true → onward after ≡ onward rest
    next_end h = sym (p.end ∙ ap onward is ∙ onward_next b after (apart b (λ k. eqb k 38 || eqb k 124) h refl))

-- ---- the fields of a line

semicolon_test : (b : ℕ) → not (is_among (codes ";") b) ≡ not (eqb b 59)
unfolding is_among
semicolon_test b = rw (same_test 59 b) (ap not (last (eqb b 59)))
  where
    last : (t : Bool) → (t || false) ≡ t
    last true = refl
    last false = refl

-- the place of the first `;`, and what is after it
record Found (text after : List ℕ) (n : ℕ) : Type 0 where
  less : nat_lt n (length text) ≡ true
  front : take n text ≡ before text
  back : drop (n + 1) text ≡ after

found : (text : List ℕ) (b : ℕ) (after : List ℕ) → onward text ≡ b ∷ after → Found text after (prefix_len (λ c. not (is_among (codes ";") c)) text)
found [] b after h = absurd (cc)
found (c ∷ cs) b after h =
    elim (eqb c 59) as (λ (t : Bool). eqb c 59 ≡ t → Found (c ∷ cs) after (prefix_len (λ k. not (is_among (codes ";") k)) (c ∷ cs))) [
      | true ↦ λ e.
          let here : prefix_len (λ k. not (is_among (codes ";") k)) (c ∷ cs) ≡ 0 =
          ap (λ (t : Bool). cond t (1 + prefix_len (λ k. not (is_among (codes ";") k)) cs) 0) (semicolon_test c ∙ ap not e) in
          let same : c ∷ cs ≡ b ∷ after = sym (ap (λ (t : Bool). cond t (c ∷ cs) (onward cs)) e) ∙ h in
          rw here (record {
            less = first_less (length cs) (c ∷ cs) (omega arith);
            front = sym (ap (λ (t : Bool). cond t [] (c ∷ before cs)) e);
            back = tails same;
          })
      | false ↦ λ e.
          let n = prefix_len (λ k. not (is_among (codes ";") k)) cs in
          let here : prefix_len (λ k. not (is_among (codes ";") k)) (c ∷ cs) ≡ 1 + n =
          ap (λ (t : Bool). cond t (1 + n) 0) (semicolon_test c ∙ ap not e) in
          let f : Found cs after n = found cs b after (sym (onward_next c cs e) ∙ h) in
          rw here (record {
            less = next_less n (length cs) (c ∷ cs) (omega arith) f.less;
            front = rw one-add (ap (λ (l : List ℕ). c ∷ l) f.front) ∙ sym (before_next c cs e);
            back = let place : 1 + n + 1 ≡ suc (n + 1) = omega arith in ap (λ (k : ℕ). drop k (c ∷ cs)) place ∙ f.back;
          })
    ] refl
  where
    tails : {x y : ℕ} {xs ys : List ℕ} → x ∷ xs ≡ y ∷ ys → xs ≡ ys
    tails e = cc

    first_less : (n : ℕ) (text : List ℕ) → length text ≡ 1 + n → nat_lt 0 (length text) ≡ true
    first_less n text e = rw e (grind (arith, nat_tests))

    next_less : (n m : ℕ) (text : List ℕ) → length text ≡ 1 + m → nat_lt n m ≡ true → nat_lt (1 + n) (length text) ≡ true
    next_less n m text e h = rw e (grind (arith, nat_tests))

pub cut_here : (text : List ℕ) (b : ℕ) (after : List ℕ) → onward text ≡ b ∷ after → semicolon_cut text ≡ Some (before text, after)
cut_here text b after h =
    let f = found text b after h in
    let n = prefix_len (λ c. not (is_among (codes ";") c)) text in
    ap (λ (t : Bool). option_map {U = List ℕ × List ℕ} (λ i. (take i text, drop (i + 1) text)) (cond t (Some n) None)) f.less
    ∙ ap₂ (λ (x y : List ℕ). Some (x, y)) f.front f.back

whole : (text : List ℕ) → onward text ≡ [] → before text ≡ text
whole [] h = refl
whole (b ∷ bs) h = elim (eqb b 59) as (λ (t : Bool). eqb b 59 ≡ t → before (b ∷ bs) ≡ b ∷ bs) [
  | true ↦ λ e. absurd (filled (sym (ap (λ (t : Bool). cond t (b ∷ bs) (onward bs)) e) ∙ h))
  | false ↦ λ e. before_next b bs e ∙ ap (λ (l : List ℕ). b ∷ l) (whole bs (sym (onward_next b bs e) ∙ h))
] refl
  where
    filled : b ∷ bs ≡ [] → ⊥
    filled e = absurd (cc)

pub has_rule : (number : ℕ) (line terminals users times : List ℕ) →
    list_checked Services (before line) ≡ Ok tt → semicolon_cut line ≡ Some (before line, terminals) →
    list_checked Terminals (before terminals) ≡ Ok tt → semicolon_cut terminals ≡ Some (before terminals, users) →
    list_checked Users (before users) ≡ Ok tt → semicolon_cut users ≡ Some (before users, times) →
    list_checked Times (before times) ≡ Ok tt → length (onward times) ≡ 0 → line_checked (rule_of number line) ≡ Ok true
has_rule number line terminals users times s a t b u c v end =
    none_fails number line fields (sym (ap firsts a ∙ ap (seconds (before line)) b ∙ ap (thirds (before line) (before terminals)) c))
    (rw (s, t, u, ap (list_checked Times) (sym (whole times (empty (onward times) end))) ∙ v) refl)
  where
    empty : (l : List ℕ) → length l ≡ 0 → l ≡ []
    empty [] h = refl
    empty (b ∷ bs) h = absurd (omega arith)

    fields : FieldTexts
    fields = record { services = before line; terminals = before terminals; users = before users; times = times }

    thirds : List ℕ → List ℕ → Option (List ℕ × List ℕ) → Option FieldTexts
    thirds x y o = and_then o (λ z. Some (record { services = x; terminals = y; users = z.0; times = z.1 }))

    seconds : List ℕ → Option (List ℕ × List ℕ) → Option FieldTexts
    seconds x o = and_then o (λ y. thirds x y.0 (semicolon_cut y.1))

    firsts : Option (List ℕ × List ℕ) → Option FieldTexts
    firsts o = and_then o (λ x. seconds x.0 (semicolon_cut x.1))
