-- The value of a list from the left, and the signs of a text one after another.
use Rattle.std.proofs.Common.{◌≡◌, ◌∙◌, ◌+◌, ◌&&◌, ◌||◌, ℕ, Bool, true, false, not, List, [], ◌∷◌, length, get_or, take, drop, map, cond, eqb, Option}
use Rattle.std.proofs.Common.{Some, None, refl, sym, ap, arith, one-add}
use Rattle.std.proofs.lemmas.Bool.{eqb-true, eqb-false}
use Rattle.std.specs.List.{list_all, prefix_len}
use Rattle.pam_codes.specs.Tokens.{is_blank}
use Rattle.pam_tables.specs.times.Logic.{ItemOf, may_begin, keeps, is_true_of, item_value, is_true, ExpectItem, ExpectToken, ExpectJoint}
use Rattle.pam_tables.specs.times.inner.Logic.{join, list_value}
use Rattle.pam_tables.specs.times.Logic.{SignText, Not, Join, Token, is_token_byte, begins_token}
use Rattle.pam_tables.specs.times.Logic.{onto_token, signs_of, onto_items, items_from, items_of, items_or_fault}
use Rattle.pam_tables.specs.times.inner.Items.{HasNoItem, HasNoToken, IsAfterNot, begins_not, items_after, items_inverted, items_left}
use Rattle.pam_tables.specs.declared.times.logic.Joint.{Joint}
use Rattle.pam_tables.specs.declared.times.logic.Joint.TheVariants.{First, And, Or}

-- ---- the value of a list

abbrev pub folded : Bool → List (Joint × Bool) → Bool
folded acc [] = acc
folded acc (x ∷ xs) = folded (join x.0 acc x.1) xs

step_case : (j : Joint) (acc v k s : Bool) → ((join j acc v && k) || s) ≡ ((acc && ((may_begin j || v) && k)) || (((may_begin j && v) && k) || s))
step_case And true true k s = grind arith
step_case And true false k s = grind arith
step_case And false true k s = grind arith
step_case And false false k s = grind arith
step_case First true true k s = grind arith
step_case First true false k s = grind arith
step_case First false true k s = grind arith
step_case First false false k s = grind arith
step_case Or true true k s = grind arith
step_case Or true false k s = grind arith
step_case Or false true k s = grind arith
step_case Or false false k s = grind arith

and_true : (b : Bool) → (b && true) ≡ b
and_true true = refl
and_true false = refl

or_false : (b : Bool) → (b || false) ≡ b
or_false true = refl
or_false false = refl

folded_from : (acc : Bool) (xs : List (Joint × Bool)) → folded acc xs ≡ ((acc && list_all keeps xs) || is_true_of xs)
folded_from acc [] = sym (or_false (acc && true) ∙ and_true acc)
folded_from acc (x ∷ xs) = folded_from (join x.0 acc x.1) xs ∙ step_case x.0 acc x.1 (list_all keeps xs) (is_true_of xs)

-- the value of a list is the fold of its items from the left
pub folded_all : (xs : List (Joint × Bool)) → folded false xs ≡ is_true_of xs
folded_all xs = folded_from false xs

-- the same, for the remaining items
abbrev pub folded_items : {A : Type 0} → (A → Bool) → Bool → List (ItemOf A) → Bool
folded_items f acc items = folded acc (map (item_value f) items)

pub folded_is_true : {A : Type 0} (f : A → Bool) (items : List (ItemOf A)) → folded_items f false items ≡ is_true f items
folded_is_true f items = folded_all (map (item_value f) items)

-- ---- signs

abbrev sign_step : (b : ℕ) (bs : List ℕ) → List SignText
sign_step b bs =
    cond (eqb b 33) (Not ∷ signs_of bs) (cond (eqb b 38) (Join And ∷ signs_of bs)
    (cond (eqb b 124) (Join Or ∷ signs_of bs) (cond (begins_token bs) (onto_token b (signs_of bs)) (Token (b ∷ []) ∷ signs_of bs))))

pub signs_blank : (b : ℕ) (bs : List ℕ) → is_blank b ≡ true → signs_of (b ∷ bs) ≡ signs_of bs
unfolding signs_of
signs_blank b bs h = ap (λ (t : Bool). cond t (signs_of bs) (sign_step b bs)) h

pub blank_next : (rest : List ℕ) (b : ℕ) (bs : List ℕ) → rest ≡ b ∷ bs → is_blank b ≡ true → signs_of bs ≡ signs_of rest
blank_next rest b bs e h = sym (ap signs_of e ∙ signs_blank b bs h)

pub blank_none : (rest : List ℕ) → length rest ≡ 0 → prefix_len is_blank rest ≡ 0
blank_none [] h = refl
blank_none (b ∷ bs) h = absurd (omega arith)

pub blank_first : (rest : List ℕ) (b : ℕ) (bs : List ℕ) → rest ≡ b ∷ bs → is_blank b ≡ false → prefix_len is_blank rest ≡ 0
blank_first rest b bs e h = ap (prefix_len is_blank) e ∙ ap (λ (t : Bool). cond t (1 + prefix_len is_blank bs) 0) h

token_test : (b : ℕ) → is_token_byte b ≡ true → (is_blank b ≡ false) × (eqb b 33 ≡ false) × (eqb b 38 ≡ false) × (eqb b 124 ≡ false)
token_test b h = parts (is_blank b) (eqb b 33) (eqb b 38) (eqb b 124) h
  where
    parts : (w x y z : Bool) → not (w || x || y || z) ≡ true → (w ≡ false) × (x ≡ false) × (y ≡ false) × (z ≡ false)
    parts false false false false e = (refl, refl, refl, refl)
    parts true x y z e = absurd (cc)
    parts false true y z e = absurd (cc)
    parts false false true z e = absurd (cc)
    parts false false false true e = absurd (cc)

signs_token_byte : (b : ℕ) (bs : List ℕ) → is_token_byte b ≡ true →
    signs_of (b ∷ bs) ≡ cond (begins_token bs) (onto_token b (signs_of bs)) (Token (b ∷ []) ∷ signs_of bs)
unfolding signs_of
signs_token_byte b bs h = let t = token_test b h in rw t.0 (rw t.1 (rw t.2 (rw t.3 refl)))

token_step : (b : ℕ) (bs : List ℕ) (n : ℕ) → signs_of bs ≡ Token (take n bs) ∷ signs_of (drop n bs) →
    onto_token b (signs_of bs) ≡ Token (take (1 + n) (b ∷ bs)) ∷ signs_of (drop (1 + n) (b ∷ bs))
token_step b bs n h = ap (onto_token b) h ∙ rw one-add refl

rest_of : (b : ℕ) (bs : List ℕ) → (begins_token bs ≡ true → signs_of bs
    ≡ Token (take (prefix_len is_token_byte bs) bs) ∷ signs_of (drop (prefix_len is_token_byte bs) bs)) →
    cond (begins_token bs) (onto_token b (signs_of bs)) (Token (b ∷ []) ∷ signs_of bs)
    ≡ Token (take (1 + prefix_len is_token_byte bs) (b ∷ bs)) ∷ signs_of (drop (1 + prefix_len is_token_byte bs) (b ∷ bs))
rest_of b [] rec = refl
rest_of b (c ∷ cs) rec =
    elim (is_token_byte c) as (λ (t : Bool). is_token_byte c ≡ t →
    cond t (onto_token b (signs_of (c ∷ cs))) (Token (b ∷ []) ∷ signs_of (c ∷ cs))
    ≡ Token (take (1 + prefix_len is_token_byte (c ∷ cs)) (b ∷ c ∷ cs)) ∷ signs_of (drop (1 + prefix_len is_token_byte (c ∷ cs)) (b ∷ c ∷ cs))) [
      | true ↦ λ e. token_step b (c ∷ cs) _ (rec e)
      | false ↦ λ e.
          let stop : prefix_len is_token_byte (c ∷ cs) ≡ 0 = ap (λ (t : Bool). cond t (1 + prefix_len is_token_byte cs) 0) e in
          rw stop refl
    ] refl

-- a leading token ends at the first byte that is in no token
signs_token : (bs : List ℕ) → begins_token bs ≡ true → signs_of bs
    ≡ Token (take (prefix_len is_token_byte bs) bs) ∷ signs_of (drop (prefix_len is_token_byte bs) bs)
signs_token [] h = absurd (cc)
signs_token (b ∷ bs) h =
    let here : prefix_len is_token_byte (b ∷ bs) ≡ 1 + prefix_len is_token_byte bs = ap (λ (t : Bool). cond t (1 + prefix_len is_token_byte bs) 0) h in
    rw here (signs_token_byte b bs h ∙ rest_of b bs (signs_token bs))

pub no_sign : (bs : List ℕ) → length bs ≡ 0 → signs_of bs ≡ []
unfolding signs_of
no_sign [] h = refl
no_sign (b ∷ bs) h = absurd (omega arith)

pub not_first : (bs r : List ℕ) → (length bs ≡ 0 → ⊥) → get_or bs 0 0 ≡ 33 → r ≡ drop 1 bs → signs_of bs ≡ Not ∷ signs_of r
unfolding signs_of
not_first [] r n h q = absurd (n refl)
not_first (b ∷ bs) r n h q = rw (q, h) refl

pub both_first : (bs r : List ℕ) → (length bs ≡ 0 → ⊥) → get_or bs 0 0 ≡ 38 → r ≡ drop 1 bs → signs_of bs ≡ Join And ∷ signs_of r
unfolding signs_of
both_first [] r n h q = absurd (n refl)
both_first (b ∷ bs) r n h q = rw (q, h) refl

pub either_first : (bs r : List ℕ) → (length bs ≡ 0 → ⊥) → get_or bs 0 0 ≡ 124 → r ≡ drop 1 bs → signs_of bs ≡ Join Or ∷ signs_of r
unfolding signs_of
either_first [] r n h q = absurd (n refl)
either_first (b ∷ bs) r n h q = rw (q, h) refl

differs : (b k : ℕ) → (b ≡ k → ⊥) → eqb b k ≡ false
differs b k h = elim (eqb b k) as (λ (t : Bool). eqb b k ≡ t → t ≡ false) [ true ↦ λ e. absurd (h (eqb-true b k e)) | false ↦ λ e. refl ] refl

no_mark : (b : ℕ) (bs : List ℕ) → prefix_len is_blank (b ∷ bs) ≡ 0 → (b ≡ 33 → ⊥) → (b ≡ 38 → ⊥) → (b ≡ 124 → ⊥) → is_token_byte b ≡ true
no_mark b bs z h k l =
    let e : is_blank b ≡ false = elim (is_blank b) as (λ (t : Bool). cond t (1 + prefix_len is_blank bs) 0 ≡ 0 → t ≡ false)
    [ true ↦ λ f. absurd (omega arith) | false ↦ λ f. refl ] z in
    rw e (rw (differs b 33 h) (rw (differs b 38 k) (rw (differs b 124 l) refl)))

-- a byte that is no blank and in no token is an operator or `!`
pub last_mark : (bs : List ℕ) → (length bs ≡ 0 → ⊥) → prefix_len is_blank bs ≡ 0 → is_token_byte (get_or bs 0 0) ≡ false →
    (get_or bs 0 0 ≡ 33 → ⊥) → (get_or bs 0 0 ≡ 38 → ⊥) → get_or bs 0 0 ≡ 124
last_mark [] n z t h k = absurd (n refl)
last_mark (b ∷ bs) n z t h k = elim (eqb b 124) as (λ (u : Bool). eqb b 124 ≡ u → b ≡ 124) [
  | true ↦ λ e. eqb-true b 124 e
  | false ↦ λ e. let yes : is_token_byte b ≡ true = no_mark b bs z h k (eqb-false b 124 e) in absurd (cc)
] refl

filled : (b : ℕ) (bs : List ℕ) → length (b ∷ bs) ≡ 0 → ⊥
filled b bs h = omega arith

-- a byte that is no blank, in no token and no `!` is an operator
operator : (b : ℕ) (bs : List ℕ) → prefix_len is_blank (b ∷ bs) ≡ 0 → is_token_byte b ≡ false → eqb b 33 ≡ false →
    (joint : Joint) × (signs_of (b ∷ bs) ≡ Join joint ∷ signs_of bs)
operator b bs z t n = elim (eqb b 38) as (λ (u : Bool). eqb b 38 ≡ u → (joint : Joint) × (signs_of (b ∷ bs) ≡ Join joint ∷ signs_of bs)) [
  | true ↦ λ e. (And, both_first (b ∷ bs) bs (filled b bs) (eqb-true b 38 e) refl)
  | false ↦ λ e. (
    Or,
    either_first (b ∷ bs) bs (filled b bs)
        (last_mark (b ∷ bs) (filled b bs) z t (eqb-false b 33 n) (eqb-false b 38 e)) refl,
  )
] refl

no_token : (b : ℕ) (bs : List ℕ) → prefix_len is_token_byte (b ∷ bs) ≡ 0 → is_token_byte b ≡ false
no_token b bs z = elim (is_token_byte b) as (λ (t : Bool). cond t (1 + prefix_len is_token_byte bs) 0 ≡ 0 → t ≡ false)
    [ true ↦ λ f. absurd (omega arith) | false ↦ λ f. refl ] z

begins : (rest : List ℕ) → (prefix_len is_token_byte rest ≡ 0 → ⊥) → begins_token rest ≡ true
begins [] n = absurd (n refl)
begins (b ∷ bs) n = elim (is_token_byte b) as (λ (t : Bool). (cond t (1 + prefix_len is_token_byte bs) 0 ≡ 0 → ⊥) → t ≡ true)
    [ true ↦ λ f. refl | false ↦ λ f. absurd (f refl) ] n

-- ---- one item after another

no_token_left : (rest : List ℕ) → prefix_len is_blank rest ≡ 0 → prefix_len is_token_byte rest ≡ 0 → HasNoToken rest
unfolding items_from
no_token_left [] z t joint = ap (items_from (ExpectToken joint)) (no_sign [] refl)
no_token_left (b ∷ bs) z t joint = elim (eqb b 33) as (λ (u : Bool). eqb b 33 ≡ u → items_inverted joint (b ∷ bs) ≡ None) [
  | true ↦ λ e. ap (items_from (ExpectToken joint)) (not_first (b ∷ bs) bs (filled b bs) (eqb-true b 33 e) refl)
  | false ↦ λ e. ap (items_from (ExpectToken joint)) (operator b bs z (no_token b bs t) e).1
] refl

no_item_left : (rest : List ℕ) → prefix_len is_blank rest ≡ 0 → prefix_len is_token_byte rest ≡ 0 → begins_not rest ≡ false → HasNoItem rest
unfolding items_from
no_item_left [] z t n joint = ap (items_from (ExpectItem joint)) (no_sign [] refl)
no_item_left (b ∷ bs) z t n joint = ap (items_from (ExpectItem joint)) (operator b bs z (no_token b bs t) n).1

-- without a token after the blanks and the `!`, there is no item
pub none_first : (inverted : Bool) (text rest : List ℕ) → IsAfterNot inverted text rest → prefix_len is_blank rest ≡ 0 →
    prefix_len is_token_byte rest ≡ 0 → HasNoItem text
unfolding items_from
none_first true text rest s z t joint = ap (items_from (ExpectItem joint)) s ∙ no_token_left rest z t joint
none_first false text rest s z t joint = ap (items_from (ExpectItem joint)) s.0 ∙ no_item_left rest z t s.1 joint

pub token_next : (rest token after : List ℕ) → (prefix_len is_token_byte rest ≡ 0 → ⊥) → token ≡ take (prefix_len is_token_byte rest) rest →
    after ≡ drop (prefix_len is_token_byte rest) rest → signs_of rest ≡ Token token ∷ signs_of after
token_next rest token after n e f = rw (e, f) (signs_token rest (begins rest n))

-- with a token there, it is the first item's
pub some_first : (inverted : Bool) (text rest token after : List ℕ) → IsAfterNot inverted text rest →
    (prefix_len is_token_byte rest ≡ 0 → ⊥) → token ≡ take (prefix_len is_token_byte rest) rest →
    after ≡ drop (prefix_len is_token_byte rest) rest → (joint : Joint) →
    items_after joint text ≡ onto_items joint inverted token (items_left after)
unfolding items_from
some_first true text rest token after s n e f joint =
    ap (items_from (ExpectItem joint)) s ∙ ap (items_from (ExpectToken joint)) (token_next rest token after n e f)
some_first false text rest token after s n e f joint =
    ap (items_from (ExpectItem joint)) s.0 ∙ ap (items_from (ExpectItem joint)) (token_next rest token after n e f)

module _ (text rest : List ℕ) (skipped : signs_of text ≡ signs_of rest) where
  pub empty_next : length rest ≡ 0 → items_left text ≡ Some []
  unfolding items_from
  empty_next e = ap (items_from ExpectJoint) (skipped ∙ no_sign rest e)

  module _ (b : ℕ) (after : List ℕ) (is : rest ≡ b ∷ after) where
    here : signs_of text ≡ signs_of (b ∷ after)
    here = skipped ∙ ap signs_of is

    pub and_next : b ≡ 38 → items_left text ≡ items_after And after
    unfolding items_from
    and_next e = ap (items_from ExpectJoint) (here ∙ both_first (b ∷ after) after (filled b after) e refl)

    pub or_next : b ≡ 124 → items_left text ≡ items_after Or after
    unfolding items_from
    or_next e = ap (items_from ExpectJoint) (here ∙ either_first (b ∷ after) after (filled b after) e refl)

    pub fault_next : prefix_len is_blank rest ≡ 0 → (b ≡ 38 → ⊥) → (b ≡ 124 → ⊥) → items_left text ≡ None
    unfolding items_from
    fault_next z h k = elim (eqb b 33) as (λ (u : Bool). eqb b 33 ≡ u → items_left text ≡ None) [
      | true ↦ λ e. ap (items_from ExpectJoint) (here ∙ not_first (b ∷ after) after (filled b after) (eqb-true b 33 e) refl)
      | false ↦ λ e.
          let yes : is_token_byte b ≡ true = no_mark b after (sym (ap (prefix_len is_blank) is) ∙ z) (eqb-false b 33 e) h k in
          ap (items_from ExpectJoint) (here ∙ signs_token (b ∷ after) yes)
    ] refl

-- ---- the value of the items that are left

abbrev ItemList : Type 0
ItemList = List (ItemOf (List ℕ))

-- the value of a list, from the value of the items before
abbrev pub value_from : (List ℕ → Bool) → Bool → Option ItemList → Bool
value_from f value None = false
value_from f value (Some items) = folded_items f value items

pub value_whole : (f : List ℕ → Bool) (text : List ℕ) → value_from f false (items_after First text) ≡ list_value f (items_of text)
unfolding items_of
value_whole f text =
    elim (items_from (ExpectItem First) (signs_of text)) as
    (λ (o : Option ItemList). value_from f false o ≡ list_value f (items_or_fault o)) [
      | None ↦ refl
      | Some items ↦ folded_is_true f items
    ]
