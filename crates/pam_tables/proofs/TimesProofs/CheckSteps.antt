-- The first fault of a list, item by item.
use Rattle.std.proofs.Common.{◌≡◌, ◌∙◌, ◌+◌, ◌&&◌, ◌||◌, ℕ, Bool, true, false, not, List, [], ◌∷◌, codes, cond, drop, eqb, length, nat_lt, take, Option}
use Rattle.std.proofs.Common.{Some, None, Result, Ok, Err, arith, refl, sym, ap}
use Rattle.std.proofs.lemmas.Bool.{eqb-true}
use Rattle.std.proofs.lemmas.Bool.Decides.{nat_tests}
use Rattle.std.specs.List.{prefix_len}
use Rattle.std.specs.Option.{option_map}
use Rattle.pam_codes.specs.Tokens.{is_blank}
use Rattle.pam_text.specs.Cut.{is_among}
use Rattle.pam_tables.specs.times.inner.Checks.{checked, fields_checked, first_fault, line_checked, list_checked, token_checked}
use Rattle.pam_tables.specs.times.Entry.{entry_of}
use Rattle.pam_tables.specs.times.inner.Items.{IsFirstItem, items_after, items_left}
use Rattle.pam_tables.specs.times.Logic.{ItemOf, SignText, Not, Join, Token, ExpectItem, items_from, items_of, items_or_fault, onto_items, signs_of}
use Rattle.pam_tables.specs.declared.times.logic.Item.{Item}
use Rattle.pam_tables.specs.times.Reading.{FieldTexts, and_then, cut_fields, each, each_of, entry_or_fault, fields_of, full_fields, has_empty, is_blank_text}
use Rattle.pam_tables.specs.times.Reading.{name_of, names_of, onto_list, rule_from, rule_of, rule_of_fields, semicolon_cut}
use Rattle.pam_tables.specs.times.Reading.{times_of, with_meaning}
use Rattle.pam_tables.specs.times.Times.{NameList, TimeList}
use Rattle.pam_tables.specs.declared.times.error.TimeFault.{TimeFault}
use Rattle.pam_tables.specs.declared.times.error.TimeFault.TheVariants.{BadLogic, MissingField}
use Rattle.pam_tables.specs.declared.times.logic.Joint.{Joint}
use Rattle.pam_tables.specs.declared.times.logic.Joint.TheVariants.{First}
use Rattle.pam_tables.specs.declared.times.reading.Field.{Field}
use Rattle.pam_tables.specs.declared.times.reading.Field.TheVariants.{Services, Terminals, Users, Times}
use Rattle.pam_tables.proofs.TimesProofs.LogicSteps.{no_sign, signs_blank}

abbrev Items : Type 0
Items = List (ItemOf (List ℕ))

abbrev Checked : Type 0
Checked = Result (Unit {0}) TimeFault

-- the first fault of the tokens of items
abbrev pub all_checked : (List ℕ → Checked) → Items → Checked
all_checked check [] = Ok tt
all_checked check (item ∷ items) = first_fault (check item.2) (all_checked check items)

-- the first fault of a list, from that of the tokens before
abbrev pub fault_from : (List ℕ → Checked) → Checked → Option Items → Checked
fault_from check before None = Err BadLogic
fault_from check before (Some items) = first_fault before (all_checked check items)

-- ---- the faults of a list are those of its tokens

one_checked : {B : Type 0} (item : ItemOf (List ℕ)) (x : Result B TimeFault) (others : Result (List (ItemOf B)) TimeFault) →
    checked (onto_list (with_meaning item x) others) ≡ first_fault (checked x) (checked others)
one_checked item (Ok x) (Ok xs) = refl
one_checked item (Ok x) (Err fault) = refl
one_checked item (Err fault) others = refl

each_checked : {B : Type 0} (meaning : List ℕ → Result B TimeFault) (items : Items) →
    checked (each meaning items) ≡ all_checked (λ t. checked (meaning t)) items
each_checked meaning [] = refl
each_checked meaning (item ∷ items) =
    one_checked item (meaning item.2) (each meaning items) ∙ ap (first_fault (checked (meaning item.2))) (each_checked meaning items)

each_fault : {B : Type 0} (meaning : List ℕ → Result B TimeFault) (o : Option Items) →
    checked (each_of meaning (items_or_fault o)) ≡ fault_from (λ t. checked (meaning t)) (Ok tt) o
each_fault meaning None = refl
each_fault meaning (Some items) = each_checked meaning items

pub list_fault : (field : Field) (text : List ℕ) →
    fault_from (token_checked field) (Ok tt) (items_from (ExpectItem First) (signs_of text)) ≡ list_checked field text
unfolding names_of times_of items_of
list_fault Services text = sym (each_fault (name_of Services) (items_from (ExpectItem First) (signs_of text)))
list_fault Terminals text = sym (each_fault (name_of Terminals) (items_from (ExpectItem First) (signs_of text)))
list_fault Users text = sym (each_fault (name_of Users) (items_from (ExpectItem First) (signs_of text)))
list_fault Times text = sym (each_fault (λ token. entry_or_fault (entry_of token)) (items_from (ExpectItem First) (signs_of text)))

-- ---- one item after another

pub token_fault : (check : List ℕ → Checked) (before : Checked) (joint : Joint) (is_inverted : Bool) (t : List ℕ) (o : Option Items) →
    fault_from check before (onto_items joint is_inverted t o) ≡ fault_from check (first_fault before (check t)) o
token_fault check before joint is_inverted t None = refl
token_fault check (Ok u) joint is_inverted t (Some items) = refl
token_fault check (Err fault) joint is_inverted t (Some items) = refl

-- the operator before the first item changes no fault
pub any_joint : (check : List ℕ → Checked) (before : Checked) (j k : Joint) (signs : List SignText) →
    fault_from check before (items_from (ExpectItem j) signs) ≡ fault_from check before (items_from (ExpectItem k) signs)
unfolding items_from
any_joint check before j k [] = refl
any_joint check before j k (Join joint ∷ signs) = refl
any_joint check before j k (Token t ∷ signs) = token_fault check before j false t _ ∙ sym (token_fault check before k false t _)
any_joint check before j k (Not ∷ []) = refl
any_joint check before j k (Not ∷ Not ∷ signs) = refl
any_joint check before j k (Not ∷ Join joint ∷ signs) = refl
any_joint check before j k (Not ∷ Token t ∷ signs) = token_fault check before j true t _ ∙ sym (token_fault check before k true t _)

module _ (field : Field) (before : Checked) (text : List ℕ) (all : Checked)
    (same : fault_from (token_checked field) before (items_after First text) ≡ all) where
  module _ (item : Item) (first : IsFirstItem text item) (more : Checked) (is : more ≡ first_fault before (token_checked field item.token.now)) where
    one_more : (left : Option Items) → items_left item.rest.now ≡ left → fault_from (token_checked field) more left ≡ all
    one_more left after =
        sym (ap (fault_from (token_checked field) more) after)
        ∙ ap (λ (c : Checked). fault_from (token_checked field) c (items_left item.rest.now)) is
        ∙ sym (token_fault (token_checked field) before First item.is_inverted item.token.now (items_left item.rest.now))
        ∙ sym (ap (fault_from (token_checked field) before) (first First)) ∙ same

    pub fault_next : (joint : Joint) (rest : List ℕ) → items_left item.rest.now ≡ items_after joint rest →
        fault_from (token_checked field) more (items_after First rest) ≡ all
    fault_next joint rest after =
        any_joint (token_checked field) more First joint (signs_of rest) ∙ one_more (items_after joint rest) after

-- ---- a blank field is no list, and a blank line has no field

both : (a b : Bool) → (a && b) ≡ true → (a ≡ true) × (b ≡ true)
both true b h = (refl, h)
both false b h = absurd (cc)

blank_signs : (text : List ℕ) → is_blank_text text ≡ true → signs_of text ≡ []
blank_signs [] h = no_sign [] refl
blank_signs (b ∷ bs) h = let p = both (is_blank b) (is_blank_text bs) h in signs_blank b bs p.0 ∙ blank_signs bs p.1

blank_list : (field : Field) (text : List ℕ) → is_blank_text text ≡ true → list_checked field text ≡ Err BadLogic
unfolding items_from
blank_list field text h =
    sym (list_fault field text)
    ∙ ap (λ (signs : List SignText). fault_from (token_checked field) (Ok tt) (items_from (ExpectItem First) signs)) (blank_signs text h)

full_list : (field : Field) (text : List ℕ) → list_checked field text ≡ Ok tt → is_blank_text text ≡ false
full_list field text h = elim (is_blank_text text) as (λ (t : Bool). is_blank_text text ≡ t → t ≡ false) [
  | true ↦ λ e. absurd (differ (sym (blank_list field text e) ∙ h))
  | false ↦ λ e. refl
] refl
  where
    differ : ◌≡◌ {A = Checked} (Err BadLogic) (Ok tt) → ⊥
    differ e = absurd (cc)

both_fine : (a b : Checked) → first_fault a b ≡ Ok tt → (a ≡ Ok tt) × (b ≡ Ok tt)
both_fine (Ok tt) b h = (refl, h)
both_fine (Err fault) b h = absurd (cc)

none_empty : (f : FieldTexts) → fields_checked f ≡ Ok tt → has_empty f ≡ false
none_empty f h =
    let a = both_fine _ _ h in
    let b = both_fine _ _ a.1 in
    let c = both_fine _ _ b.1 in
    rw (full_list Services f.services a.0, full_list Terminals f.terminals b.0, full_list Users f.users c.0, full_list Times f.times c.1) refl

no_semicolon : (b : ℕ) → is_blank b ≡ true → not (is_among (codes ";") b) ≡ true
unfolding is_among
no_semicolon b h = elim (eqb 59 b) as (λ (t : Bool). eqb 59 b ≡ t → not (t || false) ≡ true) [
  | true ↦ λ e. let same : 59 ≡ b = eqb-true 59 b e in absurd (unblank (ap is_blank same ∙ h))
  | false ↦ λ e. refl
] refl
  where
    unblank : is_blank 59 ≡ true → ⊥
    unblank e = absurd (cc)

past_blanks : (line : List ℕ) → is_blank_text line ≡ true → prefix_len (λ b. not (is_among (codes ";") b)) line ≡ length line
past_blanks [] h = refl
past_blanks (b ∷ bs) h =
    let p = both (is_blank b) (is_blank_text bs) h in
    let more : 1 + length bs ≡ length (b ∷ bs) = omega arith in
    ap (λ (t : Bool). cond t (1 + prefix_len (λ c. not (is_among (codes ";") c)) bs) 0) (no_semicolon b p.0)
    ∙ ap (λ (n : ℕ). 1 + n) (past_blanks bs p.1) ∙ more

none_after : {A B : Type 0} (f : A → Option B) (o : Option A) → o ≡ None → and_then o f ≡ None
none_after f None e = refl
none_after f (Some x) e = absurd (cc)

blank_uncut : (line : List ℕ) → is_blank_text line ≡ true → cut_fields line ≡ None
blank_uncut line h = none_after _ (semicolon_cut line) (uncut _ (past_blanks line h))
  where
    never : (n : ℕ) → nat_lt n n ≡ false
    never n = grind (arith, nat_tests)

    uncut : (n : ℕ) → n ≡ length line →
        option_map {U = List ℕ × List ℕ} (λ i. (take i line, drop (i + 1) line)) (cond (nat_lt n (length line)) (Some n) None) ≡ None
    uncut n e = rw e (rw (never (length line)) refl)

cut_full : (line : List ℕ) (f : FieldTexts) → Some f ≡ cut_fields line → is_blank_text line ≡ false
cut_full line f e = elim (is_blank_text line) as (λ (t : Bool). is_blank_text line ≡ t → t ≡ false) [
  | true ↦ λ h. absurd (differ (e ∙ blank_uncut line h))
  | false ↦ λ h. refl
] refl
  where
    differ : Some f ≡ None → ⊥
    differ g = absurd (cc)

-- ---- the fault of a line is the first of its fields

unfoldable yes : Checked → Result Bool TimeFault
yes (Ok u) = Ok true
yes (Err fault) = Err fault

rule_checked : (number : ℕ) (a b c : Result NameList TimeFault) (d : Result TimeList TimeFault) →
    line_checked (rule_from number a b c d) ≡ yes (first_fault (checked a) (first_fault (checked b) (first_fault (checked c) (checked d))))
unfolding yes
rule_checked number (Err fault) b c d = refl
rule_checked number (Ok services) (Err fault) c d = refl
rule_checked number (Ok services) (Ok terminals) (Err fault) d = refl
rule_checked number (Ok services) (Ok terminals) (Ok users) (Err fault) = refl
rule_checked number (Ok services) (Ok terminals) (Ok users) (Ok times) = refl

pub blank_line : (number : ℕ) (line : List ℕ) → is_blank_text line ≡ true → line_checked (rule_of number line) ≡ Ok false
unfolding rule_of
blank_line number line h = ap (λ (t : Bool). line_checked (cond t (Ok None) (rule_of_fields number (fields_of line)))) h

module _ (number : ℕ) (line : List ℕ) where
  filled_line : is_blank_text line ≡ false → (o : Option FieldTexts) → full_fields (cut_fields line) ≡ o →
      line_checked (rule_of number line) ≡ line_checked (rule_of_fields number o)
  unfolding rule_of fields_of
  filled_line full o e =
      ap (λ (t : Bool). line_checked (cond t (Ok None) (rule_of_fields number (full_fields (cut_fields line))))) full
      ∙ ap (λ (p : Option FieldTexts). line_checked (rule_of_fields number p)) e

  pub field_missing : is_blank_text line ≡ false → None ≡ cut_fields line → line_checked (rule_of number line) ≡ Err MissingField
  field_missing full e = filled_line full None (ap full_fields (sym e))

  module _ (f : FieldTexts) (is : Some f ≡ cut_fields line) where
    pub field_empty : has_empty f ≡ true → line_checked (rule_of number line) ≡ Err MissingField
    field_empty e = filled_line (cut_full line f is) None (ap full_fields (sym is) ∙ ap (λ (t : Bool). cond t None (Some f)) e)

    all_fields : has_empty f ≡ false → line_checked (rule_of number line) ≡ yes (fields_checked f)
    all_fields e =
        filled_line (cut_full line f is) (Some f) (ap full_fields (sym is) ∙ ap (λ (t : Bool). cond t None (Some f)) e)
        ∙ rule_checked number (names_of Services f.services) (names_of Terminals f.terminals) (names_of Users f.users) (times_of f.times)

    pub list_fails : (fault : TimeFault) → Err fault ≡ fields_checked f → has_empty f ≡ false → line_checked (rule_of number line) ≡ Err fault
    unfolding yes
    list_fails fault h e = all_fields e ∙ ap yes (sym h)

    pub none_fails : Ok tt ≡ fields_checked f → line_checked (rule_of number line) ≡ Ok true
    unfolding yes
    none_fails h = all_fields (none_empty f (sym h)) ∙ ap yes (sym h)
