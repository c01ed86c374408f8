-- The rule of a line, and the values of its fields.
use Rattle.std.proofs.Common.{◌≡◌, ◌∙◌, ◌&&◌, ℕ, Bool, true, false, not, List, [], ◌∷◌, map, cond, Option, Some, None, Result, Ok, Err, refl}
use Rattle.std.proofs.Common.{sym, ap, ap₂}
use Rattle.std.specs.Option.{option_map_or}
use Rattle.pam_tables.specs.times.inner.Checks.{cut_others, line_checked}
use Rattle.pam_tables.specs.times.Entry.{differ, entry_of, holds}
use Rattle.pam_tables.specs.times.Error.{Tells}
use Rattle.pam_tables.specs.times.inner.Error.{error_at}
use Rattle.pam_tables.specs.times.Logic.{ItemOf, is_true, is_true_of, item_value, items_of}
use Rattle.pam_tables.specs.times.inner.Logic.{list_value}
use Rattle.pam_tables.specs.times.Login.{LoginText, without_dev}
use Rattle.pam_tables.specs.times.Pattern.{has_two_stars, matches}
use Rattle.pam_tables.specs.times.Reading.{FieldTexts, cut_fields, each, each_of, entry_or_fault, fields_of, full_fields, has_empty, is_blank_text}
use Rattle.pam_tables.specs.times.Reading.{and_then, is_netgroup, name_of, semicolon_cut}
use Rattle.pam_tables.specs.times.Reading.{names_of, onto_list, rule_from, rule_of, rule_of_fields, times_of, with_meaning}
use Rattle.pam_tables.specs.times.inner.RuleLines.{fields_deny, name_holds, others_deny, time_holds, with_line}
use Rattle.pam_tables.specs.times.Times.{NameList, TimeList, Rule, denies, names_hold, times_hold}
use Rattle.pam_tables.specs.declared.times.error.TimeError.{TimeError}
use Rattle.pam_tables.specs.declared.times.entry.TimeEntry.{TimeEntry}
use Rattle.pam_tables.specs.declared.times.error.TimeFault.{TimeFault}
use Rattle.pam_tables.specs.declared.times.error.TimeFault.TheVariants.{MissingField, Netgroup, BadTimes, TwoWildcards, BadLogic, NulByte, Memory, TooLong}
use Rattle.pam_tables.specs.declared.times.reading.Field.{Field}
use Rattle.pam_tables.specs.declared.times.reading.Field.TheVariants.{Services, Terminals, Users}

-- ---- a rule has the number of its line, and the lists of its fields

pub record HasFields (number : ℕ) (f : FieldTexts) (rule : Rule) : Type 0 where
  pub line : rule.line ≡ number
  pub services : names_of Services f.services ≡ Ok rule.services
  pub terminals : names_of Terminals f.terminals ≡ Ok rule.terminals
  pub users : names_of Users f.users ≡ Ok rule.users
  pub times : times_of f.times ≡ Ok rule.times

module _ (number : ℕ) (rule : Rule) where
  abbrev RuleParts : Result NameList TimeFault → Result NameList TimeFault → Result NameList TimeFault → Result TimeList TimeFault → Type 0
  RuleParts a b c d = (rule.line ≡ number) × (a ≡ Ok rule.services) × (b ≡ Ok rule.terminals) × (c ≡ Ok rule.users) × (d ≡ Ok rule.times)

  parts : (a b c : Result NameList TimeFault) (d : Result TimeList TimeFault) → rule_from number a b c d ≡ Ok (Some rule) → RuleParts a b c d
  parts (Err fault) b c d h = absurd (cc)
  parts (Ok services) (Err fault) c d h = absurd (cc)
  parts (Ok services) (Ok terminals) (Err fault) d h = absurd (cc)
  parts (Ok services) (Ok terminals) (Ok users) (Err fault) h = absurd (cc)
  parts (Ok services) (Ok terminals) (Ok users) (Ok times) h =
      let same : record { line = number; services = services; terminals = terminals; users = users; times = times } ≡ rule = cc in (
        sym (ap (λ (r : Rule). r.line) same),
        ap (λ (r : Rule). Ok r.services) same,
        ap (λ (r : Rule). Ok r.terminals) same,
        ap (λ (r : Rule). Ok r.users) same,
        ap (λ (r : Rule). Ok r.times) same,
      )

  of_fields : (o : Option FieldTexts) → rule_of_fields number o ≡ Ok (Some rule) → (f : FieldTexts) × (o ≡ Some f) × HasFields number f rule
  of_fields None h = absurd (cc)
  of_fields (Some f) h =
      let p = parts (names_of Services f.services) (names_of Terminals f.terminals) (names_of Users f.users) (times_of f.times) h in
      (f, refl, record { line = p.0; services = p.1; terminals = p.2; users = p.3; times = p.4 })

  of_full : (o : Option FieldTexts) (f : FieldTexts) → full_fields o ≡ Some f → o ≡ Some f
  of_full None f h = absurd (cc)
  of_full (Some g) f h =
      elim (has_empty g) as (λ (t : Bool). cond t None (Some g) ≡ Some f → Some g ≡ Some f) [ true ↦ λ e. absurd (cc) | false ↦ λ e. e ] h

  not_blank : (t : Bool) (r : Result (Option Rule) TimeFault) → cond t (Ok None) r ≡ Ok (Some rule) → r ≡ Ok (Some rule)
  not_blank true r h = absurd (cc)
  not_blank false r h = h

  pub rule_fields : (line : List ℕ) → rule_of number line ≡ Ok (Some rule) → (f : FieldTexts) × (cut_fields line ≡ Some f) × HasFields number f rule
  unfolding rule_of fields_of
  rule_fields line h =
      let p = of_fields (fields_of line) (not_blank (is_blank_text line) (rule_of_fields number (fields_of line)) h) in
      (p.0, of_full (cut_fields line) p.0 p.1, p.2)

pub number_kept : (number : ℕ) (line : List ℕ) (rule : Rule) → rule_of number line ≡ Ok (Some rule) → rule.line ≡ number
number_kept number line rule h = (rule_fields number rule line h).2.line

-- ---- the value of a list, from the texts of its tokens

module _ {B : Type 0} (meaning : List ℕ → Result B TimeFault) (g : List ℕ → Bool) (f : B → Bool)
    (agree : (t : List ℕ) (x : B) → meaning t ≡ Ok x → g t ≡ f x) where
  one_value : (item : ItemOf (List ℕ)) (items : List (ItemOf (List ℕ))) (m : Result B TimeFault) (others : Result (List (ItemOf B)) TimeFault) →
      (xs : List (ItemOf B)) → onto_list (with_meaning item m) others ≡ Ok xs → ((x : B) → m ≡ Ok x → g item.2 ≡ f x) →
      ((ys : List (ItemOf B)) → others ≡ Ok ys → map (item_value g) items ≡ map (item_value f) ys) →
      map (item_value g) (item ∷ items) ≡ map (item_value f) xs
  one_value item items (Err fault) others xs h one more = absurd (cc)
  one_value item items (Ok x) (Err fault) xs h one more = absurd (cc)
  one_value item items (Ok x) (Ok ys) xs h one more =
      let same : (item.0, item.1, x) ∷ ys ≡ xs = cc in
      ap₂ (λ b vs. (item.0, differ item.1 b) ∷ vs) (one x refl) (more ys refl) ∙ ap (map (item_value f)) same

  each_value : (items : List (ItemOf (List ℕ))) (xs : List (ItemOf B)) → each meaning items ≡ Ok xs →
      map (item_value g) items ≡ map (item_value f) xs
  each_value [] xs h = let same : [] ≡ xs = cc in ap (map (item_value f)) same
  each_value (item ∷ items) xs h =
      one_value item items (meaning item.2) (each meaning items) xs h (agree item.2) (each_value items)

  value_of_each : (items : Result (List (ItemOf (List ℕ))) TimeFault) (xs : List (ItemOf B)) → each_of meaning items ≡ Ok xs →
      list_value g items ≡ is_true f xs
  value_of_each (Err fault) xs h = absurd (cc)
  value_of_each (Ok items) xs h = ap is_true_of (each_value items xs h)

one_name : (a b : Bool) (t x : List ℕ) (e f : TimeFault) → cond a (Err e) (cond b (Err f) (Ok t)) ≡ Ok x → t ≡ x
one_name true b t x e f h = absurd (cc)
one_name false true t x e f h = absurd (cc)
one_name false false t x e f h = cc

same_name : (field : Field) (word t x : List ℕ) → name_of field t ≡ Ok x → matches t word ≡ matches x word
same_name field word t x h = ap (λ n. matches n word) (one_name (is_netgroup field t) (has_two_stars t) t x Netgroup TwoWildcards h)

same_entry : (day minute : ℕ) (o : Option TimeEntry) (x : TimeEntry) → entry_or_fault o ≡ Ok x →
    option_map_or (λ e. holds e day minute) o false ≡ holds x day minute
same_entry day minute None x h = absurd (cc)
same_entry day minute (Some entry) x h = let same : entry ≡ x = cc in ap (λ e. holds e day minute) same

names_value : (field : Field) (word text : List ℕ) (names : NameList) → names_of field text ≡ Ok names → name_holds text word ≡ names_hold names word
unfolding names_of
names_value field word text names h =
    value_of_each (name_of field) (λ t. matches t word) (λ t. matches t word) (same_name field word) (items_of text) names h

times_value : (day minute : ℕ) (text : List ℕ) (times : TimeList) → times_of text ≡ Ok times → time_holds text day minute ≡ times_hold times day minute
unfolding times_of
times_value day minute text times h =
    value_of_each (λ t. entry_or_fault (entry_of t)) (λ t. option_map_or (λ e. holds e day minute) (entry_of t) false) (λ e. holds e day minute)
    (λ t x. same_entry day minute (entry_of t) x) (items_of text) times h

-- ---- what a line denies

module _ (number : ℕ) (rule : Rule) (line : List ℕ) (is : rule_of number line ≡ Ok (Some rule)) (login : LoginText) (day minute : ℕ) where
  of_parts : (f : FieldTexts) → HasFields number f rule → fields_deny f login day minute ≡ denies rule login day minute
  of_parts f h =
      rw (
        names_value Services login.service f.services rule.services h.services,
        names_value Terminals (without_dev login.tty) f.terminals rule.terminals h.terminals,
        names_value Users login.user f.users rule.users h.users,
        times_value day minute f.times rule.times h.times,
      ) refl

  pub line_denies : (f : FieldTexts) (denied : Bool) → Some f ≡ cut_fields line → denied ≡ fields_deny f login day minute →
      denied ≡ denies rule login day minute
  line_denies f denied e h =
      let p = rule_fields number rule line is in
      let same : f ≡ p.0 = some_is f p.0 (e ∙ p.1) in
      h ∙ ap (λ (g : FieldTexts). fields_deny g login day minute) same ∙ of_parts p.0 p.2
    where
      some_is : (a b : FieldTexts) → Some a ≡ Some b → a ≡ b
      some_is a b e = cc

  -- the services are the text before the first semicolon
  services_of : (a : List ℕ) (b c : Option (List ℕ × List ℕ)) (f : FieldTexts) →
      and_then b (λ x. and_then (semicolon_cut x.1) (λ y. Some (record { services = a; terminals = x.0; users = y.0; times = y.1 }))) ≡ Some f →
      f.services ≡ a
  services_of a None c f h = absurd (cc)
  services_of a (Some x) c f h = go (semicolon_cut x.1) h
    where
      go : (o : Option (List ℕ × List ℕ)) →
          and_then o (λ y. Some (record { services = a; terminals = x.0; users = y.0; times = y.1 })) ≡ Some f → f.services ≡ a
      go None e = absurd (cc)
      go (Some y) e =
          let same : record { services = a; terminals = x.0; users = y.0; times = y.1 } ≡ f = cc in sym (ap (λ (g : FieldTexts). g.services) same)

  module _ (services rest : List ℕ) (e : Some (services, rest) ≡ semicolon_cut line) where
    pub same_fields : cut_others services rest ≡ cut_fields line
    same_fields = rw (← e) refl

    first_field : (f : FieldTexts) → cut_fields line ≡ Some f → f.services ≡ services
    first_field f h = services_of services (semicolon_cut rest) None f (rw (← e) at h)

    serves : (f : FieldTexts) (t : Bool) → cut_fields line ≡ Some f → name_holds services login.service ≡ t → name_holds f.services login.service ≡ t
    serves f t h k = ap (λ (text : List ℕ). name_holds text login.service) (first_field f h) ∙ k

    pub not_served : name_holds services login.service ≡ false → false ≡ denies rule login day minute
    not_served k =
        let p = rule_fields number rule line is in
        sym (ap (λ (t : Bool). (t && (name_holds p.0.terminals (without_dev login.tty) && name_holds p.0.users login.user))
        && not (time_holds p.0.times day minute)) (serves p.0 false p.1 k)) ∙ of_parts p.0 p.2

    pub others_decide : (f : FieldTexts) (denied : Bool) → name_holds services login.service ≡ true → Some f ≡ cut_fields line →
        denied ≡ others_deny f login day minute → denied ≡ denies rule login day minute
    others_decide f denied k g h =
        line_denies f denied g (h ∙ sym (ap (λ (t : Bool). (t && (name_holds f.terminals (without_dev login.tty) && name_holds f.users login.user))
        && not (time_holds f.times day minute)) (serves f true (sym g) k)))

  pub no_cut : None ≡ semicolon_cut line → ⊥
  no_cut e = let p = rule_fields number rule line is in none_is p.0 (rw (← e) at p.1)
    where
      none_is : (f : FieldTexts) → ◌≡◌ {A = Option FieldTexts} None (Some f) → ⊥
      none_is f e = absurd (cc)

  pub has_cut : None ≡ cut_fields line → ⊥
  has_cut e = let p = rule_fields number rule line is in none_some p.0 (e ∙ p.1)
    where
      none_some : (f : FieldTexts) → None ≡ Some f → ⊥
      none_some f e = absurd (cc)

-- whether a line has a rule is what its check says
pub rule_there : (r : Result (Option Rule) TimeFault) (b : Bool) → Ok b ≡ line_checked r → b ≡ true → (rule : Rule) × (r ≡ Ok (Some rule))
rule_there (Ok (Some rule)) b h e = (rule, refl)
rule_there (Ok None) b h e = absurd (cc)
rule_there (Err fault) b h e = absurd (cc)

error_told : (fault : TimeFault) (line : ℕ) (meant : Result (List Rule) TimeError) → meant ≡ Err (record { fault = fault; line = line }) →
    Tells (error_at fault line) meant
error_told MissingField line meant h = h
error_told Netgroup line meant h = h
error_told BadTimes line meant h = h
error_told TwoWildcards line meant h = h
error_told BadLogic line meant h = h
error_told NulByte line meant h = h
error_told Memory line meant h = refl
error_told TooLong line meant h = h

line_fault : (rules : List Rule) (number : ℕ) (r : Result (Option Rule) TimeFault) (fault : TimeFault) → Err fault ≡ line_checked r →
    with_line rules number r ≡ Err (record { fault = fault; line = number })
line_fault rules number (Ok None) fault h = absurd (cc)
line_fault rules number (Ok (Some rule)) fault h = absurd (cc)
line_fault rules number (Err other) fault h = let same : fault ≡ other = cc in ap (λ (f : TimeFault). Err (record { fault = f; line = number })) (sym same)

pub line_told : (rules : List Rule) (number : ℕ) (r : Result (Option Rule) TimeFault) (fault : TimeFault) → Err fault ≡ line_checked r →
    Tells (error_at fault number) (with_line rules number r)
line_told rules number r fault h = error_told fault number _ (line_fault rules number r fault h)
