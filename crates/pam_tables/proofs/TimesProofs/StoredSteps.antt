-- Lines that have a rule, one after another in a text.
use Rattle.std.proofs.Common.{◌≡◌, ◌∙◌, ◌++◌, ◌+◌, ◌<◌, ◌≤◌, ◌&&◌, ◌==◌, ℕ, suc, get_or, Bool, true, false, List, [], ◌∷◌, length, take, drop}
use Rattle.std.proofs.Common.{cond, nat_le, Option, Some, None}
use Rattle.std.proofs.Common.{Result, Ok, Err, refl, sym, ap, ap₂, arith, length-append}
use Rattle.std.proofs.Math.Seq.{drop-cons, drop-length}
use Rattle.std.proofs.lemmas.List.{take-append-le, drop-append-le, drop_all, take_all}
use Rattle.std.proofs.lemmas.Bool.{eqb-true, leb-true, le-leb}
use Rattle.pam_tables.specs.times.Login.{LoginText}
use Rattle.pam_tables.specs.times.Reading.{rule_of}
use Rattle.pam_tables.specs.times.RuleLines.{are_rules, has_rule, onto, rules_at}
use Rattle.pam_tables.specs.times.Times.{Rule, answer_at, denies}
use Rattle.pam_tables.specs.declared.times.error.TimeFault.{TimeFault}
use Rattle.pam_tables.specs.declared.times.rule_lines.RuleLine.{RuleLine}
use Rattle.pam_tables.specs.declared.times.table.TimeAnswer.TheVariants.{Granted, Denied}
use Rattle.pam_tables.proofs.TimesProofs.RuleSteps.{number_kept}

both : (a b : Bool) → (a && b) ≡ true → (a ≡ true) × (b ≡ true)
both true b h = (refl, h)
both false b h = absurd (cc)

all_three : (a b c : Bool) → a ≡ true → b ≡ true → c ≡ true → (a && (b && c)) ≡ true
all_three a b c e f g = ap (λ x. x && (b && c)) e ∙ ap (λ x. x && c) f ∙ g

within : (n m : ℕ) → nat_le n m ≡ true → n ≤ m
within n m h = leb-true n m h

le_is : (n m : ℕ) → n ≤ m → nat_le n m ≡ true
le_is n m h = le-leb n m h

le_self : (n : ℕ) → nat_le n n ≡ true
le_self n = le_is n n (omega arith)

longer : (n : ℕ) (text more : List ℕ) → n ≤ length text → nat_le n (length (text ++ more)) ≡ true
longer n text more h = le_is n (length (text ++ more)) (omega (arith, h, length-append text more))

no_bytes : (text : List ℕ) → (length text == 0) ≡ true → text ≡ []
no_bytes [] h = refl
no_bytes (b ∷ bs) h = let none : length (b ∷ bs) ≡ 0 = eqb-true (length (b ∷ bs)) 0 h in absurd (omega (arith, none))

-- ---- the first of the lines

module _ (text : List ℕ) (l : RuleLine) (ls : List RuleLine) (sound : are_rules text (l ∷ ls) ≡ true) where
  parts : (nat_le l.len (length text) ≡ true) × ((has_rule (rule_of l.number (take l.len text)) && are_rules (drop l.len text) ls) ≡ true)
  unfolding are_rules
  parts = both (nat_le l.len (length text)) (has_rule (rule_of l.number (take l.len text)) && are_rules (drop l.len text) ls) sound

  fits : l.len ≤ length text
  fits = within l.len (length text) parts.0

  has : has_rule (rule_of l.number (take l.len text)) ≡ true
  has = (both (has_rule (rule_of l.number (take l.len text))) (are_rules (drop l.len text) ls) parts.1).0

  others : are_rules (drop l.len text) ls ≡ true
  others = (both (has_rule (rule_of l.number (take l.len text))) (are_rules (drop l.len text) ls) parts.1).1

-- ---- one more line

onto_append : (r : Result (Option Rule) TimeFault) (rules more : List Rule) → onto r (rules ++ more) ≡ onto r rules ++ more
onto_append (Ok (Some rule)) rules more = refl
onto_append (Ok None) rules more = refl
onto_append (Err fault) rules more = refl

module _ (number : ℕ) (more : List ℕ) (rule : Rule) (is : rule_of number more ≡ Ok (Some rule)) where
  abbrev pub added : List RuleLine → List RuleLine
  added ls = ls ++ (record { number = number; len = length more }) ∷ []

  whole : take (length more) more ≡ more
  whole = take_all (length more) more (omega arith)

  only_rule : rules_at more (added []) ≡ rule ∷ []
  unfolding rules_at
  only_rule = ap (λ (bs : List ℕ). onto (rule_of number bs) []) whole ∙ ap (λ r. onto r []) is

  only_sound : are_rules more (added []) ≡ true
  unfolding are_rules
  only_sound =
      all_three (nat_le (length more) (length more)) (has_rule (rule_of number (take (length more) more))) (length (drop (length more) more) == 0)
      (le_self (length more)) (ap (λ (bs : List ℕ). has_rule (rule_of number bs)) whole ∙ ap has_rule is)
      (ap (λ (bs : List ℕ). length bs == 0) (drop-length more))

  pub rules_added : (text : List ℕ) (ls : List RuleLine) → are_rules text ls ≡ true → rules_at (text ++ more) (added ls) ≡ rules_at text ls ++ rule ∷ []
  unfolding are_rules rules_at
  rules_added text [] h = ap (λ (bs : List ℕ). rules_at (bs ++ more) (added [])) (no_bytes text h) ∙ only_rule
  rules_added text (l ∷ ls) h =
      ap₂ (λ (bs cs : List ℕ). onto (rule_of l.number bs) (rules_at cs (added ls))) (take-append-le l.len text more (fits text l ls h))
      (drop-append-le l.len text more (fits text l ls h))
      ∙ ap (onto (rule_of l.number (take l.len text))) (rules_added (drop l.len text) ls (others text l ls h))
      ∙ onto_append (rule_of l.number (take l.len text)) (rules_at (drop l.len text) ls) (rule ∷ [])

  pub are_added : (text : List ℕ) (ls : List RuleLine) → are_rules text ls ≡ true → are_rules (text ++ more) (added ls) ≡ true
  unfolding are_rules
  are_added text [] h = ap (λ (bs : List ℕ). are_rules (bs ++ more) (added [])) (no_bytes text h) ∙ only_sound
  are_added text (l ∷ ls) h =
      all_three (nat_le l.len (length (text ++ more))) (has_rule (rule_of l.number (take l.len (text ++ more))))
      (are_rules (drop l.len (text ++ more)) (added ls))
      (longer l.len text more (fits text l ls h))
      (ap (λ (bs : List ℕ). has_rule (rule_of l.number bs)) (take-append-le l.len text more (fits text l ls h)) ∙ has text l ls h)
      (ap (λ (bs : List ℕ). are_rules bs (added ls)) (drop-append-le l.len text more (fits text l ls h))
      ∙ are_added (drop l.len text) ls (others text l ls h))

-- ---- the answer, line by line

-- the line at an index, and the lines after it, of lines that are seen as a slice
module _ (lines seen : List RuleLine) (same : seen ≡ lines) (i : ℕ) where
  pub next_line : (d : RuleLine) → i < length seen → drop i lines ≡ get_or seen i d ∷ drop (i + 1) lines
  next_line d h =
      let e : suc i ≡ i + 1 = omega arith in
      sym (ap (λ (ls : List RuleLine). drop i ls) same) ∙ drop-cons seen i d h ∙ ap (λ (k : ℕ). get_or seen i d ∷ drop k seen) e
      ∙ ap (λ (ls : List RuleLine). get_or seen i d ∷ drop (i + 1) ls) same

  pub no_line : length seen ≤ i → drop i lines ≡ []
  no_line h = sym (ap (λ (ls : List RuleLine). drop i ls) same) ∙ drop_all i seen h

found : (r : Result (Option Rule) TimeFault) → has_rule r ≡ true → (rule : Rule) × (r ≡ Ok (Some rule))
found (Ok (Some rule)) h = (rule, refl)
found (Ok None) h = absurd (cc)
found (Err fault) h = absurd (cc)

module _ (text : List ℕ) (all : List RuleLine) (l : RuleLine) (ls : List RuleLine) (first : all ≡ l ∷ ls) (sound : are_rules text all ≡ true) where
  these : are_rules text (l ∷ ls) ≡ true
  these = sym (ap (are_rules text) first) ∙ sound

  pub line_fits : l.len ≤ length text
  line_fits = fits text l ls these

  module _ (bytes after : List ℕ) (front : bytes ≡ take l.len text) (back : after ≡ drop l.len text) where
    pub rule_here : (rule : Rule) × (rule_of l.number bytes ≡ Ok (Some rule))
    rule_here = found _ (ap (λ (bs : List ℕ). has_rule (rule_of l.number bs)) front ∙ has text l ls these)

    pub sound_after : are_rules after ls ≡ true
    sound_after = ap (λ (bs : List ℕ). are_rules bs ls) back ∙ others text l ls these

    rules_here : rules_at text all ≡ rule_here.0 ∷ rules_at after ls
    unfolding rules_at
    rules_here =
        ap (rules_at text) first
        ∙ ap₂ (λ (bs cs : List ℕ). onto (rule_of l.number bs) (rules_at cs ls)) (sym front) (sym back)
        ∙ ap (λ r. onto r (rules_at after ls)) rule_here.1

    module _ (login : LoginText) (day minute : ℕ) (denied : Bool)
        (is : (number : ℕ) (rule : Rule) → rule_of number bytes ≡ Ok (Some rule) → denied ≡ denies rule login day minute) where
      decided : (b : Bool) → denied ≡ b → cond b (Denied rule_here.0.line) (answer_at (rules_at after ls) login day minute)
          ≡ answer_at (rules_at text all) login day minute
      decided b h =
          sym (ap (λ (rs : List Rule). answer_at rs login day minute) rules_here
          ∙ ap (λ (t : Bool). cond t (Denied rule_here.0.line) (answer_at (rules_at after ls) login day minute))
          (sym (is l.number rule_here.0 rule_here.1) ∙ h))

      pub denied_here : denied ≡ true → Denied l.number ≡ answer_at (rules_at text all) login day minute
      denied_here h = ap Denied (sym (number_kept l.number bytes rule_here.0 rule_here.1)) ∙ decided true h

      pub not_here : denied ≡ false → answer_at (rules_at after ls) login day minute ≡ answer_at (rules_at text all) login day minute
      not_here h = decided false h

pub none_denies : (login : LoginText) (day minute : ℕ) (text : List ℕ) (all : List RuleLine) → all ≡ [] →
    Granted ≡ answer_at (rules_at text all) login day minute
unfolding rules_at
none_denies login day minute text all e = sym (ap (λ (ls : List RuleLine). answer_at (rules_at text ls) login day minute) e)
