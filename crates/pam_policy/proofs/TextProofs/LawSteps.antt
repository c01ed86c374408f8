-- The rules of a file are few.
use Rattle.std.proofs.Common.{◌≡◌, ◌+◌, ◌<◌, ◌≤◌, ℕ, Bool, true, false, List, [], ◌∷◌}
use Rattle.std.proofs.Common.{Option, Some, None, Result, Ok, Err, ap, arith, cond, length, nat_lt, refl}
use Rattle.std.specs.Option.{option_map_or}
use Rattle.std.proofs.lemmas.Bool.{ltb-true}
use Rattle.pam_tables.specs.Lines.{lines_from}
use Rattle.pam_text.specs.Source.{source_fault}
use Rattle.pam_text.specs.declared.source.SourceFault.{SourceFault}
use Rattle.pam_policy.specs.declared.text.error.PolicyError.{PolicyError}
use Rattle.pam_policy.specs.declared.text.error.PolicyFault.{PolicyFault}
use Rattle.pam_policy.specs.declared.text.error.PolicyFault.TheVariants.{TooManyRules}
use Rattle.pam_policy.specs.declared.text.policy.TheConstants.{MAX_RULES}
use Rattle.pam_policy.specs.text.Error.{source_error}
use Rattle.pam_policy.specs.text.Laws.{RulesAreFew}
use Rattle.pam_policy.specs.text.Policy.{counted_rule, onto_lines, onto_rules, rules_from, rules_of}
use Rattle.pam_policy.specs.text.Rules.{RuleText, rule_of}
use Rattle.pam_policy.specs.text.Words.{words_of}

-- the lines after one of which it is said
module _ (lines : List (ℕ × List ℕ)) (few : (b : ℕ) (rs : List RuleText) → b ≤ 1000 → rules_from lines b ≡ Ok rs → b + length rs ≤ 1000)
    (before : ℕ) (rules : List RuleText) (small : before ≤ 1000) (line : ℕ) where
  one_more : (rule : RuleText) (r : Result (List RuleText) PolicyError) → before < 1000 → rules_from lines (before + 1) ≡ r
      → onto_rules line (Ok rule) r ≡ Ok rules → before + length rules ≤ 1000
  one_more rule (Err error) below e h = absurd (cc)
  one_more rule (Ok more) below e h =
      let same : rule ∷ more ≡ rules = cc in
      let lengths : length (rule ∷ more) ≡ length rules = ap length same in
      let rest : (before + 1) + length more ≤ 1000 = few (before + 1) more (omega arith) e in
      omega arith

  with_rule : (r : Result RuleText PolicyFault) → before < 1000 → onto_rules line r (rules_from lines (before + 1)) ≡ Ok rules
      → before + length rules ≤ 1000
  with_rule (Err fault) below h = absurd (cc)
  with_rule (Ok rule) below h = one_more rule (rules_from lines (before + 1)) below refl h

  counted : (words : List (List ℕ)) (t : Bool) → nat_lt before MAX_RULES ≡ t
      → onto_rules line (cond t (rule_of line words) (Err TooManyRules)) (rules_from lines (before + 1)) ≡ Ok rules → before + length rules ≤ 1000
  counted words true e h = let below : before < 1000 = ltb-true _ _ e in with_rule (rule_of line words) below h
  counted words false e h = absurd (cc)

  at_words : (words : List (List ℕ)) → onto_lines before line words (rules_from lines) ≡ Ok rules → before + length rules ≤ 1000
  unfolding counted_rule
  at_words [] h = few before rules small h
  at_words (word ∷ words) h = counted (word ∷ words) (nat_lt before MAX_RULES) refl h

few_from : (lines : List (ℕ × List ℕ)) (before : ℕ) (rules : List RuleText) → before ≤ 1000 → rules_from lines before ≡ Ok rules
    → before + length rules ≤ 1000
unfolding rules_from
few_from [] before rules small h =
    let same : [] ≡ rules = cc in
    let lengths : 0 ≡ length rules = ap length same in
    omega arith
few_from (line ∷ lines) before rules small h = at_words lines (few_from lines) before rules small line.0 (words_of line.1) h

pub rules_are_few : RulesAreFew
unfolding rules_of
rules_are_few bytes before rules small h = by_source (source_fault bytes) h
  where
    by_source : (o : Option SourceFault)
        → option_map_or (λ fault. Err (source_error fault)) o (rules_from (lines_from 1 bytes) before) ≡ Ok rules → before + length rules ≤ 1000
    by_source (Some fault) g = absurd (cc)
    by_source None g = few_from (lines_from 1 bytes) before rules small g
