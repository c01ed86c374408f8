-- The rules and the lines of policies, one by one.
use Rattle.std.proofs.Common.{◌≡◌, ◌∙◌, ◌⊎◌, ◌≤◌, ℕ, List, [], ◌∷◌, ◌++◌, ap, append-nil, append_assoc, inl, inr, length, map, refl, sym, take}
use Rattle.std.proofs.lemmas.List.Folds.{flat_map-map}
use Rattle.std.proofs.lemmas.List.{length-map, map-append, take_all}
use Rattle.std.specs.List.{flat_map, zip}
use Rattle.pam_policy.specs.declared.host.finding.Finding.{Finding}
use Rattle.pam_policy.specs.declared.host.report.RuleReport.{RuleReport}
use Rattle.pam_policy.specs.declared.text.rule.Rule.{Rule}
use Rattle.pam_policy.specs.host.Findings.{FindingText, finding_view, findings_of}
use Rattle.pam_render.specs.declared.parts.check.Counts.{Counts}
use Rattle.pam_render.specs.declared.parts.policy.told.Told.{Told}
use Rattle.pam_render.specs.declared.parts.policy.told.ToldFinding.{ToldFinding}
use Rattle.pam_render.specs.declared.parts.policy.told.ToldRule.{ToldRule}
use Rattle.pam_render.specs.parts.Policy as spec
use Rattle.pam_render.specs.parts.PolicyView.{rule_view, told_view}

-- RULES

-- one more rule is told, of those that are left
pub rule-more : (name : List ℕ) (before after : List ToldRule) (rule : ToldRule) (all : List spec.ToldRule) (rules rules_left : List Rule)
    (reports reports_left : List RuleReport) (one : Rule) (report : RuleReport) → after ≡ before ++ rule ∷ [] → rules ≡ one ∷ rules_left
    → reports ≡ report ∷ reports_left → rule_view rule ≡ spec.told_rule name (one, report)
    → map rule_view before ++ map (spec.told_rule name) (zip rules reports) ≡ all
    → map rule_view after ++ map (spec.told_rule name) (zip rules_left reports_left) ≡ all
rule-more name before after rule all rules rules_left reports reports_left one report pushed e f same h =
    let left = map (spec.told_rule name) (zip rules_left reports_left) in
    ap (λ (l : List ToldRule). map rule_view l ++ left) pushed
    ∙ ap (λ (l : List spec.ToldRule). l ++ left) (map-append rule_view before (rule ∷ []))
    ∙ ap (λ (r : spec.ToldRule). (map rule_view before ++ r ∷ []) ++ left) same
    ∙ append_assoc (map rule_view before) (spec.told_rule name (one, report) ∷ []) left
    ∙ ap (λ (l : List RuleReport). map rule_view before ++ map (spec.told_rule name) (zip (one ∷ rules_left) l)) (sym f)
    ∙ ap (λ (l : List Rule). map rule_view before ++ map (spec.told_rule name) (zip l reports)) (sym e) ∙ h

no-second : (rules : List Rule) (reports : List RuleReport) → reports ≡ [] → zip rules reports ≡ []
no-second [] reports e = refl
no-second (rule ∷ rules) reports e = ap (zip (rule ∷ rules)) e

-- no rule is left, or no report
pub rules-all : (name : List ℕ) (told : List spec.ToldRule) (all : List spec.ToldRule) (rules : List Rule) (reports : List RuleReport)
    → (rules ≡ []) ⊎ (reports ≡ []) → told ++ map (spec.told_rule name) (zip rules reports) ≡ all → told ≡ all
rules-all name told all rules reports (inl e) h =
    sym (append-nil told) ∙ ap (λ (l : List Rule). told ++ map (spec.told_rule name) (zip l reports)) (sym e) ∙ h
rules-all name told all rules reports (inr e) h =
    sym (append-nil told) ∙ ap (λ (l : List (Rule × RuleReport)). told ++ map (spec.told_rule name) l) (sym (no-second rules reports e)) ∙ h

-- FINDINGS

seen-twice : {A B C : Type 0} (other : B → C) (one : A → B) (xs : List A) → map (λ x. other (one x)) xs ≡ map other (map one xs)
seen-twice other one [] = refl
seen-twice {C} other one (x ∷ xs) = ap (λ (l : List C). other (one x) ∷ l) (seen-twice other one xs)

-- all findings of a rule are told
pub found-all : (host : spec.Host) (rule : spec.ToldRule) (found : List ToldFinding) (before : List spec.ToldFinding) (read findings : List Finding) (i : ℕ)
    → length read ≤ i → read ≡ findings → map finding_view findings ≡ findings_of rule.report
    → map told_view found ≡ before ++ map (λ finding. spec.told_finding host rule (finding_view finding)) (take i read)
    → map told_view found ≡ before ++ spec.found_of_rule host rule
found-all host rule found before read findings i all same view h =
    let told = spec.told_finding host rule in
    h ∙ ap (λ (l : List Finding). before ++ map (λ finding. told (finding_view finding)) l) (take_all i read all ∙ same)
    ∙ ap (λ (l : List spec.ToldFinding). before ++ l) (seen-twice told finding_view findings)
    ∙ ap (λ (l : List FindingText). before ++ map told l) view

-- those of all rules
pub found-of-all : (host : spec.Host) (found : List ToldFinding) (rules : List ToldRule) (i : ℕ) → length rules ≤ i
    → map told_view found ≡ flat_map (λ rule. spec.found_of_rule host (rule_view rule)) (take i rules)
    → map told_view found ≡ spec.found_of host (map rule_view rules)
found-of-all host found rules i all h =
    h ∙ ap (flat_map (λ rule. spec.found_of_rule host (rule_view rule))) (take_all i rules all)
    ∙ sym (flat_map-map (spec.found_of_rule host) rule_view rules)

-- LINES

-- if this is the text of a line
module _ (line : spec.Line → List ℕ) where
  pub last-is : (rules : List ToldRule) (found : List ToldFinding) (stacks count : ℕ) (counts : Counts) → count ≡ length rules
      → counts ≡ spec.counts_of (map told_view found)
      → line (spec.Last count stacks counts) ≡ line (spec.Last (length (map rule_view rules)) stacks (spec.counts_of (map told_view found)))
  last-is rules found stacks count counts e f = rw (e ∙ sym (length-map rules rule_view), f) refl

  pub told-are : (host : spec.Host) (told : Told) (found found_again : List ToldFinding) (rules rules_again : List ToldRule) → found ≡ told.found.items
      → rules ≡ told.rules.items → found_again ≡ told.found.items → rules_again ≡ told.rules.items
      → spec.found_lines line host (map told_view found) ++ spec.rule_lines line (map rule_view rules)
      ++ line (spec.Last (length (map rule_view rules_again)) told.stacks (spec.counts_of (map told_view found_again)))
      ≡ spec.lines_of line host (map rule_view told.rules.items) (map told_view told.found.items) told.stacks
  told-are host told found found_again rules rules_again e f g h = rw (e, f, g, h) refl
