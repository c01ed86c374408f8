-- The findings of lines and of rules are in order, and so are all.
use Rattle.std.proofs.Common.{◌≡◌, inl, inr, ◌≤◌, ◌+◌, ◌||◌, ◌∙◌, ℕ, Bool, true, false, not, List, [], ◌∷◌, length, map, eqb, ap, sym}
use Rattle.std.proofs.Common.{refl, subst, arith}
use Rattle.pam_text.specs.Text.{text_lines, text_of}
use Rattle.pam_conf.specs.Words.{State, Between}
use Rattle.pam_conf.specs.declared.rule.Form.{Form}
use Rattle.pam_released.specs.Bracket.{state_after}
use Rattle.pam_released.specs.FindingLaws.{IsInOrder, Member}
use Rattle.pam_released.specs.Findings.{differences_at, findings_of, line_findings, line_tests, located, number_of}
use Rattle.pam_released.specs.Findings.{rule_differences, rule_findings, rule_tests, used_after}
use Rattle.pam_released.specs.Lines.{physical_lines}
use Rattle.pam_released.specs.declared.difference.Difference.{Difference}
use Rattle.pam_released.proofs.LineNumbers.{LinesRise, text_rises}
use Rattle.pam_released.proofs.Order.{all_pass, both_in_order, earlier, merge_in_order, numbers, rises, those_in_order}
use Rattle.pam_released.proofs.RowLemmas.{first_line, first_rule, from_lines, from_located, from_rules, no_lines, no_rules}

-- LINES

line_in_order : (n used : ℕ) (s : State) (line : List ℕ) (rest : List (List ℕ)) → IsInOrder (map (located n) (differences_at used s line rest))
unfolding differences_at rises number_of
line_in_order n used s line rest = those_in_order n 0 (line_tests used s line rest) refl

lines_in_order : (n used : ℕ) (s : State) (lines : List (List ℕ)) → IsInOrder (line_findings n used s lines)
lines_in_order n used s [] = subst IsInOrder (sym (no_lines n used s)) tt
lines_in_order n used s (line ∷ rest) =
    subst IsInOrder (sym (first_line n used s line rest)) (both_in_order (map (located n) (differences_at used s line rest))
    (line_findings (n + 1) (used_after used line) (state_after s line) rest) (line_in_order n used s line rest)
    (lines_in_order (n + 1) (used_after used line) (state_after s line) rest) (λ x y m k.
    let a = from_located x n (differences_at used s line rest) m in
    let b = from_lines (n + 1) (used_after used line) (state_after s line) rest y k in
    earlier x y (let j : y.line ≡ n + 1 + length b.front = b.number in omega (arith, a.0, j))))

-- no difference of a line has the number of one of a rule
is_of_rules : ℕ → Bool
is_of_rules k = eqb k 6 || eqb k 8

line_number : (used : ℕ) (s : State) (line : List ℕ) (rest : List (List ℕ)) (d : Difference) → Member d (differences_at used s line rest) →
    not (is_of_rules (number_of d)) ≡ true
unfolding differences_at numbers number_of is_of_rules
line_number used s line rest d m = all_pass (λ k. not (is_of_rules k)) (line_tests used s line rest) d refl m

rule_number : (form : Form) (text : List ℕ) (d : Difference) → Member d (rule_differences form text) → is_of_rules (number_of d) ≡ true
unfolding rule_differences numbers number_of is_of_rules
rule_number form text d m = all_pass is_of_rules (rule_tests form text) d refl m

-- RULES

rule_in_order : (form : Form) (n : ℕ) (text : List ℕ) → IsInOrder (map (located n) (rule_differences form text))
unfolding rule_differences rises number_of
rule_in_order form n text = those_in_order n 0 (rule_tests form text) refl

not_below : (k : ℕ) (ls : List (ℕ × List ℕ)) (n : ℕ) (text : List ℕ) → LinesRise k ls → Member (n, text) ls → k ≤ n
not_below k [] n text r m = absurd m
not_below k (l ∷ ls) n text r (inl e) = let same : l.0 ≡ n = ap (λ (p : ℕ × List ℕ). p.0) e in omega (arith, r.0, same)
not_below k (l ∷ ls) n text r (inr m) = let more : l.0 + 1 ≤ n = not_below (l.0 + 1) ls n text r.1 m in omega (arith, r.0, more)

rules_in_order : (form : Form) (k : ℕ) (ls : List (ℕ × List ℕ)) → LinesRise k ls → IsInOrder (rule_findings form ls)
rules_in_order form k [] r = subst IsInOrder (sym (no_rules form)) tt
rules_in_order form k (l ∷ ls) r =
    subst IsInOrder (sym (first_rule form l ls)) (both_in_order (map (located l.0) (rule_differences form l.1)) (rule_findings form ls)
    (rule_in_order form l.0 l.1) (rules_in_order form (l.0 + 1) ls r.1) (λ x y m i.
    let a = from_located x l.0 (rule_differences form l.1) m in
    let b = from_rules form ls y i in
    let more : l.0 + 1 ≤ y.line = not_below (l.0 + 1) ls y.line b.text r.1 b.line in
    earlier x y (omega (arith, a.0, more))))

-- ALL

pub file_in_order : (form : Form) (bytes : List ℕ) → IsInOrder (findings_of form bytes)
unfolding findings_of
file_in_order form bytes =
    merge_in_order (line_findings 1 0 Between (physical_lines bytes)) (rule_findings form (text_lines (text_of 1 bytes)))
    (lines_in_order 1 0 Between (physical_lines bytes)) (rules_in_order form 1 (text_lines (text_of 1 bytes)) (text_rises bytes)) (λ x y m i e.
    let a = from_lines 1 0 Between (physical_lines bytes) x m in
    let b = from_rules form (text_lines (text_of 1 bytes)) y i in
    let no : not (is_of_rules (number_of x.difference)) ≡ true = line_number _ _ a.line a.rest x.difference a.shows in
    let yes : is_of_rules (number_of y.difference) ≡ true = rule_number form b.text y.difference b.shows in
    let wrong : false ≡ true = ap not (sym (ap is_of_rules e ∙ yes)) ∙ no in absurd (cc))
