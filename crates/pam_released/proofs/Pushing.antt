-- Findings that are appended one after another.
use Rattle.std.proofs.Common.{◌≡◌, ◌<◌, ◌≤◌, ◌+◌, ◌++◌, ◌∙◌, ℕ, Bool, true, false, List, [], ◌∷◌, length, map, take, drop, get_or, cond, ap, sym, refl}
use Rattle.std.proofs.Common.{Option, Some, None, Err, arith, add-one, append-nil, append_assoc, drop-cons}
use Rattle.std.specs.List.{prefix_len}
use Rattle.std.proofs.lemmas.List.{drop_all}
use Rattle.pam_text.specs.Text.{text_lines, text_of}
use Rattle.pam_conf.specs.Words.{State, Between, or_open, words_of, words_or_fault}
use Rattle.pam_conf.specs.declared.error.FaultKind.{FaultKind}
use Rattle.pam_conf.specs.declared.rule.Form.{Form}
use Rattle.pam_released.specs.Bracket.{state_after}
use Rattle.pam_released.specs.Findings.{comes_before, differences_at, findings_of, from_control, line_findings, located, merged, only_if, rule_differences}
use Rattle.pam_released.specs.Findings.{rule_findings, those, used_after}
use Rattle.pam_released.specs.Lines.{goes_on, is_blank_line, physical_lines}
use Rattle.pam_released.specs.declared.difference.Difference.{Difference}
use Rattle.pam_released.specs.declared.finding.Finding.{Finding}

pub nothing_pushed : (n : ℕ) (found : List Finding) (ds : List Difference) → ds ≡ [] → found ≡ found ++ map (located n) ds
nothing_pushed n found ds h = rw h (sym (append-nil found))

none_open : (words : Option (List (List ℕ))) (e : FaultKind) → or_open words ≡ Err e → words ≡ None
none_open None e h = refl
none_open (Some ws) e h = absurd (cc)

no_control : (form : Form) → from_control form [] ≡ []
unfolding from_control
no_control form = refl

pub no_words : (form : Form) (text : List ℕ) (e : FaultKind) → words_or_fault text ≡ Err e → rule_differences form text ≡ []
unfolding rule_differences
no_words form text e h = let none : words_of text ≡ None = none_open (words_of text) e h in rw none (rw (no_control form) refl)

-- one difference, and those after it
pub one_more : (n : ℕ) (found : List Finding) (t : Bool) (d : Difference) (more : List (Bool × Difference)) →
    (found ++ map (located n) (only_if t d)) ++ map (located n) (those more) ≡ found ++ map (located n) (those ((t, d) ∷ more))
one_more n found true d more = append_assoc found (located n d ∷ []) (map (located n) (those more))
one_more n found false d more = ap (λ (r : List Finding). r ++ map (located n) (those more)) (append-nil found)

-- TWO LISTS AS ONE

next_merged : (f : Finding) (fs others : List Finding) → merged (f ∷ fs) others ≡
    take (prefix_len (comes_before f) others) others ++ f ∷ merged fs (drop (prefix_len (comes_before f) others) others)
unfolding merged
next_merged f fs others = refl

none_left : (others : List Finding) → merged [] others ≡ others
unfolding merged
none_left others = refl

pub merge_step : (fs rest all more pushed before back : List Finding) (i n : ℕ) (d : Finding) → i < length fs →
    n ≡ prefix_len (comes_before (get_or fs i d)) rest → before ≡ take n rest → back ≡ drop n rest → more ≡ all ++ before →
    pushed ≡ more ++ get_or fs i d ∷ [] → pushed ++ merged (drop (i + 1) fs) back ≡ all ++ merged (drop i fs) rest
merge_step fs rest all more pushed before back i n d low is front behind extended one =
    let split : drop i fs ≡ get_or fs i d ∷ drop (i + 1) fs = rw (add-one, drop-cons fs i d) refl in
    ap (λ (r : List Finding). r ++ merged (drop (i + 1) fs) back) (one ∙ ap (λ (r : List Finding). r ++ get_or fs i d ∷ []) extended)
    ∙ append_assoc (all ++ before) (get_or fs i d ∷ []) (merged (drop (i + 1) fs) back)
    ∙ append_assoc all before (get_or fs i d ∷ merged (drop (i + 1) fs) back)
    ∙ ap (λ (r : List Finding). all ++ (before ++ get_or fs i d ∷ merged (drop (i + 1) fs) r)) behind
    ∙ ap (λ (r : List Finding). all ++ (r ++ get_or fs i d ∷ merged (drop (i + 1) fs) (drop n rest))) front
    ∙ ap (λ (k : ℕ). all ++ (take k rest ++ get_or fs i d ∷ merged (drop (i + 1) fs) (drop k rest))) is
    ∙ ap (λ (r : List Finding). all ++ r) (sym (next_merged (get_or fs i d) (drop (i + 1) fs) rest))
    ∙ ap (λ (r : List Finding). all ++ merged r rest) (sym split)

pub merge_end : (fs rest all whole result : List Finding) (i : ℕ) → length fs ≤ i → result ≡ all ++ rest → all ++ merged (drop i fs) rest ≡ whole →
    result ≡ whole
merge_end fs rest all whole result i end is h =
    is ∙ ap (λ (r : List Finding). all ++ r) (sym (none_left rest)) ∙ ap (λ (r : List Finding). all ++ merged r rest) (sym (drop_all i fs end)) ∙ h

-- LINES

next_line : (n used : ℕ) (s : State) (line : List ℕ) (rest : List (List ℕ)) → line_findings n used s (line ∷ rest) ≡
    map (located n) (differences_at used s line rest) ++ line_findings (n + 1) (used_after used line) (state_after s line) rest
unfolding line_findings
next_line n used s line rest = refl

no_line : (n used : ℕ) (s : State) → line_findings n used s [] ≡ []
unfolding line_findings
no_line n used s = refl

pub line_step : (n used after : ℕ) (s t : State) (line : List ℕ) (lines rest : List (List ℕ)) (found pushed whole : List Finding) →
    lines ≡ line ∷ rest → pushed ≡ found ++ map (located n) (differences_at used s line rest) → after ≡ used_after used line → t ≡ state_after s line →
    found ++ line_findings n used s lines ≡ whole → pushed ++ line_findings (n + 1) after t rest ≡ whole
line_step n used after s t line lines rest found pushed whole split push is state h =
    ap (λ (r : List Finding). r ++ line_findings (n + 1) after t rest) push
    ∙ append_assoc found (map (located n) (differences_at used s line rest)) (line_findings (n + 1) after t rest)
    ∙ ap (λ (k : ℕ). found ++ (map (located n) (differences_at used s line rest) ++ line_findings (n + 1) k t rest)) is
    ∙ ap (λ (q : State). found ++ (map (located n) (differences_at used s line rest) ++ line_findings (n + 1) (used_after used line) q rest)) state
    ∙ ap (λ (r : List Finding). found ++ r) (sym (next_line n used s line rest))
    ∙ ap (λ (r : List (List ℕ)). found ++ line_findings n used s r) (sym split) ∙ h

pub line_end : (n used : ℕ) (s : State) (lines : List (List ℕ)) (found whole : List Finding) → lines ≡ [] →
    found ++ line_findings n used s lines ≡ whole → found ≡ whole
line_end n used s lines found whole is h =
    sym (append-nil found) ∙ ap (λ (r : List Finding). found ++ r) (sym (no_line n used s))
    ∙ ap (λ (r : List (List ℕ)). found ++ line_findings n used s r) (sym is) ∙ h

pub used_most : (used : ℕ) (line : List ℕ) → used_after used line ≤ used + length line + 1
used_most used line =
    elim (is_blank_line line) as (λ (t : Bool). cond t used (cond (goes_on line) (used + length line + 1) 0) ≤ used + length line + 1) [
      | true ↦ omega arith
      | false ↦ elim (goes_on line) as (λ (t : Bool). cond t (used + length line + 1) 0 ≤ used + length line + 1) [ true ↦ omega arith | false ↦ omega arith ]
    ]

-- RULES

next_rule : (form : Form) (line : ℕ × List ℕ) (lines : List (ℕ × List ℕ)) → rule_findings form (line ∷ lines) ≡
    map (located line.0) (rule_differences form line.1) ++ rule_findings form lines
unfolding rule_findings
next_rule form line lines = refl

no_rule : (form : Form) → rule_findings form [] ≡ []
unfolding rule_findings
no_rule form = refl

pub rule_step : (form : Form) (n : ℕ) (text : List ℕ) (lines rest : List (ℕ × List ℕ)) (found pushed whole : List Finding) →
    lines ≡ (n, text) ∷ rest → pushed ≡ found ++ map (located n) (rule_differences form text) →
    found ++ rule_findings form lines ≡ whole → pushed ++ rule_findings form rest ≡ whole
rule_step form n text lines rest found pushed whole split push h =
    ap (λ (r : List Finding). r ++ rule_findings form rest) push
    ∙ append_assoc found (map (located n) (rule_differences form text)) (rule_findings form rest)
    ∙ ap (λ (r : List Finding). found ++ r) (sym (next_rule form (n, text) rest))
    ∙ ap (λ (r : List (ℕ × List ℕ)). found ++ rule_findings form r) (sym split) ∙ h

pub rule_end : (form : Form) (lines : List (ℕ × List ℕ)) (found whole : List Finding) → lines ≡ [] →
    found ++ rule_findings form lines ≡ whole → found ≡ whole
rule_end form lines found whole is h =
    sym (append-nil found) ∙ ap (λ (r : List Finding). found ++ r) (sym (no_rule form))
    ∙ ap (λ (r : List (ℕ × List ℕ)). found ++ rule_findings form r) (sym is) ∙ h

-- ALL FINDINGS

pub findings_are : (form : Form) (bytes : List ℕ) (at_lines at_rules all : List Finding) → at_lines ≡ line_findings 1 0 Between (physical_lines bytes) →
    at_rules ≡ rule_findings form (text_lines (text_of 1 bytes)) → all ≡ merged at_lines at_rules → findings_of form bytes ≡ all
unfolding findings_of
findings_are form bytes at_lines at_rules all lines rules is =
    ap (λ (r : List Finding). merged r (rule_findings form (text_lines (text_of 1 bytes)))) (sym lines)
    ∙ ap (merged at_lines) (sym rules) ∙ sym is
