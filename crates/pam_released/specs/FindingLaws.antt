-- Laws of the findings of a file: each is at a line at which its row holds, and they are in order.
use Rattle.std.specs.Prelude.{◌≡◌, ◌↔◌, ◌⊎◌, ◌+◌, ℕ, true, List, [], ◌∷◌, ◌++◌, length}
use Rattle.pam_text.specs.Text.{text_lines, text_of}
use Rattle.pam_conf.specs.Words.{State, Between}
use Rattle.pam_conf.specs.declared.rule.Form.{Form}
use Rattle.pam_released.specs.Bracket.{state_after}
use Rattle.pam_released.specs.Findings.{comes_before, differences_at, findings_of, rule_differences, used_after}
use Rattle.pam_released.specs.Lines.{physical_lines}
use Rattle.pam_released.specs.declared.finding.Finding.{Finding}

abbrev pub Member : {X : Type 0} → X → List X → Type 0
Member x [] = ⊥
Member x (y ∷ ys) = (y ≡ x) ⊎ Member x ys

-- WHERE EACH IS

-- the bytes of its logical line that 1.5.2 has read after these lines
abbrev pub used_by : ℕ → List (List ℕ) → ℕ
used_by used [] = used
used_by used (line ∷ lines) = used_by (used_after used line) lines

-- the state in which the words of 1.7.0 are after these lines
abbrev pub state_by : State → List (List ℕ) → State
state_by state [] = state
state_by state (line ∷ lines) = state_by (state_after state line) lines

-- a finding at a physical line: the line is the one with its number, and shows its difference
pub record IsAtLine (lines : List (List ℕ)) (finding : Finding) : Type 0 where
  pub front : List (List ℕ)
  pub line : List ℕ
  pub rest : List (List ℕ)
  pub split : lines ≡ front ++ line ∷ rest
  pub number : finding.line ≡ length front + 1
  pub shows : Member finding.difference (differences_at (used_by 0 front) (state_by Between front) line rest)

-- a finding at a rule: a line of the manual pages that has its number and shows its difference
pub record IsAtRule (form : Form) (lines : List (ℕ × List ℕ)) (finding : Finding) : Type 0 where
  pub text : List ℕ
  pub line : Member (finding.line, text) lines
  pub shows : Member finding.difference (rule_differences form text)

-- the findings of a file are exactly these
abbrev pub FindingsAreTheRows : Type 0
FindingsAreTheRows = (form : Form) (bytes : List ℕ) (finding : Finding) →
    Member finding (findings_of form bytes) ↔ (IsAtLine (physical_lines bytes) finding ⊎ IsAtRule form (text_lines (text_of 1 bytes)) finding)

-- IN WHICH ORDER

-- a finding comes before each of these, by line and then by number
abbrev pub ComesFirst : Finding → List Finding → Type 0
ComesFirst finding [] = Unit {0}
ComesFirst finding (other ∷ others) = (comes_before other finding ≡ true) × ComesFirst finding others

-- each comes before those after it, so none is there twice
abbrev pub IsInOrder : List Finding → Type 0
IsInOrder [] = Unit {0}
IsInOrder (finding ∷ findings) = ComesFirst finding findings × IsInOrder findings

abbrev pub FindingsAreInOrder : Type 0
FindingsAreInOrder = (form : Form) (bytes : List ℕ) → IsInOrder (findings_of form bytes)
