-- All faults of a table, line after line, and the first of them.
use Rattle.std.proofs.Common.{◌≡◌, ◌∙◌, ◌++◌, ℕ, Bool, List, [], ◌∷◌, Option, Some, None, Result, Ok, Err, append-nil, append_assoc, ap, refl, sym}
use Rattle.std.specs.Option.{option_map_or}
use Rattle.pam_text.specs.Source.{source_fault}
use Rattle.pam_text.specs.Text.{text_lines, text_of}
use Rattle.pam_text.specs.declared.source.SourceFault.{SourceFault}
use Rattle.pam_tables.specs.times.inner.Checks.{line_checked}
use Rattle.pam_tables.specs.times.Error.{source_error}
use Rattle.pam_tables.specs.times.Faults.{first_fault, line_fault, line_faults, or_faults, time_faults, verdict}
use Rattle.pam_tables.specs.times.Reading.{onto_rules, rule_of, rules_in, rules_of}
use Rattle.pam_tables.specs.times.Times.{Rule}
use Rattle.pam_tables.specs.declared.times.error.TimeError.{TimeError}
use Rattle.pam_tables.specs.declared.times.error.TimeFault.{TimeFault}

-- LINE AFTER LINE

of_checked : (line : ℕ) (read : Result (Option Rule) TimeFault) → line_fault line (line_checked read) ≡ line_fault line read
of_checked line (Ok None) = refl
of_checked line (Ok (Some rule)) = refl
of_checked line (Err fault) = refl

pub pushed_line : (line : ℕ) (text : List ℕ) (old new : List TimeError) (found : Result Bool TimeFault) → found ≡ line_checked (rule_of line text) →
    new ≡ old ++ line_fault line found → new ≡ old ++ line_fault line (rule_of line text)
pushed_line line text old new found is push =
    push ∙ ap (λ (r : List TimeError). old ++ r) (ap (line_fault line) is ∙ of_checked line (rule_of line text))

next : (line : ℕ × List ℕ) (lines : List (ℕ × List ℕ)) → line_faults (line ∷ lines) ≡ line_fault line.0 (rule_of line.0 line.1) ++ line_faults lines
unfolding line_faults
next line lines = refl

none : line_faults [] ≡ []
unfolding line_faults
none = refl

pub fault_step : (n : ℕ) (text : List ℕ) (lines rest : List (ℕ × List ℕ)) (faults pushed whole : List TimeError) → lines ≡ (n, text) ∷ rest →
    pushed ≡ faults ++ line_fault n (rule_of n text) → faults ++ line_faults lines ≡ whole → pushed ++ line_faults rest ≡ whole
fault_step n text lines rest faults pushed whole split push h =
    ap (λ (r : List TimeError). r ++ line_faults rest) push
    ∙ append_assoc faults (line_fault n (rule_of n text)) (line_faults rest)
    ∙ ap (λ (r : List TimeError). faults ++ r) (sym (next (n, text) rest))
    ∙ ap (λ (r : List (ℕ × List ℕ)). faults ++ line_faults r) (sym split) ∙ h

pub fault_end : (lines : List (ℕ × List ℕ)) (faults whole : List TimeError) → lines ≡ [] → faults ++ line_faults lines ≡ whole → faults ≡ whole
fault_end lines faults whole is h =
    sym (append-nil faults) ∙ ap (λ (r : List TimeError). faults ++ r) (sym none)
    ∙ ap (λ (r : List (ℕ × List ℕ)). faults ++ line_faults r) (sym is) ∙ h

-- THE FIRST

first_of_two : (n : ℕ) (r : Result (Option Rule) TimeFault) (others : Result (List Rule) TimeError) (faults : List TimeError) →
    verdict others ≡ first_fault faults → verdict (onto_rules n r others) ≡ first_fault (line_fault n r ++ faults)
first_of_two n (Ok None) others faults h = h
first_of_two n (Ok (Some rule)) (Ok rules) faults h = h
first_of_two n (Ok (Some rule)) (Err error) faults h = h
first_of_two n (Err fault) others faults h = refl

first_of_lines : (lines : List (ℕ × List ℕ)) → verdict (rules_in lines) ≡ first_fault (line_faults lines)
unfolding rules_in line_faults
first_of_lines [] = refl
first_of_lines (line ∷ lines) = first_of_two line.0 (rule_of line.0 line.1) (rules_in lines) (line_faults lines) (first_of_lines lines)

pub first_time_fault : (bytes : List ℕ) → verdict (rules_of bytes) ≡ first_fault (time_faults bytes)
unfolding rules_of time_faults
first_time_fault bytes =
    let lines = text_lines (text_of 1 bytes) in
    elim (source_fault bytes) as (λ (o : Option SourceFault).
    verdict (option_map_or (λ fault. Err (source_error fault)) o (rules_in lines)) ≡ first_fault (or_faults o (line_faults lines))) [
      | None ↦ first_of_lines lines
      | Some whole ↦ refl
    ]
