-- Rules line by line.
use Rattle.std.proofs.Common.{◌≡◌, ◌∙◌, ◌++◌, ℕ, List, [], ◌∷◌, Option, Some, None, Result, Ok, Err, refl, sym, ap, append_assoc, append-nil}
use Rattle.std.specs.Option.{option_map_or}
use Rattle.pam_text.specs.Source.{source_fault}
use Rattle.pam_text.specs.Text.{text_lines, text_of}
use Rattle.pam_text.specs.declared.source.SourceFault.{SourceFault}
use Rattle.pam_text.specs.declared.source.SourceFault.TheVariants as source
use Rattle.pam_tables.specs.times.Error.{Tells, TellsFault, source_error}
use Rattle.pam_tables.specs.times.Reading.{rule_of, rules_in, rules_of, onto_rules}
use Rattle.pam_tables.specs.times.inner.RuleLines.{with_line}
use Rattle.pam_tables.specs.times.Times.{Rule}
use Rattle.pam_tables.specs.declared.times.error.TimeError.{TimeError}
use Rattle.pam_tables.specs.declared.times.error.TimeFault.{TimeFault}
use Rattle.pam_tables.specs.declared.times.error.TimeFault.TheVariants.{MissingField, Netgroup, BadTimes, TwoWildcards, BadLogic, NulByte, Memory, TooLong}

-- ---- lines

-- rules that come before the others
abbrev pub with_rules : List Rule → Result (List Rule) TimeError → Result (List Rule) TimeError
with_rules before (Ok rules) = Ok (before ++ rules)
with_rules before (Err error) = Err error

pub no_rules_before : (r : Result (List Rule) TimeError) → with_rules [] r ≡ r
no_rules_before (Ok rules) = refl
no_rules_before (Err error) = refl

line_added : (before more : List Rule) (number : ℕ) (r : Result (Option Rule) TimeFault) (others : Result (List Rule) TimeError) →
    with_line before number r ≡ Ok more → with_rules more others ≡ with_rules before (onto_rules number r others)
line_added before more number (Ok None) others h = let same : before ≡ more = cc in ap (λ (rs : List Rule). with_rules rs others) (sym same)
line_added before more number (Ok (Some rule)) (Ok rules) h =
    let same : before ++ rule ∷ [] ≡ more = cc in
    ap (λ (rs : List Rule). Ok (rs ++ rules)) (sym same) ∙ ap Ok (append_assoc before (rule ∷ []) rules)
line_added before more number (Ok (Some rule)) (Err error) h = refl
line_added before more number (Err fault) others h = absurd (cc)

line_fails : (before : List Rule) (number : ℕ) (r : Result (Option Rule) TimeFault) (others : Result (List Rule) TimeError) (error : TimeError) →
    with_line before number r ≡ Err error → with_rules before (onto_rules number r others) ≡ Err error
line_fails before number (Ok None) others error h = absurd (cc)
line_fails before number (Ok (Some rule)) others error h = absurd (cc)
line_fails before number (Err fault) others error h = h

module _ (before : List Rule) (number : ℕ) (bytes : List ℕ) (all lines : List (ℕ × List ℕ)) (first : all ≡ (number, bytes) ∷ lines) where
  here : with_rules before (rules_in all) ≡ with_rules before (onto_rules number (rule_of number bytes) (rules_in lines))
  unfolding rules_in
  here = ap (λ (ls : List (ℕ × List ℕ)). with_rules before (rules_in ls)) first

  pub next_line : (more : List Rule) → with_line before number (rule_of number bytes) ≡ Ok more →
      with_rules more (rules_in lines) ≡ with_rules before (rules_in all)
  next_line more h = line_added before more number (rule_of number bytes) (rules_in lines) h ∙ sym here

  pub fault_here : (error : TimeError) → with_line before number (rule_of number bytes) ≡ Err error → with_rules before (rules_in all) ≡ Err error
  fault_here error h = here ∙ line_fails before number (rule_of number bytes) (rules_in lines) error h

pub no_lines_left : (before : List Rule) (all : List (ℕ × List ℕ)) → all ≡ [] → with_rules before (rules_in all) ≡ Ok before
unfolding rules_in
no_lines_left before all e = ap (λ (ls : List (ℕ × List ℕ)). with_rules before (rules_in ls)) e ∙ ap Ok (append-nil before)

-- ---- the bytes as a whole

unless : Option SourceFault → Result (List Rule) TimeError → Result (List Rule) TimeError
unless fault read = option_map_or (λ f. Err (source_error f)) fault read

fault_found : (bytes : List ℕ) (fault : SourceFault) → source_fault bytes ≡ Some fault → rules_of bytes ≡ Err (source_error fault)
unfolding rules_of unless
fault_found bytes fault h = ap (λ (o : Option SourceFault). unless o (rules_in (text_lines (text_of 1 bytes)))) h

pub source_told : (bytes : List ℕ) (fault : SourceFault) → source_fault bytes ≡ Some fault → Tells (source_error fault) (rules_of bytes)
source_told bytes source.TooLong h = fault_found bytes source.TooLong h
source_told bytes (source.NulByte line) h = fault_found bytes (source.NulByte line) h

pub rules_are : (bytes : List ℕ) → source_fault bytes ≡ None → rules_of bytes ≡ rules_in (text_lines (text_of 1 bytes))
unfolding rules_of unless
rules_are bytes h = ap (λ (o : Option SourceFault). unless o (rules_in (text_lines (text_of 1 bytes)))) h

-- an error of one definition is one of another
told_of : (fault : TimeFault) (error : TimeError) (one other : Result (List Rule) TimeError) → (one ≡ Err error → other ≡ Err error) →
    TellsFault fault error one → TellsFault fault error other
told_of MissingField error one other f h = f h
told_of Netgroup error one other f h = f h
told_of BadTimes error one other f h = f h
told_of TwoWildcards error one other f h = f h
told_of BadLogic error one other f h = f h
told_of NulByte error one other f h = f h
told_of Memory error one other f h = h
told_of TooLong error one other f h = f h

module _ (bytes : List ℕ) (sound : source_fault bytes ≡ None) (before : List Rule) (left : List (ℕ × List ℕ))
    (same : with_rules before (rules_in left) ≡ rules_in (text_lines (text_of 1 bytes))) where
  pub line_error : (number : ℕ) (line : List ℕ) (lines : List (ℕ × List ℕ)) (error : TimeError) → left ≡ (number, line) ∷ lines →
      Tells error (with_line before number (rule_of number line)) → Tells error (rules_of bytes)
  line_error number line lines error first =
      told_of error.fault error (with_line before number (rule_of number line)) (rules_of bytes)
      (λ h. rules_are bytes sound ∙ sym same ∙ fault_here before number line left lines first error h)

  pub all_read : left ≡ [] → rules_of bytes ≡ Ok before
  all_read none = rules_are bytes sound ∙ sym same ∙ no_lines_left before left none
