-- The rules of a policy file, as lines are added.
use Rattle.std.proofs.Common.{◌≡◌, ◌∙◌, ◌+◌, ◌++◌, ℕ, true, false, List, [], ◌∷◌, Option, Some, None}
use Rattle.std.proofs.Common.{Result, Ok, Err, ap, add-zero, add_assoc, append-nil, append_assoc, length, map, refl, suc, sym}
use Rattle.std.specs.Option.{option_map_or}
use Rattle.std.proofs.lemmas.List.{length-append}
use Rattle.pam_tables.specs.Lines.{lines_from}
use Rattle.pam_text.specs.Source.{source_fault}
use Rattle.pam_text.specs.declared.source.SourceFault.{SourceFault}
use Rattle.pam_text.specs.declared.source.SourceFault.TheVariants as source
use Rattle.pam_policy.specs.declared.text.error.PolicyError.{PolicyError}
use Rattle.pam_policy.specs.declared.text.error.PolicyFault.{PolicyFault}
use Rattle.pam_policy.specs.declared.text.error.PolicyFault.TheVariants as faults
use Rattle.pam_policy.specs.text.Error.{TellsFault, error_at, source_error}
use Rattle.pam_policy.specs.text.Policy.{counted_rule, onto_lines, onto_rules, rules_from, rules_of}
use Rattle.pam_policy.specs.declared.text.rule.Rule.{Rule}
use Rattle.pam_policy.specs.text.Rules.{RuleText, rule_view}
use Rattle.pam_policy.specs.text.Words.{words_of}
use Rattle.pam_policy.specs.text.inner.Error.{FailsIn}
use Rattle.pam_policy.specs.text.inner.Policy.{after_rules, and_rule, with_line}
use Rattle.pam_policy.specs.text.inner.Words.{is_empty}

pub as_many : (rules : List Rule) → length rules ≡ length (map rule_view rules)
as_many [] = refl
as_many (rule ∷ rules) = ap suc (as_many rules)

-- ---- one line

-- the rules read so far, and those of the remaining lines, after the rules of earlier files
abbrev pub all_from : List RuleText → ℕ → List (ℕ × List ℕ) → Result (List RuleText) PolicyError
all_from rules before lines = after_rules rules (rules_from lines (before + length rules))

one_rule : (rules : List RuleText) (rule : RuleText) (line : ℕ) (others : Result (List RuleText) PolicyError)
    → after_rules rules (onto_rules line (Ok rule) others) ≡ after_rules (rules ++ rule ∷ []) others
one_rule rules rule line (Ok more) = ap Ok (sym (append_assoc rules (rule ∷ []) more))
one_rule rules rule line (Err error) = refl

module _ (rules : List RuleText) (before line : ℕ) (lines : List (ℕ × List ℕ)) where
  abbrev at : ℕ
  at = before + length rules

  counted : (rule : RuleText) → at + 1 ≡ before + length (rules ++ rule ∷ [])
  counted rule = add_assoc before (length rules) 1 ∙ ap (λ (n : ℕ). before + n) (sym (length-append rules (rule ∷ [])))

  with_rule : (new : List RuleText) (r : Result RuleText PolicyFault) → and_rule rules r ≡ Ok new
      → all_from new before lines ≡ after_rules rules (onto_rules line r (rules_from lines (at + 1)))
  with_rule new (Ok rule) h =
      let same : rules ++ rule ∷ [] ≡ new = cc in
      ap (λ (rs : List RuleText). all_from rs before lines) (sym same)
      ∙ ap (λ (n : ℕ). after_rules (rules ++ rule ∷ []) (rules_from lines n)) (sym (counted rule))
      ∙ sym (one_rule rules rule line (rules_from lines (at + 1)))
  with_rule new (Err fault) h = absurd (cc)

  with_words : (new : List RuleText) (words : List (List ℕ)) → with_line rules at line words ≡ Ok new
      → all_from new before lines ≡ after_rules rules (onto_lines at line words (rules_from lines))
  with_words new [] h = let same : rules ≡ new = cc in ap (λ (rs : List RuleText). all_from rs before lines) (sym same)
  with_words new (word ∷ words) h = with_rule new (counted_rule at line (word ∷ words)) h

  no_rule : (fault : PolicyFault) (r : Result RuleText PolicyFault) → and_rule rules r ≡ Err fault
      → after_rules rules (onto_rules line r (rules_from lines (at + 1))) ≡ Err (error_at fault line)
  no_rule fault (Ok rule) h = absurd (cc)
  no_rule fault (Err f) h = let same : f ≡ fault = cc in ap (λ (g : PolicyFault). Err (error_at g line)) same

  no_words : (fault : PolicyFault) (words : List (List ℕ)) → with_line rules at line words ≡ Err fault
      → after_rules rules (onto_lines at line words (rules_from lines)) ≡ Err (error_at fault line)
  no_words fault [] h = absurd (cc)
  no_words fault (word ∷ words) h = no_rule fault (counted_rule at line (word ∷ words)) h

module _ (rules : List RuleText) (before line : ℕ) (text : List ℕ) (all lines : List (ℕ × List ℕ)) (e : all ≡ (line, text) ∷ lines) where
  first : after_rules rules (onto_lines (before + length rules) line (words_of text) (rules_from lines)) ≡ all_from rules before all
  unfolding rules_from
  first = ap (λ (ls : List (ℕ × List ℕ)). all_from rules before ls) (sym e)

  module _ (count : ℕ) (same : count ≡ length rules) where
    recounted : with_line rules (before + length rules) line (words_of text) ≡ with_line rules (before + count) line (words_of text)
    recounted = ap (λ (n : ℕ). with_line rules (before + n) line (words_of text)) (sym same)

    pub line_read : (new : List RuleText) → with_line rules (before + count) line (words_of text) ≡ Ok new
        → all_from new before lines ≡ all_from rules before all
    line_read new h = with_words rules before line lines new (words_of text) (recounted ∙ h) ∙ first

    pub line_fails : (fault : PolicyFault) → with_line rules (before + count) line (words_of text) ≡ Err fault
        → all_from rules before all ≡ Err (error_at fault line)
    line_fails fault h = sym first ∙ no_words rules before line lines fault (words_of text) (recounted ∙ h)

-- ---- how a line is added

module _ (rules : List RuleText) (at line : ℕ) where
  pub line_empty : (words : List (List ℕ)) → is_empty words ≡ true → with_line rules at line words ≡ Ok rules
  line_empty [] e = refl
  line_empty (word ∷ words) e = absurd (cc)

  pub rule_fails : (words : List (List ℕ)) (fault : PolicyFault) → is_empty words ≡ false → counted_rule at line words ≡ Err fault
      → with_line rules at line words ≡ Err fault
  rule_fails [] fault e h = absurd (cc)
  rule_fails (word ∷ words) fault e h = ap (and_rule rules) h

  pub rule_added : (words : List (List ℕ)) (rule : RuleText) (new : List RuleText) → is_empty words ≡ false → counted_rule at line words ≡ Ok rule
      → new ≡ rules ++ rule ∷ [] → with_line rules at line words ≡ Ok new
  rule_added [] rule new e h put = absurd (cc)
  rule_added (word ∷ words) rule new e h put = ap (and_rule rules) h ∙ ap Ok (sym put)

-- the fault of a line is told, unless an allocation failed
pub fault_told : {Y Z : Type 0} (read : Result Z PolicyFault) (fault : PolicyFault) (line : ℕ) (meant : Result Y PolicyError)
    → FailsIn fault read → (read ≡ Err fault → meant ≡ Err (error_at fault line))
    → TellsFault (error_at fault line).fault (error_at fault line) meant
fault_told read faults.MissingField line meant h is = is h
fault_told read faults.NulByte line meant h is = is h
fault_told read faults.TableTooLong line meant h is = is h
fault_told read faults.BadCode line meant h is = is h
fault_told read faults.BadServices line meant h is = is h
fault_told read faults.BadKinds line meant h is = is h
fault_told read faults.BadVerb line meant h is = is h
fault_told read faults.BadEvent line meant h is = is h
fault_told read faults.BadList line meant h is = is h
fault_told read faults.NoAnswers line meant h is = is h
fault_told read faults.ExtraWord line meant h is = is h
fault_told read faults.TooManyRules line meant h is = is h
fault_told read faults.Memory line meant h is = refl

-- ---- all lines

pub lines_end : (rules : List RuleText) (before : ℕ) (all : List (ℕ × List ℕ)) → all ≡ [] → all_from rules before all ≡ Ok rules
unfolding rules_from
lines_end rules before all e = ap (λ (ls : List (ℕ × List ℕ)). all_from rules before ls) e ∙ ap Ok (append-nil rules)

none_before : (r : Result (List RuleText) PolicyError) → after_rules [] r ≡ r
none_before (Ok rules) = refl
none_before (Err error) = refl

pub bytes_fail : (bytes : List ℕ) (before : ℕ) (fault : SourceFault) → source_fault bytes ≡ Some fault → rules_of bytes before ≡ Err (source_error fault)
unfolding rules_of
bytes_fail bytes before fault e =
    ap (λ (o : Option SourceFault). option_map_or (λ f. Err (source_error f)) o (rules_from (lines_from 1 bytes) before)) e

pub bytes_pass : (bytes : List ℕ) (before : ℕ) → source_fault bytes ≡ None → rules_of bytes before ≡ rules_from (lines_from 1 bytes) before
unfolding rules_of
bytes_pass bytes before e =
    ap (λ (o : Option SourceFault). option_map_or (λ f. Err (source_error f)) o (rules_from (lines_from 1 bytes) before)) e

-- before any line is read
pub lines_begin : (bytes : List ℕ) (before : ℕ) (rules : List RuleText) (lines : List (ℕ × List ℕ)) → source_fault bytes ≡ None → rules ≡ []
    → lines ≡ lines_from 1 bytes → all_from rules before lines ≡ rules_of bytes before
lines_begin bytes before rules lines none empty same =
    ap (λ (rs : List RuleText). all_from rs before lines) empty
    ∙ none_before (rules_from lines (before + 0))
    ∙ ap (λ (n : ℕ). rules_from lines n) (add-zero before)
    ∙ ap (λ (ls : List (ℕ × List ℕ)). rules_from ls before) same
    ∙ sym (bytes_pass bytes before none)

-- an error tells what is meant
pub source_told : {Y : Type 0} (fault : SourceFault) (meant : Result Y PolicyError) → meant ≡ Err (source_error fault)
    → TellsFault (source_error fault).fault (source_error fault) meant
source_told source.TooLong meant h = h
source_told (source.NulByte line) meant h = h
