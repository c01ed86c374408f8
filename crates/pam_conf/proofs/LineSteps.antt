use Rattle.std.proofs.Common.{◌≡◌, ◌++◌, ⊎_elim, append-nil, append_assoc, ℕ, Bool, true, false, List, [], ◌∷◌, cond, eqb, filter, ap, ◌∙◌, sym, refl, Option}
use Rattle.std.proofs.Common.{◌≤◌, zero, suc, arith, length}
use Rattle.std.proofs.Common.{Some, None, Result, Ok, Err}
use Rattle.pam_text.specs.declared.text.Line.{Line}
use Rattle.std.specs.Prelude.{IfOk, MatchOption, OnOk}
use Rattle.pam_text.specs.Text.{FileByte, text_of, lines_of, first_line, after_line, text_lines, after_blanks, filled_lines}
use Rattle.pam_text.specs.inner.Text.{first_bytes}
use Rattle.pam_text.proofs.TextLines.{HeadIs, head_is, bytes_of_first, split_first, first_of}
use Rattle.std.specs.List.{cons_option, list_all}
use Rattle.std.specs.Result.{result_transpose}
use Rattle.std.proofs.lemmas.Bool.{and_parts}
use Rattle.pam_codes.specs.Tokens.{is_blank}
use Rattle.pam_conf.specs.Words.{Between, words_in, words_or_fault, or_open}
use Rattle.pam_conf.specs.Rule.{RuleText, rule_of, ◌>>=◌}
use Rattle.pam_conf.specs.FileRules.{LineResult, line_results}
use Rattle.pam_conf.specs.Lines.{line_rule_of, rule_at, at_line, rules_in, onto_rules}
use Rattle.pam_conf.specs.inner.Progress.{only}
use Rattle.pam_conf.specs.inner.Wanted.{wants, only_wanted, with_rule}
use Rattle.pam_conf.specs.Tells.{FailsAs}
use Rattle.pam_conf.specs.inner.Tells.{KindTells}
use Rattle.pam_conf.specs.declared.error.FaultKind.{FaultKind}
use Rattle.pam_conf.specs.declared.error.FaultKind.TheVariants as faults
use Rattle.pam_conf.specs.declared.error.RuleFault.{RuleFault}
use Rattle.pam_conf.specs.declared.rule.Form.{Form}
use Rattle.pam_conf.specs.declared.wanted.Wanted.{Wanted}
use Rattle.pam_conf.specs.declared.wanted.Wanted.TheVariants.{All, OfKind, OfServices}

-- the rule of a line, by its number and its bytes
pub rule_at_line : (form : Form) (l : ℕ) (ms : List FileByte) → HeadIs l ms → rule_at form (first_bytes ms) ≡ at_line l (line_rule_of form l (first_line ms))
unfolding HeadIs line_rule_of words_in rule_of
rule_at_line form l [] h = refl
rule_at_line form l (m ∷ ms) h = elim (eqb m.1 10) as (λ (t : Bool). rule_at form (cond t [] (m ∷ first_bytes ms))
    ≡ at_line l (line_rule_of form l (cond t [] (m.1 ∷ first_line ms)))) [
      | true ↦ refl
      | false ↦ rw (h, bytes_of_first ms) refl
    ]

-- the same for the line that a reader returns
text_line : (form : Form) (l : ℕ) (rest : List ℕ) (n : ℕ) (bytes : List ℕ) → (n ≡ l) × (bytes ≡ first_line (text_of l rest)) →
    rule_at form (first_bytes (text_of l rest)) ≡ at_line n (line_rule_of form n bytes)
text_line form l rest n bytes p = rule_at_line form l (text_of l rest) (head_is l rest)
    ∙ ap (λ (m : ℕ). at_line m (line_rule_of form m (first_line (text_of l rest)))) (sym p.0)
    ∙ ap (λ (bs : List ℕ). at_line n (line_rule_of form n bs)) (sym p.1)

-- a fault of the definition
pub known_fault : {A : Type 0} (kind : FaultKind) (meant : Result A FaultKind) → meant ≡ Err kind → KindTells kind meant
known_fault faults.Memory meant h = tt
known_fault kind meant h = h

-- a line of blanks has no words, and no rule
no_words_in : (bs : List ℕ) → list_all is_blank bs ≡ true → words_in Between bs ≡ Some []
unfolding words_in
no_words_in [] h = refl
no_words_in (b ∷ bs) h = let p = and_parts (is_blank b) (list_all is_blank bs) h in rw p.0 (no_words_in bs p.1)

pub blank_line : (form : Form) (n : ℕ) (bytes : List ℕ) → list_all is_blank bytes ≡ true → at_line n (line_rule_of form n bytes) ≡ Ok None
unfolding line_rule_of rule_of
blank_line form n bytes h = ap (λ (ws : Option (List (List ℕ))). at_line n (or_open ws >>= rule_of form n)) (no_words_in bytes h)

-- the blanks that a line begins with change no rule
words_after : (bs : List ℕ) → words_in Between (after_blanks bs) ≡ words_in Between bs
unfolding words_in
words_after [] = refl
words_after (b ∷ bs) =
    elim (is_blank b) as (λ (t : Bool). is_blank b ≡ t → words_in Between (cond t (after_blanks bs) (b ∷ bs)) ≡ words_in Between (b ∷ bs)) [
      | true ↦ λ e. rw e (words_after bs)
      | false ↦ λ e. refl
    ] refl

rule_after : (form : Form) (n : ℕ) (bytes : List ℕ) → line_rule_of form n (after_blanks bytes) ≡ line_rule_of form n bytes
unfolding line_rule_of
rule_after form n bytes = ap (λ (ws : Option (List (List ℕ))). or_open ws >>= rule_of form n) (words_after bytes)

-- a fault of the words of a line is the fault of the line
pub no_words : (form : Form) (l : ℕ) (bytes : List ℕ) (kind : FaultKind) → KindTells kind (words_or_fault bytes) → KindTells kind (line_rule_of form l bytes)
unfolding line_rule_of
no_words form l bytes faults.Memory h = tt
no_words form l bytes kind h = ap (λ r. r >>= rule_of form l) h

-- the rule of a line is that of its words
pub some_words : (form : Form) (l : ℕ) (bytes : List ℕ) (words : List (List ℕ)) → words_or_fault bytes ≡ Ok words →
    line_rule_of form l bytes ≡ rule_of form l words
unfolding line_rule_of
some_words form l bytes words h = ap (λ r. r >>= rule_of form l) h

-- the result of a line, if it has one, before those of other lines
abbrev pub onto : Result (Option RuleText) RuleFault → List LineResult → List LineResult
onto r results = cons_option (result_transpose r) results

empty_line : (form : Form) → rule_at form [] ≡ Ok None
unfolding line_rule_of words_in rule_of
empty_line form = refl

-- what is read of a text is that of its first line, and those of the lines after it
pub rules_step : (form : Form) (ms : List FileByte) → line_results form (lines_of ms)
    ≡ onto (rule_at form (first_bytes ms)) (line_results form (lines_of (after_line ms)))
unfolding line_results
rules_step form ms =
    let front = rule_at form (first_bytes ms) in
    ⊎_elim (λ e. ap (line_results form) e)
    (λ p. ap (line_results form) p.0 ∙ ap (λ r. onto front (onto r [])) (sym (empty_line form))
    ∙ ap (λ ts. onto front (line_results form (lines_of ts))) (sym p.1))
    (split_first ms)

-- what is read of numbered lines
unfoldable results_of_lines : Form → List (ℕ × List ℕ) → List LineResult
results_of_lines form [] = []
results_of_lines form (line ∷ lines) = onto (at_line line.0 (line_rule_of form line.0 line.1)) (results_of_lines form lines)

filled_first : (form : Form) (line : ℕ × List ℕ) (lines : List (ℕ × List ℕ)) →
    onto (at_line line.0 (line_rule_of form line.0 line.1)) (results_of_lines form (filled_lines lines))
    ≡ results_of_lines form (filled_lines (line ∷ lines))
unfolding results_of_lines filled_lines
filled_first form line lines =
    elim (list_all is_blank line.1) as (λ (t : Bool). list_all is_blank line.1 ≡ t →
    onto (at_line line.0 (line_rule_of form line.0 line.1)) (results_of_lines form (filled_lines lines))
    ≡ results_of_lines form (cond t (filled_lines lines) ((line.0, after_blanks line.1) ∷ filled_lines lines))) [
      | true ↦ λ e. ap (λ r. onto r (results_of_lines form (filled_lines lines))) (blank_line form line.0 line.1 e)
      | false ↦ λ e. ap (λ r. onto (at_line line.0 r) (results_of_lines form (filled_lines lines))) (sym (rule_after form line.0 line.1))
    ] refl

after_shorter : (m : FileByte) (ms : List FileByte) → length (after_line (m ∷ ms)) ≤ length ms
after_shorter m [] =
    elim (eqb m.1 10) as (λ (t : Bool). length {A = FileByte} (cond t [] []) ≤ 0) [ true ↦ omega arith | false ↦ omega arith ]
after_shorter m (k ∷ ms) =
    elim (eqb m.1 10) as (λ (t : Bool). length {A = FileByte} (cond t (k ∷ ms) (after_line (k ∷ ms))) ≤ length {A = FileByte} (k ∷ ms)) [
      | true ↦ omega arith
      | false ↦ omega (arith, after_shorter k ms)
    ]

-- what is read of a text is that of its filled lines
filled_up_to : (form : Form) (n : ℕ) (ms : List FileByte) → length ms ≤ n → line_results form (lines_of ms) ≡ results_of_lines form (filled_lines
    (text_lines ms))
unfolding line_results results_of_lines filled_lines text_lines line_rule_of words_in rule_of HeadIs
filled_up_to form n [] h = refl
filled_up_to form zero (m ∷ ms) h = absurd (omega arith)
filled_up_to form (suc n) (m ∷ ms) h =
    let rest : List FileByte = after_line (m ∷ ms) in
    let front : rule_at form (first_bytes (m ∷ ms)) ≡ at_line m.0 (line_rule_of form m.0 (first_line (m ∷ ms))) = rule_at_line form m.0 (m ∷ ms) refl in
    rules_step form (m ∷ ms)
    ∙ ap (λ r. onto r (line_results form (lines_of rest))) front
    ∙ ap (onto (at_line m.0 (line_rule_of form m.0 (first_line (m ∷ ms))))) (filled_up_to form n rest (omega (arith, after_shorter m ms)))
    ∙ filled_first form (m.0, first_line (m ∷ ms)) (text_lines rest)
    ∙ ap (λ lines. results_of_lines form (filled_lines lines)) (sym (first_of m ms))

same_filled : (form : Form) (ms ts : List FileByte) → filled_lines (text_lines ts) ≡ filled_lines (text_lines ms) →
    line_results form (lines_of ms) ≡ line_results form (lines_of ts)
same_filled form ms ts e =
    filled_up_to form (length ms) ms (omega arith)
    ∙ ap (results_of_lines form) (sym e)
    ∙ sym (filled_up_to form (length ts) ts (omega arith))

-- what is read of a text that begins with this line
line_first : (form : Form) (l : ℕ) (rest : List ℕ) (ts : List FileByte) (n : ℕ) (bytes : List ℕ) → (n ≡ l) × (bytes ≡ first_line (text_of l rest)) →
    ts ≡ after_line (text_of l rest) →
    line_results form (lines_of (text_of l rest)) ≡ onto (at_line n (line_rule_of form n bytes)) (line_results form (lines_of ts))
line_first form l rest ts n bytes p e =
    rules_step form (text_of l rest)
    ∙ ap (λ r. onto r (line_results form (lines_of (after_line (text_of l rest))))) (text_line form l rest n bytes p)
    ∙ ap (λ (us : List FileByte). onto (at_line n (line_rule_of form n bytes)) (line_results form (lines_of us))) (sym e)

no_line : (form : Form) (ms : List FileByte) → ms ≡ [] → line_results form (lines_of ms) ≡ []
unfolding line_results line_rule_of words_in rule_of
no_line form ms e = ap (λ (ts : List FileByte). line_results form (lines_of ts)) e

-- what is read of a text, by the first line that a reader returns after it has passed over blank lines
pub filled_result : {E : Type 0} (result : Result (Option Line) E) (old : List FileByte) (l : ℕ) (rest : List ℕ) (new : List FileByte) →
    filled_lines (text_lines (text_of l rest)) ≡ filled_lines (text_lines old) →
    IfOk result (λ o. MatchOption o (text_of l rest ≡ [])
    (λ (line : Line). (line.number ≡ l) × (line.bytes.now ≡ first_line (text_of l rest)))) →
    OnOk result (new ≡ after_line (text_of l rest)) →
    IfOk result (λ o. MatchOption o ((form : Form) → line_results form (lines_of old) ≡ [])
    (λ (line : Line). (form : Form) → line_results form (lines_of old)
    ≡ onto (at_line line.number (line_rule_of form line.number line.bytes.now)) (line_results form (lines_of new))))
filled_result (Ok None) old l rest new same none after = λ form. same_filled form old (text_of l rest) same ∙ no_line form (text_of l rest) none
filled_result (Ok (Some line)) old l rest new same first after =
    λ form. same_filled form old (text_of l rest) same ∙ line_first form l rest new line.number line.bytes.now first after
filled_result (Err error) old l rest new same first after = tt

-- the rules of lines, by what is read of each
unfoldable pub gathered : List LineResult → Result (List RuleText) RuleFault
gathered [] = Ok []
gathered (Ok rule ∷ results) = onto_rules (Ok (Some rule)) (gathered results)
gathered (Err fault ∷ results) = Err fault

gathered-onto : (r : Result (Option RuleText) RuleFault) (results : List LineResult) → gathered (onto r results) ≡ onto_rules r (gathered results)
unfolding gathered
gathered-onto (Err fault) results = refl
gathered-onto (Ok None) results = refl
gathered-onto (Ok (Some rule)) results = refl

pub rules_in-gathered : (form : Form) (lines : List (List FileByte)) → rules_in form lines ≡ gathered (line_results form lines)
unfolding rules_in line_results gathered
rules_in-gathered form [] = refl
rules_in-gathered form (line ∷ lines) =
    ap (onto_rules (rule_at form line)) (rules_in-gathered form lines) ∙ sym (gathered-onto (rule_at form line) (line_results form lines))

-- the rules of a text whose first line is read
pub rules_first : (form : Form) (old new : List (List FileByte)) (r : Result (Option RuleText) RuleFault) →
    line_results form old ≡ cons_option (result_transpose r) (line_results form new) → rules_in form old ≡ onto_rules r (rules_in form new)
rules_first form old new r e =
    rules_in-gathered form old ∙ ap gathered e ∙ gathered-onto r (line_results form new) ∙ ap (onto_rules r) (sym (rules_in-gathered form new))

pub rules_none : (form : Form) (lines : List (List FileByte)) → line_results form lines ≡ [] → rules_in form lines ≡ Ok []
unfolding gathered
rules_none form lines e = rules_in-gathered form lines ∙ ap gathered e

-- a blank line has no result
pub passed_over : (form : Form) (old new : List (List FileByte)) (n : ℕ) (bytes : List ℕ) →
    line_results form old ≡ cons_option (result_transpose (at_line n (line_rule_of form n bytes))) (line_results form new) →
    list_all is_blank bytes ≡ true → line_results form old ≡ line_results form new
passed_over form old new n bytes e blank =
    e ∙ ap (λ r. cons_option (result_transpose r) (line_results form new)) (blank_line form n bytes blank)

-- rules that were read before come first
unfoldable pub with_rules : List RuleText → Result (List RuleText) RuleFault → Result (List RuleText) RuleFault
with_rules front (Ok rules) = Ok (front ++ rules)
with_rules front (Err f) = Err f

pub no_rules : (r : Result (List RuleText) RuleFault) → with_rules [] r ≡ r
unfolding with_rules
no_rules (Ok x) = refl
no_rules (Err f) = refl

-- the wanted ones among rules that were read, or the first fault
abbrev pub sifted : Wanted → Result (List RuleText) RuleFault → Result (List RuleText) RuleFault
sifted wanted rules = only (wants wanted) rules

each_wanted : (rules : List RuleText) → filter (wants All) rules ≡ rules
each_wanted [] = refl
each_wanted (x ∷ rules) = ap (λ xs. x ∷ xs) (each_wanted rules)

pub sifted_wanted : (wanted : Wanted) (r : Result (List RuleText) RuleFault) → sifted wanted r ≡ only_wanted wanted r
sifted_wanted All (Ok rules) = ap Ok (each_wanted rules)
sifted_wanted All (Err f) = refl
sifted_wanted (OfKind kind) r = refl
sifted_wanted (OfServices service other) r = refl

module _ (wanted : Wanted) (front : List RuleText) where
  -- the wanted ones among rules, after those that were read before
  abbrev pub read_on : Result (List RuleText) RuleFault → Result (List RuleText) RuleFault
  read_on r = with_rules front (sifted wanted r)

  pub all_read : (whole : Result (List RuleText) RuleFault) → whole ≡ Ok [] → read_on whole ≡ Ok front
  unfolding with_rules
  all_read whole e = ap read_on e ∙ ap Ok (append-nil front)

  filtered_apart : (x : RuleText) (xs : List RuleText) → (front ++ filter (wants wanted) (x ∷ [])) ++ filter (wants wanted) xs
      ≡ front ++ filter (wants wanted) (x ∷ xs)
  filtered_apart x xs = elim (wants wanted x) as (λ (t : Bool). (front ++ cond t (x ∷ []) []) ++ filter (wants wanted) xs
      ≡ front ++ cond t (x ∷ filter (wants wanted) xs) (filter (wants wanted) xs)) [
        | true ↦ append_assoc front (x ∷ []) (filter (wants wanted) xs)
        | false ↦ ap (λ ys. ys ++ filter (wants wanted) xs) (append-nil front)
      ]

  one_more : (x : RuleText) (r : Result (List RuleText) RuleFault) →
      with_rules (front ++ filter (wants wanted) (x ∷ [])) (sifted wanted r) ≡ read_on (onto_rules (Ok (Some x)) r)
  unfolding with_rules
  one_more x (Ok xs) = ap Ok (filtered_apart x xs)
  one_more x (Err f) = refl

  -- the rules of a text whose first line is read
  module _ (whole rest : Result (List RuleText) RuleFault) (r : Result (Option RuleText) RuleFault) (step : whole ≡ onto_rules r rest) where
    pub step_fault : (f : RuleFault) → r ≡ Err f → read_on whole ≡ Err f
    unfolding with_rules
    step_fault f h = ap read_on (step ∙ ap (λ s. onto_rules s rest) h)

    pub step_nothing : r ≡ Ok None → read_on rest ≡ read_on whole
    step_nothing h = ap read_on (sym (step ∙ ap (λ s. onto_rules s rest) h))

    step_rule : (x : RuleText) → r ≡ Ok (Some x) → with_rules (front ++ filter (wants wanted) (x ∷ [])) (sifted wanted rest) ≡ read_on whole
    step_rule x h = one_more x rest ∙ ap read_on (sym (step ∙ ap (λ s. onto_rules s rest) h))

  -- the rules that were read before, and that of one more line
  pub step_taken : (whole rest : Result (List RuleText) RuleFault) (r : Result (Option RuleText) RuleFault) (rules : List RuleText) →
      whole ≡ onto_rules r rest → with_rule wanted front r ≡ Ok rules → with_rules rules (sifted wanted rest) ≡ read_on whole
  step_taken whole rest (Err f) rules e k = absurd (cc)
  step_taken whole rest (Ok None) rules e k = let same : front ≡ rules = cc in ap (λ (xs : List RuleText). with_rules xs
      (sifted wanted rest)) (sym same) ∙ step_nothing whole rest (Ok None) e refl
  step_taken whole rest (Ok (Some x)) rules e k = let same : (front ++ filter (wants wanted) (x ∷ []))
      ≡ rules = cc in ap (λ (xs : List RuleText). with_rules xs (sifted wanted rest)) (sym same) ∙ step_rule whole rest (Ok (Some x)) e x refl

pub taken_fails : (wanted : Wanted) (front : List RuleText) (f : RuleFault) (r : Result (Option RuleText) RuleFault) → with_rule wanted front r ≡ Err f →
    r ≡ Err f
taken_fails wanted front f (Err g) h = let same : g ≡ f = cc in ap Err same
taken_fails wanted front f (Ok None) h = absurd (cc)
taken_fails wanted front f (Ok (Some x)) h = absurd (cc)

-- a fault of a line is a fault of the file
pub fails_on : {A : Type 0} (fault : RuleFault) (kind : FaultKind) (r : Result A RuleFault) (s : Result (List RuleText) RuleFault) →
    (r ≡ Err fault → s ≡ Err fault) → FailsAs fault kind r → FailsAs fault kind s
fails_on fault faults.Memory r s f h = h
fails_on fault kind r s f h = f h
