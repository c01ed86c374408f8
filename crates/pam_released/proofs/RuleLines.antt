-- Without a difference, the lines of a file whose rules have no fault are read as those rules.
use Rattle.std.proofs.Common.{◌≡◌, ◌++◌, ◌∙◌, ℕ, Bool, true, false, List, [], ◌∷◌, map, cond, eqb, ap, sym, refl, subst}
use Rattle.std.proofs.Common.{Option, Some, None, Result, Ok, Err}
use Rattle.std.specs.List.{list_all, onto_first}
use Rattle.std.specs.Option.{option_map, option_map_or}
use Rattle.std.proofs.lemmas.Bool.{and_parts, ne_eqb}
use Rattle.pam_codes.specs.Tokens.{is_blank}
use Rattle.pam_text.specs.Source.{source_fault}
use Rattle.pam_text.specs.Text.{FileByte, lines_of, text_lines, text_of}
use Rattle.pam_text.specs.Text.{onto_line as onto_text_line}
use Rattle.pam_text.specs.declared.source.SourceFault.{SourceFault}
use Rattle.pam_conf.specs.Lines.{at_line, fault_of_source, line_number, line_rule_of, onto_rules, rule_at, rules_in, rules_of}
use Rattle.pam_conf.specs.Rule.{RuleText, rule_of, first_rule_of}
use Rattle.pam_conf.specs.Words.{IsSplit, nothing, blank, bracketed, plain, or_open, text_of_word, words_in, words_of, words_or_fault}
use Rattle.pam_conf.specs.declared.error.FaultKind.{FaultKind}
use Rattle.pam_conf.specs.declared.error.RuleFault.{RuleFault}
use Rattle.pam_conf.specs.declared.rule.Form.{Form}
use Rattle.pam_conf.proofs.Splits.{is_split}
use Rattle.pam_released.specs.Findings.{findings_of, from_control, has_capital, has_empty_name, located, rule_differences, rule_findings}
use Rattle.pam_released.specs.Findings.{words_or_none}
use Rattle.pam_released.specs.Laws.{SameRules}
use Rattle.pam_released.specs.Lines.{filled, manual_lines_of, physical_lines}
use Rattle.pam_released.specs.Rules.{Reading, line_reading, reading_of, rules_152, rules_170}
use Rattle.pam_released.specs.declared.difference.Difference.TheVariants.{CapitalInBrackets, EmptyModuleName}
use Rattle.pam_released.proofs.Lines152.{IsEnd, ended}
use Rattle.pam_released.proofs.Lines152 as lines
use Rattle.pam_released.proofs.Manual.{split_are}
use Rattle.pam_released.proofs.RuleReadings.{first_alike}
use Rattle.pam_released.proofs.RuleSteps.{AllSpelled, bare, brackets, bound}
use Rattle.pam_released.proofs.Buffer.{unseen}
use Rattle.pam_released.proofs.Silence.{none_if, none_located, none_of, silent}
use Rattle.pam_released.proofs.Words.{file_words_152, file_words_170}
use Rattle.pam_released.specs.declared.release.Release.{Release}
use Rattle.pam_released.specs.declared.release.Release.TheVariants.{Older, Newer}

-- THE WORDS OF A LINE

spelled : {line : List ℕ} {ws : List (List ℕ)} → IsSplit line ws → AllSpelled ws
spelled nothing = tt
spelled (blank b bs ws e s) = spelled s
spelled (bracketed inside rest ws i s) = (brackets inside i, spelled s)
spelled (plain b bs rest ws n h e s) = (bare b bs (ne_eqb b 91 n), spelled s)

-- a line without words is blank
no_words_blank : {line : List ℕ} {ws : List (List ℕ)} → IsSplit line ws → ws ≡ [] → list_all is_blank line ≡ true
no_words_blank nothing h = refl
no_words_blank (blank b bs ws e s) h = rw e (no_words_blank s h)
no_words_blank (bracketed inside rest ws i s) h = absurd (cc)
no_words_blank (plain b bs rest ws n k e s) h = absurd (cc)

-- a blank line has no words
blank_no_words : (line : List ℕ) → list_all is_blank line ≡ true → words_of line ≡ Some []
unfolding words_in
blank_no_words [] h = refl
blank_no_words (b ∷ bs) h = let two = and_parts (is_blank b) (list_all is_blank bs) h in rw two.0 (blank_no_words bs two.1)

-- WITHOUT DIFFERENCES

abbrev pub AllQuiet : Form → List (List ℕ) → Type 0
AllQuiet form [] = Unit {0}
AllQuiet form (line ∷ lines) = (rule_differences form line ≡ []) × AllQuiet form lines

quiet_rules : (form : Form) (ls : List (ℕ × List ℕ)) → rule_findings form ls ≡ [] → AllQuiet form (map (λ l. l.1) ls)
unfolding rule_findings
quiet_rules form [] h = tt
quiet_rules form (l ∷ ls) h =
    let two = none_of (map (located l.0) (rule_differences form l.1)) (rule_findings form ls) h in
    (none_located l.0 (rule_differences form l.1) two.0, quiet_rules form ls two.1)

pub record NoDifference (form : Form) (words : List (List ℕ)) : Type 0 where
  pub capital : has_capital (from_control form words) ≡ false
  pub name : has_empty_name (from_control form words) ≡ false

no_difference : (form : Form) (text : List ℕ) (words : List (List ℕ)) → words_of text ≡ Some words → rule_differences form text ≡ [] →
    NoDifference form words
unfolding rule_differences
no_difference form text words w h =
    let here : words_or_none text ≡ words = ap (λ (o : Option (List (List ℕ))). option_map_or (λ ws. ws) o []) w in
    let a = none_if (has_capital (from_control form (words_or_none text))) CapitalInBrackets
    ((has_empty_name (from_control form (words_or_none text)), EmptyModuleName) ∷ []) h in
    let b = none_if (has_empty_name (from_control form (words_or_none text))) EmptyModuleName [] a.1 in
    record {
      capital = ap (λ (ws : List (List ℕ)). has_capital (from_control form ws)) (sym here) ∙ a.0;
      name = ap (λ (ws : List (List ℕ)). has_empty_name (from_control form ws)) (sym here) ∙ b.0;
    }

empty_line : (form : Form) → rule_differences form [] ≡ []
unfolding rule_differences from_control words_in
empty_line form = refl

quiet_end : (form : Form) (ls e : List (List ℕ)) → IsEnd e → AllQuiet form ls → AllQuiet form (ls ++ e)
quiet_end form [] e lines.nothing q = tt
quiet_end form [] e lines.empty q = (empty_line form, tt)
quiet_end form (l ∷ ls) e is q = (q.0, quiet_end form ls e is q.1)

-- the numbered lines of a text are its physical lines
onto_bytes : (m : FileByte) (ls : List (ℕ × List ℕ)) → map (λ l. l.1) (onto_text_line m ls) ≡ onto_first m.1 (map (λ l. l.1) ls)
onto_bytes m [] = refl
onto_bytes m (l ∷ ls) = refl

numbered_are : (ms : List FileByte) → map (λ l. l.1) (text_lines ms) ≡ physical_lines (map (λ m. m.1) ms)
unfolding text_lines physical_lines
numbered_are [] = refl
numbered_are (m ∷ ms) =
    elim (eqb m.1 10) as (λ (t : Bool). map (λ l. l.1) (cond t ((m.0, []) ∷ text_lines ms) (onto_text_line m (text_lines ms)))
    ≡ cond t ([] ∷ physical_lines (map (λ n. n.1) ms)) (onto_first m.1 (physical_lines (map (λ n. n.1) ms)))) [
      | true ↦ ap (λ (r : List (List ℕ)). [] ∷ r) (numbered_are ms)
      | false ↦ onto_bytes m (text_lines ms) ∙ ap (onto_first m.1) (numbered_are ms)
    ]

-- each line of the manual pages is quiet
quiet_lines : (form : Form) (bytes : List ℕ) → rule_findings form (text_lines (text_of 1 bytes)) ≡ [] → AllQuiet form (manual_lines_of bytes)
quiet_lines form bytes h =
    let text : List ℕ = map (λ m. m.1) (text_of 1 bytes) in
    let (e, is, same) = ended (map (λ m. m.1) (text_of 1 bytes)) in
    let q = quiet_rules form (text_lines (text_of 1 bytes)) h in
    let by_line : AllQuiet form (physical_lines (map (λ m. m.1) (text_of 1 bytes))) = subst (AllQuiet form) (numbered_are (text_of 1 bytes)) q in
    subst (AllQuiet form) (sym (split_are (text_of 1 bytes) ∙ same)) (quiet_end form (physical_lines (map (λ m. m.1) (text_of 1 bytes))) e is by_line)

-- THE RULES OF LINES

pub record LineRead (form : Form) (line : List FileByte) (o : Option RuleText) : Type 0 where
  pub words : List (List ℕ)
  pub cut : words_of (map (λ m. m.1) line) ≡ Some words
  pub rule : rule_of form (line_number line) words ≡ Ok o

opened : (w : Option (List (List ℕ))) (words : List (List ℕ)) → or_open w ≡ Ok words → w ≡ Some words
opened None words h = absurd (cc)
opened (Some ws) words h = let is : ws ≡ words = cc in ap Some is

without_line : (n : ℕ) (r : Result (Option RuleText) FaultKind) (o : Option RuleText) → at_line n r ≡ Ok o → r ≡ Ok o
without_line n (Ok p) o h = let is : p ≡ o = cc in ap Ok is
without_line n (Err e) o h = absurd (cc)

line_read : (form : Form) (line : List FileByte) (o : Option RuleText) → rule_at form line ≡ Ok o → LineRead form line o
unfolding line_rule_of
line_read form line o h =
    let r = without_line (line_number line) (line_rule_of form (line_number line) (map (λ m. m.1) line)) o h in
    let b = bound (words_or_fault (map (λ m. m.1) line)) (rule_of form (line_number line)) o r in
    record { words = b.x; cut = opened (words_of (map (λ m. m.1) line)) b.x b.is; rule = b.then }

-- the first of the results, and the others
pub record Onto (here : Result (Option RuleText) RuleFault) (others : Result (List RuleText) RuleFault) (rules : List RuleText) : Type 0 where
  pub first : Option RuleText
  pub more : List RuleText
  pub read : here ≡ Ok first
  pub rest : others ≡ Ok more
  pub whole : rules ≡ option_map_or (λ r. r ∷ more) first more

onto : (here : Result (Option RuleText) RuleFault) (others : Result (List RuleText) RuleFault) (rules : List RuleText) → onto_rules here others ≡ Ok rules →
    Onto here others rules
onto (Err f) others rules h = absurd (cc)
onto (Ok None) (Ok more) rules h = record { first = None; more = more; read = refl; rest = refl; whole = cc }
onto (Ok None) (Err f) rules h = absurd (cc)
onto (Ok (Some r)) (Ok more) rules h = record { first = Some r; more = more; read = refl; rest = refl; whole = cc }
onto (Ok (Some r)) (Err f) rules h = absurd (cc)

-- what either release reads from the lines
pub record Read (release : Release) (form : Form) (lines : List (List ℕ)) (rules : List RuleText) : Type 0 where
  pub words : List (List (List ℕ))
  pub cut : map words_of (filled lines) ≡ map (λ ws. Some ws) words
  pub readings : map (line_reading release form) (map (map text_of_word) words) ≡ map reading_of rules

no_rule_of : (form : Form) (n : ℕ) (o : Option RuleText) → rule_of form n [] ≡ Ok o → o ≡ None
unfolding rule_of
no_rule_of form n o h = cc

pub record SomeRule (form : Form) (n : ℕ) (w : List ℕ) (ws : List (List ℕ)) (o : Option RuleText) : Type 0 where
  pub rule : RuleText
  pub first : first_rule_of form n (text_of_word w) ws ≡ Ok rule
  pub is : o ≡ Some rule

some_rule : (form : Form) (n : ℕ) (w : List ℕ) (ws : List (List ℕ)) (o : Option RuleText) → rule_of form n (w ∷ ws) ≡ Ok o → SomeRule form n w ws o
unfolding rule_of
some_rule form n w ws o h =
    let b = bound (first_rule_of form n (text_of_word w) ws) (λ r. Ok (Some r)) o h in
    record { rule = b.x; first = b.is; is = cc b.then }

skip_blank : (line : List ℕ) (ls : List (List ℕ)) → list_all is_blank line ≡ true → filled (line ∷ ls) ≡ filled ls
unfolding filled
skip_blank line ls h = rw h refl

keep_filled : (line : List ℕ) (ls : List (List ℕ)) → list_all is_blank line ≡ false → filled (line ∷ ls) ≡ line ∷ filled ls
unfolding filled
keep_filled line ls h = rw h refl

no_lines_filled : filled [] ≡ []
unfolding filled
no_lines_filled = refl

no_lines_in : (form : Form) (rules : List RuleText) → rules_in form [] ≡ Ok rules → rules ≡ []
unfolding rules_in
no_lines_in form rules h = cc

first_in : (form : Form) (line : List FileByte) (ls : List (List FileByte)) → rules_in form (line ∷ ls) ≡ onto_rules (rule_at form line) (rules_in form ls)
unfolding rules_in
first_in form line ls = refl

not_blank : (line w : List ℕ) (ws : List (List ℕ)) → words_of line ≡ Some (w ∷ ws) → list_all is_blank line ≡ false
not_blank line w ws h =
    elim (list_all is_blank line) as (λ (t : Bool). list_all is_blank line ≡ t → t ≡ false) [
      | true ↦ λ e. let wrong : Some (w ∷ ws) ≡ Some [] = sym h ∙ blank_no_words line e in absurd (cc)
      | false ↦ λ e. refl
    ] refl

-- one more line
add_line : (release : Release) (form : Form) (n : ℕ) (line : List ℕ) (lines words : List (List ℕ)) (o : Option RuleText) (rules more : List RuleText) →
    words_of line ≡ Some words → rule_of form n words ≡ Ok o → rule_differences form line ≡ [] → rules ≡ option_map_or (λ r. r ∷ more) o more →
    Read release form lines more → Read release form (line ∷ lines) rules
add_line release form n line lines [] o rules more w r d is others =
    let none : o ≡ None = no_rule_of form n o r in
    let same : rules ≡ more = is ∙ ap (λ (p : Option RuleText). option_map_or (λ q. q ∷ more) p more) none in
    record {
      words = others.words;
      cut = ap (map words_of) (skip_blank line lines (no_words_blank (is_split line [] w) refl)) ∙ others.cut;
      readings = others.readings ∙ ap (map reading_of) (sym same);
    }
add_line release form n line lines (v ∷ ws) o rules more w r d is others =
    let s = some_rule form n v ws o r in
    let same : rules ≡ s.rule ∷ more = is ∙ ap (λ (p : Option RuleText). option_map_or (λ q. q ∷ more) p more) s.is in
    let none = no_difference form line (v ∷ ws) w d in
    let spelt = spelled (is_split line (v ∷ ws) w) in
    record {
      words = (v ∷ ws) ∷ others.words;
      cut = ap (map words_of) (keep_filled line lines (not_blank line v ws w))
          ∙ ap (λ (p : Option (List (List ℕ))). p ∷ map words_of (filled lines)) w
          ∙ ap (λ (p : List (Option (List (List ℕ)))). Some (v ∷ ws) ∷ p) others.cut;
      readings = ap (λ (r : Reading). r ∷ map (line_reading release form) (map (map text_of_word) others.words))
          (first_alike release form n v ws s.rule spelt.1 s.first none.capital none.name)
          ∙ ap (λ (rs : List Reading). reading_of s.rule ∷ rs) others.readings ∙ ap (map reading_of) (sym same);
    }

rules_read : (release : Release) (form : Form) (ls : List (List FileByte)) (rules : List RuleText) → rules_in form ls ≡ Ok rules →
    AllQuiet form (map (map (λ m. m.1)) ls) → Read release form (map (map (λ m. m.1)) ls) rules
rules_read release form [] rules h q = record {
  words = [];
  cut = ap (map words_of) no_lines_filled;
  readings = ap (map reading_of) (sym (no_lines_in form rules h));
}
rules_read release form (line ∷ ls) rules h q =
    let o = onto (rule_at form line) (rules_in form ls) rules (sym (first_in form line ls) ∙ h) in
    let l = line_read form line o.first o.read in
    add_line release form (line_number line) (map (λ m. m.1) line) (map (map (λ m. m.1)) ls) l.words o.first rules o.more l.cut l.rule q.0 o.whole
    (rules_read release form ls o.more o.rest q.1)

-- THE RULES OF A FILE

no_source_fault : (o : Option SourceFault) (r : Result (List RuleText) RuleFault) (rules : List RuleText) →
    option_map_or (λ f. Err (fault_of_source f)) o r ≡ Ok rules → r ≡ Ok rules
no_source_fault None r rules h = h
no_source_fault (Some f) r rules h = absurd (cc)

pub file_read : (release : Release) (form : Form) (bytes : List ℕ) (rules : List RuleText) → rules_of form bytes ≡ Ok rules →
    rule_findings form (text_lines (text_of 1 bytes)) ≡ [] → Read release form (manual_lines_of bytes) rules
unfolding rules_of
file_read release form bytes rules h q =
    rules_read release form (lines_of (text_of 1 bytes)) rules (no_source_fault (source_fault bytes) (rules_in form (lines_of (text_of 1 bytes))) rules h)
    (quiet_lines form bytes q)

-- without a finding, by 1.5.2
by_152 : (form : Form) (bytes : List ℕ) (rules : List RuleText) → findings_of form bytes ≡ [] → rules_of form bytes ≡ Ok rules →
    rules_152 form bytes ≡ Some (map reading_of rules)
unfolding rules_152
by_152 form bytes rules h r =
    let s = silent form bytes h in
    let f = file_read Older form bytes rules r s.rules in
    ap (option_map (map (line_reading Older form))) (file_words_152 bytes f.words s.lines (unseen bytes s.short) f.cut)
    ∙ ap (λ (rs : List Reading). Some rs) f.readings

-- and by 1.7.0
by_170 : (form : Form) (bytes : List ℕ) (rules : List RuleText) → findings_of form bytes ≡ [] → rules_of form bytes ≡ Ok rules →
    rules_170 form bytes ≡ Some (map reading_of rules)
unfolding rules_170
by_170 form bytes rules h r =
    let s = silent form bytes h in
    let f = file_read Newer form bytes rules r s.rules in
    ap (option_map (map (line_reading Newer form))) (file_words_170 bytes f.words s.lines s.blanks f.cut) ∙ ap (λ (rs : List Reading). Some rs) f.readings

pub same_rules : (form : Form) (bytes : List ℕ) → findings_of form bytes ≡ [] → SameRules form bytes
same_rules form bytes h = λ rules r. (by_152 form bytes rules h r, by_170 form bytes rules h r)
