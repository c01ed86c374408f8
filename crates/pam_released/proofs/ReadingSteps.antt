-- The rules of a file, line by line.
use Rattle.std.proofs.Common.{◌≡◌, ◌<◌, ◌≤◌, ◌+◌, ◌++◌, ◌∙◌, ℕ, zero, suc, List, [], ◌∷◌, length, map, get_or, drop}
use Rattle.std.proofs.Common.{ap, sym, refl, Option, Some, None, append-nil, append_assoc, add-one, arith}
use Rattle.std.specs.Option.{option_map}
use Rattle.pam_conf.specs.declared.rule.Form.{Form}
use Rattle.pam_released.specs.Numbered.{NumberedLine, numbered_lines}
use Rattle.pam_released.specs.inner.Numbered.{line_view}
use Rattle.pam_released.specs.Readings.{NumberedRule, numbered_reading, numbered_rules, numbered_view, reading_view, rules_by}
use Rattle.pam_released.specs.Rules.{Reading, line_reading}
use Rattle.pam_released.specs.Words.{line_words}
use Rattle.pam_released.specs.declared.assembly.LogicalLine.{LogicalLine}
use Rattle.pam_released.specs.declared.reading.NumberedReading.{NumberedReading}
use Rattle.pam_released.specs.declared.release.Release.{Release}
use Rattle.pam_released.proofs.Unnumbered.{unnumbered}

-- RULES, appended one after another

pub rules_read : (release : Release) (form : Form) (front : List NumberedRule) (lines : List NumberedLine) (whole : Option (List NumberedRule)) → lines ≡ [] →
    Some (front ++ map (numbered_reading release form) lines) ≡ whole → Some front ≡ whole
rules_read release form front lines whole none h =
    ap (λ (rs : List NumberedRule). Some rs) (sym (append-nil front))
    ∙ ap (λ (ls : List NumberedLine). Some (front ++ map (numbered_reading release form) ls)) (sym none) ∙ h

-- the lines one after another

line_there : (lines : List LogicalLine) (i : ℕ) (line : LogicalLine) → i < length lines → line ≡ get_or lines i line →
    drop i (map line_view lines) ≡ line_view line ∷ drop (suc i) (map line_view lines)
line_there [] i line low is = absurd (omega (arith, low))
line_there (l ∷ ls) zero line low is = ap (λ (r : LogicalLine). line_view r ∷ map line_view ls) (sym is)
line_there (l ∷ ls) (suc i) line low is = line_there ls i line (omega (arith, low)) is

pub line_at : (lines : List LogicalLine) (i : ℕ) (line : LogicalLine) → i < length lines → line ≡ get_or lines i line →
    drop i (map line_view lines) ≡ line_view line ∷ drop (i + 1) (map line_view lines)
line_at lines i line low is =
    line_there lines i line low is ∙ ap (λ (k : ℕ). line_view line ∷ drop k (map line_view lines)) (sym (add-one i))

pub no_line : (lines : List LogicalLine) (i : ℕ) → length lines ≤ i → drop i (map line_view lines) ≡ []
no_line [] zero high = refl
no_line [] (suc i) high = refl
no_line (l ∷ ls) zero high = absurd (omega (arith, high))
no_line (l ∷ ls) (suc i) high = no_line ls i (omega (arith, high))

pub rules_first : (release : Release) (form : Form) (bytes : List ℕ) (lines : List NumberedLine) (front : List NumberedReading) → front ≡ [] →
    Some lines ≡ numbered_lines release bytes →
    Some (map numbered_view front ++ map (numbered_reading release form) lines) ≡ numbered_rules release form bytes
rules_first release form bytes lines front none is =
    ap (λ (r : List NumberedReading). Some (map numbered_view r ++ map (numbered_reading release form) lines)) none
    ∙ ap (λ (o : Option (List NumberedLine)). option_map (map (numbered_reading release form)) o) is

pub lines_refused : (release : Release) (form : Form) (bytes : List ℕ) → None ≡ numbered_lines release bytes → None ≡ numbered_rules release form bytes
lines_refused release form bytes is = ap (λ (o : Option (List NumberedLine)). option_map (map (numbered_reading release form)) o) is

views_pushed : (rules : List NumberedReading) (rule : NumberedReading) →
    map numbered_view (rules ++ rule ∷ []) ≡ map numbered_view rules ++ numbered_view rule ∷ []
views_pushed [] rule = refl
views_pushed (r ∷ rules) rule = ap (λ (rs : List NumberedRule). numbered_view r ∷ rs) (views_pushed rules rule)

pub rule_pushed : (release : Release) (form : Form) (rules pushed : List NumberedReading) (rule : NumberedReading) (line : NumberedLine)
    (lines rest : List NumberedLine)
    (whole : Option (List NumberedRule)) → pushed ≡ rules ++ rule ∷ [] → rule.line ≡ line.start → lines ≡ line ∷ rest →
    reading_view rule.reading ≡ line_reading release form (line_words line) →
    Some (map numbered_view rules ++ map (numbered_reading release form) lines) ≡ whole →
    Some (map numbered_view pushed ++ map (numbered_reading release form) rest) ≡ whole
rule_pushed release form rules pushed rule line lines rest whole push number split is h =
    let one : numbered_view rule ≡ numbered_reading release form line =
    ap (λ (n : ℕ). (n, reading_view rule.reading)) number ∙ ap (λ (r : Reading). (line.start, r)) is in
    let front : map numbered_view pushed ≡ map numbered_view rules ++ numbered_reading release form line ∷ [] =
    ap (map numbered_view) push ∙ views_pushed rules rule ∙ ap (λ (r : NumberedRule). map numbered_view rules ++ r ∷ []) one in
    ap (λ (rs : List NumberedRule). Some (rs ++ map (numbered_reading release form) rest)) front
    ∙ ap (λ (rs : List NumberedRule). Some rs) (append_assoc (map numbered_view rules) (numbered_reading release form line ∷ []) (map
    (numbered_reading release form) rest))
    ∙ ap (λ (ls : List NumberedLine). Some (map numbered_view rules ++ map (numbered_reading release form) ls)) (sym split) ∙ h

-- the reading of a line, by its words
pub reading_at : (release : Release) (form : Form) (line : NumberedLine) (words texts : List (List ℕ)) (read : Reading) →
    read ≡ line_reading release form words →
    words ≡ texts → texts ≡ line_words line → read ≡ line_reading release form (line_words line)
reading_at release form line words texts read is same cut = is ∙ ap (line_reading release form) (same ∙ cut)

-- without their numbers

plain_views : (rules : List NumberedReading) → map (λ p. p.1) (map numbered_view rules) ≡ map (λ rule. reading_view rule.reading) rules
plain_views [] = refl
plain_views (rule ∷ rules) = ap (λ (rs : List Reading). reading_view rule.reading ∷ rs) (plain_views rules)

pub plain_rules : (release : Release) (form : Form) (bytes : List ℕ) (rules : List NumberedReading) →
    Some (map numbered_view rules) ≡ numbered_rules release form bytes →
    Some (map (λ rule. reading_view rule.reading) rules) ≡ rules_by release form bytes
plain_rules release form bytes rules is =
    ap (λ (rs : List Reading). Some rs) (sym (plain_views rules))
    ∙ ap (λ (o : Option (List NumberedRule)). option_map (map (λ p. p.1)) o) is ∙ unnumbered release form bytes

pub plain_refused : (release : Release) (form : Form) (bytes : List ℕ) → None ≡ numbered_rules release form bytes → None ≡ rules_by release form bytes
plain_refused release form bytes is = ap (λ (o : Option (List NumberedRule)). option_map (map (λ p. p.1)) o) is ∙ unnumbered release form bytes
