-- Each rule of a file that is read is judged.
use Rattle.std.proofs.Common.{◌≡◌, ℕ, ◌+◌, List, [], ◌∷◌, inl, inr, refl, sym, ap, subst}
use Rattle.std.specs.Option.{option_map_or}
use Rattle.std.specs.Prelude.{None, Option, Some, Result, Ok, Err, nat_lt}
use Rattle.pam_tables.specs.Lines.{lines_from}
use Rattle.pam_text.specs.Members.{Member}
use Rattle.pam_text.specs.Source.{source_fault}
use Rattle.pam_text.specs.declared.source.SourceFault.{SourceFault}
use Rattle.pam_policy.specs.declared.rules.error.JudgeError.TheVariants.{TooManyTogether}
use Rattle.pam_policy.specs.declared.text.error.PolicyError.{PolicyError}
use Rattle.pam_policy.specs.declared.text.error.PolicyFault.{PolicyFault}
use Rattle.pam_policy.specs.declared.text.error.PolicyFault.TheVariants.{ExtraWord, MissingField, TooManyRules}
use Rattle.pam_policy.specs.declared.text.policy.TheConstants.{MAX_RULES}
use Rattle.pam_policy.specs.rules.Judging.{IsReason}
use Rattle.pam_policy.specs.rules.Laws.{RulesAreJudged}
use Rattle.pam_policy.specs.text.Error.{source_error}
use Rattle.pam_policy.specs.text.Policy.{counted_rule, onto_lines, onto_rules, rules_from, rules_of}
use Rattle.pam_policy.specs.text.Rules.{Parts, RuleText, parts_of, rule_of, whole}
use Rattle.pam_policy.specs.text.Sentences.{SentenceText, sentence_of}
use Rattle.pam_policy.specs.text.Services.{kinds_of, services_of}
use Rattle.pam_policy.specs.text.Words.{words_of}
use Rattle.pam_policy.proofs.RulesProofs.Few.{bind-ok, cond-ok, few-sentence, not-read, ok-same}

abbrev IsMany : SentenceText → Type 0
IsMany sentence = IsReason sentence TooManyTogether

whole-same : (read : SentenceText × List (List ℕ)) (sentence : SentenceText) → whole read ≡ Ok sentence → read.0 ≡ sentence
whole-same (said, []) sentence h = ok-same said sentence h
whole-same (said, word ∷ words) sentence h = not-read ExtraWord sentence h

few-parts : (words : List (List ℕ)) (parts : Parts) → parts_of words ≡ Ok parts → IsMany parts.sentence → ⊥
unfolding parts_of
few-parts [] parts h many = not-read MissingField parts h
few-parts (first ∷ []) parts h many = let services = bind-ok (services_of first) _ parts h in not-read MissingField parts services.2
few-parts (first ∷ second ∷ words) parts h many =
    let services = bind-ok (services_of first) _ parts h in
    let kinds = bind-ok (kinds_of second) _ parts services.2 in
    let read = bind-ok (sentence_of words) _ parts kinds.2 in
    let sentence = bind-ok (whole read.0) _ parts read.2 in
    let all : Parts = record { services = services.0; kinds = kinds.0; sentence = sentence.0 } in
    let same = whole-same read.0 sentence.0 sentence.1 in
    few-sentence words read.0 read.1
    (subst IsMany (sym same) (subst IsMany (sym (ap (λ (p : Parts). p.sentence) (ok-same all parts sentence.2))) many))

few-rule : (line : ℕ) (words : List (List ℕ)) (rule : RuleText) → rule_of line words ≡ Ok rule → IsMany rule.sentence → ⊥
unfolding rule_of
few-rule line words rule h many =
    let parts = bind-ok (parts_of words) _ rule h in
    few-parts words parts.0 parts.1 (subst IsMany (sym (ap (λ (r : RuleText). r.sentence) (ok-same _ rule parts.2))) many)

few-counted : (before line : ℕ) (words : List (List ℕ)) (rule : RuleText) → counted_rule before line words ≡ Ok rule → IsMany rule.sentence → ⊥
unfolding counted_rule
few-counted before line words rule h many =
    elim (cond-ok (nat_lt before MAX_RULES) (rule_of line words) (Err TooManyRules) (Ok rule) h) [
      | inl e ↦ few-rule line words rule e many
      | inr e ↦ not-read TooManyRules rule e
    ]

abbrev AreJudged : List RuleText → Type 0
AreJudged rules = (rule : RuleText) → Member rule rules → IsMany rule.sentence → ⊥

few-onto : (line : ℕ) (first : Result RuleText PolicyFault) (others : Result (List RuleText) PolicyError) (rules : List RuleText) →
    ((rule : RuleText) → first ≡ Ok rule → IsMany rule.sentence → ⊥) → ((more : List RuleText) → others ≡ Ok more → AreJudged more) →
    onto_rules line first others ≡ Ok rules → AreJudged rules
unfolding Member
few-onto line (Err fault) others rules one rest h = absurd (let k : ⊥ = cc in k)
few-onto line (Ok rule) (Err error) rules one rest h = absurd (let k : ⊥ = cc in k)
few-onto line (Ok rule) (Ok more) rules one rest h =
    let same : rule ∷ more ≡ rules = cc in
    subst AreJudged same (λ other i many. elim i [
      | inl e ↦ one rule refl (subst (λ (r : RuleText). IsMany r.sentence) e many)
      | inr j ↦ rest more refl other j many
    ])

few-lines : (others : ℕ → Result (List RuleText) PolicyError) → ((before : ℕ) (rules : List RuleText) → others before ≡ Ok rules → AreJudged rules) →
    (before line : ℕ) (words : List (List ℕ)) (rules : List RuleText) → onto_lines before line words others ≡ Ok rules → AreJudged rules
few-lines others rest before line [] rules e = rest before rules e
few-lines others rest before line (word ∷ words) rules e =
    few-onto line (counted_rule before line (word ∷ words)) (others (before + 1)) rules (few-counted before line (word ∷ words)) (rest (before + 1)) e

few-from : (lines : List (ℕ × List ℕ)) (before : ℕ) (rules : List RuleText) → rules_from lines before ≡ Ok rules → AreJudged rules
unfolding Member rules_from
few-from [] before rules h =
    let same : [] ≡ rules = cc in
    subst AreJudged same (λ rule i many. i)
few-from (line ∷ lines) before rules h = few-lines (rules_from lines) (λ b rs e. few-from lines b rs e) before line.0 (words_of line.1) rules h

few-source : (fault : Option SourceFault) (bytes : List ℕ) (before : ℕ) (rules : List RuleText) →
    option_map_or (λ f. Err (source_error f)) fault (rules_from (lines_from 1 bytes) before) ≡ Ok rules → AreJudged rules
few-source (Some fault) bytes before rules h = absurd (let k : ⊥ = cc in k)
few-source None bytes before rules h = few-from (lines_from 1 bytes) before rules h

pub rules-judged : RulesAreJudged
unfolding rules_of
rules-judged bytes before rules rule h i many = few-source (source_fault bytes) bytes before rules h rule i many
