-- Rules: the services, the kinds and the sentence of a line.
use Rattle.std.specs.Prelude.{ℕ, List, [], ◌∷◌, Result, Ok, Err}
use Rattle.std.specs.List.{join_with_byte}
use Rattle.pam_facts.specs.declared.kinds.Kinds.{Kinds}
use Rattle.pam_policy.specs.declared.text.error.PolicyFault.{PolicyFault}
use Rattle.pam_policy.specs.declared.text.error.PolicyFault.TheVariants.{ExtraWord, MissingField}
use Rattle.pam_policy.specs.declared.text.rule.Rule.{Rule}
use Rattle.pam_policy.specs.text.Error.{◌>>=◌}
use Rattle.pam_policy.specs.text.Sentences.{SentenceText, sentence_of, sentence_view}
use Rattle.pam_policy.specs.text.Services.{ServicesText, kinds_of, services_of, services_view}

-- A RULE WITHOUT ITS LAYOUT IN MEMORY

pub record RuleText : Type 0 where
  pub line : ℕ
  pub text : List ℕ
  pub services : ServicesText
  pub kinds : Kinds
  pub sentence : SentenceText

abbrev pub rule_view : Rule → RuleText
rule_view rule = record {
  line = rule.line;
  text = rule.text.items;
  services = services_view rule.services;
  kinds = rule.kinds;
  sentence = sentence_view rule.sentence;
}

-- READING

-- the parts of a rule
pub record Parts : Type 0 where
  pub services : ServicesText
  pub kinds : Kinds
  pub sentence : SentenceText

-- a sentence ends its line
abbrev pub whole : SentenceText × List (List ℕ) → Result SentenceText PolicyFault
whole (sentence, []) = Ok sentence
whole (sentence, word ∷ words) = Err ExtraWord

-- the parts of words: services, kinds and a sentence
unfoldable pub parts_of : List (List ℕ) → Result Parts PolicyFault
parts_of [] = Err MissingField
parts_of (first ∷ []) = services_of first >>= λ services. Err MissingField
parts_of (first ∷ second ∷ words) = do
  services ← services_of first
  kinds ← kinds_of second
  read ← sentence_of words
  sentence ← whole read
  Ok record { services = services; kinds = kinds; sentence = sentence }

-- THE RULE of the words of a line
unfoldable pub rule_of : ℕ → List (List ℕ) → Result RuleText PolicyFault
rule_of line words = do
  parts ← parts_of words
  Ok record {
    line = line;
    text = join_with_byte 32 words;
    services = parts.services;
    kinds = parts.kinds;
    sentence = parts.sentence;
  }
