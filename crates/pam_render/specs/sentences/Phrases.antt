-- The phrases of which a sentence consists, and how each form of answers writes them.
use Rattle.std.specs.Prelude.{ℕ, List, decimal}
use Rattle.std.specs.Str.Lossy.{utf8_lossy}
use Rattle.pam_render.specs.sentences.Shown.{shown_name}

-- A PHRASE: words of the sentence, a name, or a number
pub data Phrase : Type 0 where
  Said : List ℕ → Phrase
  Name : List ℕ → Phrase
  Number : ℕ → Phrase

-- in a line of text, where no byte of a name ends or changes the line
abbrev pub phrase_text : Phrase → List ℕ
phrase_text (Said words) = words
phrase_text (Name name) = shown_name name
phrase_text (Number number) = decimal number

-- in a JSON string, where U+FFFD replaces invalid UTF-8 in a name
abbrev pub phrase_chars : Phrase → List ℕ
phrase_chars (Said words) = words
phrase_chars (Name name) = utf8_lossy name
phrase_chars (Number number) = decimal number
