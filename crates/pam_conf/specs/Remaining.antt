-- The remaining words of a line, part of which is read: pam.conf(5), on brackets in arguments.
use Rattle.std.specs.Prelude.{ℕ, List, []}
use Rattle.std.specs.Option.{option_map_or}
use Rattle.pam_conf.specs.Words.{words_of}
use Rattle.pam_conf.specs.declared.words.Words.{Words}

-- the words of a line, none if a bracket stays open
abbrev pub words_left : List ℕ → List (List ℕ)
words_left line = option_map_or (λ ws. ws) (words_of line) []

-- the words that are not read yet
abbrev pub words_to_come : Words → List (List ℕ)
words_to_come words = words_left words.rest.now
