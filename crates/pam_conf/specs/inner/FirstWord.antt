-- For private contracts and proofs alone: the words of a line by its first word: pam.conf(5), on brackets in arguments.
use Rattle.std.specs.Prelude.{ℕ, List, [], ◌∷◌, Option, Some, None}
use Rattle.std.specs.Option.{option_map}
use Rattle.pam_conf.specs.Words.{words_of}

-- the words of a line with this first word and these bytes after it, if it has a word
abbrev pub words_from : Option (List ℕ × List ℕ) → Option (List (List ℕ))
words_from None = Some []
words_from (Some p) = option_map (λ ws. p.0 ∷ ws) (words_of p.1)
