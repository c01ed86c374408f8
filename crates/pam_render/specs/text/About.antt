-- The texts about the program itself.
use Rattle.std.specs.Prelude.{ℕ, List, ◌++◌, codes}
use Rattle.pam_words.specs.Words.{version}

-- THE TEXT of `version`, as `--version` prints it
abbrev pub version_text : List ℕ
version_text = codes "pamcheck " ++ version ++ codes "\n"
