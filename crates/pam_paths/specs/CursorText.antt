-- The text of a cursor: the numbers of its codes, separated by dots.
use Rattle.std.specs.Prelude.{ℕ, ◌<◌, ◌≤◌, All, List, [], ◌∷◌, codes, decimal, length}
use Rattle.std.specs.List.{join_by}
use Rattle.pam_conf.specs.declared.stack.TheConstants.{MAX_MODULES}

-- the codes of a cursor: at most `MAX_MODULES` of them
pub record IsCursor (cursor : List ℕ) : Type 0 where
  pub are_codes : All (λ code. code < 31) cursor
  pub few : length cursor ≤ MAX_MODULES

-- the numbers in decimal digits, without leading zeros, separated by dots; `-` if there are none
abbrev pub cursor_text : List ℕ → List ℕ
cursor_text [] = codes "-"
cursor_text (code ∷ more) = join_by decimal (codes ".") (code ∷ more)
