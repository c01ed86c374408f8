-- Numbers of ways.
use Rattle.std.specs.Prelude.{ℕ, List, codes, decimal, Option, None, Some}

-- a number; 2^128 with a plus for one that is not below it
abbrev pub count_text : Option ℕ → List ℕ
count_text (Some count) = decimal count
count_text None = codes "340282366920938463463374607431768211456+"
