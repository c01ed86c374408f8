-- The arguments that a module knows, a row each: `[*][?|~]ARGUMENT[:VALUE][!KIND,..][@KIND,..]`.
use Rattle.std.specs.Prelude.{ℕ, ◌-◌, ◌==◌, ◌&&◌, ◌||◌, Bool, true, List, [], ◌∷◌, Option, codes, drop, if◌then◌else◌, length, nat_eq, take}
use Rattle.std.specs.List.{ends_with}
use Rattle.std.specs.Str.{bytes_eq}
use Rattle.pam_codes.specs.Code.{same_name}
use Rattle.pam_facts.specs.arguments.Cuts.{after, before, has_mark, without_mark}

-- an argument: the word, or its beginning where that ends in `=`
pub record Row : Type 0 where
  pub argument : List ℕ
  -- `*`: the word counts in any case
  pub any_case : Bool
  -- `?`: with `=` and anything after it too
  pub may_have_value : Bool
  -- `~`: each word that begins so, with or without the `=`, is taken for this one
  pub may_be_longer : Bool
  -- which values are right, if not all are
  pub value : Option (List ℕ)
  -- `!`: the kinds in which the module then stores passwords by a hash that is broken
  pub weak_in : Option (List ℕ)
  -- the kinds in which it is read, if not those of the module
  pub kinds : Option (List ℕ)

-- THE ROW that a word of the table is
unfoldable pub row_of : List ℕ → Row
row_of word =
    let form = before 64 word in
    let valued = before 33 form in
    let marked = before 58 valued in
    record {
      argument = without_mark 126 (without_mark 63 (without_mark 42 marked));
      any_case = has_mark 42 marked;
      may_have_value = has_mark 63 (without_mark 42 marked);
      may_be_longer = has_mark 126 (without_mark 63 (without_mark 42 marked));
      value = after 58 valued;
      weak_in = after 33 form;
      kinds = after 64 word;
    }

abbrev pub is_same : Bool → List ℕ → List ℕ → Bool
is_same any_case word other = if any_case then same_name word other else bytes_eq word other

-- a word begins with these bytes
abbrev pub begins : Bool → List ℕ → List ℕ → Bool
begins any_case word front = is_same any_case (take (length front) word) front

abbrev pub ends_in_equals : List ℕ → Bool
ends_in_equals argument = ends_with nat_eq argument (codes "=")

-- what may come after the argument: nothing; the value, if the argument ends in `=`; or `=` and a value
abbrev pub may_follow : Row → List ℕ → Bool
may_follow row [] = true
may_follow row (b ∷ bs) = ends_in_equals row.argument || row.may_have_value && b == 61

-- A WORD IS THE ARGUMENT, perhaps with its value
unfoldable pub is_whole : Row → List ℕ → Bool
is_whole row word = begins row.any_case word row.argument && may_follow row (drop (length row.argument) word)

-- an argument without the `=` at its end
abbrev pub stem : List ℕ → List ℕ
stem argument = if ends_in_equals argument then take (length argument - 1) argument else argument

-- A WORD IS TAKEN FOR THE ARGUMENT, since it begins so
unfoldable pub is_longer : Row → List ℕ → Bool
is_longer row word = row.may_be_longer && begins row.any_case word (stem row.argument)
