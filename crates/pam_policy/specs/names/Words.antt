-- Words of a rule that name nothing of a host.
use Rattle.std.specs.Prelude.{ℕ, ◌&&◌, Bool, true, false, List, [], ◌∷◌, ◌++◌, fold, Option, if◌then◌else◌}
use Rattle.std.specs.List.{list_any}
use Rattle.std.specs.Option.{option_map}
use Rattle.std.specs.Str.{bytes_eq}
use Rattle.pam_policy.specs.declared.names.word.Argument.{Argument}
use Rattle.pam_policy.specs.declared.names.word.Misnamed.{Misnamed}
use Rattle.pam_policy.specs.declared.names.word.Misnamed.TheVariants as words
use Rattle.pam_policy.specs.declared.names.word.Word.{Word}

-- a word, and the nearest right one, if one is near
pub record WordText : Type 0 where
  pub text : List ℕ
  pub nearest : Option (List ℕ)

-- the key of a test, the name of the module in its event, and the nearest key that such a module has
pub record ArgumentText : Type 0 where
  pub name : List ℕ
  pub key : List ℕ
  pub nearest : List ℕ

-- P3: no service, or a rule that fits none; P4: no module; P7: no argument of a module
pub data MisnamedText : Type 0 where
  NoService : WordText → MisnamedText
  FitsNone : MisnamedText
  NoModule : WordText → MisnamedText
  NoArgument : ArgumentText → MisnamedText

abbrev pub word_view : Word → WordText
word_view word = record { text = word.text.items; nearest = option_map (λ near. near.items) word.nearest }

abbrev pub argument_view : Argument → ArgumentText
argument_view argument = record { name = argument.name.items; key = argument.key.items; nearest = argument.nearest.items }

abbrev pub misnamed_view : Misnamed → MisnamedText
misnamed_view (words.NoService word) = NoService (word_view word)
misnamed_view words.FitsNone = FitsNone
misnamed_view (words.NoModule word) = NoModule (word_view word)
misnamed_view (words.NoArgument argument) = NoArgument (argument_view argument)

-- ONCE: the same is said of one word, or of one key at one name

abbrev pub says_same : MisnamedText → MisnamedText → Bool
says_same (NoService word) (NoService other) = bytes_eq word.text other.text
says_same FitsNone FitsNone = true
says_same (NoModule word) (NoModule other) = bytes_eq word.text other.text
says_same (NoArgument argument) (NoArgument other) = bytes_eq argument.name other.name && bytes_eq argument.key other.key
says_same misnamed other = false

-- what is said already, and one more, unless it is said already
abbrev pub with_word : List MisnamedText → MisnamedText → List MisnamedText
with_word said misnamed = if list_any (says_same misnamed) said then said else said ++ misnamed ∷ []

-- the same with each of these, in their order
abbrev pub saying : List MisnamedText → List MisnamedText → List MisnamedText
saying said more = fold with_word said more
