-- Laws of the verdict.
use Rattle.std.specs.Prelude.{◌≡◌, ⊤, ℕ, false, true, List, ◌∷◌, None}
use Rattle.pam_conf.specs.declared.rule.Kind.{Kind}
use Rattle.pam_facts.specs.arguments.Rows.{Row, is_longer, is_whole}
use Rattle.pam_facts.specs.arguments.Verdicts.{Meaning, Known, Free, Longer, OtherKind, BadValue, Weak, Unknown, Module, is_read, meaning}
use Rattle.pam_facts.specs.declared.arguments.verdict.Reaction.{Reaction}

-- a row of a list
pub data Listed : Row → List Row → Type 0 where
  first : (row : Row) (rows : List Row) → Listed row (row ∷ rows)
  later : (row before : Row) (rows : List Row) → Listed row rows → Listed row (before ∷ rows)

-- the module knows the word, whatever its value is
abbrev pub IsKnown : Meaning → Type 0
IsKnown Known = ⊤
IsKnown (BadValue form) = ⊤
IsKnown Weak = ⊤
IsKnown Free = ⊥
IsKnown (Longer argument) = ⊥
IsKnown OtherKind = ⊥
IsKnown (Unknown reaction) = ⊥

-- a word that is an argument of this kind is known, whatever else it begins with
abbrev pub ArgumentsAreKnown : Type 0
ArgumentsAreKnown = (known : Module) (kind : Kind) (word : List ℕ) (row : Row) →
    Listed row known.rows → is_whole row word ≡ true → is_read known.kinds kind row ≡ true → IsKnown (meaning known kind word)

-- the word is no argument, and is taken for none
abbrev pub FitsNot : Row → List ℕ → Type 0
FitsNot row word = (is_whole row word ≡ false) × (is_longer row word ≡ false)

-- a word that is not known is none of the module's arguments, and is taken for none, in any kind
abbrev pub UnknownFitsNone : Type 0
UnknownFitsNone = (known : Module) (kind : Kind) (word : List ℕ) (row : Row) (reaction : Reaction) →
    meaning known kind word ≡ Unknown reaction → Listed row known.rows → FitsNot row word

-- a word of another kind is none of the arguments that the module reads in this kind, and is taken for none
abbrev pub OtherKindFitsNone : Type 0
OtherKindFitsNone = (known : Module) (kind : Kind) (word : List ℕ) (row : Row) →
    meaning known kind word ≡ OtherKind → Listed row known.rows → is_read known.kinds kind row ≡ true → FitsNot row word

-- only a module that takes any word is free
abbrev pub FreeTakesAny : Type 0
FreeTakesAny = (known : Module) (kind : Kind) (word : List ℕ) → meaning known kind word ≡ Free → known.reaction ≡ None
