-- What a module makes of an argument of its rule.
use Rattle.std.specs.Prelude.{ℕ, ◌&&◌, ◌||◌, Bool, false, List, Option, Some, codes, find, if◌then◌else◌}
use Rattle.std.specs.List.{list_any}
use Rattle.std.specs.Option.{option_map_or}
use Rattle.std.specs.Str.{bytes_eq}
use Rattle.pam_conf.specs.declared.rule.Kind.{Kind}
use Rattle.pam_conf.specs.declared.rule.Kind.TheVariants.{Auth, Account, Password, Session}
use Rattle.pam_facts.specs.arguments.Cuts.{after, parts_of}
use Rattle.pam_facts.specs.arguments.Rows.{Row, is_longer, is_whole}
use Rattle.pam_facts.specs.arguments.Values.{ValueForm, form_named, takes}
use Rattle.pam_facts.specs.declared.arguments.verdict.Reaction.{Reaction}
use Rattle.pam_facts.specs.declared.arguments.verdict.Reaction.TheVariants.{Ignores}

pub record Module : Type 0 where
  -- the kinds in which it reads an argument whose row names none
  pub kinds : List ℕ
  -- what it does with a word that it does not know; a module that has none takes any word
  pub reaction : Option Reaction
  -- the kinds in which it reads arguments, if they are others
  pub reacts_in : Option (List ℕ)
  pub rows : List Row

-- the verdict without its layout in memory
pub data Meaning : Type 0 where
  Known : Meaning
  Free : Meaning
  Longer : List ℕ → Meaning
  OtherKind : Meaning
  BadValue : ValueForm → Meaning
  Weak : Meaning
  Unknown : Reaction → Meaning

abbrev pub kind_name : Kind → List ℕ
kind_name Auth = codes "auth"
kind_name Account = codes "account"
kind_name Password = codes "password"
kind_name Session = codes "session"

-- kinds with commas between them have this one
abbrev pub has_kind : Kind → List ℕ → Bool
has_kind kind kinds = list_any (bytes_eq (kind_name kind)) (parts_of 44 kinds)

-- the kinds of a row or a reaction: its own, or else those of the module
abbrev pub or_else : Option (List ℕ) → List ℕ → List ℕ
or_else own kinds = option_map_or (λ own. own) own kinds

-- the module reads the row's argument in this kind
abbrev pub is_read : List ℕ → Kind → Row → Bool
is_read kinds kind row = has_kind kind (or_else row.kinds kinds)

abbrev pub known_value : Option (List ℕ) → Option (List ℕ) → Meaning
known_value (Some form) (Some value) = if takes (form_named form) value then Known else BadValue (form_named form)
known_value form value = Known

-- with the row's argument the module stores passwords by a hash that is broken, in this kind
abbrev pub is_weak : Kind → Row → Bool
is_weak kind row = option_map_or (has_kind kind) row.weak_in false

-- a word that is the row's argument is known, unless it asks for a broken hash, or its value is wrong
abbrev pub whole_meaning : Kind → Row → List ℕ → Meaning
whole_meaning kind row word = if is_weak kind row then Weak else known_value row.value (after 61 word)

-- a word that the module does not know: where it reads no arguments, it ignores each
abbrev pub unknown_meaning : Module → Kind → Meaning
unknown_meaning known kind =
    option_map_or (λ reaction. Unknown (if has_kind kind (or_else known.reacts_in known.kinds) then reaction else Ignores))
    known.reaction Free

-- THE VERDICT: that of the first row of this kind that the word is; else of the first of this kind that it is taken for; else
-- the word is one of another kind, or is not known
unfoldable pub meaning : Module → Kind → List ℕ → Meaning
meaning known kind word =
    option_map_or (λ row. whole_meaning kind row word) (find (λ row. is_whole row word && is_read known.kinds kind row) known.rows)
    (option_map_or (λ row. Longer row.argument) (find (λ row. is_longer row word && is_read known.kinds kind row) known.rows)
    (if list_any (λ row. is_whole row word || is_longer row word) known.rows then OtherKind else unknown_meaning known kind))
