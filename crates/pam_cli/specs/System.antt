-- What a system answers to the questions of a run.
use Rattle.std.specs.Prelude.{⊤, Bool, true, false, ◌+◌, ◌^◌, List, take}
use Rattle.std.specs.Path.{path_join}
use Rattle.clap.specs.Words.{Text}
use Rattle.pam_cli.specs.declared.system.Found.{Found}
use Rattle.pam_cli.specs.declared.system.Found.TheVariants as found
use Rattle.pam_cli.specs.declared.system.Held.{Held}
use Rattle.pam_cli.specs.declared.system.Held.TheVariants.{Nothing, Other, Bytes}
use Rattle.pam_cli.specs.declared.system.Place.{Place}
use Rattle.pam_cli.specs.declared.system.Place.TheVariants.{Named, Below}

-- a place of the system
pub data PlaceText : Type 0 where
  -- a path that is named: the system follows links, wherever they lead
  named : Text → PlaceText
  -- the root of a system, and a path below it: links lead where they would lead after a chroot(2) to the root
  below : Text → Text → PlaceText

-- as far as a file is read: all of it, or of one that is too long the first bytes, one more than a file may have
abbrev pub front : Text → Text
front all = take (2 ^ 20 + 1) all

-- what is at a place after links are followed
pub data HeldText : Type 0 where
  nothing : HeldText
  -- something that is no regular file
  other : HeldText
  -- a regular file, and its bytes as far as it is read
  bytes : Text → HeldText

abbrev pub place_view : Place → PlaceText
place_view (Named path) = named path.now
place_view (Below root path) = below root.now path.now

abbrev pub held_view : Held → HeldText
held_view Nothing = nothing
held_view Other = other
held_view (Bytes held) = bytes held.items

-- something is there
abbrev pub is_there : Found → Bool
is_there found.Nothing = false
is_there _ = true

abbrev pub path_of : PlaceText → Text
path_of (named path) = path
path_of (below root path) = path

abbrev pub with_path : PlaceText → Text → PlaceText
with_path (named old) path = named path
with_path (below root old) path = below root path

-- the path that is shown
abbrev pub shown : PlaceText → Text
shown (named path) = path
shown (below root path) = path_join root path

-- the entry of a folder that has this name
abbrev pub entry_at : PlaceText → Text → PlaceText
entry_at folder name = with_path folder (path_join (path_of folder) name)

-- WHAT A SYSTEM MAY ANSWER to each question of a run. One that stays as it is gives one answer to each
pub record Told : Type 1 where
  -- the bytes of the file with this path, whatever its type is, as far as it is read
  pub file : Text → Text → Type 0
  -- the names of the entries of a folder
  pub entries : PlaceText → List Text → Type 0
  -- what is at a place
  pub look : PlaceText → Found → Type 0
  -- the same, with the bytes of a regular file
  pub held : PlaceText → HeldText → Type 0
  -- whether the entry of this folder with this name is a link that leads out of the folder
  pub leads_out : Text → Text → Bool → Type 0

-- of a system that may change at any time, nothing is known
abbrev pub anything : Told
anything = record {
  file = λ path held. ⊤;
  entries = λ place names. ⊤;
  look = λ place there. ⊤;
  held = λ place held. ⊤;
  leads_out = λ folder name out. ⊤;
}
