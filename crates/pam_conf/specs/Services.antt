-- The services that are checked: pam.conf(5), on /etc/pam.d/ and /etc/pam.conf.
use Rattle.std.specs.Prelude.{ℕ, Bool, false, ◌&&◌, ◌||◌, not, nat_eq, List, [], ◌∷◌, ◌++◌, map, filter, filter_map, fold, codes, if◌then◌else◌, unwrap_or}
use Rattle.std.specs.Char.{is_ascii_uppercase, to_ascii_lowercase}
use Rattle.std.specs.List.{ends_with, list_any, starts_with}
use Rattle.std.specs.Str.{bytes_eq}
use Rattle.pam_conf.specs.Files.{Folder, Named, bytes_at}
use Rattle.pam_conf.specs.FileRules.{good_rules}
use Rattle.pam_conf.specs.declared.rule.Form.{Form}
use Rattle.pam_conf.specs.declared.rule.Form.TheVariants.{Dir, Single}

-- S7: Linux-PAM looks services up in lowercase, so no program asks for this name
abbrev pub has_capital : List ℕ → Bool
has_capital name = list_any is_ascii_uppercase name

-- a name begins or ends with a text
abbrev pub begins : List ℕ → List ℕ → Bool
begins name text = starts_with nat_eq name text

abbrev pub ends : List ℕ → List ℕ → Bool
ends name text = ends_with nat_eq name text

-- a text is somewhere in a name
abbrev pub has_text : List ℕ → List ℕ → Bool
has_text text [] = false
has_text text (byte ∷ name) = begins (byte ∷ name) text || has_text text name

-- the suffixes of the names of copies
unfoldable pub left_ends : List (List ℕ)
left_ends =
    codes "~" ∷ codes ".bak" ∷ codes ".old" ∷ codes ".orig" ∷ codes ".save" ∷ codes ".tmp" ∷ codes ".swp" ∷ codes ".swo"
    ∷ codes ".rpmnew" ∷ codes ".rpmsave" ∷ codes ".rpmorig" ∷ codes ".pacnew" ∷ codes ".pacsave"
    ∷ codes ".ucf-dist" ∷ codes ".ucf-old" ∷ codes ".ucf-new" ∷ codes ".pam-old" ∷ codes ".pam-new" ∷ codes ".distrib" ∷ []

-- S11: the name of a copy that an editor or a package left
abbrev pub is_left_over : List ℕ → Bool
is_left_over name =
    begins name (codes ".") || begins name (codes "#") && ends name (codes "#") || has_text (codes ".dpkg-") name || list_any (ends name) left_ends

-- a file of a folder is a service
abbrev pub is_service : List ℕ → Bool
is_service name = not (is_left_over name) && not (has_capital name)

-- names, each once, and one more
abbrev pub with_name : List (List ℕ) → List ℕ → List (List ℕ)
with_name names name = if list_any (bytes_eq name) names then names else names ++ name ∷ []

abbrev pub each_once : List (List ℕ) → List (List ℕ)
each_once names = fold with_name [] names

-- the services of a configuration: the files of a folder, or the services that the rules of pam.conf name
abbrev pub services_in : Form → List Named → List (List ℕ)
services_in Dir files = filter is_service (map (λ f. f.0) files)
services_in Single files = each_once (filter_map (λ rule. rule.service) (good_rules Single (unwrap_or (bytes_at 0 files) [])))

-- `other`, if there is none
abbrev pub or_other : List (List ℕ) → List (List ℕ)
or_other [] = codes "other" ∷ []
or_other (name ∷ names) = name ∷ names

-- THE SERVICES that are checked: those that are named, in lowercase, or else all
unfoldable pub checked_services : Folder → List (List ℕ) → List (List ℕ)
checked_services folder [] = or_other (services_in folder.form folder.entries)
checked_services folder (name ∷ names) = each_once (map (λ n. map to_ascii_lowercase n) (name ∷ names))
