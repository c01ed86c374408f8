-- The names of modules, by the paths of rules: pam.conf(5), module-path.
use Rattle.std.specs.Prelude.{ℕ, ◌-◌, ◌&&◌, ◌||◌, ◌++◌, Bool, false, nat_eq, List, [], ◌∷◌, codes, length, take, if◌then◌else◌, Option, Some, None}
use Rattle.std.specs.List.{ends_with, slice_split, starts_with}
use Rattle.std.specs.Option.{option_map_or, option_or}
use Rattle.std.specs.Str.{bytes_eq}
use Rattle.pam_text.specs.Cut.{cut_at, is_among}

-- A FOLDER is given as the names on the way to it from the root. Some names add nothing to the way: an empty one, `.`, and `$ISA`,
-- for which Linux-PAM puts a folder of the same modules
abbrev pub leads_nowhere : List ℕ → Bool
leads_nowhere name = bytes_eq name [] || (bytes_eq name (codes ".") || bytes_eq name (codes "$ISA"))

-- where a name leads from a folder; `..` leads to the folder that it is in, and from the root to the root
abbrev pub entered : List (List ℕ) → List ℕ → List (List ℕ)
entered folder name =
    if leads_nowhere name then folder else if bytes_eq name (codes "..") then take (length folder - 1) folder else folder ++ name ∷ []

-- WHICH FOLDERS have modules of the system: `security` in /lib*, in /usr/lib*, or in a folder for one machine in one of these

-- a machine and GNU/Linux, as x86_64-linux-gnu
abbrev pub is_triplet : List ℕ → Bool
is_triplet name = option_map_or (λ p. starts_with nat_eq p.1 (codes "linux-gnu")) (cut_at (is_among (45 ∷ [])) name) false

abbrev pub is_security : List (List ℕ) → Bool
is_security (name ∷ []) = bytes_eq name (codes "security")
is_security names = false

abbrev pub is_of_machine : List (List ℕ) → Bool
is_of_machine (name ∷ names) = is_triplet name && is_security names
is_of_machine names = false

-- below a folder of libraries
abbrev pub is_of_libraries : List (List ℕ) → Bool
is_of_libraries (name ∷ names) = starts_with nat_eq name (codes "lib") && (is_security names || is_of_machine names)
is_of_libraries names = false

abbrev pub is_of_usr : List (List ℕ) → Bool
is_of_usr (name ∷ names) = bytes_eq name (codes "usr") && is_of_libraries names
is_of_usr names = false

abbrev pub has_modules : List (List ℕ) → Bool
has_modules folder = is_of_libraries folder || is_of_usr folder

-- THE MODULE of a file in a folder: its name without `.so`, if the folder has modules of the system
abbrev pub file_module : List ℕ → Option (List ℕ)
file_module file = if ends_with nat_eq file (codes ".so") then Some (take (length file - 3) file) else None

abbrev pub module_in : List (List ℕ) → List ℕ → Option (List ℕ)
module_in folder file = if has_modules folder then file_module file else None

-- the module at a path below a folder. The last part of the path is its file
unfoldable pub module_below : List (List ℕ) → List (List ℕ) → Option (List ℕ)
module_below folder [] = None
module_below folder (file ∷ []) = module_in folder file
module_below folder (name ∷ parts) = module_below (entered folder name) parts

-- the parts of a path: the texts between its slashes
unfoldable pub parts_of : List ℕ → List (List ℕ)
parts_of path = slice_split (is_among (47 ∷ [])) path

-- where relative paths begin: in a folder of modules of the system, with or without one for the machine
abbrev pub common_folder : List (List ℕ)
common_folder = codes "lib" ∷ codes "security" ∷ []

abbrev pub machine_folder : List (List ℕ)
machine_folder = codes "lib" ∷ codes "x86_64-linux-gnu" ∷ codes "security" ∷ []

-- THE NAME of the module at a path, if it is in a folder of modules of the system. Another path has none
unfoldable pub module_name : List ℕ → Option (List ℕ)
module_name path =
    if starts_with nat_eq path (codes "/") then module_below [] (parts_of path)
    else option_or (module_below common_folder (parts_of path)) (module_below machine_folder (parts_of path))
