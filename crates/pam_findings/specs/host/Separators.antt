-- Modules that read an access table without separators: pam_access(8), fieldsep and listsep.
use Rattle.std.specs.Prelude.{◌&&◌, Bool, codes}
use Rattle.std.specs.Str.{bytes_eq}
use Rattle.pam_conf.specs.Stack.{ModuleText}
use Rattle.pam_facts.specs.known.Answers.{name_of_path}
use Rattle.pam_released.specs.tables.Access.{has_empty_separator}

-- A5: an argument of pam_access names no separators
abbrev pub lacks_separator : ModuleText → Bool
lacks_separator m = bytes_eq (name_of_path m.path) (codes "pam_access.so") && has_empty_separator m.arguments
