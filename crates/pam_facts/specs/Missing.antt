-- The codes of modules that are not there: pam.conf(5), module-path.
use Rattle.std.specs.Prelude.{ℕ, List, [], ◌∷◌, if◌then◌else◌, Option, Some, None, unwrap_or}
use Rattle.std.specs.Option.{option_map_or}
use Rattle.pam_codes.specs.Code.{module_unknown}
use Rattle.pam_conf.specs.Stack.{Items, ModuleText, module_at}
use Rattle.pam_facts.specs.Answers.{is_there}

abbrev pub if_missing : Option (List (List ℕ)) → ModuleText → Option (List ℕ)
if_missing there m = if is_there there m.path then None else Some (module_unknown ∷ [])

-- the codes of a module that is not there, by its number
unfoldable pub missing_at : Option (List (List ℕ)) → Items → ℕ → Option (List ℕ)
missing_at there items number = option_map_or (if_missing there) (module_at number items) None

-- THE CODES of each module, if these are those of a module that is there: one that is not answers module_unknown alone
unfoldable pub where_there : Option (List (List ℕ)) → Items → (ℕ → List ℕ) → ℕ → List ℕ
where_there there items codes number = unwrap_or (missing_at there items number) (codes number)
