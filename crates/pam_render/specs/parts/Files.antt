-- Names of files.
use Rattle.std.specs.Prelude.{ℕ, List, [], slice_get}
use Rattle.std.specs.Option.{option_map_or}
use Rattle.pam_conf.specs.Files.{Folder}

-- the name of the file at a position, empty if there is none
unfoldable pub name_at : Folder → ℕ → List ℕ
name_at files position = option_map_or (λ f. f.0) (slice_get files.entries position) []
