-- The first line of an answer, and the names in its other lines.
use Rattle.std.specs.Prelude.{ℕ, List, ◌∷◌, [], codes, decimal, map}
use Rattle.std.specs.Char.{to_ascii_lowercase}
use Rattle.std.specs.List.{concat}
use Rattle.pam_conf.specs.declared.rule.Kind.{Kind}
unfoldable pub use Rattle.pam_render.specs.parts.Files.{name_at}
pub use Rattle.pam_report.specs.Names.{kind_name}

-- `SERVICE KIND N modules`, with the service in lowercase
unfoldable pub header_text : List ℕ → Kind → ℕ → List ℕ
header_text service kind modules =
    concat (map to_ascii_lowercase service ∷ codes " " ∷ kind_name kind ∷ codes " " ∷ decimal modules ∷ codes " modules\n" ∷ [])
