-- The first line of an answer about a stack.
use Rattle.std.specs.Prelude.{ℕ, List, [], ◌∷◌, codes, map}
use Rattle.std.specs.Char.{to_ascii_lowercase}
use Rattle.pam_conf.specs.declared.rule.Kind.{Kind}
use Rattle.pam_render.specs.json_lines.Line.{kind}
use Rattle.serde_json.specs.Data.{Data, number, string, unsigned}
pub use Rattle.pam_report.specs.Names.{kind_name}

-- the service in lowercase, the kind of the stack as its type, and the number of its modules
abbrev pub stack_members : List ℕ → Kind → ℕ → List (List ℕ × Data)
stack_members service type modules =
    kind (codes "stack") ∷ (codes "service", string (map to_ascii_lowercase service)) ∷ (codes "type", string (kind_name type))
    ∷ (codes "modules", number (unsigned modules)) ∷ []
