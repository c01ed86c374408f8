-- The name and the value of a member.
use Rattle.std.specs.Prelude.{ℕ, List, map}
use Rattle.std.specs.Char.{to_ascii_lowercase}
use Rattle.std.specs.Str.Lossy.{utf8_lossy}
use Rattle.serde_json.specs.Data.{Data, boolean, null, number, string, unsigned}
use Rattle.pam_render.specs.declared.json_lines.value.Member.{Member}
use Rattle.pam_render.specs.declared.json_lines.value.Value.{Value}
use Rattle.pam_render.specs.declared.json_lines.value.Value.TheVariants as values

-- for a value that is written part by part, by what it is
abbrev pub data_of : {V : Type 0} → (V → Data) → Value V → Data
data_of value values.Null = null
data_of value (values.Boolean b) = boolean b
data_of value (values.Number n) = number (unsigned n)
data_of value (values.Text text) = string text.now
data_of value (values.Readable bytes) = string (utf8_lossy bytes.now)
data_of value (values.Lowercase text) = string (map to_ascii_lowercase text.now)
data_of value (values.Written v) = value v

abbrev pub member_of : {V : Type 0} → (V → Data) → Member V → List ℕ × Data
member_of value m = (m.name.now, data_of value m.value)
