-- For private contracts and proofs alone: the name and the value of a member.
use Rattle.std.specs.Prelude.{ℕ, List, ◌++◌, ◌∷◌}
use Rattle.json.specs.Print.{quoted}
use Rattle.serde_json.specs.Data.{Data}
use Rattle.serde_json.specs.Written.{compact_text}
use Rattle.pam_render.specs.declared.json_lines.value.Member.{Member}
use Rattle.pam_render.specs.json_lines.Values.{data_of}

abbrev pub member_text : {V : Type 0} → (V → Data) → Member V → List ℕ
member_text value m = quoted m.name.now ++ 58 ∷ compact_text (data_of value m.value)
