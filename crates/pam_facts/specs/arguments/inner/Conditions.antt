-- For private contracts and proofs alone: a condition word by word.
use Rattle.std.specs.Prelude.{ℕ, ◌&&◌, Bool, true, false, List, [], ◌∷◌, if◌then◌else◌}
use Rattle.pam_facts.specs.arguments.Conditions.{is_field, is_flag, is_test}
use Rattle.pam_facts.specs.declared.arguments.conditions.Part.{Part}
use Rattle.pam_facts.specs.declared.arguments.conditions.Part.TheVariants.{Field, Test, Value}

abbrev pub next_part : Part → Part
next_part Field = Test
next_part Test = Value
next_part Value = Field

abbrev pub fits : Part → List ℕ → Bool
fits Field word = is_field word
fits Test word = is_test word
fits Value word = true

abbrev pub is_start : Part → Bool
is_start Field = true
is_start Test = false
is_start Value = false

-- words that go on from this part are conditions
abbrev pub go_on : Part → List (List ℕ) → Bool
go_on part [] = is_start part
go_on part (word ∷ words) = if is_flag word then go_on part words else fits part word && go_on (next_part part) words
