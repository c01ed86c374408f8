-- Laws of the table.
use Rattle.std.specs.Prelude.{◌≡◌, map, Some}
use Rattle.pam_explain.specs.Explanations.{explanation_of, explanations}

-- each row is found by its number: so no number is there twice
abbrev pub EachIsFound : Type 0
EachIsFound = map (λ e. explanation_of e.number) explanations ≡ map Some explanations
