use Rattle.std.proofs.Common.{◌∙◌, List, ℕ, Option, Some, ap, not, sym}
use Rattle.std.specs.Option.{option_map}
use Rattle.pam_codes.specs.Set.{codes_where, is_in}
use Rattle.pam_words.proofs.Named.{all_without}
use Rattle.pam_words.proofs.reading.decisions.set_without.Goals as goal

pub returns : goal.returns
returns c =
    let but : List ℕ → List ℕ = λ missing. codes_where (λ code. not (is_in code missing)) in
    ap Some (all_without _ c.in-Some.missing (rw c.all.ensures at c.without.ensures))
    ∙ ap (λ (o : Option (List ℕ)). option_map but o) (sym c.in-Some.is ∙ c.codes_listed.ensures)
