use Rattle.std.proofs.Common.{◌∙◌, ◌&&◌, ℕ, List, ap, refl}
use Rattle.std.proofs.lemmas.List.{get_or_default}
use Rattle.pam_codes.specs.Code.{all_codes}
use Rattle.pam_codes.specs.Set.{codes_where, is_in}
use Rattle.pam_compare.proofs.Possible.{narrowed, narrowed-back}
use Rattle.pam_compare.proofs.naming.narrow.Goals as goal

pub returns-clause-possible : goal.returns-clause-possible
returns-clause-possible c a member h =
    narrowed c.args.sets.now.items c.args.name c.args.codes c.intersection-left.result _ a c.requires
    (c.intersection-left.ensures ∙ ap (λ (s : List ℕ). codes_where (λ x. is_in x s && is_in x c.args.codes))
    (c.index.ensures ∙ get_or_default c.args.sets.now.items c.args.name c.index.result.now all_codes c.requires))
    refl member h

pub returns-clause-exact : goal.returns-clause-exact
returns-clause-exact c a h =
    narrowed-back c.args.sets.now.items c.args.name c.args.codes c.intersection-left.result _ a c.requires
    (c.intersection-left.ensures ∙ ap (λ (s : List ℕ). codes_where (λ x. is_in x s && is_in x c.args.codes))
    (c.index.ensures ∙ get_or_default c.args.sets.now.items c.args.name c.index.result.now all_codes c.requires))
    refl h
