use Rattle.std.proofs.Common.{◌≡◌, ◌==◌, ◌||◌, ◌&&◌, not, [], ◌∷◌, refl}
use Rattle.pam_codes.specs.Code.{all_codes}
use Rattle.pam_codes.specs.Set.{codes_where, is_in}
use Rattle.pam_facts.specs.Failing.{failures}
use Rattle.pam_facts.proofs.failing.failures.Goals as goal

left : codes_where (λ c. is_in c all_codes && not (is_in c (codes_where (λ d. d == 25 || is_in d (codes_where (λ e. e == 12 || is_in e (0 ∷ []))))))) ≡ failures
unfolding all_codes
left = refl

pub returns : goal.returns
returns c = rw (c.without.ensures, c.all.ensures, c.insert-2.ensures, c.insert.ensures, c.single-successes.ensures) left
