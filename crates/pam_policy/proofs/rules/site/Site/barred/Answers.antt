use Rattle.std.proofs.Common.{◌≡◌, ◌∷◌, Bor, Option, [], ap, subst, sym, true}
use Rattle.std.specs.Prelude.{option_map}
use Rattle.pam_codes.specs.Set.{is_in}
use Rattle.pam_policy.specs.declared.rules.part.Part.{Part}
use Rattle.pam_policy.specs.rules.Site.{site_view}
use Rattle.pam_policy.specs.rules.inner.Looking.{AreBarred}
use Rattle.pam_policy.specs.rules.inner.Marking.{part_view}
use Rattle.pam_policy.proofs.RulesProofs.Lists.{ok-map}
use Rattle.pam_policy.proofs.RulesProofs.Marking.{group-one}
use Rattle.pam_policy.proofs.rules.site.Site.barred.Goals as goal

pub returns-in-None : goal.returns-in-None
returns-in-None c =
    let site = site_view c.args.self.now in
    ok-map (λ one. one.items ≡ c.new.result ∷ []) (λ one. AreBarred site (option_map (λ p. part_view p.now) c.args.part) one.items) c.only.result
    (λ one is. subst (λ (part : Option (Bor Part)). AreBarred site (option_map (λ p. part_view p.now) part) one.items) (sym c.in-None.is)
    (group-one site true [] c.new.result one.items is (λ number code first last low. ap (is_in code) (c.new.ensures number)))) c.only.ensures
