use Rattle.std.proofs.Common.{◌∙◌, ap}
use Rattle.pam_tables.specs.Returns.{codes_for}
use Rattle.pam_tables.proofs.ReturnSteps.{codes_for-map, has_code}
use Rattle.pam_tables.proofs.returns.ReturnTable.codes.Goals as goal

pub returns-clause-value : goal.returns-clause-value
returns-clause-value c =
    c.copied.ensures ∙ c.get.ensures.value ∙ codes_for-map (λ k. k.now) c.args.name.now c.self.inside.codes.entries
    ∙ ap (λ lines. codes_for lines c.args.name.now) c.self.view_is

pub returns-clause-some : goal.returns-clause-some
returns-clause-some c =
    rw (c.copied.ensures ∙ c.get.ensures.value ∙ codes_for-map (λ k. k.now) c.args.name.now c.self.inside.codes.entries)
    (has_code _ c.args.name.now c.self.invariant)
