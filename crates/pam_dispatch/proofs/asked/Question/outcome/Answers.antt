use Rattle.std.proofs.Common.{ap}
use Rattle.pam_dispatch.specs.Runs.{Ask}
use Rattle.pam_dispatch.proofs.Places.{outcome-made}
use Rattle.pam_dispatch.proofs.asked.Question.outcome.Goals as goal

pub returns : goal.returns
returns c =
    let inside = c.self.inside in
    outcome-made c.args.self.now inside.situation.state inside.situation.entry inside.situation.items_after c.args.code c.args.action c.of.result
    (ap (λ (x : Ask). x.state) c.self.view_is) (ap (λ (x : Ask). x.entry) c.self.view_is) (ap (λ (x : Ask). x.after) c.self.view_is)
    c.requires c.of.ensures.state c.of.ensures.left
