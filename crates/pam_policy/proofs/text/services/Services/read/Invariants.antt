-- the services so far are those of the tokens so far
use Rattle.std.proofs.Common.{map}
use Rattle.pam_policy.specs.text.Services.{services_view}
use Rattle.pam_policy.proofs.TextProofs.ServiceSteps.{AreOf}
use Rattle.pam_policy.proofs.text.services.Services.read.Given as goal

abbrev pub invariant-loop-token : goal.invariant-loop-token
invariant-loop-token l = AreOf (services_view l.services) (map (λ token. token.now) l.yielded)
