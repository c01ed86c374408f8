use Rattle.std.proofs.Common.{Some, ◌∙◌, ap, sym}
use Rattle.pam_dispatch.proofs.Places.{place_module}
use Rattle.pam_dispatch.proofs.place.Place.module.Goals as goal

pub returns-in-Some : goal.returns-in-Some
returns-in-Some c = λ program valid. ap Some c.from.ensures ∙ sym c.in-Some.is ∙ place_module program c.args.self.now valid

pub returns-in-None : goal.returns-in-None
returns-in-None c = λ program valid. sym c.in-None.is ∙ place_module program c.args.self.now valid
