use Rattle.pam_dispatch.proofs.Places.{place_state}
use Rattle.pam_dispatch.proofs.place.Place.state.Goals as goal

pub returns : goal.returns
returns c = λ program valid. place_state program c.args.self.now valid
