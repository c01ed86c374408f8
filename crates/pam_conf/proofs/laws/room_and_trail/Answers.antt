use Rattle.std.proofs.Common.{refl}
use Rattle.pam_conf.specs.Resolution.{stack_from}
use Rattle.pam_conf.proofs.RoomLemmas.{deep-full, trail-followed}
use Rattle.pam_conf.proofs.laws.room_and_trail.Goals as goal

pub returns : goal.returns
unfolding stack_from
returns c = record {
  begins = λ folder kind service file. refl;
  followed = trail-followed;
  too_deep = deep-full;
}
