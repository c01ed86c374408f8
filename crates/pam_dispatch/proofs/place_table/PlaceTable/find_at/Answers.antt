use Rattle.pam_dispatch.proofs.EqualRests.{representative-rests}
use Rattle.pam_dispatch.proofs.place_table.PlaceTable.find_at.Goals as goal

pub returns-then-has_at-clause-rests : goal.returns-then-has_at-clause-rests
returns-then-has_at-clause-rests c = representative-rests c.args.program.now c.args.place.now
