use Rattle.pam_conf.proofs.NameSteps.{has-next}
use Rattle.pam_conf.proofs.name_list.known_of.Goals as goal

pub loop-name-preserved : goal.loop-name-preserved
loop-name-preserved c =
    has-next (λ name. name.items) c.loop-name.known.keys c.insert.new.self.keys c.in_ok-from_slice.field-0 c.in_ok-insert.ensures.keys
    c.args.names.now c.next.new.self c.in-Some.name.now c.in_ok-from_slice.ensures.items (rw (← c.in-Some.ensures.steps) c.loop-name.invariant)
