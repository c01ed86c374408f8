use Rattle.std.specs.Option.{option_map}
use Rattle.pam_conf.specs.inner.Progress.{reads_by}
use Rattle.pam_conf.proofs.WalkLemmas.{walk-read}
use Rattle.pam_conf.proofs.walk.Walker.walk_start.Goals as goal

pub returns-in-Some-clause-walked : goal.returns-in-Some-clause-walked
returns-in-Some-clause-walked c =
    let walker = c.args.self.now in
    let service = option_map (λ s. s.now) walker.service in
    rw (walk-read walker.files.now (reads_by walker.files.now walker.read) walker.kind service c.args.trail.now c.args.file c.in-Some.rules.now
    (rw c.in-Some.is at c.requires.read)) c.walk_rules.ensures.walked
