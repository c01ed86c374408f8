use Rattle.std.proofs.Common.{length, refl}
use Rattle.std.proofs.lemmas.Option.{slice_get_read}
use Rattle.pam_policy.proofs.HostProofs.Known.{lent-there}
use Rattle.pam_policy.proofs.host.place.Stacks.site.Goals as goal

pub returns-in-Some-clause-there : goal.returns-in-Some-clause-there
returns-in-Some-clause-there c =
    let classes = c.args.self.now.classes.now in
    let at = c.in-Some.ensures.lookup in
    lent-there classes c.args.class c.in-Some.site.now c.as_ref.result
    (slice_get_read classes (length classes) c.args.class c.in-Some.site.now refl at.3.0 at.1) c.as_ref.ensures.value
