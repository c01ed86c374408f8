use Rattle.pam_policy.proofs.HostProofs.Found.{adds-none}
use Rattle.pam_policy.proofs.host.classes.Classes.class_of.Goals as goal

pub returns-in-Some-clause-adds : goal.returns-in-Some-clause-adds
returns-in-Some-clause-adds c = adds-none c.args.self.now

pub returns-in-Some-find_large-clause-adds : goal.returns-in-Some-find_large-clause-adds
returns-in-Some-find_large-clause-adds c = adds-none c.args.self.now
