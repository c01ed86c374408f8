use Rattle.pam_tables.proofs.FlagSteps.{set_flag}
use Rattle.pam_tables.proofs.flags.Flags.set.Goals as goal

pub returns : goal.returns
returns c = set_flag c.args.self.now.words c.args.index c.requires c.args.self.now.long
