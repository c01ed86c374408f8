use Rattle.pam_tables.proofs.FlagSteps.{flag_of}
use Rattle.pam_tables.proofs.flags.Flags.has.Goals as goal

pub returns : goal.returns
returns c = flag_of c.args.self.now.words c.args.index
