use Rattle.pam_words.proofs.Subcommands.{built-one}
use Rattle.pam_words.proofs.words.one_command.Goals as goal

pub returns : goal.returns
returns c =
    let sub = c.in_ok-command_of.ensures in
    built-one _ _ c.subcommand.result _ _ c.subcommand.ensures c.bare_command.ensures.app sub.0 c.bare_command.ensures.local sub.1
