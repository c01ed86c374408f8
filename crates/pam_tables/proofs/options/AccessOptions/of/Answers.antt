use Rattle.pam_tables.proofs.OptionSteps.{options_are}
use Rattle.pam_tables.proofs.options.AccessOptions.of.Goals as goal

pub returns : goal.returns
returns c =
    options_are c.args.arguments.now _ _ _ _ _ c.given.ensures c.last_value.ensures c.given-2.ensures c.last_value-2.ensures c.has_argument.ensures
