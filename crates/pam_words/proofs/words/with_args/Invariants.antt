-- a command with the first arguments is to get the others
use Rattle.std.proofs.Common.{◌≡◌, false, drop}
use Rattle.clap.specs.Words.{app_of}
use Rattle.clap.specs.declared.builder.Command.TheViews.{out-Command}
use Rattle.pam_words.specs.inner.Building.{with_args}
use Rattle.pam_words.proofs.words.with_args.Given as goal

abbrev pub invariant-loop-argument : goal.invariant-loop-argument
invariant-loop-argument l = record {
  local : (out-Command l.command).has_globals ≡ false;
  app : with_args (app_of l.command) (drop l.argument-index l.arguments) ≡ with_args (app_of l.fn.command) l.arguments;
}
