use Rattle.std.proofs.Common.{◌≡◌, drop, fold}
use Rattle.pam_conf.specs.Survey.{with_file}
use Rattle.pam_conf.proofs.progress.reach_all.Given as goal

abbrev pub invariant-loop-file : goal.invariant-loop-file
invariant-loop-file l = fold with_file l.reached.items (drop l.file-index l.files) ≡ fold with_file l.fn.reached.items l.files
