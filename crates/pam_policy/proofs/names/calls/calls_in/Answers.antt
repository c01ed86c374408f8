use Rattle.std.proofs.Common.{arith, map}
use Rattle.pam_policy.specs.names.Host.{call_view}
use Rattle.pam_policy.proofs.NamesProofs.Files.{file_more, files_all}
use Rattle.pam_policy.proofs.names.calls.calls_in.Goals as goal

pub loop-position-preserved : goal.loop-position-preserved
loop-position-preserved c =
    file_more c.args.rules.now c.loop-position.position _ (map call_view c.push_file.new.calls.items) c.loop-position.invariant
    c.in_ok-push_file.ensures

pub returns : goal.returns
returns c =
    files_all c.args.rules.now c.loop-position.position _ (omega (arith, c.len-position-end.ensures, c.loop-position-test.false))
    c.loop-position.invariant
