use Rattle.std.proofs.Common.{length}
use Rattle.pam_cli.proofs.reading.named_files.NamedFiles.put_file.Given as goal

abbrev pub decreases-loop-joined : goal.decreases-loop-joined
decreases-loop-joined l = length l.text.rest.now
