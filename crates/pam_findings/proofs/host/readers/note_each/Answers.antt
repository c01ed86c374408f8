use Rattle.pam_findings.proofs.HostProofs.Passes.{notes-each, notes-next, notes-none}
use Rattle.std.proofs.Common.{◌<◌, arith}
use Rattle.pam_findings.proofs.host.readers.note_each.Goals as goal

pub loop-file-init : goal.loop-file-init
loop-file-init c = notes-none (λ file. file < 0) c.args.service c.args.kind c.args.readers.now (λ file h. omega (arith, h))

pub loop-file-preserved : goal.loop-file-preserved
loop-file-preserved c =
    notes-next c.args.service c.args.kind c.loop-file.file c.args.readers.now c.loop-file.readers c.note.new.readers
    c.loop-file.invariant c.in_ok-note.ensures

pub returns : goal.returns
returns c = notes-each c.args.service c.args.kind c.loop-file.file c.args.readers.now c.loop-file.readers (omega arith) c.loop-file.invariant
