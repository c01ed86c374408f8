use Rattle.std.proofs.Common.{refl}
use Rattle.pam_findings.proofs.HostProofs.Passes.{notes-end, notes-more, notes-start}
use Rattle.pam_findings.proofs.host.readers.note_all.Goals as goal

pub loop-file-init : goal.loop-file-init
loop-file-init c = notes-start c.args.service c.args.kind c.args.files.now c.args.readers.now

pub loop-file-preserved : goal.loop-file-preserved
loop-file-preserved c =
    notes-more c.args.service c.args.kind c.args.files.now c.loop-file.file-index _ _ c.args.readers.now c.loop-file.readers c.note.new.readers
    c.loop-file-test.true refl c.loop-file.invariant c.in_ok-note.ensures

pub returns : goal.returns
returns c =
    notes-end c.args.service c.args.kind c.args.files.now c.loop-file.file-index c.args.readers.now c.loop-file.readers
    c.loop-file-test.false c.loop-file.invariant
