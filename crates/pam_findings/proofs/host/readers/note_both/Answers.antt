use Rattle.pam_findings.proofs.HostProofs.Passes.{notes-joined}
use Rattle.pam_findings.proofs.host.readers.note_both.Goals as goal

pub returns : goal.returns
returns c =
    notes-joined c.args.service c.args.kind c.args.files.now c.args.others.now c.args.readers.now c.note_all.new.readers c.note_all-2.new.readers
    c.in_ok-note_all.ensures c.in_ok-note_all-2.ensures
