use Rattle.std.proofs.Common.{◌∙◌}
use Rattle.pam_released.specs.Reader.{state_of}
use Rattle.pam_released.proofs.Scanning.{read_all, read_byte}
use Rattle.pam_released.proofs.reader.Reader.after.Goals as goal

pub loop-byte-preserved : goal.loop-byte-preserved
loop-byte-preserved c =
    read_byte (state_of c.loop-byte.reader) (state_of c.next-reader.result) c.args.text.now c.loop-byte.byte-index c.loop-byte-test.true
    c.next-reader.ensures ∙ c.loop-byte.invariant

pub returns : goal.returns
returns c =
    read_all (state_of c.loop-byte.reader) (state_of c.args.self) c.args.text.now c.loop-byte.byte-index c.loop-byte-test.false c.loop-byte.invariant
