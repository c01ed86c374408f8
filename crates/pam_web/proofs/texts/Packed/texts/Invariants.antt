-- what is cut, before what is still to be cut
use Rattle.std.proofs.Common.{◌≡◌, ◌++◌, drop, map}
use Rattle.pam_text.specs.Texts.{cut_lengths}
use Rattle.pam_web.proofs.texts.Packed.texts.Given as goal

abbrev pub invariant-loop-length : goal.invariant-loop-length
invariant-loop-length l =
    map (λ t. t.now) l.texts.items ++ cut_lengths (drop l.length-index l.fn.self.lengths.now) l.rest ≡ cut_lengths l.fn.self.lengths.now l.fn.self.bytes.now
