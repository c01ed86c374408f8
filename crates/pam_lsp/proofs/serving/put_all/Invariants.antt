-- the frames of the messages so far are written
use Rattle.std.proofs.Common.{take}
use Rattle.std.specs.Io.KnownBytes.{Appends}
use Rattle.std.specs.List.{flat_map}
use Rattle.pam_lsp.specs.Frames.{frame}
use Rattle.pam_lsp.proofs.serving.put_all.Given as goal

abbrev pub invariant-loop-message : goal.invariant-loop-message
invariant-loop-message g l =
    Appends (g.W.Write.contents l.initial.out.inner) (g.W.Write.contents l.out.inner) (flat_map (λ m. frame m.items) (take l.message-index l.sent))
