-- the bytes before those that are left are written
use Rattle.std.proofs.Common.{◌≡◌, ◌++◌, List, length, ℕ}
use Rattle.pam_codes.specs.Out.{TookAll}
use Rattle.pam_render.specs.sentences.Shown.{shown_bytes}
use Rattle.pam_render.proofs.sentences.shown.put_bytes.Given as goal

abbrev pub invariant-loop-byte : goal.invariant-loop-byte
invariant-loop-byte g l =
    (written : List ℕ) × TookAll g.W.Write.contents l.initial.out l.out written
    × (written ++ shown_bytes l.brackets l.hidden l.left ≡ shown_bytes l.brackets 0 l.name)

abbrev pub decreases-loop-byte : goal.decreases-loop-byte
decreases-loop-byte g l = length l.left
