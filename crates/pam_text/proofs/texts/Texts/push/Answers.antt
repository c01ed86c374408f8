use Rattle.std.proofs.Common.{rules}
use Rattle.pam_text.proofs.TextsCut.{pushed_text}
use Rattle.pam_text.proofs.texts.Texts.push.Goals as goal

pub returns-in-Ok-push : goal.returns-in-Ok-push
returns-in-Ok-push c =
    pushed_text c.self.inside.lengths.items c.self.inside.bytes.items c.args.text.now c.in-Ok.length _ _ _ c.self.invariant c.self.view_is
    (search rules) c.in-Ok-push.ensures.items c.in_ok-extend_from_slice.ensures.items
