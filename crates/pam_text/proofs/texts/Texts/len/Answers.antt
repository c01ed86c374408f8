use Rattle.std.proofs.Common.{ap, arith, length}
use Rattle.pam_text.proofs.TextsCut.{count_texts}
use Rattle.pam_text.proofs.texts.Texts.len.Goals as goal

pub returns : goal.returns
returns c =
    omega (arith, c.len.ensures, count_texts c.self.inside.lengths.items c.self.inside.bytes.items, ap length c.self.view_is)
