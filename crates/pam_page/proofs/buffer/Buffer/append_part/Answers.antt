use Rattle.std.proofs.Common.{◌∙◌, ◌++◌, List, ap, arith, cond, ℕ}
use Rattle.pam_page.proofs.PaddedTexts.{part_shown}
use Rattle.pam_page.proofs.buffer.Buffer.append_part.Goals as goal

pub returns-in-Some : goal.returns-in-Some
returns-in-Some g c =
    let part = part_shown c.args.start c.args.end c.other.inside.end g.row.N c.other.inside.bytes.items c.deref.result.now c.args.other.now c.in-Some.padded.now
    c.deref.ensures.value c.other.view_is c.requires.order c.requires.within (omega (arith, c.if-count.true)) c.in-Some.ensures.cases.same in
    c.append_front.ensures ∙ ap (λ (l : List ℕ). cond c.append_front.result (c.args.self.now ++ l) c.args.self.now) part
