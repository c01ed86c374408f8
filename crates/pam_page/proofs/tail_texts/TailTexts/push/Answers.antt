use Rattle.std.proofs.Common.{◌∙◌, ◌+◌, ◌++◌, ◌∷◌, [], Bool, ap, arith, codes, cond}
use Rattle.pam_page.proofs.TailTexts.{no-alike, one-alike}
use Rattle.pam_page.proofs.tail_texts.TailTexts.push.Goals as goal

pub invariant_of-self : goal.invariant_of-self
invariant_of-self c =
    let inside = c.self.inside in
    let cursor = inside.cursor in
    let numbered = c.append_number.new.steps in
    one-alike inside.ends.items cursor inside.steps _ _ numbered _ (c.len-number.result + 1) c.len.result c.self.invariant
    (omega (arith, c.len-number.ensures, inside.ends.ok))
    (c.append.ensures ∙ ap (λ (fits : Bool). cond fits (cursor ++ codes ".0") cursor) c.if-append.true)
    (c.append_number.ensures c.if-append_number.true)
    (c.append-then-append_number.ensures ∙ ap (λ (fits : Bool). cond fits (numbered ++ codes "any") numbered) c.if-append-2.true)
    c.len.ensures
    (c.push_end.ensures ∙ ap (λ (fits : Bool). cond fits (inside.ends.items ++ c.len.result ∷ []) inside.ends.items) c.if-push_end.true)

pub invariant_of-self-2 : goal.invariant_of-self-2
invariant_of-self-2 c = no-alike _ _ _ c.clear.ensures.items c.truncate.ensures c.truncate-2.ensures
