use Rattle.std.proofs.Common.{◌∙◌, ◌+◌, ap, arith, length, take}
use Rattle.std.proofs.lemmas.List.{with_items_is}
use Rattle.pam_page.proofs.PaddedTexts.{front_put}
use Rattle.pam_page.proofs.buffer.Buffer.append_front.Goals as goal

pub returns : goal.returns
returns g c =
    let end = c.self.inside.end in
    let room = c.if-not-has_room.ensures in
    ap (take (end + c.args.count)) (with_items_is c.has_room.new.bytes c.put_at.new.bytes (omega (arith, c.put_at.auto.bytes, c.deref_mut.ensures.len)))
    ∙ front_put end c.args.count c.deref_mut.result.now c.args.self.now c.args.padded.now _ _
    (ap (take end) c.deref_mut.ensures.value ∙ room.text ∙ c.self.view_is)
    (omega (arith, ap length c.deref_mut.ensures.value, room.within))
    (omega (arith, c.told-padded, c.requires)) c.put_at.ensures
