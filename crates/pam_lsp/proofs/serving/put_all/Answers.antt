use Rattle.std.proofs.Common.{◌∙◌, ap, arith}
use Rattle.pam_lsp.proofs.Appended.{frame-more}
use Rattle.pam_lsp.proofs.serving.put_all.Goals as goal

pub loop-message-preserved : goal.loop-message-preserved
loop-message-preserved g c =
    frame-more c.args.sent.now c.loop-message.message-index c.message-item.result (g.W.Write.contents c.args.out.now.inner)
    (g.W.Write.contents c.loop-message.out.inner) (g.W.Write.contents c.put_message.new.out.inner) c.as_slice.result.now
    (omega (arith, c.loop-message-test.true)) (c.as_slice.ensures.value ∙ ap (λ m. m.items) c.message-item.is) c.loop-message.invariant
    c.in_ok-put_message.ensures
