use Rattle.std.proofs.Common.{ℕ, Global, List, Vec, ap, map, subst}
use Rattle.std.specs.Io.KnownBytes.{Appends}
use Rattle.std.specs.List.{flat_map}
use Rattle.clap.specs.Words.{Text}
use Rattle.pam_lsp.specs.Frames.{frame}
use Rattle.pam_lsp.specs.States.{Steps, state_view}
use Rattle.pam_lsp.proofs.Appended.{frames-seen}
use Rattle.pam_lsp.proofs.serving.take.Goals as goal

pub returns : goal.returns
returns g c =
    let message = c.in_ok-status.ensures.0 in
    let messages = c.receive.new.sent.items in
    let before = g.W.Write.contents c.args.out.now.inner in
    let after = g.W.Write.contents c.send.new.out.inner in record {
      message = message;
      sent = map (λ m. m.items) messages;
      reads = c.in_ok-status.ensures.1;
      steps =
          subst
          (λ (none : List Text). Steps (g.S.System.told c.args.system.now) message (state_view c.args.state.now) (state_view c.receive.new.state) none
          (map (λ m. m.items) messages) c.in_ok-status.status)
          (ap (λ (ms : List (Vec ℕ Global)). map (λ m. m.items) ms) c.new-sent.ensures.items) c.in_ok-status.ensures.2;
      written =
          frames-seen messages before after
          (subst (λ (ms : List (Vec ℕ Global)). Appends before after (flat_map (λ m. frame m.items) ms)) c.deref.ensures.value c.in_ok-send.ensures);
    }
