-- What a session takes and writes.
use Rattle.std.specs.Prelude.{ℕ, List, [], Option}
use Rattle.std.specs.Io.KnownBytes.{Appends}
use Rattle.std.specs.List.{flat_map}
use Rattle.clap.specs.Words.{Text}
use Rattle.pam_cli.specs.System.{Told}
use Rattle.pam_codes.specs.Out.{Out}
use Rattle.pam_lsp.specs.Frames.{frame}
use Rattle.pam_lsp.specs.Messages.{MessageText, Reads}
use Rattle.pam_lsp.specs.States.{StateText, Steps}

-- A MESSAGE IS TAKEN: what it asks for is done, and the messages that are to be sent are written, each in its frame
pub record Takes (told : Told) {W : Type 0} (contents : W → Option (List ℕ)) (old new : StateText) (text : Text) (before after : Out W)
    (status : Option ℕ)
    : Type 0 where
  pub message : MessageText
  pub sent : List Text
  pub reads : Reads text message
  pub steps : Steps told message old new [] sent status
  pub written : Appends (contents before.inner) (contents after.inner) (flat_map frame sent)
