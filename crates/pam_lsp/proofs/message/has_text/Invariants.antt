-- of the values that are left, one is the text if one of all is
use Rattle.std.proofs.Common.{◌≡◌, drop, map}
use Rattle.serde_json.specs.View.{view}
use Rattle.pam_lsp.specs.Messages.{has_text}
use Rattle.pam_lsp.proofs.message.has_text.Given as goal

abbrev pub invariant-loop-value : goal.invariant-loop-value
invariant-loop-value l = has_text l.text (map view (drop l.value-index l.values)) ≡ has_text l.text (map view l.values)
