use Rattle.std.proofs.Common.{◌∙◌, ap, take}
use Rattle.pam_dispatch.specs.Keys.{KeyValue}
use Rattle.pam_dispatch.proofs.key.PlaceKey.open_states.Goals as goal

pub returns : goal.returns
returns c = ap (λ n. take n c.self.inside.entered.states) c.min.ensures ∙ ap (λ (k : KeyValue). k.entered) c.self.view_is
