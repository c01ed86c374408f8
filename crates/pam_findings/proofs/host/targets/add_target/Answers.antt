use Rattle.std.proofs.Common.{◌∙◌, Bor, List, Option, ap, false, ℕ}
use Rattle.std.specs.Option.{option_map_or}
use Rattle.std.specs.Str.{bytes_eq}
use Rattle.pam_findings.proofs.HostProofs.Targets.{added-one}
use Rattle.pam_findings.proofs.host.targets.add_target.Goals as goal

pub returns : goal.returns
returns c = λ name.
    added-one c.args.names.now c.add.new.self c.in-Some.target.now name _ c.in_ok-add.ensures.names
    (c.included.ensures name ∙ ap (λ (o : Option (Bor (List ℕ))). option_map_or (λ target. bytes_eq name target.now) o false) c.in-Some.is)
