use Rattle.std.proofs.Common.{◌≡◌, fold, map}
use Rattle.std.specs.Char.{to_ascii_lowercase}
use Rattle.pam_conf.specs.Services.{each_once, with_name}
use Rattle.pam_conf.proofs.services.named_services.Given as goal

abbrev pub invariant-loop-name : goal.invariant-loop-name
invariant-loop-name l =
    fold with_name l.names (map (λ n. map to_ascii_lowercase n) l.name-iterator) ≡ each_once (map (λ n. map to_ascii_lowercase n) l.named)
