use Rattle.std.proofs.Common.{◌≡◌, ◌++◌, map, take, drop}
use Rattle.std.specs.Char.{to_ascii_lowercase}
use Rattle.pam_conf.proofs.rule.lower.Given as goal

abbrev pub invariant-loop-byte : goal.invariant-loop-byte
invariant-loop-byte l = l.text ≡ map to_ascii_lowercase (take l.byte-index l.initial.text) ++ drop l.byte-index l.initial.text
