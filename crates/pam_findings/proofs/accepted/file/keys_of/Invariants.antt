-- the keys of the lines so far
use Rattle.std.proofs.Common.{map, take}
use Rattle.pam_findings.specs.accepted.inner.Views.{HasKeys}
use Rattle.pam_findings.proofs.accepted.file.keys_of.Given as goal

abbrev pub invariant-loop-line : goal.invariant-loop-line
invariant-loop-line l = HasKeys (map (λ key. key.items) l.keys.keys) (take l.line-index l.lines)
