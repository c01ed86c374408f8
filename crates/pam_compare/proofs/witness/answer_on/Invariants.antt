use Rattle.std.proofs.Common.{◌≡◌, drop}
use Rattle.pam_compare.specs.inner.Naming.{by_code}
use Rattle.pam_compare.specs.inner.Trails.{answers_on}
use Rattle.pam_compare.proofs.witness.answer_on.Given as goal

abbrev pub invariant-loop-index : goal.invariant-loop-index
invariant-loop-index l = answers_on (by_code l.usual) l.trail l.name ≡ answers_on (by_code l.usual) (drop l.index l.trail) l.name
