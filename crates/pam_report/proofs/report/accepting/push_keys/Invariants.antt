-- the keys of what is found so far are added
use Rattle.std.proofs.Common.{◌≡◌, ◌++◌, map, take}
use Rattle.pam_report.proofs.report.accepting.push_keys.Given as goal

abbrev pub invariant-loop-one : goal.invariant-loop-one
invariant-loop-one g l = l.keys ≡ l.initial.keys ++ map (g.K.Keys.key_of l.by) (take l.one-index l.found)
