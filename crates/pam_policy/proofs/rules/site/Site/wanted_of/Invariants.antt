-- those so far are taken
use Rattle.std.proofs.Common.{◌≡◌, take}
use Rattle.pam_policy.proofs.rules.site.Site.wanted_of.Given as goal

abbrev pub invariant-loop-marks : goal.invariant-loop-marks
invariant-loop-marks l = l.wanted.items ≡ take l.marks-index l.marks-items
