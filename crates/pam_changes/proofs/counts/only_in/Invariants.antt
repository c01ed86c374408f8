use Rattle.std.proofs.Common.{◌≡◌, ◌≤◌, take}
use Rattle.std.specs.List.{count_by}
use Rattle.pam_changes.specs.Counts.{only_in_one}
use Rattle.pam_changes.proofs.counts.only_in.Given as goal

abbrev pub invariant-loop-service : goal.invariant-loop-service
invariant-loop-service l = record {
  counted : l.count ≡ count_by (only_in_one l.in_old) (take l.service-index l.services);
  few : l.count ≤ l.service-index;
}
