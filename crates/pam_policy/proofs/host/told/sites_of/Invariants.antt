use Rattle.std.proofs.Common.{◌≡◌, ◌++◌, drop, map}
use Rattle.std.specs.Option.{option_map}
use Rattle.std.specs.Prelude.{All}
use Rattle.pam_policy.specs.host.HostStacks.{HasGraph}
use Rattle.pam_policy.specs.host.Stacks.{known_site}
use Rattle.pam_policy.specs.host.Told.{told_class}
use Rattle.pam_policy.proofs.HostProofs.Told.{IfGraph}
use Rattle.pam_policy.proofs.host.told.sites_of.Given as goal

-- the sites so far, and those of the classes that are left; and the graphs so far
abbrev pub invariant-loop-class : goal.invariant-loop-class
invariant-loop-class l = record {
  known : map (option_map known_site) l.sites.items ++ map (told_class l.facts) (drop l.class-index l.classes) ≡ map (told_class l.facts) l.classes;
  graphs : All HasGraph l.classes → All IfGraph l.sites.items;
}
