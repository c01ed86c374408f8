use Rattle.std.proofs.Common.{◌≤◌, ◌++◌, drop, length, take}
use Rattle.pam_paths.specs.Known.{may_answer}
use Rattle.pam_policy.specs.host.Stacks.{known_site}
use Rattle.pam_policy.specs.needs.Choices.{AreNeeded}
use Rattle.pam_policy.specs.needs.Fewest.{AreFewest}
use Rattle.pam_policy.specs.search.Witness.{IsGraphOf}
use Rattle.pam_policy.proofs.rules.site.Site.fewest.Given as goal

-- the fewest of the last events, beside those before them
abbrev pub invariant-loop-count : goal.invariant-loop-count
invariant-loop-count l = record {
  most : l.count ≤ length l.some;
  fewest : IsGraphOf (may_answer l.self.known.now) l.self.stack.now l.self.graph.now →
      AreFewest (AreNeeded (known_site l.self)) (l.others ++ take l.count l.some) (drop l.count l.some) l.fewest.kept.items l.fewest.left.items;
}

abbrev pub decreases-loop-count : goal.decreases-loop-count
decreases-loop-count l = l.count
