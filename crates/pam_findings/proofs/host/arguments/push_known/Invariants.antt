use Rattle.std.proofs.Common.{◌+◌, ◌<◌, ◌≡◌, drop}
use Prim.Native.Nat.{◌^◌}
use Rattle.pam_facts.specs.Knowing.{meaning_of}
use Rattle.pam_facts.specs.arguments.Views.{module_view}
use Rattle.pam_conf.specs.ItemsOf.{module_text}
use Rattle.pam_findings.specs.host.Arguments.{wrong_by}
use Rattle.pam_findings.specs.host.inner.Table.{Adds}
use Rattle.pam_findings.specs.host.inner.WrongArguments.{OfNumbered}
use Rattle.pam_findings.proofs.HostProofs.Adding.{OfFirst}
use Rattle.pam_findings.proofs.host.arguments.push_known.Given as goal

-- the arguments so far are looked at
abbrev pub invariant-loop-position : goal.invariant-loop-position
invariant-loop-position l =
    (goal.iterator-loop-position).can_next l.word-iterator × (goal.iterator-loop-position).is_finite l.word-iterator
    × (l.position + (goal.iterator-loop-position).remaining l.word-iterator < 2 ^ 64)
    × (drop l.position (module_text l.module).arguments ≡ l.word-iterator)
    × Adds (OfFirst (OfNumbered (λ word. wrong_by (meaning_of l.facts l.kind (module_text l.module) (module_view l.known) word)) (module_text l.module)) l.position)
    l.initial.spots.items l.spots.items
