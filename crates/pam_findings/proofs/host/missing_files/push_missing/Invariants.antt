-- the arguments so far are looked at
use Rattle.std.proofs.Common.{◌+◌, ◌<◌, ◌≡◌, drop}
use Rattle.std.specs.Option.{option_map}
use Prim.Native.Nat.{◌^◌}
use Rattle.pam_conf.specs.ItemsOf.{module_text}
use Rattle.pam_findings.specs.host.MissingFiles.{missing_by}
use Rattle.pam_findings.specs.host.inner.Table.{Adds}
use Rattle.pam_findings.specs.host.inner.WrongArguments.{OfNumbered}
use Rattle.pam_findings.proofs.HostProofs.Adding.{OfFirst}
use Rattle.pam_findings.proofs.host.missing_files.push_missing.Given as goal

abbrev pub invariant-loop-position : goal.invariant-loop-position
invariant-loop-position l =
    (goal.iterator-loop-position).can_next l.word-iterator × (goal.iterator-loop-position).is_finite l.word-iterator
    × (l.position + (goal.iterator-loop-position).remaining l.word-iterator < 2 ^ 64)
    × (drop l.position (module_text l.module).arguments ≡ l.word-iterator)
    × Adds (OfFirst (OfNumbered (missing_by (option_map (λ t. t.now) l.files) l.kind (module_text l.module)) (module_text l.module)) l.position) l.initial.spots.items l.spots.items
