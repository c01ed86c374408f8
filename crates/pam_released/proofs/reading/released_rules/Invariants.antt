use Rattle.std.proofs.Common.{◌≡◌, ◌++◌, Some, drop, map}
use Rattle.pam_released.specs.inner.Numbered.{line_view}
use Rattle.pam_released.specs.Readings.{numbered_reading, numbered_rules, numbered_view}
use Rattle.pam_released.proofs.reading.released_rules.Given as goal

abbrev pub invariant-loop-line : goal.invariant-loop-line
invariant-loop-line l =
    Some (map numbered_view l.rules.items ++ map (numbered_reading l.fn.release l.form) (drop l.line-index (map line_view l.line-items)))
    ≡ numbered_rules l.fn.release l.form l.source.bytes.now
