-- For private contracts and proofs alone: the lines that say nothing, as they are written.
use Rattle.std.specs.Prelude.{ℕ, List}
use Rattle.std.specs.List.{flat_map}
use Rattle.pam_report.specs.Unused.{unused_view}
use Rattle.pam_report.specs.declared.report.unused.UnusedLine.{UnusedLine}
use Rattle.pam_render.specs.parts.Findings.{Line, unused_one}

abbrev pub written : (Line → List ℕ) → List ℕ → List ℕ → List UnusedLine → List ℕ
written line accept facts unused = flat_map (λ one. unused_one line accept facts (unused_view one)) unused
