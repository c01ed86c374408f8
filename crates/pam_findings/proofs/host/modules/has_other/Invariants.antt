use Rattle.std.proofs.Common.{◌≡◌, ◌≤◌, ℕ, false}
use Rattle.std.specs.Option.{option_map_or}
use Rattle.pam_conf.specs.Stack.{module_at}
use Rattle.pam_findings.specs.host.Verdicts.{is_other}
use Rattle.pam_findings.proofs.host.modules.has_other.Given as goal

-- none of the modules so far does something else
abbrev pub invariant-loop-index : goal.invariant-loop-index
invariant-loop-index l = (number : ℕ) → 1 ≤ number → number ≤ l.index → option_map_or is_other (module_at number l.stack) false ≡ false
