use Rattle.std.proofs.Common.{◌≡◌, ◌<◌, ℕ, false, map}
use Rattle.pam_conf.specs.ListedText.{listed_text}
use Rattle.pam_dispatch.specs.State.{action_of}
use Rattle.pam_findings.specs.host.Inside.{action_lands}
use Rattle.pam_findings.proofs.host.inside.control_lands.Given as goal

-- no code so far jumps so
abbrev pub invariant-loop-number : goal.invariant-loop-number
invariant-loop-number l = (code : ℕ) → code < l.number → action_lands (listed_text l.own) (map listed_text l.rest) (action_of l.control code) ≡ false
