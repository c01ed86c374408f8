-- the lines of the rules so far are written
use Rattle.std.proofs.Common.{take}
use Rattle.std.specs.List.{flat_map}
use Rattle.pam_text.specs.Out.{TookAll}
use Rattle.pam_render.specs.parts.Policy.{Judged}
use Rattle.pam_render.specs.parts.PolicyView.{rule_view}
use Rattle.pam_render.proofs.parts.policy.walk.put_rules.Given as goal

abbrev pub invariant-loop-rule : goal.invariant-loop-rule
invariant-loop-rule g l =
    TookAll g.W.Write.contents l.initial.out l.out (flat_map (λ rule. g.L.PolicyLines.line (Judged (rule_view rule))) (take l.rule-index l.rules))
