-- the rules so far are written
use Rattle.std.proofs.Common.{take, map}
use Rattle.std.specs.List.{flat_map}
use Rattle.pam_codes.specs.Out.{TookAll}
use Rattle.pam_render.specs.text.Released.{rule_line}
use Rattle.pam_released.specs.Readings.{numbered_view}
use Rattle.pam_render.proofs.text.released.put_rules.Given as goal

abbrev pub invariant-loop-rule : goal.invariant-loop-rule
invariant-loop-rule g l =
    TookAll g.W.Write.contents l.initial.out l.out (flat_map (rule_line l.file) (map numbered_view (take l.rule-index l.rules)))
