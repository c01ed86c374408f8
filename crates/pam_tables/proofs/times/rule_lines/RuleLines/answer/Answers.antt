use Rattle.std.proofs.Common.{◌∙◌}
use Rattle.pam_tables.specs.times.Login.{login_view}
use Rattle.pam_tables.proofs.TimesProofs.StoredSteps.{denied_here, line_fits, next_line, no_line, none_denies, not_here, sound_after}
use Rattle.pam_tables.proofs.times.rule_lines.RuleLines.answer.Goals as goal

pub split_at-requires : goal.split_at-requires
split_at-requires c =
    let first = next_line c.args.self.now.lines.items _ c.deref-line-items.ensures.value c.loop-line.line-index _ c.loop-line-test.true in
    line_fits c.loop-line.rest.now _ _ _ first c.loop-line.invariant.sound

pub returns-then-denies : goal.returns-then-denies
returns-then-denies c =
    let first = next_line c.args.self.now.lines.items _ c.deref-line-items.ensures.value c.loop-line.line-index _ c.loop-line-test.true in
    denied_here c.loop-line.rest.now _ _ _ first c.loop-line.invariant.sound _ _ c.split_at.ensures.front c.split_at.ensures.back
    (login_view c.args.login.now) c.args.time.day c.args.time.minute c.denies.result c.denies.ensures c.if-denies.true
    ∙ c.loop-line.invariant.same

pub loop-line-preserved : goal.loop-line-preserved
loop-line-preserved c =
    let first = next_line c.args.self.now.lines.items _ c.deref-line-items.ensures.value c.loop-line.line-index _ c.loop-line-test.true in
    record {
      same = not_here c.loop-line.rest.now _ _ _ first c.loop-line.invariant.sound _ _ c.split_at.ensures.front c.split_at.ensures.back
          (login_view c.args.login.now) c.args.time.day c.args.time.minute c.denies.result c.denies.ensures c.if-denies.false
          ∙ c.loop-line.invariant.same;
      sound = sound_after c.loop-line.rest.now _ _ _ first c.loop-line.invariant.sound _ _ c.split_at.ensures.front c.split_at.ensures.back;
    }

pub returns : goal.returns
returns c =
    none_denies (login_view c.args.login.now) c.args.time.day c.args.time.minute c.loop-line.rest.now _
    (no_line c.args.self.now.lines.items _ c.deref-line-items.ensures.value c.loop-line.line-index c.loop-line-test.false)
    ∙ c.loop-line.invariant.same
