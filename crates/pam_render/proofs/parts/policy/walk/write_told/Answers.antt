use Rattle.std.proofs.Common.{length, map, refl}
use Rattle.pam_text.proofs.Writing.{all-is, all-then, err-flushes, flushes-last, front-is, front-longer, front-then}
use Rattle.pam_render.proofs.PartsProofs.PolicyLines.{told-are}
use Rattle.pam_render.specs.parts.Policy.{Last, counts_of, rule_lines}
use Rattle.pam_render.specs.parts.PolicyView.{host_view, rule_view, told_view}
use Rattle.pam_render.proofs.parts.policy.walk.write_told.Goals as goal

pub returns-in_err-put_found : goal.returns-in_err-put_found
returns-in_err-put_found g c =
    let told = c.args.told.now in
    let line = g.L.PolicyLines.line in
    let rules = map rule_view told.rules.items in
    let last = Last (length rules) told.stacks (counts_of (map told_view told.found.items)) in
    err-flushes _ c.from_residual.ensures.0
    (front-is (front-longer (line last) (front-longer (rule_lines line rules) c.in_err-put_found.ensures))
    (told-are line (host_view told.host) told _ _ _ _ c.deref.ensures.value refl refl refl))

pub returns-in_err-put_rules : goal.returns-in_err-put_rules
returns-in_err-put_rules g c =
    let told = c.args.told.now in
    let line = g.L.PolicyLines.line in
    let last = Last (length (map rule_view told.rules.items)) told.stacks (counts_of (map told_view told.found.items)) in
    err-flushes _ c.from_residual-in_err-put_rules.ensures.0
    (front-is (front-longer (line last) (front-then c.in_ok-put_found.ensures c.in_err-put_rules.ensures))
    (told-are line (host_view told.host) told _ _ _ _ c.deref.ensures.value c.deref-2.ensures.value refl refl))

pub returns-in_err-put_last : goal.returns-in_err-put_last
returns-in_err-put_last g c =
    let told = c.args.told.now in
    err-flushes _ c.from_residual-in_err-put_last.ensures.0
    (front-is (front-then (all-then c.in_ok-put_found.ensures c.in_ok-put_rules.ensures) c.in_err-put_last.ensures)
    (told-are g.L.PolicyLines.line (host_view told.host) told _ _ _ _ c.deref.ensures.value c.deref-2.ensures.value c.deref-4.ensures.value
    c.deref-3.ensures.value))

pub returns : goal.returns
returns g c =
    let told = c.args.told.now in
    flushes-last _ _
    (all-is (all-then (all-then c.in_ok-put_found.ensures c.in_ok-put_rules.ensures) c.in_ok-put_last.ensures)
    (told-are g.L.PolicyLines.line (host_view told.host) told _ _ _ _ c.deref.ensures.value c.deref-2.ensures.value c.deref-4.ensures.value
    c.deref-3.ensures.value))
    c.finish.ensures
