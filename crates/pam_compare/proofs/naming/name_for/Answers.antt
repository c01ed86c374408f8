use Rattle.std.proofs.Common.{◌∙◌, arith, sym}
use Rattle.std.proofs.lemmas.Bool.{false≢true}
use Rattle.pam_compare.proofs.Names.{common-passes, name-apart, name-tied, passes-common}
use Rattle.pam_compare.proofs.naming.name_for.Goals as goal

pub returns-then-meets : goal.returns-then-meets
returns-then-meets g c =
    let sides = c.args.sides.now in
    name-tied (g.K.Knowledge.allows sides.old_known.now) (g.L.Knowledge.allows sides.new_known.now) c.args.old_modules sides.matching.now c.args.number
    c.in-Some.partner (sym c.in-Some.ensures) (omega arith) (omega arith)
    (common-passes _ _ c.allowed.result c.allowed-2.result c.allowed.ensures c.allowed-2.ensures (c.meets.ensures.0 c.if-meets.true))

pub returns : goal.returns
returns g c =
    let sides = c.args.sides.now in
    name-apart (g.K.Knowledge.allows sides.old_known.now) (g.L.Knowledge.allows sides.new_known.now) c.args.old_modules sides.matching.now c.args.number
    c.in-Some.partner (sym c.in-Some.ensures)
    (λ w. false≢true (sym c.if-meets.false
    ∙ c.meets.ensures.1 (passes-common _ _ c.allowed.result c.allowed-2.result c.allowed.ensures c.allowed-2.ensures w)))
