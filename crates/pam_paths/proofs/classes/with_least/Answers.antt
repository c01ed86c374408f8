use Rattle.std.proofs.Common.{◌∙◌, sym}
use Rattle.std.proofs.lemmas.Bool.{false≢true}
use Rattle.pam_paths.proofs.Sharing.{least-put, meets-none, meets-some, none-put, empty-put}
use Rattle.pam_paths.proofs.classes.with_least.Goals as goal

pub returns-then-meets : goal.returns-then-meets
returns-then-meets c =
    least-put c.args.codes c.args.class c.in-Some.code c.without.result c.union.result c.single.result (sym c.least.ensures.first ∙ c.in-Some.is)
    (meets-some c.args.codes c.args.class c.least.ensures.order (c.meets.ensures.0 c.if-meets.true)) c.without.ensures c.single.ensures c.union.ensures

pub returns-else-meets : goal.returns-else-meets
returns-else-meets c =
    none-put c.args.codes c.args.class c.without-else-meets.result
    (meets-none c.args.codes c.args.class c.least.ensures.order (λ w. false≢true (sym c.if-meets.false ∙ c.meets.ensures.1 w)))
    c.without-else-meets.ensures

pub returns-in-None : goal.returns-in-None
returns-in-None c = empty-put c.args.codes c.args.class c.without-in-None.result (sym c.least.ensures.first ∙ c.in-None.is) c.without-in-None.ensures
