use Rattle.std.proofs.Common.{Ok, ◌∙◌, ap, refl, sym}
use Rattle.std.proofs.lemmas.Result.{err_from_is_err_and}
use Rattle.pam_conf.specs.ItemsOf.{items_of}
use Rattle.pam_conf.specs.inner.Progress.{count_of}
use Rattle.pam_conf.specs.inner.StartOf.{start_text}
use Rattle.pam_conf.specs.Walk.{rules_at}
use Rattle.pam_conf.proofs.ResolutionLemmas as lemmas
use Rattle.pam_conf.proofs.resolution.stack_at.Goals as goal

pub returns-in_err-walk_start-clause-stack : goal.returns-in_err-walk_start-clause-stack
returns-in_err-walk_start-clause-stack c =
    let p = err_from_is_err_and c.from_residual.result c.from_residual.ensures.1 in
    rw (p.1, p.2) (lemmas.stack-refused c.args.files.now c.args.kind (start_text c.args.start) c.of-trail.result c.of-trail.ensures
    _ (count_of c.walk_start.new.progress) refl refl c.in_err-walk_start.field-0.0
    c.in_err-walk_start.ensures.walked)

pub of-requires-clause-counted : goal.of-requires-clause-counted
of-requires-clause-counted c =
    lemmas.stack-counted c.args.files.now (rules_at c.args.files.now) c.args.kind (start_text c.args.start) c.of-trail.result c.of-trail.ensures _ _
    (count_of c.walk_start.new.progress) refl (items_of c.new-items.result.items) (items_of c.walk_start.new.items.items)
    (ap items_of c.new-items.ensures.items) c.in_ok-walk_start.ensures.walked

pub of-requires-clause-shallow : goal.of-requires-clause-shallow
of-requires-clause-shallow c =
    lemmas.stack-shallow c.args.files.now (rules_at c.args.files.now) c.args.kind (start_text c.args.start) c.of-trail.result c.of-trail.ensures _ _
    (count_of c.walk_start.new.progress) refl (items_of c.new-items.result.items) (items_of c.walk_start.new.items.items)
    (ap items_of c.new-items.ensures.items) c.in_ok-walk_start.ensures.walked

pub of-requires-clause-numbered : goal.of-requires-clause-numbered
of-requires-clause-numbered c =
    lemmas.stack-numbered c.args.files.now (rules_at c.args.files.now) c.args.kind (start_text c.args.start) c.of-trail.result c.of-trail.ensures _ _
    (count_of c.walk_start.new.progress) refl (items_of c.new-items.result.items) (items_of c.walk_start.new.items.items)
    (ap items_of c.new-items.ensures.items) c.in_ok-walk_start.ensures.walked

pub returns-clause-stack : goal.returns-clause-stack
returns-clause-stack c =
    lemmas.stack-done c.args.files.now c.args.kind (start_text c.args.start) c.of-trail.result c.of-trail.ensures _
    (count_of c.walk_start.new.progress) refl refl (items_of c.new-items.result.items) (items_of c.walk_start.new.items.items)
    (ap items_of c.new-items.ensures.items) c.in_ok-walk_start.ensures.walked ∙ ap Ok (sym c.of.ensures)
