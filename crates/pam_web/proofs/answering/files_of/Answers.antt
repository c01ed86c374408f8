use Rattle.std.proofs.Common.{◌∙◌, ◌++◌, ap, append-nil, arith, map, suc, sym}
use Rattle.std.proofs.Math.Nat.{le-min}
use Rattle.pam_web.specs.Files.{file_view}
use Rattle.pam_web.proofs.Lists.{none_left}
use Rattle.pam_web.proofs.answering.files_of.Goals as goal

pub returns : goal.returns
returns c =
    let done = map file_view c.loop-position.files.items in
    let none = none_left c.loop-position.position c.args.paths.now c.args.contents.now
    (λ p q. omega (arith, le-min {k = suc c.loop-position.position} p q, c.min-position-end.ensures, c.loop-position-test.false)) in
    sym (append-nil done) ∙ ap (λ l. done ++ l) (sym none) ∙ c.loop-position.invariant
