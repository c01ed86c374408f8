use Rattle.std.proofs.Common.{ℕ, List, false, inl, inr, refl, subst, sym, true}
use Rattle.std.proofs.lemmas.Result.{on_ok_weaker}
use Rattle.pam_cli.specs.inner.Sources.{AddsCandidate}
use Rattle.pam_cli.proofs.Added.{as_found}
use Rattle.pam_cli.proofs.reading.sources.put_candidate.Goals as goal

pub returns-then-has : goal.returns-then-has
returns-then-has g c =
    let found = c.args.found.now in
    let name = c.args.candidate.name.now in
    inl (as_found name _ found.files.entries c.has.result true c.has.ensures refl c.if-has.true, refl)

pub put-requires : goal.put-requires
put-requires g c =
    let spelled = c.in_ok-name.ensures.items in
    as_found c.in_ok-name.name.items _ c.args.found.now.files.entries c.has.result false c.has.ensures (sym spelled) c.if-has.false

pub returns : goal.returns
returns g c =
    let told = g.S.System.told c.args.system.now in
    let found = c.args.found.now in
    let name = c.in_ok-name.name.items in
    let file = c.args.candidate.file.now in
    let spelled = c.in_ok-name.ensures.items in
    let lacked = as_found name _ found.files.entries c.has.result false c.has.ensures (sym spelled) c.if-has.false in
    on_ok_weaker c.put.result
    (λ added. subst (λ (n : List ℕ). AddsCandidate told (n, file) found c.put.new.self) spelled
    (inr (lacked, (c.in_ok-bytes.bytes.items, c.in_ok-bytes.ensures, added))))
    c.put.ensures.ok
