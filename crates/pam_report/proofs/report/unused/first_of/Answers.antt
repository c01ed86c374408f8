use Rattle.std.proofs.Common.{◌≡◌, Bor, List, [], ℕ, arith, map, rules}
use Rattle.std.proofs.lemmas.List.{length-map}
use Rattle.pam_report.proofs.IdleRows.{few-names, first-names}
use Rattle.pam_report.proofs.report.unused.first_of.Goals as goal

abbrev text_of : Bor (List ℕ) → List ℕ
text_of n = n.now

pub returns-then-len-eq-MAX_NAMES : goal.returns-then-len-eq-MAX_NAMES
returns-then-len-eq-MAX_NAMES c =
    let many = length-map c.loop-name.first.items text_of in
    first-names (map text_of c.loop-name.first.items) c.loop-name.name-iterator c.args.names.now 1000 c.loop-name.invariant.all
    (omega (arith, many, c.len.ensures, c.if-len-eq-MAX_NAMES.true))

pub returns : goal.returns
returns c =
    let many = length-map c.loop-name.first.items text_of in
    let none : c.loop-name.name-iterator ≡ [] = search rules in
    few-names (map text_of c.loop-name.first.items) c.args.names.now 1000 (rw none at c.loop-name.invariant.all)
    (omega (arith, many, c.loop-name.invariant.few))
