use Rattle.std.proofs.Common.{◌≡◌, Bor, List, [], ℕ, arith, map, rules}
use Rattle.std.proofs.lemmas.List.{length-map}
use Rattle.pam_findings.proofs.MisspelledProofs.NearestNames.{few_words, first_words}
use Rattle.pam_findings.proofs.misspelled.right_words.first_of.Goals as goal

abbrev text_of : Bor (List ℕ) → List ℕ
text_of m = m.now

pub returns-then-len-eq-MAX_NAMES : goal.returns-then-len-eq-MAX_NAMES
returns-then-len-eq-MAX_NAMES c =
    let many = length-map c.loop-path.modules.items text_of in
    first_words (map text_of c.loop-path.modules.items) c.loop-path.path-iterator c.args.paths.now 1000 c.loop-path.invariant.all
    (omega (arith, many, c.len.ensures, c.if-len-eq-MAX_NAMES.true))

pub returns : goal.returns
returns c =
    let many = length-map c.loop-path.modules.items text_of in
    let none : c.loop-path.path-iterator ≡ [] = search rules in
    few_words (map text_of c.loop-path.modules.items) c.args.paths.now 1000 (rw none at c.loop-path.invariant.all)
    (omega (arith, many, c.loop-path.invariant.few))
