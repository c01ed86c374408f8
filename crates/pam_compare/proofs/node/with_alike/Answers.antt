use Rattle.std.proofs.Common.{◌≡◌, ◌∙◌, ◌||◌, ℕ, ap, eqb, eq-eqb, subst, sym}
use Rattle.std.proofs.lemmas.Bool.{false≢true}
use Rattle.pam_codes.specs.Set.{is_in}
use Rattle.pam_codes.specs.inner.SetBits.{is_in-codes_where}
use Rattle.pam_dispatch.specs.Flat.{rest_of}
use Rattle.pam_compare.specs.Walks.{HaveOneOutcome}
use Rattle.pam_compare.specs.inner.Turn.{AreAlike}
use Rattle.pam_compare.proofs.Growing.{same-some}
use Rattle.pam_compare.proofs.Holding.{inserted, or-first, or-right}
use Rattle.pam_compare.proofs.node.with_alike.Goals as goal

pub returns-clause-alike : goal.returns-clause-alike
returns-clause-alike c code are before =
    let left = rest_of c.args.pair.now.old.now c.args.node.now.old in
    let right = rest_of c.args.pair.now.new.now c.args.node.now.new in
    inserted (λ (d : ℕ). AreAlike c.args.turn left right code d) c.in-Some.other c.args.class _ c.insert.ensures
    (c.are_alike.ensures.alike code are c.if-not-are_alike.false) before

pub returns-clause-more : goal.returns-clause-more
returns-clause-more c d low h =
    ap (is_in d) c.insert.ensures ∙ is_in-codes_where (λ x. eqb x c.in-Some.other || is_in x c.args.class) d low
    ∙ or-right (eqb d c.in-Some.other) (is_in d c.args.class) h

pub returns-clause-same : goal.returns-clause-same
returns-clause-same c code are before =
    let left = rest_of c.args.pair.now.old.now c.args.node.now.old in
    let right = rest_of c.args.pair.now.new.now c.args.node.now.new in
    inserted (λ (d : ℕ). HaveOneOutcome c.args.turn left right code d) c.in-Some.other c.args.class _ c.insert.ensures
    (c.are_alike.ensures.same code are c.if-not-are_alike.false) before

pub returns-then-not-are_alike-clause-all : goal.returns-then-not-are_alike-clause-all
returns-then-not-are_alike-clause-all c code d are is low one =
    let left = rest_of c.args.pair.now.old.now c.args.node.now.old in
    let right = rest_of c.args.pair.now.new.now c.args.node.now.new in
    let same : d ≡ c.in-Some.other = same-some d c.in-Some.other (sym is ∙ c.in-Some.is) in
    absurd (false≢true (sym c.if-not-are_alike.true
    ∙ c.are_alike.ensures.exact code are (subst (λ (n : ℕ). HaveOneOutcome c.args.turn left right code n) same one)))

pub returns-clause-all : goal.returns-clause-all
returns-clause-all c code d are is low one =
    let same : d ≡ c.in-Some.other = same-some d c.in-Some.other (sym is ∙ c.in-Some.is) in
    ap (is_in d) c.insert.ensures ∙ is_in-codes_where (λ x. eqb x c.in-Some.other || is_in x c.args.class) d low
    ∙ or-first (eqb d c.in-Some.other) (is_in d c.args.class) (eq-eqb d c.in-Some.other same)
