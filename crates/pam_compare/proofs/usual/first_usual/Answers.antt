use Rattle.std.proofs.Common.{◌≡◌, ◌∙◌, ◌∷◌, ℕ, Bool, List, ap, arith, sym}
use Rattle.std.specs.List.{find}
use Rattle.std.specs.Prelude.{slice_get}
use Rattle.pam_codes.specs.Code.{all_codes}
use Rattle.pam_codes.specs.Set.{is_in}
use Rattle.pam_compare.specs.Usual.{first_usual, usual_order}
use Rattle.pam_compare.proofs.Choosing.{find-filter, find-more, usual-low, usual-member, usual-none}
use Rattle.pam_compare.proofs.usual.first_usual.Goals as goal

pub returns-clause-first : goal.returns-clause-first
unfolding first_usual usual_order
returns-clause-first c =
    let p : ℕ → Bool = λ d. is_in d c.args.codes in
    let least : c.least-by_number.result ≡ find p all_codes =
    c.least-by_number.ensures.first ∙ ap (λ (l : List ℕ). slice_get l 0) c.least-by_number.ensures.order ∙ sym (find-filter p all_codes) in
    let first = find-more p 25 all_codes c.least-by_number.result c.preferred-ignore.result (c.preferred-ignore.ensures (omega arith)) least in
    let second = find-more p 9 (25 ∷ all_codes) c.preferred-ignore.result c.preferred-unavailable.result
    (c.preferred-unavailable.ensures (omega arith)) first in
    let third = find-more p 10 (9 ∷ 25 ∷ all_codes) c.preferred-unavailable.result c.preferred-unknown.result
    (c.preferred-unknown.ensures (omega arith)) second in
    let fourth = find-more p 6 (10 ∷ 9 ∷ 25 ∷ all_codes) c.preferred-unknown.result c.preferred-denied.result
    (c.preferred-denied.ensures (omega arith)) third in
    let fifth = find-more p 7 (6 ∷ 10 ∷ 9 ∷ 25 ∷ all_codes) c.preferred-denied.result c.preferred-wrong.result
    (c.preferred-wrong.ensures (omega arith)) fourth in
    find-more p 0 (7 ∷ 6 ∷ 10 ∷ 9 ∷ 25 ∷ all_codes) c.preferred-wrong.result c.preferred.result (c.preferred.ensures (omega arith)) fifth

pub returns-clause-member : goal.returns-clause-member
returns-clause-member c = usual-member c.preferred.result c.args.codes (returns-clause-first c)

pub returns-clause-low : goal.returns-clause-low
returns-clause-low c = usual-low c.preferred.result c.args.codes (returns-clause-first c) c.least-by_number.ensures.order

pub returns-clause-none : goal.returns-clause-none
returns-clause-none c = usual-none c.preferred.result c.args.codes (returns-clause-first c) c.least-by_number.ensures.order
