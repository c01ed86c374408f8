-- More events than can be wanted together.
use Rattle.std.proofs.Common.{◌≡◌, ℕ, ◌<◌, Bool, List, [], ◌∷◌, Some, ◌∙◌, refl, ap, arith, length, sym, take, true}
use Rattle.std.proofs.lemmas.Bool.{false≢true}
use Rattle.std.proofs.lemmas.List.{length-map, length-take-le}
use Rattle.std.specs.Prelude.{Err, Ok, OnErr, Result, is_err}
use Rattle.pam_policy.specs.declared.search.marks.Marks.{Marks}
use Rattle.pam_policy.specs.rules.Judging.{AreTooMany}
use Rattle.pam_policy.specs.rules.Site.{SiteText}
use Rattle.pam_policy.specs.rules.inner.Marking.{AreMarksOf, groups_of}
use Rattle.pam_policy.specs.text.Events.{EventText}
use Rattle.pam_policy.specs.text.Lists.{EventsText, OneOf, EachOf}

marks-many : (site : SiteText) (is_strict : Bool) (groups : List (List EventText)) (marks : List Marks) → AreMarksOf site is_strict groups marks →
    length marks ≡ length groups
unfolding AreMarksOf
marks-many site is_strict [] [] h = refl
marks-many site is_strict [] (one ∷ marks) h = absurd h
marks-many site is_strict (events ∷ groups) [] h = absurd h
marks-many site is_strict (events ∷ groups) (one ∷ marks) h = let more = marks-many site is_strict groups marks h.1 in omega (arith, more)

-- where four are taken of the marks of a list, and more are left
pub too-many : (site : SiteText) (is_strict : Bool) (events : EventsText) (all taken : List Marks) (i : ℕ) → AreMarksOf site is_strict (groups_of events) all →
    taken ≡ take i all → length taken ≡ 4 → i < length all → AreTooMany (Some events)
too-many site is_strict (OneOf events) all taken i are is four more =
    let one = marks-many site is_strict (events ∷ []) all are in
    let some = length-take-le i all (omega (arith, more)) in
    absurd (omega (arith, one, some, four, more, ap length is))
too-many site is_strict (EachOf events) all taken i are is four more =
    let many = marks-many site is_strict (groups_of (EachOf events)) all are in
    let same = length-map events (λ (event : EventText). event ∷ []) in
    let some = length-take-le i all (omega (arith, more)) in
    omega (arith, many, same, some, four, more, ap length is)

-- a push that fails finds four
pub full-of : {T E : Type 0} (pushed : Result T E) (count : ℕ) (fails : Bool) → fails ≡ is_err pushed → fails ≡ true → OnErr pushed (count ≡ 4) → count ≡ 4
full-of (Ok x) count fails is test h = absurd (false≢true (sym is ∙ test))
full-of (Err e) count fails is test h = h
