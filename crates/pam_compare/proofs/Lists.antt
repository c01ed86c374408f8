-- Lists of held answers, by their numbers.
use Rattle.std.proofs.Common.{◌≡◌, ◌<◌, ◌≤◌, ◌+◌, ◌-◌, ◌∙◌, ℕ, zero, suc, true, false, eqb, eq-eqb, List, [], ◌∷◌, Option, Some, None}
use Rattle.std.proofs.Common.{ap, arith, drop, length, refl, subst, sym}
use Rattle.std.specs.List.{AllByRecursion, IsDistinct}
use Rattle.std.specs.Prelude.{slice_get}
use Rattle.std.proofs.lemmas.Bool.{and_from, and_parts, eqb-true, false≢true}
use Rattle.std.proofs.lemmas.List.{drop-drop}
use Rattle.std.proofs.lemmas.Map.Keys.{IsDistinct-head, IsDistinct-tail}
use Rattle.std.proofs.lemmas.Option.{slice_get_within}
use Rattle.pam_codes.specs.Set.{IsCodeSet}
use Rattle.pam_codes.specs.inner.SetBits.{bits_of_codes}
use Rattle.pam_compare.specs.declared.held.HeldAnswer.{HeldAnswer}
use Rattle.pam_compare.specs.declared.held_lists.Link.{Link}
use Rattle.pam_compare.specs.inner.Held.{same_held}
use Rattle.pam_compare.specs.inner.HeldLists.{AreLinks, IsLast, IsListed, same_link}
use Rattle.pam_compare.specs.inner.Nodes.{Keeps}
use Rattle.pam_compare.proofs.Sameness.{answers-same}

some-link : (l m : Link) → Some l ≡ Some m → l ≡ m
some-link l m e = cc

no-link : (l : Link) → None ≡ Some l → ⊥
no-link l e = cc

last-kept : (links more : List Link) (n before : ℕ) (h : HeldAnswer) → Keeps links more → IsLast links n before h → IsLast more n before h
unfolding Keeps
last-kept links more n before h keeps is = record {
  within = is.within;
  link = is.link;
  is_there = keeps (n - 1) is.link is.is_there;
  before_is = is.before_is;
  answer_is = is.answer_is;
}

-- a list stays where it is
pub listed-kept : (links more : List Link) (n : ℕ) (held : List HeldAnswer) → Keeps links more → IsListed links n held → IsListed more n held
unfolding IsListed
listed-kept links more n [] keeps is = is
listed-kept links more n (h ∷ rest) keeps is =
    (is.0, last-kept links more n is.0 h keeps is.1, listed-kept links more is.0 rest keeps is.2)

-- a number is that of one list
pub one-listed : (links : List Link) (n : ℕ) (held other : List HeldAnswer) → IsListed links n held → IsListed links n other → held ≡ other
unfolding IsListed
one-listed links n [] [] is was = refl
one-listed links n [] (k ∷ other) is was = let within = was.1.within in absurd (omega (arith, is, within))
one-listed links n (h ∷ held) [] is was = let within = is.1.within in absurd (omega (arith, was, within))
one-listed links n (h ∷ held) (k ∷ other) is was =
    let same : is.1.link ≡ was.1.link = some-link _ _ (sym is.1.is_there ∙ was.1.is_there) in
    let before : is.0 ≡ was.0 = sym is.1.before_is ∙ ap (λ (l : Link). l.before) same ∙ was.1.before_is in
    let answer : h ≡ k = sym is.1.answer_is ∙ ap (λ (l : Link). l.answer) same ∙ was.1.answer_is in
    let rest : held ≡ other = one-listed links is.0 held other is.2 (subst (λ (m : ℕ). IsListed links m other) (sym before) was.2) in
    cc

-- the number of a list is no more than that of the links
pub listed-within : (links : List Link) (n : ℕ) (held : List HeldAnswer) → IsListed links n held → n ≤ length links
unfolding IsListed
listed-within links n [] is = omega (arith, is)
listed-within links n (h ∷ rest) is =
    let inside = slice_get_within links (n - 1) is.1.link is.1.is_there in
    omega (arith, inside)

-- DIFFERENT LINKS

all-get : {X : Type 0} (P : X → Type 0) (xs : List X) (k : ℕ) (y : X) → ((y z : X) → Some y ≡ Some z → y ≡ z) → ((z : X) → None ≡ Some z → ⊥) →
    AllByRecursion P xs → slice_get xs k ≡ Some y → P y
all-get P [] k y one none all at = absurd (none y at)
all-get P (x ∷ xs) zero y one none all at = subst P (one x y at) all.0
all-get P (x ∷ xs) (suc k) y one none all at = all-get P xs k y one none all.1 at

held-self : (h : HeldAnswer) → same_held h h ≡ true
held-self h =
    and_from (eqb h.name h.name) (eqb (bits_of_codes h.codes) (bits_of_codes h.codes)) (eq-eqb h.name h.name refl)
    (eq-eqb (bits_of_codes h.codes) (bits_of_codes h.codes) refl)

links-same : (l m : Link) → l.before ≡ m.before → l.answer ≡ m.answer → same_link l m ≡ true
links-same l m before answer =
    and_from (eqb l.before m.before) (same_held l.answer m.answer) (eq-eqb l.before m.before before)
    (subst (λ (h : HeldAnswer). same_held l.answer h ≡ true) answer (held-self l.answer))

one-place : (links : List Link) (i j : ℕ) (l m : Link) → IsDistinct same_link links → slice_get links i ≡ Some l → slice_get links j ≡ Some m →
    l.before ≡ m.before → l.answer ≡ m.answer → i ≡ j
one-place [] i j l m distinct at there before answer = absurd (no-link l at)
one-place (x ∷ xs) zero zero l m distinct at there before answer = refl
one-place (x ∷ xs) zero (suc j) l m distinct at there before answer =
    let apart = all-get (λ y. same_link x y ≡ false) xs j m some-link no-link (IsDistinct-head same_link x xs distinct) there in
    let same : x ≡ l = some-link x l at in
    absurd (false≢true (sym apart ∙ ap (λ (y : Link). same_link y m) same ∙ links-same l m before answer))
one-place (x ∷ xs) (suc i) zero l m distinct at there before answer =
    let apart = all-get (λ y. same_link x y ≡ false) xs i l some-link no-link (IsDistinct-head same_link x xs distinct) at in
    let same : x ≡ m = some-link x m there in
    absurd (false≢true (sym apart ∙ ap (λ (y : Link). same_link y l) same ∙ links-same m l (sym before) (sym answer)))
one-place (x ∷ xs) (suc i) (suc j) l m distinct at there before answer =
    ap (λ (n : ℕ). suc n) (one-place xs i j l m (IsDistinct-tail same_link x xs distinct) at there before answer)

-- a list has one number
pub one-number : (links : List Link) (n m : ℕ) (held : List HeldAnswer) → IsDistinct same_link links → IsListed links n held → IsListed links m held → n ≡ m
unfolding IsListed
one-number links n m [] distinct is was = is ∙ sym was
one-number links n m (h ∷ held) distinct is was =
    let before : is.0 ≡ was.0 = one-number links is.0 was.0 held distinct is.2 was.2 in
    let place : n - 1 ≡ m - 1 = one-place links (n - 1) (m - 1) is.1.link was.1.link distinct is.1.is_there was.1.is_there
    (is.1.before_is ∙ before ∙ sym was.1.before_is) (is.1.answer_is ∙ sym was.1.answer_is) in
    let some = is.1.within in
    let other = was.1.within in
    omega (arith, place, some, other)

-- THE LIST OF A NUMBER

abbrev pub from_link : (ℕ → List HeldAnswer) → Option Link → List HeldAnswer
from_link rest None = []
from_link rest (Some l) = l.answer ∷ rest l.before

-- the answers of list n, which is no more than `most`
abbrev pub list_for : List Link → ℕ → ℕ → List HeldAnswer
list_for links zero n = []
list_for links (suc most) zero = []
list_for links (suc most) (suc k) = from_link (list_for links most) (slice_get links k)

pub listed-for : (links : List Link) (most n : ℕ) (held : List HeldAnswer) → n ≤ most → IsListed links n held → list_for links most n ≡ held
unfolding IsListed
listed-for links zero n [] low is = refl
listed-for links (suc most) zero [] low is = refl
listed-for links (suc most) (suc k) [] low is = absurd (omega (arith, is))
listed-for links zero n (h ∷ held) low is = let within = is.1.within in absurd (omega (arith, low, within))
listed-for links (suc most) zero (h ∷ held) low is = let within = is.1.within in absurd (omega (arith, within))
listed-for links (suc most) (suc k) (h ∷ held) low is =
    let link = is.1.link in
    let within = is.1.within in
    let before = is.1.before_is in
    let index : k ≡ suc k - 1 = omega arith in
    let there : slice_get links k ≡ Some link = ap (λ (i : ℕ). slice_get links i) index ∙ is.1.is_there in
    ap (from_link (list_for links most)) there
    ∙ ap (λ (x : HeldAnswer). x ∷ list_for links most link.before) is.1.answer_is
    ∙ ap (λ (n : ℕ). h ∷ list_for links most n) before
    ∙ ap (λ (l : List HeldAnswer). h ∷ l) (listed-for links most is.0 held (omega (arith, low, within)) is.2)

abbrev pub link_of : ℕ → HeldAnswer → Link
link_of before answer = record { before = before; answer = answer }

-- one answer more
pub listed-after : (links more : List Link) (before : ℕ) (answer : HeldAnswer) (index : ℕ) (held : List HeldAnswer) (link : Link) → Keeps links more →
    AreLinks more → IsCodeSet answer.codes → slice_get more index ≡ Some link →
    same_link (link_of before answer) link ≡ true → IsListed links before held → IsListed more (index + 1) (answer ∷ held)
unfolding IsListed
listed-after links more before answer index held link keeps are set at same is =
    let parts = and_parts (eqb before link.before) (same_held answer link.answer) same in
    let before_is : before ≡ link.before = eqb-true before link.before parts.0 in
    let there = are.each index link at in
    let low = there.0 in
    let answer_is : answer ≡ link.answer = answers-same answer link.answer set there.1 parts.1 in
    let place : index ≡ index + 1 - 1 = omega arith in (
      before,
      record {
        within = omega (arith, low, before_is);
        link = link;
        is_there = ap (λ (i : ℕ). slice_get more i) (sym place) ∙ at;
        before_is = sym before_is;
        answer_is = sym answer_is;
      },
      listed-kept links more before held keeps is,
    )

-- a list that goes on from another
pub listed-step : (links : List Link) (n : ℕ) (held : List HeldAnswer) → 0 < n → IsListed links n held →
    (l : Link) × (rest : List HeldAnswer) × (slice_get links (n - 1) ≡ Some l) × (l.before < n) × IsListed links l.before rest × (held ≡ l.answer ∷ rest)
unfolding IsListed
listed-step links n [] positive is = absurd (omega (arith, positive, is))
listed-step links n (h ∷ rest) positive is =
    let last = is.1 in (
      last.link,
      rest,
      last.is_there,
      subst (λ (m : ℕ). m < n) (sym last.before_is) last.within,
      subst (λ (m : ℕ). IsListed links m rest) (sym last.before_is) is.2,
      ap (λ (x : HeldAnswer). x ∷ rest) (sym last.answer_is),
    )

-- and the empty one
pub listed-start : (links : List Link) (held : List HeldAnswer) → IsListed links 0 held → held ≡ []
unfolding IsListed
listed-start links [] is = refl
listed-start links (h ∷ rest) is = let within = is.1.within in absurd (omega (arith, within))

pub listed-none : (links : List Link) → IsListed links 0 []
unfolding IsListed
listed-none links = refl

-- the list before the last answer
pub listed-rest : (links : List Link) (n : ℕ) (held : List HeldAnswer) (link : Link) → 0 < n → IsListed links n held → slice_get links (n - 1) ≡ Some link →
    IsListed links link.before (drop 1 held)
listed-rest links n held link positive is at =
    let step = listed-step links n held positive is in
    let same : step.0 ≡ link = some-link step.0 link (sym step.2 ∙ at) in
    subst (λ (l : List HeldAnswer). IsListed links link.before (drop 1 l)) (sym step.5) (subst (λ (x : Link). IsListed links x.before step.1) same step.4)

pub drop-more : {X : Type 0} (xs : List X) (n m : ℕ) → m ≡ n + 1 → drop 1 (drop n xs) ≡ drop m xs
drop-more xs n m e = drop-drop 1 n xs ∙ sym (ap (λ k. drop k xs) e)
