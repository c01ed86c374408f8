-- Each module that two stacks ask is shown, once.
use Rattle.std.proofs.Common.{◌≡◌, ◌∙◌, ◌⊎◌, ℕ, ◌<◌, ◌≤◌, Bool, true, false, cond, ltb, List, [], ◌∷◌, ◌++◌, append_assoc, map}
use Rattle.std.proofs.Common.{Option, Some, None, ap, arith, inl, inr, refl, subst, sym}
use Rattle.std.proofs.lemmas.Bool.{ltb-false}
use Rattle.pam_dispatch.specs.Runs.{Assignment}
use Rattle.pam_paths.proofs.Listings.{Member-cases, Member-left, Member-map, Member-map_back, Member-right}
use Rattle.pam_text.specs.Members.{Member}
use Rattle.pam_changes.specs.declared.steps.AskedModule.{AskedModule}
use Rattle.pam_changes.specs.declared.steps.AskedModule.TheVariants.{New, Both}
use Rattle.pam_changes.specs.Steps.{as_old, before, from, left_after, merged, one_with, step_of}
use Rattle.pam_changes.proofs.Ordered.{Pairs, pairs-across, pairs-append, pairs-back, pairs-front, pairs-map}

-- those before a module that is one with a module of the new stack, if it is one with any
abbrev taken : Option ℕ → List ℕ → List ℕ
taken None alone = []
taken (Some partner) alone = before partner alone

-- a number does not come before that module
abbrev pub IsLeft : Option ℕ → ℕ → Type 0
IsLeft None number = Unit {0}
IsLeft (Some partner) number = partner ≤ number

before-from : (limit : ℕ) (alone : List ℕ) → before limit alone ++ from limit alone ≡ alone
unfolding before from
before-from limit [] = refl
before-from limit (number ∷ alone) = by-test (ltb number limit) (before-from limit alone)
  where
    by-test : (b : Bool) → before limit alone ++ from limit alone ≡ alone →
        cond b (number ∷ before limit alone) [] ++ cond b (from limit alone) (number ∷ alone) ≡ number ∷ alone
    by-test true again = ap (λ (l : List ℕ). number ∷ l) again
    by-test false again = refl

taken-left : (one : Option ℕ) (alone : List ℕ) → taken one alone ++ left_after one alone ≡ alone
taken-left None alone = refl
taken-left (Some partner) alone = before-from partner alone

-- of rising numbers those that are left do not come before
from-least : (limit : ℕ) (alone : List ℕ) (n : ℕ) → Pairs (λ a b. a < b) alone → Member n (from limit alone) → limit ≤ n
unfolding from Member Pairs
from-least limit [] n rise is = absurd is
from-least limit (number ∷ alone) n rise is = by-test (ltb number limit) refl (from-least limit alone n rise.1) is
  where
    by-test : (b : Bool) → ltb number limit ≡ b → (Member n (from limit alone) → limit ≤ n) →
        Member n (cond b (from limit alone) (number ∷ alone)) → limit ≤ n
    by-test true t again is = again is
    by-test false t again (inl e) = let low = ltb-false number limit t in omega (arith, low, e)
    by-test false t again (inr later) =
        let low = ltb-false number limit t in
        let more = rise.0 n later in
        omega (arith, low, more)

left-least : (one : Option ℕ) (alone : List ℕ) (n : ℕ) → Pairs (λ a b. a < b) alone → Member n (left_after one alone) → IsLeft one n
left-least None alone n rise is = tt
left-least (Some partner) alone n rise is = from-least partner alone n rise is

module _ (partners : List (Option ℕ)) (old_answers new_answers : Assignment) where
  -- how a module of the new stack is shown
  abbrev pub shown_as : ℕ → Option ℕ → AskedModule
  shown_as number None = New number (new_answers number)
  shown_as number (Some partner) = Both partner number (new_answers number)

  abbrev pub as_new : ℕ → AskedModule
  as_new number = shown_as number (one_with partners old_answers new_answers number)

  abbrev partner : ℕ → Option ℕ
  partner number = one_with partners old_answers new_answers number

  abbrev rest : List ℕ → List ℕ → List AskedModule
  rest alone shown = merged partners old_answers new_answers alone shown

  step-is : (number : ℕ) (one : Option ℕ) (alone : List ℕ) →
      step_of old_answers new_answers number one alone ≡ map (as_old old_answers) (taken one alone) ++ shown_as number one ∷ []
  step-is number None alone = refl
  step-is number (Some other) alone = refl

  -- first the modules of the old stack that come before a module, then that module, then the others
  merged-cons : (number : ℕ) (alone shown : List ℕ) →
      rest alone (number ∷ shown)
      ≡ map (as_old old_answers) (taken (partner number) alone) ++ as_new number ∷ rest (left_after (partner number) alone) shown
  unfolding merged
  merged-cons number alone shown =
      ap (λ (l : List AskedModule). l ++ rest (left_after (partner number) alone) shown) (step-is number (partner number) alone)
      ∙ append_assoc (map (as_old old_answers) (taken (partner number) alone)) (as_new number ∷ [])
      (rest (left_after (partner number) alone) shown)

  -- EACH IS SHOWN

  pub shows-old : (alone shown : List ℕ) (n : ℕ) → Member n alone → Member (as_old old_answers n) (rest alone shown)
  unfolding merged Member
  shows-old alone [] n is = Member-map (as_old old_answers) n alone is
  shows-old alone (number ∷ shown) n is =
      let front = taken (partner number) alone in
      let back = left_after (partner number) alone in
      subst (Member (as_old old_answers n)) (sym (merged-cons number alone shown))
      (elim (Member-cases n front back (subst (Member n) (sym (taken-left (partner number) alone)) is)) [
        | inl k ↦ Member-left (as_old old_answers n) (map (as_old old_answers) front) (as_new number ∷ rest back shown)
            (Member-map (as_old old_answers) n front k)
        | inr k ↦ Member-right (as_old old_answers n) (map (as_old old_answers) front) (as_new number ∷ rest back shown)
            (inr (shows-old back shown n k))
      ])

  pub shows-new : (alone shown : List ℕ) (j : ℕ) → Member j shown → Member (as_new j) (rest alone shown)
  unfolding Member
  shows-new alone [] j is = absurd is
  shows-new alone (number ∷ shown) j is =
      let front = taken (partner number) alone in
      let back = left_after (partner number) alone in
      subst (Member (as_new j)) (sym (merged-cons number alone shown))
      (Member-right (as_new j) (map (as_old old_answers) front) (as_new number ∷ rest back shown) (elim is [
        | inl e ↦ inl (ap as_new e)
        | inr k ↦ inr (shows-new back shown j k)
      ]))

  -- NO OTHER IS SHOWN

  abbrev pub IsOneOf : List ℕ → List ℕ → AskedModule → Type 0
  IsOneOf alone shown asked =
      ((n : ℕ) × Member n alone × (asked ≡ as_old old_answers n)) ⊎ ((j : ℕ) × Member j shown × (asked ≡ as_new j))

  pub shows-one : (alone shown : List ℕ) (asked : AskedModule) → Member asked (rest alone shown) → IsOneOf alone shown asked
  unfolding merged Member
  shows-one alone [] asked is = inl (Member-map_back (as_old old_answers) asked alone is)
  shows-one alone (number ∷ shown) asked is =
      let front = taken (partner number) alone in
      let back = left_after (partner number) alone in
      let among : (n : ℕ) → Member n (front ++ back) → Member n alone = λ n k. subst (Member n) (taken-left (partner number) alone) k in
      elim (Member-cases asked (map (as_old old_answers) front) (as_new number ∷ rest back shown)
      (subst (Member asked) (merged-cons number alone shown) is)) [
        | inl k ↦
            let one = Member-map_back (as_old old_answers) asked front k in
            inl (one.0, among one.0 (Member-left one.0 front back one.1), one.2)
        | inr later ↦ elim later [
          | inl e ↦ inr (number, inl refl, e)
          | inr k ↦ elim (shows-one back shown asked k) [
            | inl one ↦ inl (one.0, among one.0 (Member-right one.0 front back one.1), one.2)
            | inr one ↦ inr (one.0, inr one.1, one.2)
          ]
        ]
      ]

  -- IN WHAT ORDER

  module _ (R : AskedModule → AskedModule → Type 0) where
    abbrev pub OldFirst : List ℕ → List ℕ → Type 0
    OldFirst alone shown = (n j : ℕ) → Member n alone → Member j shown → R (as_old old_answers n) (as_new j)

    abbrev pub NewFirst : List ℕ → List ℕ → Type 0
    NewFirst alone shown = (n j : ℕ) → Member n alone → Member j shown → IsLeft (partner j) n → R (as_new j) (as_old old_answers n)

    pub pairs-merged : (alone shown : List ℕ) → Pairs (λ a b. a < b) alone → Pairs (λ a b. R (as_old old_answers a) (as_old old_answers b)) alone →
        Pairs (λ i j. R (as_new i) (as_new j)) shown → OldFirst alone shown → NewFirst alone shown → Pairs R (rest alone shown)
    unfolding merged Member Pairs
    pairs-merged alone [] rise old new first later = pairs-map R (as_old old_answers) alone old
    pairs-merged alone (number ∷ shown) rise old new first later =
        let front = taken (partner number) alone in
        let back = left_after (partner number) alone in
        let same = taken-left (partner number) alone in
        let OldOld : ℕ → ℕ → Type 0 = λ a b. R (as_old old_answers a) (as_old old_answers b) in
        let among : (n : ℕ) → Member n (front ++ back) → Member n alone = λ n k. subst (Member n) same k in
        let ins : (n : ℕ) → Member n front → Member n alone = λ n k. among n (Member-left n front back k) in
        let outs : (n : ℕ) → Member n back → Member n alone = λ n k. among n (Member-right n front back k) in
        let both = subst (Pairs OldOld) (sym same) old in
        let again = pairs-merged back shown (pairs-back (λ a b. a < b) front back (subst (Pairs (λ a b. a < b)) (sym same) rise))
        (pairs-back OldOld front back both) new.1 (λ n j k l. first n j (outs n k) (inr l)) (λ n j k l. later n j (outs n k) (inr l)) in
        let next : (y : AskedModule) → Member y (rest back shown) → R (as_new number) y =
        λ y k. elim (shows-one back shown y k) [
          | inl one ↦ subst (R (as_new number)) (sym one.2)
              (later one.0 number (outs one.0 one.1) (inl refl) (left-least (partner number) alone one.0 rise one.1))
          | inr one ↦ subst (R (as_new number)) (sym one.2) (new.0 one.0 one.1)
        ] in
        let across : (x y : AskedModule) → Member x (map (as_old old_answers) front) → Member y (as_new number ∷ rest back shown) → R x y =
        λ x y k l.
        let one = Member-map_back (as_old old_answers) x front k in
        subst (λ z. R z y) (sym one.2)
        (elim l [
          | inl e ↦ subst (R (as_old old_answers one.0)) (sym e) (first one.0 number (ins one.0 one.1) (inl refl))
          | inr m ↦ elim (shows-one back shown y m) [
            | inl two ↦ subst (R (as_old old_answers one.0)) (sym two.2) (pairs-across OldOld front back both one.0 two.0 one.1 two.1)
            | inr two ↦ subst (R (as_old old_answers one.0)) (sym two.2) (first one.0 two.0 (ins one.0 one.1) (inr two.1))
          ]
        ]) in
        subst (Pairs R) (sym (merged-cons number alone shown))
        (pairs-append R (map (as_old old_answers) front) (as_new number ∷ rest back shown)
        (pairs-map R (as_old old_answers) front (pairs-front OldOld front back both)) (next, again) across)
