-- The stretches of items on one level, as they are stored, and what they skip.
use Rattle.std.proofs.Common.{◌≡◌, ◌≢◌, ℕ, ◌+◌, ◌-◌, ◌≤◌, ◌<◌, Bool, true, false, List, [], ◌∷◌, ◌∙◌}
use Rattle.std.proofs.Common.{ap, arith, cond, drop, eqb, get_or, length, refl, subst, suc, sym, zero}
use Rattle.std.proofs.lemmas.Bool.{cond-false, cond-true, eq-eqb, eqb-true, ne_eqb}
use Rattle.std.proofs.lemmas.List.{drop-drop, length-drop}
use Rattle.pam_dispatch.specs.declared.flat_item.FlatItem.{FlatItem}
use Rattle.pam_dispatch.specs.declared.state.State.{State}
use Rattle.pam_dispatch.specs.Flat.{level_of, resume}
use Rattle.pam_dispatch.specs.inner.Stretches.{IsStretchOf, IsStretchTable, begins_on, stretch_of}
use Rattle.pam_dispatch.proofs.PositionTables.{table-at}
use Rattle.pam_dispatch.proofs.Resume.{at_index, resume-item}

-- HOW LONG A STRETCH IS

-- the level is that of the first item, if there is one
abbrev pub IsFirstLevel : ℕ → List FlatItem → Type 0
IsFirstLevel level [] = Unit {0}
IsFirstLevel level (item ∷ rest) = level_of item ≡ level

pub stretch-within : (l : List FlatItem) → stretch_of l ≤ length l
unfolding stretch_of
stretch-within [] = omega arith
stretch-within (item ∷ rest) =
    elim (begins_on (level_of item) rest) as (λ (b : Bool). 1 + cond b (stretch_of rest) 0 ≤ length (item ∷ rest)) [
      | true ↦ omega (arith, stretch-within rest)
      | false ↦ omega arith
    ]

pub stretch-some : (l : List FlatItem) → 0 < length l → 0 < stretch_of l
unfolding stretch_of
stretch-some [] h = h
stretch-some (item ∷ rest) h = omega arith

-- the length from an item on, by that of what follows it
pub stretch-on : (item : FlatItem) (rest : List FlatItem) (level : ℕ) → IsFirstLevel level rest → level_of item ≡ level →
    1 + stretch_of rest ≡ stretch_of (item ∷ rest)
unfolding stretch_of
stretch-on item [] level first same = refl
stretch-on item (next ∷ rest) level first same =
    ap (λ (n : ℕ). 1 + n) (sym (cond-true (eqb (level_of next) (level_of item)) (stretch_of (next ∷ rest)) 0 (eq-eqb _ _ (first ∙ sym same))))

pub stretch-anew : (item : FlatItem) (rest : List FlatItem) (level : ℕ) → IsFirstLevel level rest → level_of item ≢ level →
    1 ≡ stretch_of (item ∷ rest)
unfolding stretch_of
stretch-anew item [] level first other = refl
stretch-anew item (next ∷ rest) level first other =
    ap (λ (n : ℕ). 1 + n)
    (sym (cond-false (eqb (level_of next) (level_of item)) (stretch_of (next ∷ rest)) 0 (ne_eqb _ _ (λ e. other (sym e ∙ first)))))

-- THE STORED LENGTHS

pub stretch-at : (program : List FlatItem) (table : List ℕ) (at : ℕ) → IsStretchTable program table →
    get_or table (length program - at) 0 ≡ stretch_of (drop at program)
stretch-at program table at stored = table-at IsStretchOf 0 program table at stored

-- a stored length is that of some items which are there
pub stored-within : (program : List FlatItem) (table : List ℕ) (at : ℕ) → IsStretchTable program table →
    get_or table (length program - at) 0 ≤ length program - at
stored-within program table at stored =
    omega (arith, stretch-at program table at stored, stretch-within (drop at program), length-drop at program)

pub stored-some : (program : List FlatItem) (table : List ℕ) (at : ℕ) → IsStretchTable program table → at < length program →
    0 < get_or table (length program - at) 0
stored-some program table at stored within =
    let some : 0 < length (drop at program) = omega (arith, length-drop at program, within) in
    omega (arith, stretch-at program table at stored, stretch-some (drop at program) some)

-- WHAT IS SKIPPED

first-level : (item : FlatItem) (rest : List FlatItem) (level : ℕ) → level_of item ≡ level → begins_on (level_of item) rest ≡ true → IsFirstLevel level rest
first-level item [] level first e = tt
first-level item (next ∷ rest) level first e = eqb-true (level_of next) (level_of item) e ∙ first

-- of a stretch any number of items is skipped in one step
pub resume-stretch : (l : List FlatItem) (n level skip : ℕ) (es : List State) (s : State) → IsFirstLevel level l → n ≤ stretch_of l → n ≤ skip →
    resume (drop n l) level (skip - n) es s ≡ resume l level skip es s
unfolding stretch_of
resume-stretch [] zero level skip es s first within enough = ap (λ (k : ℕ). resume [] level k es s) (omega arith)
resume-stretch [] (suc n) level skip es s first within enough = absurd (omega (arith, within))
resume-stretch (item ∷ rest) zero level skip es s first within enough = ap (λ (k : ℕ). resume (item ∷ rest) level k es s) (omega arith)
resume-stretch (item ∷ rest) (suc n) level skip es s first within enough =
    let left : skip - suc n ≡ (skip - 1) - n = omega (arith, enough) in
    ap (λ (k : ℕ). resume (drop n rest) level k es s) left
    ∙ elim (begins_on (level_of item) rest) as (λ (b : Bool). begins_on (level_of item) rest ≡ b → suc n ≤ 1 + cond b (stretch_of rest) 0
    → resume (drop n rest) level ((skip - 1) - n) es s ≡ resume rest level (skip - 1) es s) [
      | true ↦ λ e more. resume-stretch rest n level (skip - 1) es s (first-level item rest level first e) (omega (arith, more)) (omega (arith, enough))
      | false ↦ λ e more.
          let none : n ≡ 0 = omega (arith, more) in
          ap (λ (k : ℕ). resume (drop k rest) level ((skip - 1) - k) es s) none ∙ ap (λ (k : ℕ). resume rest level k es s) (omega arith)
    ] refl within
    ∙ sym (resume-item item rest level skip es s first (omega (arith, enough)))

-- the same, at a position of a program
pub resume-from : (program : List FlatItem) (table : List ℕ) (at n level skip : ℕ) (item d : FlatItem) (es : List State) (s : State)
    → IsStretchTable program table → at < length program → get_or program at d ≡ item → level_of item ≡ level
    → n ≤ get_or table (length program - at) 0 → n ≤ skip
    → resume (drop (at + n) program) level (skip - n) es s ≡ resume (drop at program) level skip es s
resume-from program table at n level skip item d es s stored within is first few enough =
    let here : drop at program ≡ item ∷ drop (at + 1) program = at_index program at d item within is in
    let length-here : get_or table (length program - at) 0 ≡ stretch_of (drop at program) = stretch-at program table at stored in
    ap (λ (x : List FlatItem). resume x level (skip - n) es s) (sym (drop-drop n at program))
    ∙ resume-stretch (drop at program) n level skip es s (subst (IsFirstLevel level) (sym here) first) (omega (arith, few, length-here)) enough
