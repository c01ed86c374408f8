-- Answers that are held, one of each name.
use Rattle.std.proofs.Common.{◌≡◌, ◌≢◌, ◌&&◌, ℕ, Bool, true, false, cond, eqb, List, [], ◌∷◌, ◌++◌, Option, arith, filter, subst, sym}
use Rattle.std.specs.List.{All, AllPairs}
use Rattle.std.specs.Prelude.{not}
use Rattle.std.proofs.lemmas.Bool.{and_parts, eqb-false, not-true}
use Rattle.std.proofs.lemmas.List.Elements.{All-weaker, filter_passes}
use Rattle.std.proofs.lemmas.List.Kept.{AllPairs-cons, AllPairs-filter}
use Rattle.pam_dispatch.specs.declared.flat_item.FlatItem.{FlatItem}
use Rattle.pam_dispatch.specs.Flat.{modules_of}
use Rattle.pam_dispatch.specs.Runs.{Assignment, Runs, asked_module}
use Rattle.pam_compare.specs.declared.held.HeldAnswer.{HeldAnswer}
use Rattle.pam_compare.specs.Walks.{IsAfter, Order, held_after, is_ahead, tells}

abbrev pub HaveOwnNames : HeldAnswer → HeldAnswer → Type 0
HaveOwnNames one other = one.name ≢ other.name

once-first : (b : Bool) (answer : HeldAnswer) (rest : List HeldAnswer) → All (HaveOwnNames answer) rest → AllPairs HaveOwnNames rest →
    AllPairs HaveOwnNames (cond b (answer ∷ []) [] ++ rest)
once-first true answer rest all once = AllPairs-cons HaveOwnNames answer rest all once
once-first false answer rest all once = once

held-once : (names : List ℕ) (count modules : ℕ) (possible : List (List ℕ)) (held : List HeldAnswer) (answer : HeldAnswer) (old new : Option ℕ) →
    AllPairs HaveOwnNames held → AllPairs HaveOwnNames (held_after names count modules possible held answer old new)
unfolding held_after
held-once names count modules possible held answer old new once =
    let test : HeldAnswer → Bool = λ h. not (eqb h.name answer.name) && is_ahead names count modules h.name old new in
    let others : All (HaveOwnNames answer) (filter test held) =
    All-weaker (λ h. test h ≡ true) (HaveOwnNames answer)
    (λ h e same. eqb-false h.name answer.name (not-true _ (and_parts (not (eqb h.name answer.name)) _ e).0) (sym same)) (filter test held)
    (filter_passes test held) in
    once-first (tells possible answer && is_ahead names count modules answer.name old new) answer (filter test held) others
    (AllPairs-filter HaveOwnNames test held once)

pub after-once : (old new : List FlatItem) (names : List ℕ) (possible : List (List ℕ)) (old_first : Order) (a b : Assignment) (answers : List HeldAnswer)
    (left right : Runs) (held : List HeldAnswer) → IsAfter old new names possible old_first a b answers left right held → AllPairs HaveOwnNames held
unfolding IsAfter
after-once old new names possible old_first a b [] left right held w =
    subst (AllPairs HaveOwnNames) (sym w.2) (λ i j d before within. absurd (omega (arith, within)))
after-once old new names possible old_first a b (answer ∷ answers) left right held w =
    subst (AllPairs HaveOwnNames) (sym w.4.held_is)
    (held-once names (modules_of old) (modules_of new) possible w.2 answer (asked_module left) (asked_module right)
    (after-once old new names possible old_first a b answers w.0 w.1 w.2 w.3))
