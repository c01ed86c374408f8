-- Why nothing is said of stacks with the same items, why what a pair says holds for all stacks with its items, and what is shown of the
-- modules that two stacks ask: pam.conf(5).
use Rattle.std.specs.Prelude.{◌≡◌, ◌⊎◌, ℕ, ◌≤◌, List, Option, Some}
use Rattle.pam_conf.specs.Stack.{Items, IsNumbered, module_count}
use Rattle.pam_conf.specs.declared.rule.Kind.{Kind}
use Rattle.pam_dispatch.specs.Runs.{Assignment, answers_of}
use Rattle.pam_dispatch.specs.Tree.{runs_of_stack}
use Rattle.pam_changes.specs.Asked.{AreModules, AreShownOnce, IsOneToOne, Rise}
use Rattle.pam_changes.specs.Changes.{AreEqual}
use Rattle.pam_changes.specs.Guards.{guarding}
use Rattle.pam_changes.specs.Known.{alike_partners, known_codes}
use Rattle.pam_changes.specs.Pairs.{IsPair}
use Rattle.pam_compare.specs.Same.{AreSame}
use Rattle.pam_changes.specs.Sides.{SideText, SidesText}
use Rattle.pam_changes.specs.Steps.{asked_modules, asked_numbers}
use Rattle.pam_changes.specs.declared.pair.Decisions.TheVariants.{Known}
use Rattle.pam_changes.specs.declared.pair.Shown.{Shown}
use Rattle.pam_changes.specs.declared.pair.ShownChanges.{ShownChanges}
use Rattle.pam_changes.specs.declared.pair.StackPair.{StackPair}

-- in one configuration, the same is known of the modules of stacks with the same items
abbrev pub SameItemsAreKnownAlike : Type 0
SameItemsAreKnownAlike =
    (sides : SidesText) (side : SideText) (kind : Kind) (one other : Items) → AreSame one other → (number : ℕ) →
    known_codes sides side kind one number ≡ known_codes sides side kind other number

-- and so it is in both, where the stacks are equal
abbrev pub EqualStacksAreKnownAlike : Type 0
EqualStacksAreKnownAlike =
    (sides : SidesText) (kind : Kind) (old new : Items) → AreEqual sides old new → (number : ℕ) → 1 ≤ number → number ≤ module_count old →
    known_codes sides sides.old kind old number ≡ known_codes sides sides.new kind new number

-- in one configuration, the same modules of stacks with the same items guard a login, each as it does in the other stack
abbrev pub SameItemsGuardAlike : Type 0
SameItemsGuardAlike =
    (sides : SidesText) (side : SideText) (kind : Kind) (one other : Items) → AreSame one other → (number : ℕ) →
    guarding sides.facts side kind one number ≡ guarding sides.facts side kind other number

-- of two lists of modules that are asked, each module is shown once, with its answer, and no other
abbrev pub AskedAreShownOnce : Type 0
AskedAreShownOnce =
    (partners : List (Option ℕ)) (old_answers new_answers : Assignment) (old_asked new_asked : List ℕ) (modules : ℕ) →
    IsOneToOne partners → Rise old_asked → AreModules modules new_asked →
    AreShownOnce partners old_answers new_answers old_asked new_asked modules
    (asked_modules partners old_answers new_answers old_asked new_asked modules)

-- answers that are shown for a change
abbrev pub IsAmong : ShownChanges → Shown → Type 0
IsAmong changes shown = (changes.admits ≡ Some shown) ⊎ ((changes.refuses ≡ Some shown) ⊎ (changes.tells ≡ Some shown))

-- of a pair of stacks, each module that they ask under such answers is shown once, with its answer, and no other
abbrev pub AskedOfPairIsShownOnce : Type 0
AskedOfPairIsShownOnce =
    (sides : SidesText) (pair : StackPair) (changes : ShownChanges) (shown : Shown) →
    IsNumbered pair.old → IsNumbered pair.new → IsPair sides pair → pair.decisions ≡ Known changes → IsAmong changes shown →
    let old_answers = answers_of shown.witness.old_codes.items in
    let new_answers = answers_of shown.witness.new_codes.items in
    AreShownOnce (alike_partners sides pair.kind pair.old pair.new pair.matching) old_answers new_answers
    (asked_numbers (runs_of_stack pair.old) old_answers) (asked_numbers (runs_of_stack pair.new) new_answers) (module_count pair.new)
    shown.asked.items
