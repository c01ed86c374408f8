-- What a comparison of two stacks says: pam.conf(5).
use Rattle.std.specs.Prelude.{◌≡◌, ◌≢◌, ◌<◌, ◌≤◌, ℕ, List, Option, Some, None, length}
use Rattle.pam_dispatch.specs.declared.flat_item.FlatItem.{FlatItem}
use Rattle.pam_dispatch.specs.Decision.{decision_of}
use Rattle.pam_dispatch.specs.Flat.{modules_of, runs_of}
use Rattle.pam_dispatch.specs.Runs.{Assignment, Runs, answers_of, asked_module, final_state}
use Rattle.pam_paths.specs.Listing.{Allowance, IsAllowed}
use Rattle.pam_compare.specs.declared.change.Change.{Change}
use Rattle.pam_compare.specs.declared.change.Change.TheVariants.{Admits, Refuses, Tells}
use Rattle.pam_compare.specs.declared.comparing.Changes.{Changes}
use Rattle.pam_compare.specs.declared.comparing.Comparison.{Comparison}
use Rattle.pam_compare.specs.declared.comparing.Comparison.TheVariants.{Known, NotKnown}
use Rattle.pam_compare.specs.declared.comparing.TheConstants.{MAX_SITUATIONS}
use Rattle.pam_compare.specs.declared.held.HeldAnswer.{HeldAnswer}
use Rattle.pam_compare.specs.declared.witness.Witness.{Witness}
use Rattle.pam_compare.specs.Changes.{change_of}
use Rattle.pam_compare.specs.Agreement.{Agree}
use Rattle.pam_compare.specs.Names.{AreNames, ArePossible, name_of}
use Rattle.pam_compare.specs.Questions.{EndsAfter, choices}
use Rattle.pam_compare.specs.Situations.{HasMoreSituations}
use Rattle.pam_compare.specs.Usual.{first_usual}
use Rattle.pam_compare.specs.Walks.{IsAfter, Order}

-- the decision of a run under an assignment
abbrev pub decision_in : Runs → Assignment → ℕ
decision_in runs a = decision_of (final_state runs a)

module _ (old_allows new_allows : Allowance) (old new : List FlatItem) (partners : List (Option ℕ)) where
  -- NO ANSWERS MAKE THIS CHANGE, as long as they are allowed in the two stacks and tied modules answer alike
  unfoldable pub NeverChanges : Change → Type 0
  NeverChanges change =
      (a b : Assignment) → IsAllowed old_allows (modules_of old) a → IsAllowed new_allows (modules_of new) b →
      Agree old_allows new_allows (modules_of old) (modules_of new) partners a b →
      change_of (decision_in (runs_of old) a) (decision_in (runs_of new) b) ≢ Some change

  -- WHICH ANSWERS ARE SHOWN, of those that make a change. With one order of the modules, the walk of both stacks takes as few answers as
  -- any that make it. Each module gives the first usual code of those after which both stacks go on alike, as far as its earlier answer
  -- allows it, or if it is not asked, of all that are possible for it. Tied modules have one name
  pub record IsPreferred (change : Change) (w : Witness) : Type 0 where
    pub names : List ℕ
    pub possible : List (List ℕ)
    pub old_first : Order
    pub are_names : AreNames old_allows new_allows (modules_of old) (modules_of new) partners names
    pub are_possible : ArePossible old_allows new_allows (modules_of old) (modules_of new) names possible
    pub old_answers : Assignment
    pub new_answers : Assignment
    pub old_are : (i : ℕ) → 0 < i → i ≤ modules_of old → answers_of w.old_codes.items i ≡ old_answers i
    pub new_are : (j : ℕ) → 0 < j → j ≤ modules_of new → answers_of w.new_codes.items j ≡ new_answers j
    pub answers : List HeldAnswer
    pub left : Runs
    pub right : Runs
    pub held : List HeldAnswer
    pub after : IsAfter old new names possible old_first old_answers new_answers answers left right held
    pub old_ends : asked_module left ≡ None
    pub new_ends : asked_module right ≡ None
    pub fewest : (a b : Assignment) (n : ℕ) → IsAllowed old_allows (modules_of old) a → IsAllowed new_allows (modules_of new) b →
        Agree old_allows new_allows (modules_of old) (modules_of new) partners a b →
        change_of (decision_in (runs_of old) a) (decision_in (runs_of new) b) ≡ Some change →
        EndsAfter names old_first a b n (runs_of old) (runs_of new) → length answers ≤ n
    pub old_usual : (i : ℕ) → 0 < i → i ≤ modules_of old → first_usual (choices possible answers i) ≡ Some (old_answers i)
    pub new_usual : (j : ℕ) → 0 < j → j ≤ modules_of new → first_usual (choices possible answers (name_of names j)) ≡ Some (new_answers j)

  -- THESE ANSWERS MAKE IT: they are allowed, tied modules answer alike, and the decisions of the stacks differ in this way
  pub record IsWitness (change : Change) (w : Witness) : Type 0 where
    pub old_count : length w.old_codes.items ≡ modules_of old
    pub new_count : length w.new_codes.items ≡ modules_of new
    pub old_allowed : IsAllowed old_allows (modules_of old) (answers_of w.old_codes.items)
    pub new_allowed : IsAllowed new_allows (modules_of new) (answers_of w.new_codes.items)
    pub agree : Agree old_allows new_allows (modules_of old) (modules_of new) partners (answers_of w.old_codes.items) (answers_of w.new_codes.items)
    pub old_decision : w.old ≡ decision_in (runs_of old) (answers_of w.old_codes.items)
    pub new_decision : w.new ≡ decision_in (runs_of new) (answers_of w.new_codes.items)
    pub change_is : change_of w.old w.new ≡ Some change
    pub preferred : IsPreferred change w

  -- a change is shown by answers that make it; where there is no witness, no answers make it
  abbrev pub IsShown : Change → Option Witness → Type 0
  IsShown change None = NeverChanges change
  IsShown change (Some w) = IsWitness change w

  pub record AreChanges (changes : Changes) : Type 0 where
    pub admits : IsShown Admits changes.admits
    pub refuses : IsShown Refuses changes.refuses
    pub tells : IsShown Tells changes.tells

  -- what a comparison says is true of each change; it is `NotKnown` only where there are too many situations
  abbrev pub IsComparison : Comparison → Type 0
  IsComparison (Known changes) = AreChanges changes
  IsComparison NotKnown = HasMoreSituations old_allows new_allows old new partners MAX_SITUATIONS
