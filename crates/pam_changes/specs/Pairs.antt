-- Two stacks that are not the same, and how they differ: pam.conf(5), DESCRIPTION.
use Rattle.std.specs.Prelude.{◌≡◌, ℕ, List, Option, Some, None}
use Rattle.pam_compare.specs.Comparison.{IsWitness, NeverChanges}
use Rattle.pam_compare.specs.Matching.{matching_of}
use Rattle.pam_compare.specs.Situations.{HasMoreSituations}
use Rattle.pam_compare.specs.declared.change.Change.{Change}
use Rattle.pam_compare.specs.declared.change.Change.TheVariants.{Admits, Refuses, Tells}
use Rattle.pam_compare.specs.declared.comparing.TheConstants.{MAX_SITUATIONS}
use Rattle.pam_conf.specs.Stack.{Items, module_count}
use Rattle.pam_conf.specs.declared.rule.Kind.{Kind}
use Rattle.pam_dispatch.specs.declared.flat_item.FlatItem.{FlatItem}
use Rattle.pam_dispatch.specs.Flat.{modules_of, runs_of}
use Rattle.pam_dispatch.specs.Runs.{answers_of}
use Rattle.pam_dispatch.specs.Tree.{runs_of_stack}
use Rattle.pam_facts.specs.Answers.{Allows}
use Rattle.pam_paths.specs.Known.{may_answer}
use Rattle.pam_paths.specs.Listing.{Allowance}
use Rattle.pam_paths.specs.declared.knowledge.Known.{Known}
use Rattle.pam_changes.specs.Guards.{AreGuards}
use Rattle.pam_changes.specs.Known.{alike_partners, known_codes}
use Rattle.pam_changes.specs.Modules.{AreModuleChanges}
use Rattle.pam_changes.specs.Sides.{SidesText}
use Rattle.pam_changes.specs.Steps.{asked_modules, asked_numbers}
use Rattle.pam_changes.specs.declared.pair.Decisions.{Decisions}
use Rattle.pam_changes.specs.declared.pair.Decisions.TheVariants as decisions
use Rattle.pam_changes.specs.declared.pair.Shown.{Shown}
use Rattle.pam_changes.specs.declared.pair.ShownChanges.{ShownChanges}
use Rattle.pam_changes.specs.declared.pair.StackPair.{StackPair}

-- a flat list is the program of a stack
pub record IsProgramOf (items : Items) (program : List FlatItem) : Type 0 where
  pub runs : runs_of program ≡ runs_of_stack items
  pub modules : modules_of program ≡ module_count items

module _ (old_allows new_allows : Allowance) (old new : List FlatItem) (partners : List (Option ℕ)) where
  -- answers that make a change, and the modules that the stacks then ask
  pub record IsShownBy (change : Change) (shown : Shown) : Type 0 where
    pub witness : IsWitness old_allows new_allows old new partners change shown.witness
    pub asked : shown.asked.items ≡ asked_modules partners (answers_of shown.witness.old_codes.items) (answers_of shown.witness.new_codes.items)
        (asked_numbers (runs_of old) (answers_of shown.witness.old_codes.items))
        (asked_numbers (runs_of new) (answers_of shown.witness.new_codes.items)) (modules_of new)

  -- there are answers that make a change, or none
  abbrev pub IsShown : Change → Option Shown → Type 0
  IsShown change None = NeverChanges old_allows new_allows old new partners change
  IsShown change (Some shown) = IsShownBy change shown

  pub record AreShown (shown : ShownChanges) : Type 0 where
    pub admits : IsShown Admits shown.admits
    pub refuses : IsShown Refuses shown.refuses
    pub tells : IsShown Tells shown.tells

  abbrev pub AreDecisions : Decisions → Type 0
  AreDecisions (decisions.Known shown) = AreShown shown
  AreDecisions decisions.NotKnown = HasMoreSituations old_allows new_allows old new partners MAX_SITUATIONS

-- HOW THE DECISIONS OF TWO STACKS DIFFER, for all answers that are known to be possible. Of matched modules one of which is there and
-- the other is not, or always fails by what its arguments are and the other does not, each answers for itself
pub record IsCompared (sides : SidesText) (kind : Kind) (old new : Items) (partners : List (Option ℕ)) (told : Decisions) : Type 0 where
  pub old_known : Known
  pub new_known : Known
  pub old_allows : Allows (module_count old) old_known (known_codes sides sides.old kind old)
  pub new_allows : Allows (module_count new) new_known (known_codes sides sides.new kind new)
  pub old_program : List FlatItem
  pub new_program : List FlatItem
  pub of_old : IsProgramOf old old_program
  pub of_new : IsProgramOf new new_program
  pub decisions : AreDecisions (may_answer old_known) (may_answer new_known) old_program new_program (alike_partners sides kind old new partners) told

-- A PAIR OF STACKS
pub record IsPair (sides : SidesText) (pair : StackPair) : Type 0 where
  pub matching : pair.matching ≡ matching_of pair.old pair.new
  pub modules : AreModuleChanges pair.matching pair.old pair.new pair.modules
  pub guards : AreGuards sides pair.kind pair.old pair.new pair.modules pair.guards
  pub decisions : IsCompared sides pair.kind pair.old pair.new pair.matching pair.decisions
