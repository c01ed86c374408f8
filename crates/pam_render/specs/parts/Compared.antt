-- The lines of a comparison, in the order of its stacks, in a form of answers.
use Rattle.std.specs.Prelude.{ℕ, ◌==◌, Bool, true, false, List, [], ◌∷◌, ◌++◌, codes, Option, None, Some, slice_get, if◌then◌else◌}
use Rattle.std.specs.List.{flat_map}
use Rattle.std.specs.Option.{option_map_or}
use Rattle.pam_changes.specs.Counts.{counts_of}
use Rattle.pam_changes.specs.declared.counts.Counts.{Counts}
use Rattle.pam_changes.specs.declared.guards.GuardingModule.{GuardingModule}
use Rattle.pam_changes.specs.declared.modules.MatchedPair.{MatchedPair}
use Rattle.pam_changes.specs.declared.pair.Decisions.{Decisions}
use Rattle.pam_changes.specs.declared.pair.Decisions.TheVariants.{Known, NotKnown as DecisionsNotKnown}
use Rattle.pam_changes.specs.declared.pair.Shown.{Shown}
use Rattle.pam_changes.specs.declared.pair.ShownChanges.{ShownChanges}
use Rattle.pam_changes.specs.declared.pair.StackPair.{StackPair}
use Rattle.pam_changes.specs.declared.services.ComparedService.{ComparedService}
use Rattle.pam_changes.specs.declared.stacks.ComparedStack.{ComparedStack}
use Rattle.pam_changes.specs.declared.stacks.StackChange.{StackChange}
use Rattle.pam_changes.specs.declared.stacks.StackChange.TheVariants as changes
use Rattle.pam_conf.specs.Files.{Folder}
use Rattle.pam_conf.specs.Stack.{Items}
use Rattle.pam_conf.specs.declared.conf_error.ConfError.{ConfError}
use Rattle.pam_conf.specs.declared.rule.Kind.{Kind}
use Rattle.pam_report.specs.Reply.{CompareValue}
use Rattle.pam_render.specs.parts.Changes.{compared_count, is_grave, service_at}
use Rattle.pam_render.specs.declared.parts.compared.line.Configuration.{Configuration}
use Rattle.pam_render.specs.declared.parts.compared.line.Configuration.TheVariants.{Old, New}

-- the service and the kind of a stack
pub record Head : Type 0 where
  pub service : List ℕ
  pub kind : Kind

-- what a configuration says of a service: its files, and its first fault, none if it accepts the service
pub record Side : Type 0 where
  pub files : Folder
  pub fault : Option ConfError

-- the stack of a service in one of the configurations, with its files
pub record StackOfOne : Type 0 where
  pub head : Head
  pub configuration : Configuration
  pub files : Folder
  pub items : Items

-- a line of a comparison
pub data Line : Type 0 where
  -- a service that one configuration alone has
  OnlyInOld : List ℕ → Line
  OnlyInNew : List ℕ → Line
  -- a stack that some configuration refuses
  Refused : Head → Side → Side → Line
  -- a stack with the same items as one that was told before
  As : Head → Head → Line
  -- matched modules with other arguments
  Arguments : Head → StackPair → MatchedPair → Line
  -- two decisions, and what changes: `admits`, `refuses` or `tells`
  Change : Head → StackPair → List ℕ → Shown → Line
  -- the same decisions, and what changes in the modules
  Same : Head → StackPair → Line
  -- stacks that can be in too many situations
  NotKnown : Head → Line
  -- a module that this stack alone has, and that guards a login
  Guard : StackOfOne → GuardingModule → Line
  -- the last line: the number of stacks, and what changes in how many
  Last : ℕ → Counts → Line

-- if this is the text of a line
module _ (line : Line → List ℕ) where
  -- TWO STACKS

  abbrev pub change_if_any : Head → StackPair → List ℕ → Option Shown → List ℕ
  change_if_any head pair change shown = option_map_or (λ s. line (Change head pair change s)) shown []

  abbrev pub tells_lines : Head → StackPair → Option Shown → List ℕ
  tells_lines head pair None = line (Same head pair)
  tells_lines head pair (Some shown) = line (Change head pair (codes "tells") shown)

  -- who is let in now, and who no longer
  abbrev pub grave_lines : Head → StackPair → ShownChanges → List ℕ
  grave_lines head pair changes =
      change_if_any head pair (codes "admits") changes.admits ++ change_if_any head pair (codes "refuses") changes.refuses

  -- another failure only where nobody is let in and nobody no longer
  abbrev pub changes_lines : Head → StackPair → ShownChanges → List ℕ
  changes_lines head pair changes = if is_grave changes then grave_lines head pair changes else tells_lines head pair changes.tells

  abbrev pub decisions_lines : Head → StackPair → Decisions → List ℕ
  decisions_lines head pair (Known changes) = changes_lines head pair changes
  decisions_lines head pair DecisionsNotKnown = line (NotKnown head)

  abbrev pub guard_lines : StackOfOne → List GuardingModule → List ℕ
  guard_lines stack guards = flat_map (λ g. line (Guard stack g)) guards

  -- the modules that guard a login, and that were removed or added, also where no decision changes
  abbrev pub guards_lines : CompareValue → Head → StackPair → List ℕ
  guards_lines value head pair =
      guard_lines (record { head = head; configuration = Old; files = value.old; items = pair.old }) pair.guards.removed.items
      ++ guard_lines (record { head = head; configuration = New; files = value.new; items = pair.new }) pair.guards.added.items

  abbrev pub told_lines : CompareValue → Head → StackPair → List ℕ
  told_lines value head pair = decisions_lines head pair pair.decisions ++ guards_lines value head pair

  -- THE LINES of two stacks
  abbrev pub pair_lines : CompareValue → Head → StackPair → List ℕ
  pair_lines value head pair =
      flat_map (λ matched. line (Arguments head pair matched)) pair.modules.arguments.items ++ told_lines value head pair

  -- A STACK

  -- the lines of two stacks, or at which service they were met first. All stacks of a pair are of one kind
  abbrev pub pair_at : CompareValue → ComparedStack → StackPair → List ℕ
  pair_at value stack pair =
      let services = value.changes.services.items in
      let head : Head = record { service = service_at services stack.service; kind = stack.kind } in
      let first : Head = record { service = service_at services pair.service; kind = pair.kind } in
      if stack.service == pair.service then pair_lines value head pair else line (As head first)

  abbrev pub refused_line : CompareValue → ComparedStack → Option ConfError → Option ConfError → List ℕ
  refused_line value stack old new =
      let head : Head = record { service = service_at value.changes.services.items stack.service; kind = stack.kind } in
      line (Refused head (record { files = value.old; fault = old }) (record { files = value.new; fault = new }))

  abbrev pub stack_in : CompareValue → ComparedStack → StackChange → List ℕ
  stack_in value stack changes.NoStack = []
  stack_in value stack changes.Same = []
  stack_in value stack (changes.Refused old new) = refused_line value stack old new
  stack_in value stack (changes.Differs position) =
      option_map_or (pair_at value stack) (slice_get value.changes.pairs.items position) []

  -- THE LINES of a stack, none if nothing changes in it
  unfoldable pub lines_of_stack : CompareValue → ComparedStack → List ℕ
  lines_of_stack value stack = stack_in value stack stack.change

  -- ALL STACKS

  -- which configuration alone has a service
  abbrev pub only_in : List ℕ → Bool → Bool → List ℕ
  only_in name true false = line (OnlyInOld name)
  only_in name false true = line (OnlyInNew name)
  only_in name in_old in_new = []

  abbrev pub presence : List ComparedService → ℕ → List ℕ
  presence services position = option_map_or (λ s. only_in s.name.items s.in_old s.in_new) (slice_get services position) []

  -- the same, unless the stack before was of this service too
  abbrev pub if_first : List ComparedService → Option ℕ → ℕ → List ℕ
  if_first services before position = if option_map_or (λ b. b == position) before false then [] else presence services position

  -- the lines of a stack, after that of its service
  abbrev pub next_stack : CompareValue → Option ℕ → ComparedStack → List ℕ
  next_stack value before stack = if_first value.changes.services.items before stack.service ++ lines_of_stack value stack

  -- the lines of stacks, before the first of which came one of this service
  abbrev pub lines_after : CompareValue → Option ℕ → List ComparedStack → List ℕ
  lines_after value before [] = []
  lines_after value before (stack ∷ stacks) = next_stack value before stack ++ lines_after value (Some stack.service) stacks

  -- THE LINES of a comparison: those of its stacks, and the last line
  abbrev pub compared_lines : CompareValue → List ℕ
  compared_lines value =
      lines_after value None value.changes.stacks.items ++ line (Last (compared_count value.changes.stacks.items) (counts_of value.changes))
