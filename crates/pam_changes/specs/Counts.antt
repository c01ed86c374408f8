-- How many stacks change.
use Rattle.std.specs.Prelude.{ℕ, ◌&&◌, ◌||◌, Bool, true, false, not, List, slice_get, is_some, if◌then◌else◌, Option, Some, None}
use Rattle.std.specs.List.{count_by}
use Rattle.pam_changes.specs.declared.changes.HostChanges.{HostChanges}
use Rattle.pam_changes.specs.declared.counts.Counts.{Counts}
use Rattle.pam_changes.specs.declared.counts.Verdict.{Verdict}
use Rattle.pam_changes.specs.declared.counts.Verdict.TheVariants as verdicts
use Rattle.pam_changes.specs.declared.pair.Decisions.{Decisions}
use Rattle.pam_changes.specs.declared.pair.Decisions.TheVariants as decisions
use Rattle.pam_changes.specs.declared.pair.StackPair.{StackPair}
use Rattle.pam_changes.specs.declared.services.ComparedService.{ComparedService}
use Rattle.pam_changes.specs.declared.stacks.ComparedStack.{ComparedStack}
use Rattle.pam_changes.specs.declared.stacks.StackChange.{StackChange}
use Rattle.pam_changes.specs.declared.stacks.StackChange.TheVariants as changes

-- what is said of the decisions of two stacks
abbrev pub verdict_of_decisions : Decisions → Verdict
verdict_of_decisions decisions.NotKnown = verdicts.NotKnown
verdict_of_decisions (decisions.Known shown) =
    if is_some shown.admits || (is_some shown.refuses || is_some shown.tells) then verdicts.Changed else verdicts.SameDecisions

-- what is said of the pair at a position
abbrev pub verdict_of_pair : Option StackPair → Verdict
verdict_of_pair None = verdicts.NotKnown
verdict_of_pair (Some pair) = verdict_of_decisions pair.decisions

-- WHAT IS SAID of a stack in short
abbrev pub verdict_of : List StackPair → StackChange → Verdict
verdict_of pairs changes.NoStack = verdicts.NoStack
verdict_of pairs (changes.Refused old new) = verdicts.Refused
verdict_of pairs changes.Same = verdicts.Equal
verdict_of pairs (changes.Differs position) = verdict_of_pair (slice_get pairs position)

abbrev pub same_verdict : Verdict → Verdict → Bool
same_verdict verdicts.NoStack verdicts.NoStack = true
same_verdict verdicts.Equal verdicts.Equal = true
same_verdict verdicts.SameDecisions verdicts.SameDecisions = true
same_verdict verdicts.Changed verdicts.Changed = true
same_verdict verdicts.NotKnown verdicts.NotKnown = true
same_verdict verdicts.Refused verdicts.Refused = true
same_verdict one other = false

-- the number of stacks of which this is said
abbrev pub count_of : List StackPair → List ComparedStack → Verdict → ℕ
count_of pairs stacks verdict = count_by (λ s. same_verdict (verdict_of pairs s.change) verdict) stacks

-- a service that only one configuration has: the old one, or else the new one
abbrev pub only_in_one : Bool → ComparedService → Bool
only_in_one true s = s.in_old && not s.in_new
only_in_one false s = s.in_new && not s.in_old

-- THE COUNTS
abbrev pub counts_of : HostChanges → Counts
counts_of c = record {
  equal = count_of c.pairs.items c.stacks.items verdicts.Equal;
  same_decisions = count_of c.pairs.items c.stacks.items verdicts.SameDecisions;
  changed = count_of c.pairs.items c.stacks.items verdicts.Changed;
  not_known = count_of c.pairs.items c.stacks.items verdicts.NotKnown;
  refused = count_of c.pairs.items c.stacks.items verdicts.Refused;
  only_in_old = count_by (only_in_one true) c.services.items;
  only_in_new = count_by (only_in_one false) c.services.items;
}
