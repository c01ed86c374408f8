-- What the definitions of situations, and of stacks with the same items, imply.
use Rattle.std.specs.Prelude.{◌≡◌, ◌≢◌, ◌<◌, ℕ, List, Option, None}
use Rattle.std.specs.List.{AllPairs}
use Rattle.pam_conf.specs.Stack.{Items}
use Rattle.pam_dispatch.specs.declared.flat_item.FlatItem.{FlatItem}
use Rattle.pam_dispatch.specs.Flat.{runs_of}
use Rattle.pam_dispatch.specs.Runs.{Assignment, Runs, asked_module}
use Rattle.pam_dispatch.specs.Tree.{decided}
use Rattle.pam_paths.specs.Listing.{Allowance}
use Rattle.pam_compare.specs.declared.comparing.TheConstants.{MAX_SITUATIONS}
use Rattle.pam_compare.specs.declared.held.HeldAnswer.{HeldAnswer}
use Rattle.pam_compare.specs.Questions.{EndsAfter}
use Rattle.pam_compare.specs.Same.{AreSame}
use Rattle.pam_compare.specs.Situations.{HasMoreSituations}
use Rattle.pam_compare.specs.Walks.{IsAfter, Order}

-- two stacks that ask no module have at most one situation
abbrev pub OneSituation : Type 0
OneSituation =
    (old_allows new_allows : Allowance) (old new : List FlatItem) (partners : List (Option ℕ)) (limit : ℕ) →
    asked_module (runs_of old) ≡ None → asked_module (runs_of new) ≡ None →
    HasMoreSituations old_allows new_allows old new partners limit → limit < 1

-- wherever the walk is, it holds at most one answer of each name
abbrev pub HeldOnce : Type 0
HeldOnce =
    (old new : List FlatItem) (names : List ℕ) (possible : List (List ℕ)) (old_first : Order) (old_answers new_answers : Assignment)
    (answers : List HeldAnswer) (left right : Runs) (held : List HeldAnswer) →
    IsAfter old new names possible old_first old_answers new_answers answers left right held →
    AllPairs (λ one other. one.name ≢ other.name) held

-- the walk of two stacks ends, whatever their modules answer
abbrev pub EachWalkEnds : Type 0
EachWalkEnds =
    (names : List ℕ) (old_first : Order) (old_answers new_answers : Assignment) (old new : Runs) →
    (n : ℕ) × EndsAfter names old_first old_answers new_answers n old new

-- at most a million situations are looked at
abbrev pub MostSituations : Type 0
MostSituations = MAX_SITUATIONS ≡ 1000000

-- stacks with the same items decide alike, whatever their modules answer
abbrev pub SameItemsDecideAlike : Type 0
SameItemsDecideAlike = (one other : Items) → AreSame one other → (answers : Assignment) → decided one answers ≡ decided other answers
