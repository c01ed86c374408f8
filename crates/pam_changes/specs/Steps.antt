-- The modules that two stacks ask, in one order.
use Rattle.std.specs.Prelude.{ℕ, ◌==◌, ◌||◌, Bool, false, not, nat_lt, if◌then◌else◌, List, [], ◌∷◌, ◌++◌, filter, map, Option, Some, None}
use Rattle.std.specs.List.{list_any, range_with_len}
use Rattle.std.specs.Option.{option_and_then, option_map_or}
use Rattle.pam_compare.specs.Matching.{partner_of}
use Rattle.pam_dispatch.specs.Runs.{Assignment, Runs, asked_by}
use Rattle.pam_changes.specs.declared.steps.AskedModule.{AskedModule}
use Rattle.pam_changes.specs.declared.steps.AskedModule.TheVariants.{Old, New, Both}

-- the numbers of the modules that a run asks, in order
abbrev pub asked_numbers : Runs → Assignment → List ℕ
asked_numbers runs answers = map (λ ask. ask.module_number) (asked_by runs answers)

abbrev pub is_listed : ℕ → List ℕ → Bool
is_listed number numbers = list_any (λ n. n == number) numbers

abbrev pub is_number : ℕ → Option ℕ → Bool
is_number number other = option_map_or (λ n. n == number) other false

-- those of the modules that come before a number, and the others
unfoldable pub before : ℕ → List ℕ → List ℕ
before limit [] = []
before limit (number ∷ alone) = if nat_lt number limit then number ∷ before limit alone else []

unfoldable pub from : ℕ → List ℕ → List ℕ
from limit [] = []
from limit (number ∷ alone) = if nat_lt number limit then from limit alone else number ∷ alone

abbrev pub left_after : Option ℕ → List ℕ → List ℕ
left_after None alone = alone
left_after (Some partner) alone = from partner alone

abbrev pub as_old : Assignment → ℕ → AskedModule
as_old old_answers number = Old number (old_answers number)

-- a module of the new stack: before it, if it is one with a module of the old stack, those of the old stack that come before that
abbrev pub step_of : Assignment → Assignment → ℕ → Option ℕ → List ℕ → List AskedModule
step_of old_answers new_answers number None alone = New number (new_answers number) ∷ []
step_of old_answers new_answers number (Some partner) alone =
    map (as_old old_answers) (before partner alone) ++ Both partner number (new_answers number) ∷ []

module _ (partners : List (Option ℕ)) (old_answers new_answers : Assignment) where
  -- matched modules are shown as one if they answer alike
  abbrev pub if_alike : ℕ → ℕ → Option ℕ
  if_alike number partner = if old_answers partner == new_answers number then Some partner else None

  -- the module of the old stack that is one with a module of the new stack
  unfoldable pub one_with : ℕ → Option ℕ
  one_with number = option_and_then (if_alike number) (partner_of partners number)

  -- a module of the new stack that is asked, or is one with a module that the old stack asks
  abbrev pub is_shown : List ℕ → List ℕ → ℕ → Bool
  is_shown old_asked new_asked number =
      is_listed number new_asked || option_map_or (λ partner. is_listed partner old_asked) (one_with number) false

  -- of the modules of the new stack, by their number, those that are shown
  unfoldable pub shown_new : List ℕ → List ℕ → ℕ → List ℕ
  shown_new old_asked new_asked modules = filter (is_shown old_asked new_asked) (range_with_len 1 modules)

  -- the modules that the old stack asks, and that are one with none of these
  unfoldable pub old_alone : List ℕ → List ℕ → List ℕ
  old_alone old_asked shown = filter (λ number. not (list_any (λ other. is_number number (one_with other)) shown)) old_asked

  -- the modules of the new stack that are shown, in order, and between them those of the old stack that are one with none
  unfoldable pub merged : List ℕ → List ℕ → List AskedModule
  merged alone [] = map (as_old old_answers) alone
  merged alone (number ∷ shown) =
      step_of old_answers new_answers number (one_with number) alone ++ merged (left_after (one_with number) alone) shown

-- THE MODULES THAT EITHER STACK ASKS; the last argument is the number of modules of the new one
abbrev pub asked_modules : List (Option ℕ) → Assignment → Assignment → List ℕ → List ℕ → ℕ → List AskedModule
asked_modules partners old_answers new_answers old_asked new_asked modules =
    let shown = shown_new partners old_answers new_answers old_asked new_asked modules in
    merged partners old_answers new_answers (old_alone partners old_answers new_answers old_asked shown) shown
