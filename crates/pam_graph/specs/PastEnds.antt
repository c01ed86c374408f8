-- The answers that jump past the end of their list: pam.conf(5), DESCRIPTION, the actions of a control.
use Rattle.std.specs.Prelude.{ℕ, nat_lt, Bool, false, ◌&&◌, List, [], ◌∷◌, ◌++◌}
use Rattle.pam_codes.specs.declared.action.Action.{Action}
use Rattle.pam_codes.specs.declared.action.Action.TheVariants.{Ignore, Ok, Done, Bad, Die, Reset, Jump}
use Rattle.pam_codes.specs.Set.{codes_where, is_in}
use Rattle.pam_conf.specs.Stack.{Items, End, ThenModule, ThenSub}
use Rattle.pam_dispatch.specs.State.{action_of}
use Rattle.pam_dispatch.specs.Tree.{count}
use Rattle.pam_paths.specs.Listing.{Allowance}

-- an action jumps past the end of its list, which has this number of items after the module
abbrev pub is_past_end : ℕ → Action → Bool
is_past_end after (Jump items) = nat_lt after items
is_past_end after Ignore = false
is_past_end after Ok = false
is_past_end after Done = false
is_past_end after Bad = false
is_past_end after Die = false
is_past_end after Reset = false

-- THE ALLOWED CODES by which each module of a stack jumps past the end of its list, in the order of the modules' numbers
unfoldable pub past_ends : Allowance → Items → List (List ℕ)
past_ends allows End = []
past_ends allows (ThenModule m rest) =
    codes_where (λ code. is_in code (codes_where (allows m.number)) && is_past_end (count rest) (action_of m.control code)) ∷ past_ends allows rest
past_ends allows (ThenSub sub inner rest) = past_ends allows inner ++ past_ends allows rest
