-- How the modules of two stacks differ.
use Rattle.std.specs.Prelude.{◌≡◌, ℕ, ◌&&◌, Bool, not, nat_lt, if◌then◌else◌, is_none, List, filter, filter_map, length, map, Option}
use Rattle.std.specs.List.{list_any, range_with_len}
use Rattle.std.specs.Option.{option_map}
use Rattle.pam_codes.specs.ControlText.{same_actions}
use Rattle.pam_compare.specs.Matching.{is_taken, partner_of, pass, same_texts}
use Rattle.pam_conf.specs.Stack.{Items, ModuleText, module_at, module_count}
use Rattle.pam_changes.specs.declared.modules.MatchedPair.{MatchedPair}
use Rattle.pam_changes.specs.declared.modules.ModuleChanges.{ModuleChanges}

abbrev pub numbers_in : Items → List ℕ
numbers_in items = range_with_len 1 (module_count items)

-- the modules of the old stack, and those of the new one, that are not matched
abbrev pub removed : List (Option ℕ) → Items → List ℕ
removed partners old = filter (λ number. not (is_taken partners number)) (numbers_in old)

abbrev pub added : List (Option ℕ) → Items → List ℕ
added partners new = filter (λ number. is_none (partner_of partners number)) (numbers_in new)

-- a module of the new stack with its partner
abbrev pub pair_of : List (Option ℕ) → ℕ → Option MatchedPair
pair_of partners number = option_map (λ partner. record { old = partner; new = number }) (partner_of partners number)

-- all matched modules, in the order of the new stack
unfoldable pub pairs_of : List (Option ℕ) → Items → List MatchedPair
pairs_of partners new = filter_map (pair_of partners) (numbers_in new)

-- a module now comes after one that it came before
abbrev pub comes_later : List MatchedPair → MatchedPair → Bool
comes_later pairs pair = list_any (λ other. nat_lt other.new pair.new && nat_lt pair.old other.old) pairs

-- a module now comes before one that it came after
abbrev pub comes_sooner : List MatchedPair → MatchedPair → Bool
comes_sooner pairs pair = list_any (λ other. nat_lt pair.new other.new && nat_lt other.old pair.old) pairs

abbrev pub shorter : List ℕ → List ℕ → List ℕ
shorter one other = if nat_lt (length other) (length one) then other else one

-- the modules whose pairs pass a test, in the order of these, by their numbers in the old stack
abbrev pub old_where : (MatchedPair → Bool) → List MatchedPair → List ℕ
old_where test pairs = map (λ pair. pair.old) (filter test pairs)

-- THE MODULES THAT MOVED: those that come later than they did, or, if these are fewer, those that come sooner
abbrev pub moved : List MatchedPair → List ℕ
moved pairs = shorter (old_where (comes_later pairs) pairs) (old_where (comes_sooner pairs) pairs)

-- two matched modules are there, and differ by a test
abbrev pub differ : (ModuleText → ModuleText → Bool) → Items → Items → MatchedPair → Bool
differ test old new pair = pass (λ one other. not (test one other)) (module_at pair.old old) (module_at pair.new new)

abbrev pub same_arguments : ModuleText → ModuleText → Bool
same_arguments one other = same_texts one.arguments other.arguments

abbrev pub same_controls : ModuleText → ModuleText → Bool
same_controls one other = same_actions one.control other.control

-- HOW THE MODULES OF TWO STACKS DIFFER
pub record AreModuleChanges (partners : List (Option ℕ)) (old new : Items) (changes : ModuleChanges) : Type 0 where
  pub removed : changes.removed.items ≡ removed partners old
  pub added : changes.added.items ≡ added partners new
  pub moved : changes.moved.items ≡ moved (pairs_of partners new)
  pub arguments : changes.arguments.items ≡ filter (differ same_arguments old new) (pairs_of partners new)
  pub controls : changes.controls.items ≡ old_where (differ same_controls old new) (pairs_of partners new)
