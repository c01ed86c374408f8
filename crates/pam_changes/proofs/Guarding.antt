-- The modules of stacks with the same items guard a login alike.
use Rattle.std.proofs.Common.{◌≡◌, ◌∙◌, ℕ, false, List, [], Option, None, ap, refl, sym}
use Rattle.std.specs.Option.{option_map}
use Rattle.pam_compare.proofs.Alike.{Shared, same-at, same-value}
use Rattle.pam_compare.specs.Same.{AreSame}
use Rattle.pam_conf.specs.Stack.{Items, ModuleText, module_at}
use Rattle.pam_conf.specs.declared.rule.Kind.{Kind}
use Rattle.pam_conf.specs.declared.rule.Kind.TheVariants.{Auth, Account, Password, Session}
use Rattle.pam_facts.specs.Rows.{Row}
use Rattle.pam_changes.specs.Guards.{guard_there, guarding, numbered}
use Rattle.pam_changes.specs.Sides.{SideText, SidesText}
use Rattle.pam_changes.specs.declared.guards.Guard.{Guard}
use Rattle.pam_changes.specs.declared.guards.GuardingModule.{GuardingModule}

-- how a module with this path and these arguments guards a login
abbrev guard_with : List Row → SideText → Kind → List ℕ → List (List ℕ) → Option Guard
guard_with facts side kind path texts =
    guard_there facts side kind (record { number = 1; dashed = false; control = []; path = path; arguments = texts; file = 0; line = 0 })

by-texts : (facts : List Row) (side : SideText) (kind : Kind) (m : ModuleText) →
    guard_there facts side kind m ≡ guard_with facts side kind m.path m.arguments
by-texts facts side Auth m = refl
by-texts facts side Account m = refl
by-texts facts side Password m = refl
by-texts facts side Session m = refl

guards-alike : (facts : List Row) (side : SideText) (kind : Kind) (m n : ModuleText) → Shared m n →
    guard_there facts side kind m ≡ guard_there facts side kind n
guards-alike facts side kind m n is =
    by-texts facts side kind m
    ∙ ap (λ (p : List ℕ). guard_with facts side kind p m.arguments) is.path
    ∙ ap (λ (texts : List (List ℕ)). guard_with facts side kind n.path texts) is.arguments
    ∙ sym (by-texts facts side kind n)

pub guarding-alike : (sides : SidesText) (side : SideText) (kind : Kind) (one other : Items) → AreSame one other → (number : ℕ) →
    guarding sides.facts side kind one number ≡ guarding sides.facts side kind other number
guarding-alike sides side kind one other t number =
    let told : ModuleText → Option GuardingModule = λ m. option_map (numbered number) (guard_there sides.facts side kind m) in
    same-value told None (λ m n is. ap (option_map (numbered number)) (guards-alike sides.facts side kind m n is))
    (module_at number one) (module_at number other) (same-at number one other t)
