-- A command with one more argument or command, from the contract of `clap`.
use Rattle.std.proofs.Common.{◌≡◌, ℕ, ◌+◌, ◌<◌, ◌≤◌, ◌||◌, Bool, false, IfOk, List, Result, Ok, Err, ap₂, refl, ◌∙◌, add-one, drop, drop-cons, get_or, length}
use Rattle.std.specs.declared.alloc.AllocError.{AllocError}
use Rattle.std.proofs.lemmas.List.{drop_all}
use Rattle.clap.specs.Words.{AddsArg, AddsSubcommand, App, Rule, app_of, rule_of, with_rule, with_subcommand}
use Rattle.clap.specs.declared.builder.Arg.{Arg}
use Rattle.clap.specs.declared.builder.Command.{Command}
use Rattle.clap.specs.declared.builder.Command.TheViews.{out-Command}
use Rattle.pam_words.specs.inner.Building.{IsBuilt, app_of_row, rule_of_argument, with_args, with_commands}
use Rattle.pam_words.specs.declared.arguments.Argument.{Argument}
use Rattle.pam_words.specs.declared.commands.CommandRow.{CommandRow}

pub add-app : (old sub new : Command) (a b : App) → AddsSubcommand old sub new → (out-Command sub).has_globals ≡ false → app_of old ≡ a → app_of sub ≡ b
    → app_of new ≡ with_subcommand a b.top
add-app old sub new a b h local e s = h.shape local ∙ ap₂ {A = App} {B = App} {C = App} (λ x y. with_subcommand x y.top) e s

neither : (a b : Bool) → a ≡ false → b ≡ false → (a || b) ≡ false
neither a b e s = rw (e, s) refl

pub add-local : (old sub new : Command) → AddsSubcommand old sub new → (out-Command old).has_globals ≡ false → (out-Command sub).has_globals ≡ false
    → (out-Command new).has_globals ≡ false
add-local old sub new h e s = h.globals ∙ neither _ _ e s

pub built-one : (old sub : Command) (r : Result Command AllocError) (a b : App) → IfOk r (λ new. AddsSubcommand old sub new)
    → app_of old ≡ a → app_of sub ≡ b → (out-Command old).has_globals ≡ false → (out-Command sub).has_globals ≡ false → IsBuilt r (with_subcommand a b.top)
built-one old sub (Ok new) a b h e s old-local sub-local = (add-app old sub new a b h sub-local e s, add-local old sub new h old-local sub-local)
built-one old sub (Err error) a b h e s old-local sub-local = tt

pub add-rule : (old new : Command) (arg : Arg) (a : App) (r : Rule) → AddsArg old arg new → arg.global ≡ false → app_of old ≡ a → rule_of arg ≡ r
    → app_of new ≡ with_rule a r
add-rule old new arg a r h local e s = h.shape local ∙ ap₂ {A = App} {B = Rule} {C = App} with_rule e s

pub add-rule-local : (old new : Command) (arg : Arg) → AddsArg old arg new → arg.global ≡ false → (out-Command old).has_globals ≡ false
    → (out-Command new).has_globals ≡ false
add-rule-local old new arg h local e = h.globals ∙ neither _ _ e local

-- a command with the argument at an index has the others still to come
pub add-arg : {all : App} (args : List Argument) (i : ℕ) (arg : Argument) (old new : App) → i < length args
    → new ≡ with_rule old (rule_of_argument (get_or args i arg)) → with_args old (drop i args) ≡ all → with_args new (drop (i + 1) args) ≡ all
add-arg args i arg old new h e before = rw (e, add-one) (rw (drop-cons args i arg) at before)

-- a command to which no argument is left to add has them all
pub no-arg : {all : App} (args : List Argument) (i : ℕ) (app : App) → length args ≤ i → with_args app (drop i args) ≡ all → app ≡ all
no-arg args i app none same = rw (drop_all i args none) at same

-- a command with the row at an index has the others still to come
pub add-command : {all : App} (rows : List CommandRow) (i : ℕ) (row : CommandRow) (old new : App) → i < length rows
    → new ≡ with_subcommand old (app_of_row (get_or rows i row)).top → with_commands old (drop i rows) ≡ all → with_commands new (drop (i + 1) rows) ≡ all
add-command rows i row old new h e before = rw (e, add-one) (rw (drop-cons rows i row) at before)

-- a command to which no row is left to add has them all
pub no-row : {all : App} (rows : List CommandRow) (i : ℕ) (app : App) → length rows ≤ i → with_commands app (drop i rows) ≡ all → app ≡ all
no-row rows i app none same = rw (drop_all i rows none) at same
