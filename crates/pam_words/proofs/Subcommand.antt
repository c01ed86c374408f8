-- The command of the words, from its name and its rows.
use Rattle.std.proofs.Common.{◌≡◌, ◌&&◌, not, Bool, List, [], ◌∷◌, Option, Some, None, true, false, refl, ap, ap₂, sym, option_map, is_some}
use Rattle.clap.specs.Words.{App, Row, Shape, Text, built, fault_of, is_simple, is_simple_and_free, subcommand_of, subcommand_rows_of, subcommand_name_of}
use Rattle.std.specs.List.{list_any}
use Rattle.clap.specs.Facts.{explicit_source}
use Rattle.clap.specs.Takes.{is_given}
use Rattle.clap.specs.Kinds.{Kinds, or_else, check_kinds}
use Rattle.clap.specs.Faults.{check_fault, defaults_fault, level_fault, settle_fault, walk_fault}
use Rattle.clap.specs.Simple.{argument_words, names_of}
use Rattle.clap.specs.Walk.{Held, Names, finished, nothing_held, settled, walk, walk_from}
use Rattle.clap.specs.declared.ArgMatches.{ArgMatches}
use Rattle.clap.specs.declared.ArgMatches.TheViews.{out-ArgMatches}
use Rattle.pam_words.specs.Words.{access_app, bare_app, check_app, compare_app, decide_app, explain_app, facts_app, graph_app, outcomes_app, pamcheck_app}
use Rattle.pam_words.specs.Words.{needs_app, paths_app, policy_app, show_app, time_app, version_app}

pub is_simple-pamcheck : is_simple pamcheck_app ≡ true
unfolding pamcheck_app bare_app check_app compare_app policy_app show_app decide_app paths_app outcomes_app graph_app access_app time_app explain_app
    facts_app needs_app version_app
is_simple-pamcheck = refl

pub is_simple_and_free-pamcheck : is_simple_and_free pamcheck_app ≡ true
unfolding pamcheck_app bare_app check_app compare_app policy_app show_app decide_app paths_app outcomes_app graph_app access_app time_app explain_app
    facts_app needs_app version_app
is_simple_and_free-pamcheck = refl

abbrev pub pairs : {B X Y : Type 0} → (B → X) → (B → Y) → Option B → Option (X × Y)
pairs {B} {X} {Y} f g o = option_map {T = B} {U = X × Y} (λ b. (f b, g b)) o

pub pairs-names : {B X Y : Type 0} (f : B → X) (g : B → Y) (o : Option B)
    → option_map {T = B} {U = X} f o ≡ option_map {T = X × Y} {U = X} (λ p. p.0) (pairs f g o)
pairs-names f g None = refl
pairs-names f g (Some b) = refl

abbrev pub name_in : Option (Text × List Row) → Option Text
name_in o = option_map {T = Text × List Row} {U = Text} (λ p. p.0) o

abbrev pub rows_in : Option (Text × List Row) → Option (List Row)
rows_in o = option_map {T = Text × List Row} {U = List Row} (λ p. p.1) o

pub name-is : (m : ArgMatches) → subcommand_name_of m ≡ name_in (subcommand_rows_of m)
name-is m = pairs-names _ _ (out-ArgMatches m).subcommand

-- a pair from its parts
pub both-are : (o : Option (Text × List Row)) (name : Text) (rows : List Row) → Some name ≡ name_in o → Some rows ≡ rows_in o → o ≡ Some (name, rows)
both-are None name rows e h = cc
both-are (Some p) name rows e h =
    let n : name ≡ p.0 = cc in
    let r : rows ≡ p.1 = cc in
    ap₂ {A = Text} {B = List Row} {C = Option (Text × List Row)} (λ v w. Some (v, w)) (sym n) (sym r)

pub none-is : (o : Option (Text × List Row)) → None ≡ name_in o → o ≡ None
none-is None e = refl
none-is (Some p) e = cc

or_else-last : (a b : Kinds) → or_else a b ≡ [] → b ≡ []
or_else-last [] b e = e
or_else-last (k ∷ ks) b e = cc

check_kinds-wanted : (help wanted argument : Bool) → wanted ≡ true → check_kinds help wanted argument ≡ [] → ⊥
check_kinds-wanted true wanted argument w e = cc
check_kinds-wanted false true argument w e = cc
check_kinds-wanted false false argument w e = cc

check_fault-wanted : (s : Shape) (rows : List Row) (has : Bool) → s.subcommand_required ≡ true → has ≡ false → check_fault s rows has ≡ [] → ⊥
check_fault-wanted s rows has required none e =
    check_kinds-wanted (not has && (s.arg_required_else_help && not (list_any (λ r. explicit_source r.source) rows))) (not has && s.subcommand_required)
    (not (s.subcommand_negates_reqs && has) && list_any (λ a. a.required && not (is_given a.id rows)) s.rules) (rw (none, required) refl) e

level_fault-wanted : (s : Shape) (names : Names) (h : Held) (words : List Text) (has : Bool) (below : Kinds) → s.subcommand_required ≡ true → has ≡ false
    → level_fault s names h words has below ≡ [] → ⊥
level_fault-wanted s names h words has below required none e =
    let end = (walk s.rules names h words).held in
    let check = check_fault s (finished s.rules end) has in
    let defaults = defaults_fault (settled s.rules end).rows s.rules in
    let settle = settle_fault s.rules s.args_override_self end in
    let after-walk = or_else-last (walk_fault s names (walk_from h) words) (or_else below (or_else settle (or_else defaults check))) e in
    let after-below = or_else-last below (or_else settle (or_else defaults check)) after-walk in
    let after-settle = or_else-last settle (or_else defaults check) after-below in
    check_fault-wanted s (finished s.rules end) has required none (or_else-last defaults check after-settle)

fault_of-wanted : (a : App) (words : List Text) → (built a).top.subcommand_required ≡ true → subcommand_of a words ≡ None → fault_of a words ≡ [] → ⊥
fault_of-wanted a words required none e =
    level_fault-wanted (built a).top (names_of (built a)) nothing_held (argument_words a words) _ _ required (ap is_some none) e

wants_command : (built pamcheck_app).top.subcommand_required ≡ true
unfolding pamcheck_app bare_app check_app compare_app policy_app show_app decide_app paths_app outcomes_app graph_app access_app time_app explain_app
    facts_app needs_app version_app
wants_command = refl

-- words that name no command are refused
pub no_command : (words : List Text) → subcommand_of pamcheck_app words ≡ None → fault_of pamcheck_app words ≡ [] → ⊥
no_command words = fault_of-wanted pamcheck_app words wants_command
