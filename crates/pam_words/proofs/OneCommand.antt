-- The command line with one command, for words of which the first is its name.
use Rattle.std.proofs.Common.{◌≡◌, ◌&&◌, Bool, List, [], ◌∷◌, Option, Some, None, true, false, refl, ap, ap₂, sym, subst, ◌∙◌, find, slice_get}
use Rattle.std.specs.Option.{option_map_or}
use Rattle.std.specs.List.{list_all}
use Rattle.std.proofs.lemmas.Slice.Eq.{bytes_eq-Decides}
use Rattle.clap.specs.Words.{App, Shape, Text, app_of, built, fault_of, is_simple, is_simple_and_free, subcommand_of, takes}
use Rattle.clap.specs.Simple.{built_leaf, help_shape, inherited, marked_built, with_leaf_noted}
use Rattle.clap.specs.Takes.{built_takes}
use Rattle.clap.specs.Walk.{nothing_held}
use Rattle.pam_words.specs.Words.{access_app, bare_app, check_app, compare_app, decide_app, explain_app, facts_app, graph_app, outcomes_app, pamcheck_app}
use Rattle.pam_words.specs.Words.{needs_app, paths_app, policy_app, show_app, time_app, version_app}
use Rattle.pam_words.specs.inner.Building.{app_for, app_of_one, is_named}
use Rattle.clap.specs.declared.builder.Command.{Command}
use Rattle.pam_words.proofs.Subcommand.{is_simple-pamcheck, is_simple_and_free-pamcheck}
use Rattle.pam_words.proofs.NamedFirst.{Meets, both-true, entered-met, find-leaf, found-has, found-named, has_no_alias, label-leaf, same-faults, same-taken}

abbrev above : Shape
above = with_leaf_noted (marked_built (record bare_app.top { is_leaf = false }))

-- a command line reads these words as the whole one does
pub record ReadsAlike (a : App) (words : List Text) : Type 0 where
  pub simple : is_simple a ≡ true
  pub free : is_simple_and_free a ≡ true
  pub command : subcommand_of a words ≡ subcommand_of pamcheck_app words
  pub faults : fault_of a words ≡ fault_of pamcheck_app words
  pub taken : takes pamcheck_app words ≡ true → takes a words ≡ true

-- what holds of each command
abbrev is_sound : Shape → Bool
is_sound s = has_no_alias s && (is_simple (app_of_one s) && is_simple_and_free (app_of_one s))

all_sound : list_all is_sound pamcheck_app.subs ≡ true
unfolding pamcheck_app bare_app check_app compare_app policy_app show_app decide_app paths_app outcomes_app graph_app access_app time_app explain_app
    facts_app needs_app version_app
all_sound = refl

no_aliases : list_all has_no_alias pamcheck_app.subs ≡ true
unfolding pamcheck_app bare_app check_app compare_app policy_app show_app decide_app paths_app outcomes_app graph_app access_app time_app explain_app
    facts_app needs_app version_app
no_aliases = refl

alone-all : (has : Shape → Bool) (s : Shape) → has s ≡ true → list_all has (s ∷ []) ≡ true
alone-all has s e = rw (e) refl

module _ (word : Text) (s : Shape) (found : find (is_named word) pamcheck_app.subs ≡ Some s) where
  sound : is_sound s ≡ true
  sound = found-has is_sound word pamcheck_app.subs s all_sound found

  named : (built_leaf (inherited above s)).name ≡ word
  named = ap (λ label. label.0) (label-leaf above s) ∙ (bytes_eq-Decides s.name word).0 (found-named word pamcheck_app.subs s found)

  meets-all : Meets (built pamcheck_app) word (built_leaf (inherited above s))
  unfolding pamcheck_app bare_app check_app compare_app policy_app show_app decide_app paths_app outcomes_app graph_app access_app time_app explain_app
      facts_app needs_app version_app
  meets-all = record { found = find-leaf above word pamcheck_app.subs (help_shape ∷ []) s no_aliases found; name = named }

  no_alias : has_no_alias s ≡ true
  no_alias = (both-true (has_no_alias s) (is_simple (app_of_one s) && is_simple_and_free (app_of_one s)) sound).0

  simple : (is_simple (app_of_one s) ≡ true) × (is_simple_and_free (app_of_one s) ≡ true)
  simple = both-true (is_simple (app_of_one s)) (is_simple_and_free (app_of_one s))
      (both-true (has_no_alias s) (is_simple (app_of_one s) && is_simple_and_free (app_of_one s)) sound).1

  meets-one : Meets (built (app_of_one s)) word (built_leaf (inherited above s))
  unfolding bare_app
  meets-one = record {
    found = find-leaf above word (s ∷ []) (help_shape ∷ []) s (alone-all has_no_alias s no_alias) (rw (found-named word pamcheck_app.subs s found) refl);
    name = named;
  }

  top : (built pamcheck_app).top ≡ (built (app_of_one s)).top
  unfolding pamcheck_app bare_app check_app compare_app policy_app show_app decide_app paths_app outcomes_app graph_app access_app time_app explain_app
      facts_app needs_app version_app
  top = refl

  -- the words after the name of the program
  module _ (program : Text) (rest : List Text) where
    abbrev all : List Text
    all = program ∷ word ∷ rest

    same-command : subcommand_of pamcheck_app all ≡ subcommand_of (app_of_one s) all
    unfolding pamcheck_app bare_app
    same-command = entered-met (built pamcheck_app) word rest _ meets-all ∙ sym (entered-met (built (app_of_one s)) word rest _ meets-one)

    same-fault : fault_of pamcheck_app all ≡ fault_of (app_of_one s) all
    unfolding pamcheck_app bare_app
    same-fault = same-faults (built pamcheck_app) (built (app_of_one s)) word rest _ top meets-all meets-one

    takes-too : takes pamcheck_app all ≡ true → takes (app_of_one s) all ≡ true
    unfolding pamcheck_app bare_app
    takes-too e =
        let taken = same-taken (built pamcheck_app) (built (app_of_one s)) word rest _ top meets-all meets-one in
        let parts = both-true (is_simple pamcheck_app) (built_takes (built pamcheck_app) nothing_held (word ∷ rest)) e in
        ap₂ {A = Bool} {B = Bool} {C = Bool} (λ a b. a && b) simple.0 (sym taken ∙ parts.1)

    one-reads : ReadsAlike (app_of_one s) all
    one-reads = record { simple = simple.0; free = simple.1; command = sym same-command; faults = sym same-fault; taken = takes-too }

whole-reads : (words : List Text) → ReadsAlike pamcheck_app words
whole-reads words = record { simple = is_simple-pamcheck; free = is_simple_and_free-pamcheck; command = refl; faults = refl; taken = λ e. e }

-- the command line for words reads them as the whole one does
any-reads : (words : List Text) → ReadsAlike (app_for (slice_get words 1)) words
any-reads [] = whole-reads []
any-reads (program ∷ []) = whole-reads (program ∷ [])
any-reads (program ∷ word ∷ rest) = by (find (is_named word) pamcheck_app.subs) refl
  where
    by : (o : Option Shape) → find (is_named word) pamcheck_app.subs ≡ o → ReadsAlike (option_map_or app_of_one o pamcheck_app) (program ∷ word ∷ rest)
    by None e = whole-reads (program ∷ word ∷ rest)
    by (Some s) e = one-reads word s e program rest

pub built-reads : (command : Command) (name : Option Text) (words : List Text) → app_of command ≡ app_for name → name ≡ slice_get words 1
    → ReadsAlike (app_of command) words
built-reads command name words built named =
    subst (λ (a : App). ReadsAlike a words) (sym (built ∙ ap app_for named)) (any-reads words)
