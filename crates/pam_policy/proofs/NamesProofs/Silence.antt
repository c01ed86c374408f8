-- What it means that nothing is said of a rule.
use Rattle.std.proofs.Common.{◌≡◌, ◌∙◌, ℕ, Bool, true, false, List, [], ◌∷◌, ◌++◌, Option, Some, None, ap, cond, filter, inl, inr, map, refl, sym}
use Rattle.std.specs.List.{cons_option, filter_map, flat_map, list_any}
use Rattle.std.specs.Prelude.{not, if◌then◌else◌}
use Rattle.pam_text.specs.Members.{Member}
use Rattle.pam_policy.specs.names.Host.{HostText}
use Rattle.pam_policy.specs.names.Laws.{IsThere, SilenceIsTrue}
use Rattle.pam_policy.specs.names.Misnamed.{is_module, is_no_service, keys_at, misnamed, no_argument, no_module, no_service}
use Rattle.pam_policy.specs.names.Misnamed.{of_arguments, of_modules, of_services, of_tests, or_fits_none}
use Rattle.pam_policy.specs.names.Placed.{PlacedText, placed_events}
use Rattle.pam_policy.specs.names.Words.{MisnamedText, FitsNone, says_same, saying}
use Rattle.pam_policy.specs.text.Rules.{RuleText}
use Rattle.pam_policy.specs.text.Services.{ServicesText, fits}
use Rattle.pam_policy.specs.text.Tests.{TestText, key_of}

-- ---- lists without elements

pub both_empty : {X : Type 0} (xs ys : List X) → xs ++ ys ≡ [] → (xs ≡ []) × (ys ≡ [])
both_empty [] ys h = (refl, h)
both_empty (x ∷ xs) ys h = absurd cc

module _ {X Y : Type 0} (f : X → Y) (p : X → Bool) where
  kept_step : (x : X) (xs : List X) (b : Bool) → p x ≡ b → map f (cond b (x ∷ filter p xs) (filter p xs)) ≡ [] →
      (p x ≡ false) × (map f (filter p xs) ≡ [])
  kept_step x xs true is none = absurd cc
  kept_step x xs false is none = (is, none)

  none_kept : (xs : List X) → map f (filter p xs) ≡ [] → (x : X) → Member x xs → p x ≡ false
  unfolding Member
  none_kept [] none x h = absurd h
  none_kept (y ∷ xs) none x (inl e) = ap p e ∙ (kept_step y xs (p y) refl none).0
  none_kept (y ∷ xs) none x (inr h) = none_kept xs (kept_step y xs (p y) refl none).1 x h

  all_left_out : (xs : List X) → ((x : X) → Member x xs → p x ≡ false) → map f (filter p xs) ≡ []
  unfolding Member
  all_left_out [] none = refl
  all_left_out (x ∷ xs) none =
      ap (λ (b : Bool). map f (cond b (x ∷ filter p xs) (filter p xs))) (none x (inl refl)) ∙ all_left_out xs (λ y h. none y (inr h))

module _ {X Y : Type 0} (f : X → List Y) where
  none_made : (xs : List X) → flat_map f xs ≡ [] → (x : X) → Member x xs → f x ≡ []
  unfolding Member
  none_made [] none x h = absurd h
  none_made (y ∷ xs) none x (inl e) = ap f e ∙ (both_empty (f y) (flat_map f xs) none).0
  none_made (y ∷ xs) none x (inr h) = none_made xs (both_empty (f y) (flat_map f xs) none).1 x h

  makes_none : (xs : List X) → ((x : X) → Member x xs → f x ≡ []) → flat_map f xs ≡ []
  unfolding Member
  makes_none [] none = refl
  makes_none (x ∷ xs) none = ap (λ ys. ys ++ flat_map f xs) (none x (inl refl)) ∙ makes_none xs (λ y h. none y (inr h))

module _ {X Y : Type 0} (f : X → Option Y) where
  seen_step : (o : Option Y) (ys : List Y) → cons_option o ys ≡ [] → (o ≡ None) × (ys ≡ [])
  seen_step None ys h = (refl, h)
  seen_step (Some y) ys h = absurd cc

  pub none_seen : (xs : List X) → filter_map f xs ≡ [] → (x : X) → Member x xs → f x ≡ None
  unfolding Member
  none_seen [] none x h = absurd h
  none_seen (y ∷ xs) none x (inl e) = ap f e ∙ (seen_step (f y) (filter_map f xs) none).0
  none_seen (y ∷ xs) none x (inr h) = none_seen xs (seen_step (f y) (filter_map f xs) none).1 x h

  sees_none : (xs : List X) → ((x : X) → Member x xs → f x ≡ None) → filter_map f xs ≡ []
  unfolding Member
  sees_none [] none = refl
  sees_none (x ∷ xs) none = ap (λ o. cons_option o (filter_map f xs)) (none x (inl refl)) ∙ sees_none xs (λ y h. none y (inr h))

-- ---- what is said once

-- what is said stays said
said_step : (said : MisnamedText) (more : List MisnamedText) (misnamed : MisnamedText) (b : Bool) →
    (rest : List MisnamedText) × ((if b then said ∷ more else (said ∷ more) ++ misnamed ∷ []) ≡ said ∷ rest)
said_step said more misnamed true = (more, refl)
said_step said more misnamed false = (more ++ misnamed ∷ [], refl)

stays_said : (said : MisnamedText) (more others : List MisnamedText) → saying (said ∷ more) others ≡ [] → ⊥
stays_said said more [] h = absurd cc
stays_said said more (misnamed ∷ others) h =
    let step = said_step said more misnamed (list_any (says_same misnamed) (said ∷ more)) in
    stays_said said step.0 others (sym (ap (λ all. saying all others) step.1) ∙ h)

nothing_said : (said more : List MisnamedText) → saying said more ≡ [] → (said ≡ []) × (more ≡ [])
nothing_said (first ∷ said) more h = absurd (stays_said first said more h)
nothing_said [] [] h = (refl, refl)
nothing_said [] (misnamed ∷ more) h = absurd (stays_said misnamed [] more h)

-- ---- services

module _ (host : HostText) (services : ServicesText) where
  fits_step : (b : Bool) → (if b then [] else FitsNone ∷ []) ≡ [] → b ≡ true
  fits_step true h = refl
  fits_step false h = absurd cc

  no_names_wrong : (wrong : List MisnamedText) → or_fits_none host services wrong ≡ [] → (wrong ≡ []) × (list_any (fits services) host.services ≡ true)
  no_names_wrong [] h = (refl, fits_step (list_any (fits services) host.services) h)
  no_names_wrong (misnamed ∷ wrong) h = absurd cc

  services_there : of_services host services ≡ [] →
      ((name : List ℕ) → Member name services.wanted → is_no_service host name ≡ false) × (list_any (fits services) host.services ≡ true)
  unfolding of_services
  services_there h =
      let names = no_names_wrong (saying [] (map (no_service host) (filter (is_no_service host) services.wanted))) h in (
        none_kept (no_service host) (is_no_service host) services.wanted
            (nothing_said [] (map (no_service host) (filter (is_no_service host) services.wanted)) names.0).1,
        names.1,
      )

  all_services : ((name : List ℕ) → Member name services.wanted → is_no_service host name ≡ false) →
      list_any (fits services) host.services ≡ true → of_services host services ≡ []
  unfolding of_services
  all_services names fits_one =
      ap (λ wrong. or_fits_none host services (saying [] wrong)) (all_left_out (no_service host) (is_no_service host) services.wanted names)
      ∙ ap (λ (b : Bool). if b then [] else FitsNone ∷ []) fits_one

-- ---- modules and arguments

module _ (host : HostText) (events : List PlacedText) where
  test_turned : (b : Bool) → not b ≡ false → b ≡ true
  test_turned true h = refl
  test_turned false h = absurd cc

  modules_there : of_modules host events ≡ [] → (placed : PlacedText) → Member placed events → is_module host placed ≡ true
  unfolding of_modules
  modules_there h placed member =
      test_turned (is_module host placed) (none_kept (no_module host) (λ placed. not (is_module host placed)) events h placed member)

  all_modules : ((placed : PlacedText) → Member placed events → is_module host placed ≡ true) → of_modules host events ≡ []
  unfolding of_modules
  all_modules there =
      all_left_out (no_module host) (λ placed. not (is_module host placed)) events (λ placed member. ap not (there placed member))

  abbrev tests_of : PlacedText → List MisnamedText
  tests_of placed = of_tests placed.event.name (keys_at host.calls placed) placed.event.tests

  abbrev test_of : PlacedText → TestText → Option MisnamedText
  test_of placed test = no_argument placed.event.name (keys_at host.calls placed) (key_of test.wanted)

  arguments_there : of_arguments host events ≡ [] → (placed : PlacedText) (test : TestText) → Member placed events →
      Member test placed.event.tests → test_of placed test ≡ None
  unfolding of_arguments
  arguments_there h placed test of_event of_test =
      none_seen (test_of placed) placed.event.tests (none_made tests_of events h placed of_event) test of_test

  all_arguments : ((placed : PlacedText) (test : TestText) → Member placed events → Member test placed.event.tests → test_of placed test ≡ None) →
      of_arguments host events ≡ []
  unfolding of_arguments
  all_arguments there =
      makes_none tests_of events (λ placed of_event. sees_none (test_of placed) placed.event.tests (λ test of_test. there placed test of_event of_test))

-- ---- rules

module _ (host : HostText) (rule : RuleText) where
  silent : misnamed host rule ≡ [] → IsThere host rule
  unfolding misnamed
  silent h =
      let events = placed_events rule.sentence in
      let all = nothing_said (saying (of_services host rule.services) (of_modules host events)) (of_arguments host events) h in
      let first = nothing_said (of_services host rule.services) (of_modules host events) all.0 in
      let services = services_there host rule.services first.0 in
      record {
        services = services.0;
        fits_one = services.1;
        modules = modules_there host events first.1;
        arguments = arguments_there host events all.1;
      }

  there : IsThere host rule → misnamed host rule ≡ []
  unfolding misnamed
  there is =
      let events = placed_events rule.sentence in
      ap (λ said. saying (saying said (of_modules host events)) (of_arguments host events)) (all_services host rule.services is.services is.fits_one)
      ∙ ap (λ said. saying (saying [] said) (of_arguments host events)) (all_modules host events is.modules)
      ∙ ap (saying []) (all_arguments host events is.arguments)

pub silence : SilenceIsTrue
silence host rule = (silent host rule, there host rule)
