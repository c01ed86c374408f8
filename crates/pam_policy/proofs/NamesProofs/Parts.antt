-- What is said of one event or call, and of the others.
use Rattle.std.proofs.Common.{◌≡◌, ◌∙◌, ℕ, Bool, true, false, List, [], ◌∷◌, ◌++◌, ap, append-nil, cond, filter, map, refl}
use Rattle.std.proofs.lemmas.Grind.{flat_map-append}
use Rattle.std.proofs.lemmas.List.{map-append}
use Rattle.std.proofs.lemmas.List.Elements.{filter-append}
use Rattle.std.specs.List.{flat_map}
use Rattle.std.specs.Prelude.{not}
use Rattle.pam_policy.specs.names.Host.{CallText, HostText}
use Rattle.pam_policy.specs.names.Misnamed.{is_module, keys_at, no_module, of_arguments, of_modules, of_tests}
use Rattle.pam_policy.specs.names.Placed.{PlacedText, speaks_of}
use Rattle.pam_policy.specs.text.Tests.{argument_key}

pub keys_split : (placed : PlacedText) (call : CallText) (calls : List CallText) →
    keys_at (call ∷ calls) placed ≡ keys_at (call ∷ []) placed ++ keys_at calls placed
unfolding keys_at
keys_split placed call calls =
    let keys : CallText → List (List ℕ) = λ call. map argument_key call.arguments in
    let test : CallText → Bool = λ call. speaks_of placed call.path in
    ap (flat_map keys) (filter-append test (call ∷ []) calls) ∙ flat_map-append keys (filter test (call ∷ [])) (filter test calls)

pub no_keys : (placed : PlacedText) → keys_at [] placed ≡ []
unfolding keys_at
no_keys placed = refl

-- the keys of a call of which the event speaks, and of another one
pub keys_of_call : (placed : PlacedText) (call : CallText) → speaks_of placed call.path ≡ true →
    keys_at (call ∷ []) placed ≡ map argument_key call.arguments
unfolding keys_at
keys_of_call placed call is =
    ap (λ (b : Bool). flat_map (λ (call : CallText). map argument_key call.arguments) (cond b (call ∷ []) [])) is
    ∙ append-nil (map argument_key call.arguments)

pub keys_of_other : (placed : PlacedText) (call : CallText) → speaks_of placed call.path ≡ false → keys_at (call ∷ []) placed ≡ []
unfolding keys_at
keys_of_other placed call is =
    ap (λ (b : Bool). flat_map (λ (call : CallText). map argument_key call.arguments) (cond b (call ∷ []) [])) is

pub modules_split : (host : HostText) (placed : PlacedText) (events : List PlacedText) →
    of_modules host (placed ∷ events) ≡ of_modules host (placed ∷ []) ++ of_modules host events
unfolding of_modules
modules_split host placed events =
    let test : PlacedText → Bool = λ placed. not (is_module host placed) in
    ap (map (no_module host)) (filter-append test (placed ∷ []) events)
    ∙ map-append (no_module host) (filter test (placed ∷ [])) (filter test events)

pub no_modules : (host : HostText) → of_modules host [] ≡ []
unfolding of_modules
no_modules host = refl

pub arguments_split : (host : HostText) (placed : PlacedText) (events : List PlacedText) →
    of_arguments host (placed ∷ events) ≡ of_arguments host (placed ∷ []) ++ of_arguments host events
unfolding of_arguments
arguments_split host placed events =
    flat_map-append (λ (placed : PlacedText). of_tests placed.event.name (keys_at host.calls placed) placed.event.tests) (placed ∷ []) events

pub no_arguments : (host : HostText) → of_arguments host [] ≡ []
unfolding of_arguments
no_arguments host = refl

-- the tests of one event
pub arguments_of_one : (host : HostText) (placed : PlacedText) →
    of_arguments host (placed ∷ []) ≡ of_tests placed.event.name (keys_at host.calls placed) placed.event.tests
unfolding of_arguments
arguments_of_one host placed = append-nil (of_tests placed.event.name (keys_at host.calls placed) placed.event.tests)
