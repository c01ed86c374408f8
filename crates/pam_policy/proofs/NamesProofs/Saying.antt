-- What is said of words, one after another.
use Rattle.std.proofs.Common.{◌≡◌, ◌∙◌, ◌+◌, ◌<◌, ◌≤◌, ℕ, Bool, true, false, List, [], ◌∷◌, ◌++◌, ap, drop, get_or, length, map, refl, sym}
use Rattle.std.proofs.lemmas.List.{at_drop_all, map-append}
use Rattle.std.proofs.lemmas.List.Sums.{fold-append}
use Rattle.std.specs.List.{list_any}
use Rattle.std.specs.Prelude.{fold, if◌then◌else◌}
use Rattle.std.specs.Str.{bytes_eq}
use Rattle.pam_conf.specs.Services.{each_once, with_name}
use Rattle.pam_policy.specs.declared.names.word.Misnamed.{Misnamed}
use Rattle.pam_policy.specs.names.Host.{HostText}
use Rattle.pam_policy.specs.names.Misnamed.{no_service}
use Rattle.pam_policy.specs.names.Words.{MisnamedText, misnamed_view, says_same, saying, with_word}
use Rattle.pam_policy.proofs.NamesProofs.Rests.{any_seen, first_left}

-- whether the same is said already
abbrev pub is_said : Misnamed → List Misnamed → Bool
is_said misnamed said = list_any (λ other. says_same (misnamed_view misnamed) (misnamed_view other)) said

pub word_said : (said : List Misnamed) (misnamed : Misnamed) → is_said misnamed said ≡ true →
    map misnamed_view said ≡ with_word (map misnamed_view said) (misnamed_view misnamed)
word_said said misnamed is =
    let told = map misnamed_view said in
    ap (λ (b : Bool). if b then told else told ++ misnamed_view misnamed ∷ [])
    (sym is ∙ any_seen (says_same (misnamed_view misnamed)) misnamed_view said)

pub word_new : (said new : List Misnamed) (misnamed : Misnamed) → is_said misnamed said ≡ false → new ≡ said ++ misnamed ∷ [] →
    map misnamed_view new ≡ with_word (map misnamed_view said) (misnamed_view misnamed)
word_new said new misnamed is pushed =
    let told = map misnamed_view said in
    ap (map misnamed_view) pushed
    ∙ map-append misnamed_view said (misnamed ∷ [])
    ∙ ap (λ (b : Bool). if b then told else told ++ misnamed_view misnamed ∷ [])
    (sym is ∙ any_seen (says_same (misnamed_view misnamed)) misnamed_view said)

-- what is said of elements, one after another, is what is said of all
pub said_more : {X : Type 0} (of : List X → List MisnamedText) (xs : List X) (i : ℕ) (x : X) (all now new : List MisnamedText) →
    ((y : X) (ys : List X) → of (y ∷ ys) ≡ of (y ∷ []) ++ of ys) → i < length xs → x ≡ get_or xs i x →
    saying now (of (drop i xs)) ≡ all → new ≡ saying now (of (x ∷ [])) → saying new (of (drop (i + 1) xs)) ≡ all
said_more of xs i x all now new splits within is so_far added =
    ap (λ n. saying n (of (drop (i + 1) xs))) added
    ∙ sym (fold-append with_word now (of (x ∷ [])) (of (drop (i + 1) xs)))
    ∙ ap (saying now) (sym (splits x (drop (i + 1) xs)))
    ∙ ap (λ ys. saying now (of ys)) (sym (first_left xs i x within is))
    ∙ so_far

pub said_all : {X : Type 0} (of : List X → List MisnamedText) (xs : List X) (i : ℕ) (all now : List MisnamedText) →
    of [] ≡ [] → length xs ≤ i → saying now (of (drop i xs)) ≡ all → now ≡ all
said_all of xs i all now none past so_far = sym (ap (saying now) (at_drop_all of xs i past ∙ none)) ∙ so_far

-- THE NAMES OF SERVICES THAT ARE NOT THERE, each once

said_if : (host : HostText) (names : List (List ℕ)) (name : List ℕ) (there : Bool) →
    map (no_service host) (if there then names else names ++ name ∷ [])
    ≡ (if there then map (no_service host) names else map (no_service host) names ++ no_service host name ∷ [])
said_if host names name true = refl
said_if host names name false = map-append (no_service host) names (name ∷ [])

name_said : (host : HostText) (names : List (List ℕ)) (name : List ℕ) →
    map (no_service host) (with_name names name) ≡ with_word (map (no_service host) names) (no_service host name)
name_said host names name =
    let told = map (no_service host) names in
    said_if host names name (list_any (bytes_eq name) names)
    ∙ ap (λ (b : Bool). if b then told else told ++ no_service host name ∷ []) (any_seen (says_same (no_service host name)) (no_service host) names)

names_said : (host : HostText) (said names : List (List ℕ)) →
    map (no_service host) (fold with_name said names) ≡ saying (map (no_service host) said) (map (no_service host) names)
names_said host said [] = refl
names_said host said (name ∷ names) =
    names_said host (with_name said name) names
    ∙ ap (λ told. saying told (map (no_service host) names)) (name_said host said name)

pub each_said : (host : HostText) (names : List (List ℕ)) →
    map (no_service host) (each_once names) ≡ saying [] (map (no_service host) names)
each_said host names = names_said host [] names
