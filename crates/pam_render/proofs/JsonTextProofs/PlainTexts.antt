-- Controls and cursors stand for themselves in a string.
use Rattle.std.proofs.Common.{◌≡◌, ℕ, Bool, true, false, List, [], ◌∷◌, ◌++◌, codes, decimal, refl, Some}
use Rattle.std.proofs.lemmas.Bool.{and_parts, cond_both}
use Rattle.std.specs.List.{concat, flat_map, list_all}
use Rattle.std.specs.Option.{option_map}
use Rattle.std.specs.Prelude.{find, if◌then◌else◌, unwrap_or}
use Rattle.pam_codes.specs.Action.{action_text, same_action}
use Rattle.pam_codes.specs.Code.{code_names}
use Rattle.pam_codes.specs.Control.{Pairs, actions_of, keywords}
use Rattle.pam_codes.specs.ControlText.{control_text, default_of, list_text, mention, mentions, same_actions}
use Rattle.pam_codes.specs.declared.action.Action.{Action}
use Rattle.pam_codes.specs.declared.action.Action.TheVariants as actions
use Rattle.pam_render.proofs.JsonLinesProofs.Plain.{ArePlain, decimal-plain, is_plain, plain-append}
use Rattle.pam_paths.specs.CursorText.{cursor_text}

-- CURSORS

more-plain : (more : List ℕ) → ArePlain (flat_map (λ code. codes "." ++ decimal code) more)
more-plain [] = refl
more-plain (code ∷ more) =
    plain-append (codes "." ++ decimal code) (flat_map (λ c. codes "." ++ decimal c) more)
    (plain-append (codes ".") (decimal code) refl (decimal-plain code)) (more-plain more)

-- a cursor
pub cursor-plain : (cursor : List ℕ) → ArePlain (cursor_text cursor)
cursor-plain [] = refl
cursor-plain (code ∷ more) = plain-append (decimal code) (flat_map (λ c. codes "." ++ decimal c) more) (decimal-plain code) (more-plain more)

-- CONTROLS

action-plain : (action : Action) → ArePlain (action_text action)
action-plain actions.Ignore = refl
action-plain actions.Ok = refl
action-plain actions.Done = refl
action-plain actions.Bad = refl
action-plain actions.Die = refl
action-plain actions.Reset = refl
action-plain (actions.Jump items) = decimal-plain items

pair-plain : (name : List ℕ) (action : Action) → ArePlain name → ArePlain (concat (name ∷ codes "=" ∷ action_text action ∷ codes " " ∷ []))
pair-plain name action named =
    plain-append name (codes "=" ++ (action_text action ++ codes " ")) named
    (plain-append (codes "=") (action_text action ++ codes " ") refl (plain-append (action_text action) (codes " ") (action-plain action) refl))

mention-plain : (default : Action) (name : List ℕ) (action : Action) → ArePlain name → ArePlain (mention default name action)
mention-plain default name action named =
    elim (same_action action default) as (λ b. ArePlain (if b then [] else concat (name ∷ codes "=" ∷ action_text action ∷ codes " " ∷ []))) [
      | true ↦ refl
      | false ↦ pair-plain name action named
    ]

mentions-plain : (default : Action) (names : List (List ℕ)) (actions : List Action) → list_all (list_all is_plain) names ≡ true
    → ArePlain (mentions default names actions)
mentions-plain default [] actions named = refl
mentions-plain default (name ∷ names) [] named = refl
mentions-plain default (name ∷ names) (action ∷ actions) named =
    let parts = and_parts (list_all is_plain name) (list_all (list_all is_plain) names) named in
    plain-append (mention default name action) (mentions default names actions) (mention-plain default name action parts.0)
    (mentions-plain default names actions parts.1)

names-plain : list_all (list_all is_plain) code_names ≡ true
unfolding code_names
names-plain = refl

list-plain : (actions : List Action) → ArePlain (list_text actions)
unfolding list_text
list-plain actions =
    let default = default_of actions in
    let end = concat (codes "default=" ∷ action_text default ∷ codes "]" ∷ []) in
    plain-append (codes "[" ++ mentions default code_names actions) end
    (plain-append (codes "[") (mentions default code_names actions) refl (mentions-plain default code_names actions names-plain))
    (plain-append (codes "default=") (action_text default ++ codes "]") refl (plain-append (action_text default) (codes "]") (action-plain default) refl))

-- the first of some names that passes a test, or else another text
found-plain : (test : List ℕ × Pairs → Bool) (ks : List (List ℕ × Pairs)) (other : List ℕ) → list_all (λ (k : List ℕ × Pairs). list_all is_plain k.0) ks ≡ true
    → ArePlain other → ArePlain (unwrap_or (option_map (λ (k : List ℕ × Pairs). k.0) (find test ks)) other)
found-plain test [] other named h = h
found-plain test (k ∷ ks) other named h =
    let parts = and_parts (list_all is_plain k.0) (list_all (λ (k : List ℕ × Pairs). list_all is_plain k.0) ks) named in
    cond_both (test k) (Some k) (find test ks) (λ found. ArePlain (unwrap_or (option_map (λ (k : List ℕ × Pairs). k.0) found) other)) (λ _. parts.0)
    (λ _. found-plain test ks other parts.1 h)

keywords-plain : list_all (λ (k : List ℕ × Pairs). list_all is_plain k.0) keywords ≡ true
unfolding keywords
keywords-plain = refl

-- a control
pub control-plain : (control : List Action) → ArePlain (control_text control)
unfolding control_text
control-plain control =
    found-plain (λ k. same_actions (actions_of k.1) control) keywords (list_text control) keywords-plain (list-plain control)
