-- The written text of a control (pam.conf(5), "control").
use Rattle.std.specs.Prelude.{ℕ, Bool, List, [], ◌∷◌, ◌++◌, find, codes, if◌then◌else◌, Option, unwrap_or, slice_index_or}
use Rattle.std.specs.Cmp.Lexicographic.{pointwise}
use Rattle.std.specs.List.{concat}
use Rattle.std.specs.Option.{option_map}
use Rattle.pam_codes.specs.declared.action.Action.{Action}
use Rattle.pam_codes.specs.declared.action.Action.TheVariants.{Bad}
use Rattle.pam_codes.specs.Action.{same_action, action_text}
use Rattle.pam_codes.specs.Code.{code_names, conv_again}
use Rattle.pam_codes.specs.Control.{actions_of, keywords}

abbrev pub same_actions : List Action → List Action → Bool
same_actions = pointwise same_action

-- the keyword with these actions, if there is one
abbrev pub keyword_of : List Action → Option (List ℕ)
keyword_of actions = option_map (λ k. k.0) (find (λ k. same_actions (actions_of k.1) actions) keywords)

-- the action to write as `default`: that of the last code, `conv_again`
abbrev pub default_of : List Action → Action
default_of actions = slice_index_or actions conv_again Bad

-- the pair of a code and a space, unless its action is the default
abbrev pub mention : Action → List ℕ → Action → List ℕ
mention default name action =
    if same_action action default then [] else concat (name ∷ codes "=" ∷ action_text action ∷ codes " " ∷ [])

-- the pairs of the codes with these names, in order
abbrev pub mentions : Action → List (List ℕ) → List Action → List ℕ
mentions default (name ∷ names) (action ∷ actions) = mention default name action ++ mentions default names actions
mentions default (name ∷ names) [] = []
mentions default [] actions = []

-- the pairs in brackets
unfoldable pub list_text : List Action → List ℕ
list_text actions =
    codes "[" ++ mentions (default_of actions) code_names actions
    ++ concat (codes "default=" ∷ action_text (default_of actions) ∷ codes "]" ∷ [])

-- the keyword with these actions if there is one, else the pairs in brackets
unfoldable pub control_text : List Action → List ℕ
control_text actions = unwrap_or (keyword_of actions) (list_text actions)
