-- The pairs of a control, code by code.
use Rattle.std.proofs.Common.{◌≡◌, ◌<◌, ◌≤◌, ◌+◌, ◌∙◌, ℕ, List, [], ◌∷◌, ◌++◌, length, take, drop, get_or, slice_get, Some, codes, ap, sym, refl}
use Rattle.std.proofs.Common.{arith, append_assoc, append-nil, length-take}
use Rattle.std.proofs.lemmas.List.{take-append-drop, take_more, take_all}
use Rattle.std.proofs.lemmas.Option.{get_or_from_slice_get}
use Rattle.std.specs.List.{concat}
use Rattle.pam_codes.specs.Action.{action_text}
use Rattle.pam_codes.specs.Code.{code_names}
use Rattle.pam_codes.specs.declared.action.Action.{Action}
use Rattle.pam_codes.specs.ControlText.{default_of, list_text, mention, mentions}

mentions-append : (default : Action) (ms ns : List (List ℕ)) (xs ys : List Action) → length ms ≡ length xs
    → mentions default (ms ++ ns) (xs ++ ys) ≡ mentions default ms xs ++ mentions default ns ys
mentions-append default [] ns [] ys h = refl
mentions-append default [] ns (a ∷ xs) ys h = absurd (omega arith)
mentions-append default (m ∷ ms) ns [] ys h = absurd (omega arith)
mentions-append default (m ∷ ms) ns (a ∷ xs) ys h =
    ap (λ (text : List ℕ). mention default m a ++ text) (mentions-append default ms ns xs ys (omega arith))
    ∙ sym (append_assoc (mention default m a) (mentions default ms xs) (mentions default ns ys))

-- one more code
pub mentions-take : (default : Action) (names : List (List ℕ)) (actions : List Action) (i : ℕ) (d : Action) → i < length names → i < length actions
    → mentions default (take (i + 1) names) (take (i + 1) actions)
    ≡ mentions default (take i names) (take i actions) ++ mention default (get_or names i []) (get_or actions i d)
mentions-take default names actions i d h k =
    ap (λ (ns : List (List ℕ)). mentions default ns (take (i + 1) actions)) (take_more names i [] h)
    ∙ ap (λ (xs : List Action). mentions default (take i names ++ get_or names i [] ∷ []) xs) (take_more actions i d k)
    ∙ mentions-append default (take i names) (get_or names i [] ∷ []) (take i actions) (get_or actions i d ∷ [])
    (omega (arith, length-take i names, length-take i actions))
    ∙ ap (λ (text : List ℕ). mentions default (take i names) (take i actions) ++ text) (append-nil (mention default (get_or names i []) (get_or actions i d)))

-- the codes before the i-th, that code and the others
pub mentions-at : (default : Action) (names : List (List ℕ)) (actions : List Action) (i : ℕ) (d : Action) → i < length names → i < length actions
    → (mentions default (take i names) (take i actions) ++ mention default (get_or names i []) (get_or actions i d)) ++ mentions default
    (drop (i + 1) names) (drop (i + 1) actions)
    ≡ mentions default names actions
mentions-at default names actions i d h k =
    ap (λ (text : List ℕ). text ++ mentions default (drop (i + 1) names) (drop (i + 1) actions)) (sym (mentions-take default names actions i d h k))
    ∙ sym (mentions-append default (take (i + 1) names) (drop (i + 1) names) (take (i + 1) actions) (drop (i + 1) actions)
    (omega (arith, length-take (i + 1) names, length-take (i + 1) actions)))
    ∙ ap (λ (ns : List (List ℕ)). mentions default ns (take (i + 1) actions ++ drop (i + 1) actions)) (take-append-drop (i + 1) names)
    ∙ ap (mentions default names) (take-append-drop (i + 1) actions)

-- all codes
pub mentions-all : (default : Action) (names : List (List ℕ)) (actions : List Action) (i : ℕ) → length names ≤ i → length actions ≤ i
    → mentions default (take i names) (take i actions) ≡ mentions default names actions
mentions-all default names actions i h k = rw (take_all i names h, take_all i actions k) refl

mention_is : (default : Action) (names : List (List ℕ)) (actions : List Action) (i code : ℕ) (action : Action) → code ≡ i
    → slice_get actions code ≡ Some action
    → mention default (get_or names code []) action ≡ mention default (get_or names i []) (get_or actions i action)
mention_is default names actions i code action e h =
    ap (λ (a : Action). mention default (get_or names code []) a) (sym (get_or_from_slice_get actions code action action h))
    ∙ ap (λ (k : ℕ). mention default (get_or names k []) (get_or actions k action)) e

-- one more code, by its number and its action
pub mentions-next : (default : Action) (names : List (List ℕ)) (actions : List Action) (i code : ℕ) (action : Action) → i < length names
    → i < length actions → code ≡ i → slice_get actions code ≡ Some action
    → mentions default (take i names) (take i actions) ++ mention default (get_or names code []) action
    ≡ mentions default (take (i + 1) names) (take (i + 1) actions)
mentions-next default names actions i code action h k e f =
    ap (λ (text : List ℕ). mentions default (take i names) (take i actions) ++ text) (mention_is default names actions i code action e f)
    ∙ sym (mentions-take default names actions i action h k)

pub mentions-failed : (default : Action) (names : List (List ℕ)) (actions : List Action) (i code : ℕ) (action : Action) → i < length names
    → i < length actions → code ≡ i → slice_get actions code ≡ Some action
    → (mentions default (take i names) (take i actions) ++ mention default (get_or names code []) action) ++ mentions default (drop (i + 1) names)
    (drop (i + 1) actions)
    ≡ mentions default names actions
mentions-failed default names actions i code action h k e f =
    ap (λ (text : List ℕ). (mentions default (take i names) (take i actions) ++ text) ++ mentions default (drop (i + 1) names) (drop (i + 1) actions))
    (mention_is default names actions i code action e f)
    ∙ mentions-at default names actions i action h k

-- the text after the pairs of codes
abbrev pub end_text : Action → List ℕ
end_text default = concat (codes "default=" ∷ action_text default ∷ codes "]" ∷ [])

-- the text between brackets, by its parts
pub list_text-parts : (default : Action) (actions : List Action) → default ≡ default_of actions
    → (codes "[" ++ mentions default code_names actions) ++ end_text default ≡ list_text actions
unfolding list_text
list_text-parts default actions e = ap (λ (d : Action). (codes "[" ++ mentions d code_names actions) ++ end_text d) e
