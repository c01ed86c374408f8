-- For private contracts and proofs alone: a stack encoded as tokens, so that different stacks have different codes: pam.conf(5).
use Rattle.std.specs.Prelude.{◌≡◌, ℕ, Bool, List, [], ◌∷◌, ◌++◌, Option, Some, None, ◌⊎◌, refl}
use Rattle.std.specs.Coded.{Coded, code_by, coded×, coded⊎, coded_ℕ, coded_bool, coded_list, coded_option}
use Rattle.std.proofs.Common.{inl, inr, ap, ◌∙◌, append_assoc, append-nil, sym}
use Rattle.pam_codes.specs.declared.action.Action.{Action}
use Rattle.pam_codes.specs.declared.action.Action.TheVariants.{Ignore, Ok as Accept, Done, Bad, Die, Reset, Jump}
use Rattle.pam_conf.specs.Stack.{ModuleText, SubText, Items, End, ThenModule, ThenSub, SubList}

abbrev pub Layers : Type 0
Layers = Option (Option (Option (Option (Option (Option ℕ)))))

abbrev pub action_layers : Action → Layers
action_layers Ignore = None
action_layers Accept = Some None
action_layers Done = Some (Some None)
action_layers Bad = Some (Some (Some None))
action_layers Die = Some (Some (Some (Some None)))
action_layers Reset = Some (Some (Some (Some (Some None))))
action_layers (Jump n) = Some (Some (Some (Some (Some (Some n)))))

abbrev pub layers_action : Layers → Action
layers_action None = Ignore
layers_action (Some None) = Accept
layers_action (Some (Some None)) = Done
layers_action (Some (Some (Some None))) = Bad
layers_action (Some (Some (Some (Some None)))) = Die
layers_action (Some (Some (Some (Some (Some None))))) = Reset
layers_action (Some (Some (Some (Some (Some (Some n)))))) = Jump n

pub layers_action-action_layers : (a : Action) → layers_action (action_layers a) ≡ a
layers_action-action_layers Ignore = refl
layers_action-action_layers Accept = refl
layers_action-action_layers Done = refl
layers_action-action_layers Bad = refl
layers_action-action_layers Die = refl
layers_action-action_layers Reset = refl
layers_action-action_layers (Jump n) = refl

abbrev pub action_code : Coded Action
action_code =
    code_by Layers (coded_option (coded_option (coded_option (coded_option (coded_option (coded_option coded_ℕ))))))
    action_layers layers_action layers_action-action_layers

abbrev pub module_code : Coded ModuleText
module_code =
    code_by ((ℕ × Bool) × ((List Action × List ℕ) × (List (List ℕ) × (ℕ × ℕ))))
    (coded× (coded× coded_ℕ coded_bool) (coded× (coded× (coded_list action_code) (coded_list coded_ℕ))
    (coded× (coded_list (coded_list coded_ℕ)) (coded× coded_ℕ coded_ℕ))))
    (λ m. ((m.number, m.dashed), ((m.control, m.path), (m.arguments, (m.file, m.line)))))
    (λ p. record { number = p.0.0; dashed = p.0.1; control = p.1.0.0; path = p.1.0.1; arguments = p.1.1.0; file = p.1.1.1.0; line = p.1.1.1.1 })
    (λ _. refl)

abbrev pub sub_text_code : Coded SubText
sub_text_code =
    code_by (ℕ × (ℕ × ℕ)) (coded× coded_ℕ (coded× coded_ℕ coded_ℕ)) (λ s. (s.file, (s.line, s.target)))
    (λ p. record { file = p.0; line = p.1.0; target = p.1.1 }) (λ _. refl)

-- the end of a list, or the head of an item
abbrev pub Token : Type 0
Token = Option (ModuleText ⊎ SubText)

abbrev pub tokens : Items → List Token
tokens End = None ∷ []
tokens (ThenModule m rest) = Some (inl m) ∷ tokens rest
tokens (ThenSub s inner rest) = Some (inr s) ∷ (tokens inner ++ tokens rest)

abbrev pub onto_module : ModuleText → List Items → List Items
onto_module m [] = []
onto_module m (rest ∷ others) = ThenModule m rest ∷ others

abbrev pub onto_sub : SubText → List Items → List Items
onto_sub s [] = []
onto_sub s (inner ∷ []) = []
onto_sub s (inner ∷ rest ∷ others) = ThenSub s inner rest ∷ others

abbrev pub lists_of : List Token → List Items
lists_of [] = []
lists_of (None ∷ ts) = End ∷ lists_of ts
lists_of (Some (inl m) ∷ ts) = onto_module m (lists_of ts)
lists_of (Some (inr s) ∷ ts) = onto_sub s (lists_of ts)

abbrev pub first_list : List Items → Items
first_list [] = End
first_list (items ∷ others) = items

lists_of-tokens : (items : Items) (ts : List Token) → lists_of (tokens items ++ ts) ≡ items ∷ lists_of ts
lists_of-tokens End ts = refl
lists_of-tokens (ThenModule m rest) ts = ap (onto_module m) (lists_of-tokens rest ts)
lists_of-tokens (ThenSub s inner rest) ts =
    ap (λ (x : List Token). onto_sub s (lists_of x)) (append_assoc (tokens inner) (tokens rest) ts)
    ∙ ap (onto_sub s) (lists_of-tokens inner (tokens rest ++ ts))
    ∙ ap (λ (x : List Items). onto_sub s (inner ∷ x)) (lists_of-tokens rest ts)

pub first_list-tokens : (items : Items) → first_list (lists_of (tokens items)) ≡ items
first_list-tokens items =
    ap (λ (x : List Token). first_list (lists_of x)) (sym (append-nil (tokens items))) ∙ ap first_list (lists_of-tokens items [])

abbrev pub items_code : Coded Items
items_code =
    code_by (List Token) (coded_list (coded_option (coded⊎ module_code sub_text_code))) tokens (λ ts. first_list (lists_of ts)) first_list-tokens

abbrev pub sub_code : Coded SubList
sub_code =
    code_by (SubText × Items) (coded× sub_text_code items_code) (λ s. (s.text, s.inner)) (λ p. record { text = p.0; inner = p.1 }) (λ _. refl)
