-- Lists of actions that make a control.
use Rattle.std.proofs.Common.{◌≡◌, ◌∙◌, ℕ, List, Option, Some, None, IfSome, length-set, replicate, slice_set, unwrap_or, ap, refl}
use Rattle.std.proofs.lemmas.List.Elements.{All-set, All-replicate}
use Rattle.pam_codes.specs.Action.{IsAction}
use Rattle.pam_codes.specs.Control.{IsControl}
use Rattle.pam_codes.specs.ControlText.{keyword_of, list_text, control_text}
use Rattle.pam_codes.specs.declared.action.Action.{Action}
use Rattle.pam_codes.specs.declared.action.Action.TheVariants.{Bad}
use Rattle.std.specs.Option.{option_or}

-- one more action set
pub IsControl-set : (actions : List Action) (i : ℕ) (action : Action) → IsControl actions → IsAction action → IsControl (slice_set actions i action)
IsControl-set actions i action old new = record {
  one_each = length-set actions i action ∙ old.one_each;
  each_action = All-set IsAction actions i action new old.each_action;
}

-- the same action for each
pub IsControl-replicate : (action : Action) → IsAction action → IsControl (replicate 31 action)
IsControl-replicate action h = record { one_each = refl; each_action = All-replicate IsAction 31 action h }

-- the action of a default that was read, or else a new one
pub some_action : (found : Option Action) (action : Action) → IfSome found IsAction → IsAction action → IfSome (option_or found (Some action)) IsAction
some_action None action f h = h
some_action (Some a) action f h = f

pub action_or_bad : (found : Option Action) → IfSome found IsAction → IsAction (unwrap_or found Bad)
action_or_bad None f = tt
action_or_bad (Some a) f = f

-- the text of a control with the actions of a keyword, and of one without
pub text_of_keyword : (actions : List Action) (word : List ℕ) → keyword_of actions ≡ Some word → control_text actions ≡ word
unfolding control_text
text_of_keyword actions word h = ap (λ (o : Option (List ℕ)). unwrap_or o (list_text actions)) h

pub text_of_list : (actions : List Action) → keyword_of actions ≡ None → control_text actions ≡ list_text actions
unfolding control_text
text_of_list actions h = ap (λ (o : Option (List ℕ)). unwrap_or o (list_text actions)) h
