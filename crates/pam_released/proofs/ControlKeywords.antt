-- Controls that are keywords, and those that are none.
use Rattle.std.proofs.Common.{◌≡◌, ◌∙◌, ◌==◌, ◌&&◌, ℕ, Bool, true, false, List, [], ◌∷◌, cond, eqb, ap, sym, refl, Option, Some, None, Ok, Err}
use Rattle.std.specs.List.{starts_with}
use Rattle.std.specs.Option.{option_map_or}
use Rattle.std.proofs.lemmas.Bool.{eq-eqb, eqb-true}
use Rattle.pam_codes.specs.Control.{Pairs, actions_of, bracket_actions, control_of, keyword_actions, keyword_pairs, keywords}
use Rattle.pam_codes.specs.declared.action.Action.{Action}
use Rattle.pam_codes.specs.declared.error.ControlError.{ControlError}
use Rattle.pam_codes.specs.declared.error.ControlError.TheVariants.{BadControl}
use Rattle.pam_released.specs.Control.{released_actions}
use Rattle.pam_released.specs.Rules.{control_actions}
use Rattle.pam_released.proofs.ControlNames.{two_ways}
use Rattle.pam_released.specs.declared.release.Release.{Release}

and_true : (t : Bool) → (t && true) ≡ t
and_true true = refl
and_true false = refl

turned : (n b : ℕ) → eqb n b ≡ eqb b n
turned n b =
    two_ways (eqb n b) (eqb b n) (λ e. eq-eqb b n (sym (eqb-true n b e))) (λ e. eq-eqb n b (sym (eqb-true b n e)))

opens : (b : ℕ) (bs : List ℕ) → eqb b 91 ≡ starts_with ◌==◌ (b ∷ bs) (91 ∷ [])
opens b [] = turned b 91 ∙ sym (and_true (eqb 91 b))
opens b (c ∷ bs) = turned b 91 ∙ sym (and_true (eqb 91 b))

-- without a bracket before it
bare : (b : ℕ) (bs : List ℕ) → eqb b 91 ≡ false → control_of (b ∷ bs) ≡ keyword_actions (b ∷ bs)
unfolding control_of
bare b bs n = ap (λ (t : Bool). cond t (bracket_actions bs) (keyword_actions (b ∷ bs))) n

nothing : control_of [] ≡ keyword_actions []
unfolding control_of
nothing = refl

keyword_is : (o : Option Pairs) (actions other : List Action) → Ok actions ≡ option_map_or (λ ps. Ok (actions_of ps)) o (Err BadControl) →
    actions ≡ option_map_or actions_of o other
keyword_is None actions other h = absurd (cc)
keyword_is (Some ps) actions other h = cc

none_is : (o : Option Pairs) (e : ControlError) → Err e ≡ option_map_or (λ ps. Ok (actions_of ps)) o (Err BadControl) → o ≡ None
none_is None e h = refl
none_is (Some ps) e h = absurd (cc)

pub keyword_read : (release : Release) (text : List ℕ) (actions : List Action) → starts_with ◌==◌ text (91 ∷ []) ≡ false → Ok actions ≡ control_of text →
    actions ≡ control_actions release text
keyword_read release [] actions n h = keyword_is (keyword_pairs []) actions (released_actions release []) (h ∙ nothing)
keyword_read release (b ∷ bs) actions n h = keyword_is (keyword_pairs (b ∷ bs)) actions (released_actions release (b ∷ bs)) (h ∙ bare b bs (opens b bs ∙ n))

opened : (bs : List ℕ) → keyword_pairs (91 ∷ bs) ≡ None
unfolding keyword_pairs keywords
opened bs = refl

by_pairs : (release : Release) (text : List ℕ) → keyword_pairs text ≡ None → released_actions release text ≡ control_actions release text
by_pairs release text none = sym (ap (λ (o : Option Pairs). option_map_or actions_of o (released_actions release text)) none)

pub bracket_is_none : (release : Release) (text : List ℕ) → starts_with ◌==◌ text (91 ∷ []) ≡ true →
    released_actions release text ≡ control_actions release text
bracket_is_none release [] h = absurd (cc)
bracket_is_none release (b ∷ bs) h = by_pairs release (b ∷ bs) (ap (λ (c : ℕ). keyword_pairs (c ∷ bs)) (eqb-true b 91 (opens b bs ∙ h)) ∙ opened bs)

pub unread_is_none : (release : Release) (text : List ℕ) (e : ControlError) → Err e ≡ control_of text →
    released_actions release text ≡ control_actions release text
unread_is_none release [] e h = by_pairs release [] (none_is (keyword_pairs []) e (h ∙ nothing))
unread_is_none release (b ∷ bs) e h =
    elim (eqb b 91) as (λ (t : Bool). eqb b 91 ≡ t → released_actions release (b ∷ bs) ≡ control_actions release (b ∷ bs)) [
      | true ↦ λ k. by_pairs release (b ∷ bs) (ap (λ (c : ℕ). keyword_pairs (c ∷ bs)) (eqb-true b 91 k) ∙ opened bs)
      | false ↦ λ k. by_pairs release (b ∷ bs) (none_is (keyword_pairs (b ∷ bs)) e (h ∙ bare b bs k))
    ] refl
