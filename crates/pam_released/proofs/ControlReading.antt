-- The pairs of a control, read one by one.
use Rattle.std.proofs.Common.{◌≡◌, ◌<◌, ◌≤◌, ◌+◌, ◌∙◌, ℕ, zero, suc, List, [], ◌∷◌, length, map, get_or, replicate}
use Rattle.std.proofs.Common.{ap, sym, refl, Option, Some, None, unwrap_or, arith}
use Rattle.std.specs.Option.{option_map, option_map_or}
use Rattle.pam_codes.specs.Code.{all_codes}
use Rattle.pam_codes.specs.Control.{Pairs, action_of, actions_of}
use Rattle.pam_codes.specs.declared.action.Action.{Action}
use Rattle.pam_codes.specs.declared.action.Action.TheVariants.{Bad}
use Rattle.pam_codes.specs.declared.subject.Subject.{Subject}
use Rattle.pam_codes.proofs.Overlay.{actions_after, actions_after-start}
use Rattle.pam_released.specs.Control.{action_at, after_spaces, all_bad, equals_at, pairs_at, pairs_from, released_actions, subject_at, then_some, written}
use Rattle.pam_released.specs.inner.Pair.{pair_at}
use Rattle.pam_released.proofs.ControlTokens.{all_alike, same_action_of}
use Rattle.pam_released.specs.declared.release.Release.{Release}

-- without a name, each code is bad
pub no_names : map (λ code. unwrap_or (get_or (replicate 31 None) code None) Bad) all_codes ≡ all_bad
unfolding all_codes
no_names = refl

-- the pairs of the rest of a text, which does not begin with a blank
abbrev pub left : Release → ℕ → List ℕ → Option Pairs
left release n rest = pairs_from release (λ r. pairs_at release n r) rest

-- the actions of the pairs that are read and those that are left
abbrev pub told : List (Option Action) → Option Action → Option Pairs → List Action
told named default pairs = option_map_or (actions_after named default) pairs all_bad

in_words : (o : Option Pairs) → option_map_or (λ ps. map (λ code. unwrap_or (written code None ps) Bad) all_codes) o all_bad ≡
    option_map_or actions_of o all_bad
unfolding actions_of
in_words None = refl
in_words (Some ps) = all_alike (λ code. unwrap_or (written code None ps) Bad) (action_of ps) (same_action_of ps) all_codes

started : (o : Option Pairs) → told (replicate 31 None) None o ≡ option_map_or actions_of o all_bad
started None = refl
started (Some ps) = actions_after-start ps

at_step : (release : Release) (n : ℕ) (text : List ℕ) → pairs_at release (suc n) text ≡ left release n (after_spaces text)
unfolding pairs_at
at_step release n text = refl

pub told_first : (release : Release) (inside rest : List ℕ) (fuel : ℕ) → fuel ≡ length inside → rest ≡ after_spaces inside →
    told (replicate 31 None) None (left release fuel rest) ≡ released_actions release inside
unfolding released_actions
told_first release inside rest fuel is skipped =
    started (left release fuel rest)
    ∙ ap (λ (r : List ℕ). option_map_or actions_of (left release fuel r) all_bad) skipped
    ∙ ap (λ (o : Option Pairs). option_map_or actions_of o all_bad) (sym (at_step release fuel inside))
    ∙ ap (λ (k : ℕ). option_map_or actions_of (pairs_at release k inside) all_bad)
    (let more : suc fuel ≡ length inside + 1 = omega (arith, is) in more)
    ∙ sym (in_words (pairs_at release (length inside + 1) inside))

-- one pair, and those after it
by_pair : (release : Release) (next : List ℕ → Option Pairs) (b : ℕ) (bs : List ℕ) → pairs_from release next (b ∷ bs) ≡
    then_some {A = (Subject × Action) × List ℕ} (pair_at release (b ∷ bs)) (λ p. option_map (λ ps. p.0 ∷ ps) (next p.1))
by_pair release next b bs = by_subject (subject_at (b ∷ bs))
  where
    by_action : (s : Subject) (o : Option (Action × List ℕ)) → then_some o (λ a. option_map (λ ps. (s, a.0) ∷ ps) (next a.1)) ≡
        then_some {A = (Subject × Action) × List ℕ} (then_some o (λ a. Some ((s, a.0), a.1))) (λ p. option_map (λ ps. p.0 ∷ ps) (next p.1))
    by_action s None = refl
    by_action s (Some a) = refl

    by_sign : (s : Subject) (o : Option (List ℕ)) →
        then_some o (λ r. then_some (action_at release (after_spaces r)) (λ a. option_map (λ ps. (s, a.0) ∷ ps) (next a.1))) ≡
        then_some {A = (Subject × Action) × List ℕ} (then_some o (λ r. then_some (action_at release (after_spaces r)) (λ a. Some ((s, a.0), a.1))))
        (λ p. option_map (λ ps. p.0 ∷ ps) (next p.1))
    by_sign s None = refl
    by_sign s (Some r) = by_action s (action_at release (after_spaces r))

    by_subject : (o : Option (Subject × List ℕ)) →
        then_some o (λ s. then_some (equals_at (after_spaces s.1)) (λ r. then_some (action_at release (after_spaces r))
        (λ a. option_map (λ ps. (s.0, a.0) ∷ ps) (next a.1)))) ≡
        then_some {A = (Subject × Action) × List ℕ} (then_some o (λ s. then_some (equals_at (after_spaces s.1))
        (λ r. then_some (action_at release (after_spaces r)) (λ a. Some ((s.0, a.0), a.1)))))
        (λ p. option_map (λ ps. p.0 ∷ ps) (next p.1))
    by_subject None = refl
    by_subject (Some s) = by_sign s.0 (equals_at (after_spaces s.1))

pub told_fault : (release : Release) (named : List (Option Action)) (default : Option Action) (n : ℕ) (rest : List ℕ) (whole : List Action) → (rest ≡ [] → ⊥) →
    pair_at release rest ≡ None → told named default (left release n rest) ≡ whole → all_bad ≡ whole
told_fault release named default n [] whole some none h = absurd (some refl)
told_fault release named default n (b ∷ bs) whole some none h =
    sym (ap (told named default) (by_pair release (λ r. pairs_at release n r) b bs
    ∙ ap (λ (o : Option ((Subject × Action) × List ℕ)). then_some o (λ p. option_map (λ ps. p.0 ∷ ps) (pairs_at release n p.1))) none)) ∙ h

told_on : (named new_named : List (Option Action)) (default new_default : Option Action) (p : Subject × Action) (o : Option Pairs) →
    ((ps : Pairs) → actions_after new_named new_default ps ≡ actions_after named default (p ∷ ps)) →
    told new_named new_default o ≡ told named default (option_map (λ ps. p ∷ ps) o)
told_on named new_named default new_default p None h = refl
told_on named new_named default new_default p (Some ps) h = h ps

-- what is left after a pair
pub record Left (release : Release) (named : List (Option Action)) (default : Option Action) (rest : List ℕ) (whole : List Action) : Type 0 where
  pub fuel : ℕ
  pub enough : length rest ≤ fuel
  pub same : told named default (left release fuel rest) ≡ whole

pub one_pair : (release : Release) (named new_named : List (Option Action)) (default new_default : Option Action) (p : Subject × Action)
    (rest after later : List ℕ)
    (whole : List Action) → (rest ≡ [] → ⊥) → pair_at release rest ≡ Some (p, after) → length after < length rest → later ≡ after_spaces after →
    length later ≤ length after → ((ps : Pairs) → actions_after new_named new_default ps ≡ actions_after named default (p ∷ ps)) →
    Left release named default rest whole → Left release new_named new_default later whole
one_pair release named new_named default new_default p [] after later whole some is shorter skipped no_longer acts h = absurd (some refl)
one_pair release named new_named default new_default p (b ∷ bs) after later whole some is shorter skipped no_longer acts h =
    from h.fuel h.enough h.same
  where
    from : (n : ℕ) → length (b ∷ bs) ≤ n → told named default (left release n (b ∷ bs)) ≡ whole → Left release new_named new_default later whole
    from zero low same = absurd (omega (arith, low))
    from (suc n) low same = record {
      fuel = n;
      enough = omega (arith, low, shorter, no_longer);
      same =
          ap (λ (r : List ℕ). told new_named new_default (left release n r)) skipped
          ∙ ap (told new_named new_default) (sym (at_step release n after))
          ∙ told_on named new_named default new_default p (pairs_at release (suc n) after) acts
          ∙ ap (told named default) (sym (by_pair release (λ r. pairs_at release (suc n) r) b bs
          ∙ ap (λ (o : Option ((Subject × Action) × List ℕ)). then_some o (λ q. option_map (λ ps. q.0 ∷ ps) (pairs_at release (suc n) q.1))) is))
          ∙ same;
    }

pub told_last : (release : Release) (named : List (Option Action)) (default : Option Action) (rest : List ℕ) (whole : List Action) → rest ≡ [] →
    Left release named default rest whole → map (λ code. unwrap_or (get_or named code None) (unwrap_or default Bad)) all_codes ≡ whole
unfolding actions_after
told_last release named default rest whole none h = ap (λ (r : List ℕ). told named default (left release h.fuel r)) (sym none) ∙ h.same
