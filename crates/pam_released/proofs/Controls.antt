-- The actions of a control in brackets by released Linux-PAM are those of the manual pages.
use Rattle.std.proofs.Common.{◌≡◌, ◌<◌, ◌+◌, ◌++◌, ◌∙◌, ℕ, zero, suc, Bool, true, false, List, [], ◌∷◌, map}
use Rattle.std.proofs.Common.{length, get_or, cond, ap, sym, refl, Option, Some, None, Result, Ok, Err, arith, codes}
use Rattle.std.specs.Prelude.{unwrap_or}
use Rattle.std.specs.Option.{option_map, option_map_or}
use Rattle.std.specs.Char.{to_ascii_lowercase}
use Rattle.std.specs.Str.{bytes_eq}
use Rattle.std.proofs.lemmas.Slice.Eq.{bytes_eq-Decides}
use Rattle.pam_codes.specs.Action.{action_named}
use Rattle.pam_codes.specs.Code.{all_codes, code_names}
use Rattle.pam_codes.specs.Control.{◌>>=◌, Pairs, actions_of, action_of, equals_sign, pairs_of, token_actions, with_front}
use Rattle.pam_codes.specs.Subject.{subject_of}
use Rattle.pam_codes.specs.Tokens.{tokens_of}
use Rattle.pam_codes.specs.declared.action.Action.{Action}
use Rattle.pam_codes.specs.declared.action.Action.TheVariants.{Bad}
use Rattle.pam_codes.specs.declared.error.ControlError.{ControlError}
use Rattle.pam_codes.specs.declared.error.ControlError.TheVariants.{BadAction, BadControl}
use Rattle.pam_codes.specs.declared.subject.Subject.{Subject}
use Rattle.pam_released.specs.Control.{action_at, after_spaces, released_actions, equals_at, is_space, pairs_at, pairs_from}
use Rattle.pam_released.specs.Control.{subject_at, then_some, written}
use Rattle.pam_released.proofs.ControlNames.{Says, subject_said, Acts, action_acts}
use Rattle.pam_released.proofs.ControlTokens.{same_action_of, all_alike, first_token, no_token}
use Rattle.pam_released.specs.declared.release.Release.{Release}

-- PAIRS

pub record Parts (a b c : List ℕ) (rest : List (List ℕ)) (ps : Pairs) : Type 0 where
  pub subject : Subject
  pub action : Action
  pub others : Pairs
  pub named : subject_of a ≡ Ok subject
  pub equals : b ≡ 61 ∷ []
  pub acts : action_named c ≡ Ok action
  pub more : pairs_of rest ≡ Ok others
  pub whole : ps ≡ (subject, action) ∷ others

pub parts_of : (a b c : List ℕ) (rest : List (List ℕ)) (ps : Pairs) → pairs_of (a ∷ b ∷ c ∷ rest) ≡ Ok ps → Parts a b c rest ps
unfolding pairs_of
parts_of a b c rest ps h =
    elim (subject_of a) as (λ (r : Result Subject ControlError). subject_of a ≡ r →
    (r >>= λ s. equals_sign b >>= λ e. action_named c >>= λ x. with_front (s, x) (pairs_of rest)) ≡ Ok ps → Parts a b c rest ps) [
      | Err e ↦ λ i j. absurd (cc)
      | Ok s ↦ λ i j. elim (bytes_eq b (codes "=")) as (λ (t : Bool). bytes_eq b (codes "=") ≡ t →
          (cond t (Ok tt) (Err BadControl) >>= λ e. action_named c >>= λ x. with_front (s, x) (pairs_of rest)) ≡ Ok ps → Parts a b c rest ps) [
            | false ↦ λ k l. absurd (cc)
            | true ↦ λ k l. elim (action_named c) as (λ (r : Result Action ControlError). action_named c ≡ r →
                (r >>= λ x. with_front (s, x) (pairs_of rest)) ≡ Ok ps → Parts a b c rest ps) [
                  | Err e ↦ λ m n. absurd (cc)
                  | Ok x ↦ λ m n. elim (pairs_of rest) as (λ (r : Result Pairs ControlError). pairs_of rest ≡ r → with_front (s, x) r ≡ Ok ps →
                      Parts a b c rest ps) [
                        | Err e ↦ λ o p. absurd (cc)
                        | Ok qs ↦ λ o p. record {
                          subject = s;
                          action = x;
                          others = qs;
                          named = i;
                          equals = (bytes_eq-Decides b (codes "=")).0 k;
                          acts = m;
                          more = o;
                          whole = let same : (s, x) ∷ qs ≡ ps = cc in sym same;
                        }
                      ] refl n
                ] refl l
          ] refl j
    ] refl h

pub one_pair : (release : Release) (next : List ℕ → Option Pairs) (a u : List ℕ) → (a ≡ [] → ⊥) → pairs_from release next (a ++ u) ≡
    then_some (subject_at (a ++ u)) (λ s. then_some (equals_at (after_spaces s.1))
    (λ r. then_some (action_at release (after_spaces r)) (λ x. option_map (λ ps. (s.0, x.0) ∷ ps) (next x.1))))
one_pair release next [] u n = absurd (n refl)
one_pair release next (b ∷ a) u n = refl

pub equals_there : (u : List ℕ) → equals_at (61 ∷ u) ≡ Some u
unfolding equals_at
equals_there u = refl

pub no_name : (s : Subject) → subject_of [] ≡ Ok s → ⊥
unfolding subject_of code_names
no_name s h = absurd (cc)

pub at_step : (release : Release) (n : ℕ) (t : List ℕ) → pairs_at release (suc n) t ≡ pairs_from release (λ rest. pairs_at release n rest) (after_spaces t)
unfolding pairs_at
at_step release n t = refl

pub one_fails : (r : Result Subject ControlError) (ps : Pairs) → (r >>= λ s. Err BadControl) ≡ Ok ps → ⊥
one_fails (Err e) ps h = cc
one_fails (Ok s) ps h = cc

pub two_fail : (r : Result Subject ControlError) (q : Result (Unit {0}) ControlError) (ps : Pairs) → (r >>= λ s. q >>= λ e. Err BadAction) ≡ Ok ps → ⊥
two_fail (Err e) q ps h = cc
two_fail (Ok s) (Err e) ps h = cc
two_fail (Ok s) (Ok e) ps h = cc

pub by_tokens : (release : Release) (n : ℕ) (t : List ℕ) (ts : List (List ℕ)) (ps : Pairs) → length t < suc n → map to_ascii_lowercase t ≡ t →
    tokens_of t ≡ ts →
    pairs_of ts ≡ Ok ps →
    ((u : List ℕ) (qs : Pairs) → length u < n → map to_ascii_lowercase u ≡ u → pairs_of (tokens_of u) ≡ Ok qs → pairs_at release n u ≡ Some qs) →
    pairs_at release (suc n) t ≡ Some ps
unfolding pairs_of Says Acts
by_tokens release n t [] ps l low e h again = at_step release n t ∙ ap (pairs_from release (λ rest. pairs_at release n rest)) (no_token t e)
    ∙ ap (λ (r : Pairs). Some r) (let none : [] ≡ ps = cc in none)
by_tokens release n t (a ∷ []) ps l low e h again = absurd (one_fails (subject_of a) ps h)
by_tokens release n t (a ∷ b ∷ []) ps l low e h again = absurd (two_fail (subject_of a) (equals_sign b) ps h)
by_tokens release n t (a ∷ b ∷ c ∷ rest) ps l low e h again =
    let p = parts_of a b c rest ps h in
    let f = first_token t a (b ∷ c ∷ rest) e in
    let g = first_token f.rest b (c ∷ rest) f.others in
    let k = first_token g.rest c rest g.others in
    let lf = f.low low in
    let lg = g.low lf.1 in
    let lk = k.low lg.1 in
    let says = subject_said a p.subject lf.0 p.named in
    let acts = action_acts release c p.action lk.0 p.acts in
    let first : after_spaces t ≡ a ++ f.rest = f.parts says.1 in
    let second : after_spaces f.rest ≡ 61 ∷ g.rest = g.parts (ap (λ (r : List ℕ). is_space (get_or r 0 0)) p.equals)
    ∙ ap (λ (r : List ℕ). r ++ g.rest) p.equals in
    let third : after_spaces g.rest ≡ c ++ k.rest = k.parts acts.1 in
    let short : length k.rest < n = (let s1 : length k.rest < length g.rest = k.shorter in let s2 : length g.rest < length f.rest = g.shorter in
    let s3 : length f.rest < length t = f.shorter in omega (arith, s1, s2, s3, l)) in
    let more : pairs_at release n k.rest ≡ Some p.others = again k.rest p.others short lk.1 (ap pairs_of k.others ∙ p.more) in
    let there : a ≡ [] → ⊥ = λ z. no_name p.subject (ap subject_of (sym z) ∙ p.named) in
    at_step release n t
    ∙ ap (pairs_from release (λ r. pairs_at release n r)) first
    ∙ one_pair release (λ r. pairs_at release n r) a f.rest there
    ∙ ap (λ (o : Option (Subject × List ℕ)). then_some o (λ s. then_some (equals_at (after_spaces s.1))
    (λ r. then_some (action_at release (after_spaces r)) (λ x. option_map (λ qs. (s.0, x.0) ∷ qs) (pairs_at release n x.1))))) (says.0 f.rest)
    ∙ ap (λ (o : Option (List ℕ)). then_some o (λ r. then_some (action_at release (after_spaces r))
    (λ x. option_map (λ qs. (p.subject, x.0) ∷ qs) (pairs_at release n x.1)))) (ap equals_at second ∙ equals_there g.rest)
    ∙ ap (λ (o : Option (Action × List ℕ)). then_some o (λ x. option_map (λ qs. (p.subject, x.0) ∷ qs) (pairs_at release n x.1))) (ap (action_at release) third
    ∙ acts.0 k.rest (k.stops acts.2))
    ∙ ap (option_map (λ qs. (p.subject, p.action) ∷ qs)) more
    ∙ ap (λ (r : Pairs). Some r) (sym p.whole)

pub pairs_alike : (release : Release) (n : ℕ) (t : List ℕ) (ps : Pairs) → length t < n → map to_ascii_lowercase t ≡ t → pairs_of (tokens_of t) ≡ Ok ps →
    pairs_at release n t ≡ Some ps
pairs_alike release zero t ps l low h = absurd (omega (arith, l))
pairs_alike release (suc n) t ps l low h = by_tokens release n t (tokens_of t) ps l low refl h (λ u qs. pairs_alike release n u qs)

pub controls_alike : (release : Release) (inside : List ℕ) (actions : List Action) → map to_ascii_lowercase inside ≡ inside →
    token_actions (tokens_of inside) ≡ Ok actions →
    released_actions release inside ≡ actions
unfolding released_actions actions_of
controls_alike release inside actions h k =
    elim (pairs_of (tokens_of inside)) as (λ (r : Result Pairs ControlError). pairs_of (tokens_of inside) ≡ r →
    (r >>= λ ps. Ok (actions_of ps)) ≡ Ok actions → released_actions release inside ≡ actions) [
      | Err e ↦ λ i j. absurd (cc)
      | Ok ps ↦ λ i j.
          let are : actions_of ps ≡ actions = cc in
          ap (λ (o : Option Pairs). option_map_or (λ qs. map (λ code. unwrap_or (written code None qs) Bad) all_codes) o (map (λ code. Bad) all_codes))
          (pairs_alike release (length inside + 1) inside ps (omega arith) h i)
          ∙ all_alike (λ code. unwrap_or (written code None ps) Bad) (action_of ps) (same_action_of ps) all_codes
          ∙ are
    ] refl k
