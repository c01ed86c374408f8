-- What the events of a walk come to.
use Rattle.std.proofs.Common.{◌≡◌, ◌+◌, ℕ, Bool, true, false, cond, eqb, fold, List, [], ◌∷◌, ◌++◌, Option, Some, None, append-nil, append_assoc, ap}
use Rattle.std.proofs.Common.{refl, ◌∙◌, sym}
use Rattle.std.specs.Option.{option_map_or}
use Rattle.std.proofs.lemmas.Bool.{false≢true}
use Rattle.pam_conf.specs.inner.Progress.{Account, Count, account, ended_by, ending, with_fault, with_follow, with_module}
use Rattle.pam_conf.specs.Stack.{Items}
use Rattle.pam_conf.specs.Survey.{SurveyText, is_over, one_too_many, survey_of, targets, told, with_file}
use Rattle.pam_conf.specs.Walk.{Event, Met, Followed, Failed, Walk, fault_at, numbered, refusal}
use Rattle.pam_conf.specs.declared.conf_error.ConfError.{ConfError}
use Rattle.pam_conf.specs.declared.error.FaultKind.TheVariants.{TooManyFollowed, TooManyModules}
use Rattle.pam_conf.specs.declared.stack.TheConstants.{MAX_MODULES}
use Rattle.pam_conf.specs.declared.walk.TheConstants.{MAX_FOLLOWS}

-- A WALK THAT ENDS AT ITS FIRST FAULT

abbrev pub outcome : List ConfError → List ℕ → Option ConfError → Account
outcome noted reached None = record { faults = noted; reached = reached; ended = false }
outcome noted reached (Some fault) = record { faults = noted ++ fault ∷ []; reached = reached; ended = true }

pub account-refusal : (n : Count) (events : List Event) → account false n events ≡ outcome n.noted n.reached (refusal n.modules n.follows events)
unfolding account ending refusal
account-refusal n [] = refl
account-refusal n (Met file line ∷ events) =
    elim (eqb n.modules MAX_MODULES) as (λ (t : Bool). cond t (ended_by n (fault_at file line TooManyModules)) (account false (with_module n) events)
    ≡ outcome n.noted n.reached (cond t (Some (fault_at file line TooManyModules)) (refusal (with_module n).modules n.follows events)))
    [ true ↦ refl | false ↦ account-refusal (with_module n) events ]
account-refusal n (Followed file line target ∷ events) =
    elim (eqb n.follows MAX_FOLLOWS) as (λ (t : Bool). cond t (ended_by n (fault_at file line TooManyFollowed)) (account false
    (with_follow false target n) events)
    ≡ outcome n.noted n.reached (cond t (Some (fault_at file line TooManyFollowed)) (refusal n.modules (with_follow false target n).follows events)))
    [ true ↦ refl | false ↦ account-refusal (with_follow false target n) events ]
account-refusal n (Failed fault ∷ events) = refl

pub not_ended : (noted : List ConfError) (reached : List ℕ) (o : Option ConfError) (faults : List ConfError) (files : List ℕ) →
    outcome noted reached o ≡ record { faults = faults; reached = files; ended = false } → o ≡ None
not_ended noted reached None faults files h = refl
not_ended noted reached (Some fault) faults files h = absurd (false≢true (sym (ap (λ (a : Account). a.ended) h)))

last_of : List ConfError → Option ConfError
last_of [] = None
last_of (x ∷ []) = Some x
last_of (x ∷ y ∷ xs) = last_of (y ∷ xs)

last-append : (xs : List ConfError) (x : ConfError) → last_of (xs ++ x ∷ []) ≡ Some x
unfolding last_of
last-append [] x = refl
last-append (y ∷ []) x = refl
last-append (y ∷ z ∷ xs) x = last-append (z ∷ xs) x

pub ended_with : (noted : List ConfError) (reached : List ℕ) (o : Option ConfError) (n : Count) (e : ConfError) →
    outcome noted reached o ≡ ended_by n e → o ≡ Some e
ended_with noted reached None n e h = absurd (false≢true (ap (λ (a : Account). a.ended) h))
ended_with noted reached (Some fault) n e h =
    sym (last-append noted fault) ∙ ap (λ (a : Account). last_of a.faults) h ∙ last-append n.noted e

-- A WALK THAT GOES ON

-- what a survey tells of events after those that were counted
abbrev pub surveyed_on : Count → List Event → Account
surveyed_on n events = record {
  faults = n.noted ++ told n.modules n.follows events;
  reached = fold with_file n.reached (targets n.modules n.follows events);
  ended = is_over n.modules n.follows events;
}

pub account-told : (n : Count) (events : List Event) → account true n events ≡ surveyed_on n events
unfolding account ending told targets is_over
account-told n [] = rw (append-nil n.noted) refl
account-told n (Met file line ∷ events) =
    elim (eqb n.modules MAX_MODULES) as (λ (t : Bool). cond t (ended_by n (fault_at file line TooManyModules)) (account true (with_module n) events) ≡ record {
      faults = n.noted ++ cond t (fault_at file line TooManyModules ∷ []) (told (n.modules + 1) n.follows events);
      reached = fold with_file n.reached (cond t [] (targets (n.modules + 1) n.follows events));
      ended = cond t true (is_over (n.modules + 1) n.follows events);
    }) [ true ↦ refl | false ↦ account-told (with_module n) events ]
account-told n (Followed file line target ∷ events) =
    elim (eqb n.follows MAX_FOLLOWS) as (λ (t : Bool). cond t (ended_by n (fault_at file line TooManyFollowed)) (account true
    (with_follow true target n) events) ≡ record {
      faults = n.noted ++ cond t (fault_at file line TooManyFollowed ∷ []) (told n.modules (n.follows + 1) events);
      reached = fold with_file n.reached (cond t [] (target ∷ targets n.modules (n.follows + 1) events));
      ended = cond t true (is_over n.modules (n.follows + 1) events);
    }) [ true ↦ refl | false ↦ account-told (with_follow true target n) events ]
account-told n (Failed fault ∷ events) =
    elim (eqb n.follows MAX_FOLLOWS) as (λ (t : Bool).
    option_map_or (ended_by n) (cond t (Some (one_too_many fault)) None) (account true (with_fault fault n) events) ≡ record {
      faults = n.noted ++ cond t (one_too_many fault ∷ []) (fault ∷ told n.modules (n.follows + 1) events);
      reached = fold with_file n.reached (cond t [] (targets n.modules (n.follows + 1) events));
      ended = cond t true (is_over n.modules (n.follows + 1) events);
    }) [
      | true ↦ refl
      | false ↦ account-told (with_fault fault n) events
          ∙ ap (λ faults. record (surveyed_on (with_fault fault n) events) { faults = faults })
          (append_assoc n.noted (fault ∷ []) (told n.modules (n.follows + 1) events))
    ]

abbrev with_items : Option Items → Account → SurveyText
with_items items a = record { items = items; faults = a.faults; reached = a.reached; other_answers = false }

-- the survey of a walk that nothing ends
pub told-all : (file : ℕ) (w : Walk) (n n' : Count) (i : Items) → n ≡ record { modules = 0; follows = 0; noted = []; reached = file ∷ [] } →
    account true n w.events ≡ account true n' [] → i ≡ numbered 1 w.items →
    record { items = Some i; faults = n'.noted; reached = n'.reached; other_answers = false } ≡ survey_of file w
unfolding account
told-all file w n n' i begins all is =
    let same : surveyed_on (record { modules = 0; follows = 0; noted = []; reached = file ∷ [] }) w.events
    ≡ record { faults = n'.noted; reached = n'.reached; ended = false } =
    ap (λ (m : Count). surveyed_on m w.events) (sym begins) ∙ sym (account-told n w.events) ∙ all in
    rw (is, ap (λ (a : Account). a.ended) same) (ap (with_items (Some (numbered 1 w.items))) (sym same))

-- the survey of a walk that a limit ends
pub told-ended : (file : ℕ) (w : Walk) (n n' : Count) (e : ConfError) → n ≡ record { modules = 0; follows = 0; noted = []; reached = file ∷ [] } →
    account true n (w.events ++ []) ≡ ended_by n' e →
    record { items = None; faults = n'.noted ++ e ∷ []; reached = n'.reached; other_answers = false } ≡ survey_of file w
told-ended file w n n' e begins all =
    let same : surveyed_on (record { modules = 0; follows = 0; noted = []; reached = file ∷ [] }) w.events ≡ ended_by n' e =
    ap (λ (m : Count). surveyed_on m w.events) (sym begins) ∙ sym (account-told n w.events) ∙ ap (account true n) (sym (append-nil w.events)) ∙ all in
    rw (ap (λ (a : Account). a.ended) same) (ap (with_items (None)) (sym same))
