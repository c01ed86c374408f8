-- The test whether two actions are the same.
use Rattle.std.proofs.Common.{◌≡◌, ap, refl, true, eq-eqb}
use Rattle.std.proofs.lemmas.Bool.{eqb-true, false≢true}
use Rattle.pam_codes.specs.declared.action.Action.{Action}
use Rattle.pam_codes.specs.declared.action.Action.TheVariants.{Ignore, Ok as Accept, Done, Bad, Die, Reset, Jump}
use Rattle.pam_codes.specs.Action.{same_action}

pub same_action-true : (a b : Action) → same_action a b ≡ true → a ≡ b
same_action-true Ignore Ignore h = refl
same_action-true Accept Accept h = refl
same_action-true Done Done h = refl
same_action-true Bad Bad h = refl
same_action-true Die Die h = refl
same_action-true Reset Reset h = refl
same_action-true (Jump m) (Jump n) h = ap Jump (eqb-true m n h)
same_action-true _ _ h = absurd (false≢true h)

pub same_action-self : (a : Action) → same_action a a ≡ true
same_action-self Ignore = refl
same_action-self Accept = refl
same_action-self Done = refl
same_action-self Bad = refl
same_action-self Die = refl
same_action-self Reset = refl
same_action-self (Jump n) = eq-eqb n n refl
