use Rattle.std.proofs.Common.{◌∙◌, sym, subst}
use Rattle.std.specs.Iterator.{YieldsFirstBy}
use Rattle.pam_explain.specs.Views.{explanation_view}
use Rattle.pam_explain.proofs.FamilySteps.{next_family, no_family, same_family, shorter}
use Rattle.pam_explain.proofs.table.ExplanationsIterIterator.next.Goals as goal

pub returns-in-Some-clause-steps : goal.returns-in-Some-clause-steps
returns-in-Some-clause-steps c = sym c.self.view_is ∙ same_family (λ e. explanation_view e.now) _ _ _ _ c.row_of.ensures _ c.in-Some.is c.saturating_add-self-inside.ensures

pub returns-in-Some-clause-goes : goal.returns-in-Some-clause-goes
returns-in-Some-clause-goes c =
    record {
      on = λ _. (tt, tt, shorter _ _ _ (returns-in-Some-clause-steps c));
      keeps = tt;
      rests = λ _. tt;
    }

pub returns-in_err-explanation-in-None-clause-steps : goal.returns-in_err-explanation-in-None-clause-steps
returns-in_err-explanation-in-None-clause-steps c =
    let none = sym c.self.view_is
    ∙ no_family (λ e. explanation_view e.now) _ _ _ _ c.row_of.ensures _ c.row_of-in-None.ensures c.in-None.is c.saturating_add-family.ensures c.in_err-explanation-in-None.was in
    subst (λ r. YieldsFirstBy explanation_view (λ rest. rest) c.args.self.now r c.args.self.now) (sym c.from_residual.ensures) (none, none)

pub returns-in_ok-explanation-in-None-clause-steps : goal.returns-in_ok-explanation-in-None-clause-steps
returns-in_ok-explanation-in-None-clause-steps c =
    sym c.self.view_is
    ∙ next_family (λ e. explanation_view e.now) _ _ _ _ c.row_of.ensures _ c.row_of-in-None.ensures c.in-None.is c.saturating_add-family.ensures _ c.in_ok-explanation-in-None.was

pub returns-in_ok-explanation-in-None-clause-goes : goal.returns-in_ok-explanation-in-None-clause-goes
returns-in_ok-explanation-in-None-clause-goes c =
    record {
      on = λ _. (tt, tt, shorter _ _ _ (returns-in_ok-explanation-in-None-clause-steps c));
      keeps = tt;
      rests = λ _. tt;
    }
