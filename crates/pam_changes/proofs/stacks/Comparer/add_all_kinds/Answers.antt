use Rattle.std.proofs.Common.{◌++◌, ◌∷◌, [], List, OnOk, subst, ℕ}
use Rattle.pam_conf.specs.declared.rule.Kind.{Kind}
use Rattle.pam_conf.specs.declared.rule.Kind.TheVariants.{Auth, Account, Password, Session}
use Rattle.pam_changes.specs.inner.Finding.{IsFound}
use Rattle.pam_changes.specs.Sides.{sides_view}
use Rattle.pam_changes.proofs.Stacked.{four-more}
use Rattle.pam_changes.proofs.stacks.Comparer.add_all_kinds.Goals as goal

pub returns : goal.returns
returns c names asked there found =
    let s = c.args.service in
    let first = c.in_ok-add_change.ensures names asked there found in
    let second = c.in_ok-add_change-2.ensures names (asked ++ (s, Auth) ∷ []) there first in
    let third = c.in_ok-add_change-3.ensures names ((asked ++ (s, Auth) ∷ []) ++ (s, Account) ∷ []) there second in
    subst (λ (l : List (ℕ × Kind)). OnOk c.add_change-4.result (IsFound (sides_view c.args.self.now.sides.now) names l c.add_change-4.new.found))
    (four-more asked (s, Auth) (s, Account) (s, Password) (s, Session))
    (c.add_change-4.ensures names (((asked ++ (s, Auth) ∷ []) ++ (s, Account) ∷ []) ++ (s, Password) ∷ []) there third)
