use Rattle.std.proofs.Common.{◌∷◌, [], subst, sym}
use Rattle.pam_dispatch.specs.declared.flat_item.FlatItem.{FlatItem}
use Rattle.pam_dispatch.specs.inner.Settled.{KeepFailure}
use Rattle.pam_dispatch.proofs.settled.is_harmless.Goals as goal

pub returns-then-level-eq0 : goal.returns-then-level-eq0
unfolding KeepFailure
returns-then-level-eq0 c kept =
    subst (λ (e : FlatItem). KeepFailure (e ∷ [])) (sym c.in-Module.is) (c.if-level-eq0.true, c.all_keep_failure.ensures kept, tt)
