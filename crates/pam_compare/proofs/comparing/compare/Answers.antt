use Rattle.std.proofs.Common.{Option, subst, sym}
use Rattle.std.specs.Prelude.{IfNone}
use Rattle.pam_dispatch.specs.Runs.{Assignment}
use Rattle.pam_compare.specs.declared.change.Change.{Change}
use Rattle.pam_compare.specs.declared.change.Change.TheVariants.{Admits, Refuses, Tells}
use Rattle.pam_compare.specs.declared.witness.Witness.{Witness}
use Rattle.pam_compare.specs.Comparison.{IsShown, NeverChanges}
use Rattle.pam_compare.specs.inner.Naming.{IsPossible}
use Rattle.pam_compare.proofs.Agreeing.{never-any}
use Rattle.pam_compare.proofs.comparing.compare.Goals as goal

pub returns-in_default : goal.returns-in_default
returns-in_default g c =
    let old_allows = g.K.Knowledge.allows c.args.old_known.now in
    let new_allows = g.L.Knowledge.allows c.args.new_known.now in
    let old = c.args.old.now in
    let new = c.args.new.now in
    let partners = c.args.matching.now in
    let naming = c.in_ok-naming.naming in
    let told = c.in_ok-naming.ensures.known in
    let none = subst (λ o. IfNone o ((a : Assignment) → IsPossible naming.possible.items a → ⊥)) c.in_default.is c.in_ok-usual.ensures.none in
    let never : (change : Change) → NeverChanges old_allows new_allows old new partners change =
    never-any old_allows new_allows old new partners naming.names.items told.names naming.possible.items told.possible none in
    let Shown : Change → Option Witness → Type 0 = IsShown old_allows new_allows old new partners in
    record {
      admits = subst (Shown Admits) (sym c.no_changes.ensures.admits) (never Admits);
      refuses = subst (Shown Refuses) (sym c.no_changes.ensures.refuses) (never Refuses);
      tells = subst (Shown Tells) (sym c.no_changes.ensures.tells) (never Tells);
    }

pub returns : goal.returns
returns g c =
    c.compare_named.ensures (g.K.Knowledge.allows c.args.old_known.now) (g.L.Knowledge.allows c.args.new_known.now) c.args.matching.now
    c.in_ok-naming.ensures.known
