use Rattle.std.proofs.Common.{◌≡◌, Option, None}
use Rattle.std.specs.Prelude.{IfSome}
use Rattle.pam_compare.specs.declared.change.Change.{Change}
use Rattle.pam_compare.specs.declared.change.Change.TheVariants.{Admits, Refuses, Tells}
use Rattle.pam_compare.specs.declared.witness.Witness.{Witness}
use Rattle.pam_compare.specs.Comparison.{IsShown, IsWitness}
use Rattle.pam_compare.specs.inner.Nodes.{found_at}
use Rattle.pam_compare.specs.inner.Turn.{first_of}
use Rattle.pam_compare.specs.inner.Ways.{AreEnds}
use Rattle.pam_compare.proofs.Agreeing.{shown}
use Rattle.pam_compare.proofs.Preferring.{nearest}
use Rattle.pam_compare.proofs.comparing.changes_of.Goals as goal

pub witness_at-requires-clause-end : goal.witness_at-requires-clause-end
unfolding AreEnds
witness_at-requires-clause-end c k is = (Admits, c.requires.ends Admits k is)

pub witness_at-requires-2-clause-end : goal.witness_at-requires-2-clause-end
unfolding AreEnds
witness_at-requires-2-clause-end c k is = (Refuses, c.requires.ends Refuses k is)

pub witness_at-requires-3-clause-end : goal.witness_at-requires-3-clause-end
unfolding AreEnds
witness_at-requires-3-clause-end c k is = (Tells, c.requires.ends Tells k is)

pub returns : goal.returns
unfolding AreEnds
returns c old_allows new_allows partners told searched =
    let old = c.args.pair.now.old.now in
    let new = c.args.pair.now.new.now in
    let naming = c.args.pair.now.naming.now in
    let found = c.args.searched.now.found in
    let ways = c.args.searched.now.nodes.ways.items in
    let near = nearest old new naming ways found in
    let Shown : (change : Change) (w : Option Witness) → IfSome w (IsWitness old_allows new_allows old new partners change) →
    (w ≡ None → found_at found change ≡ None) → IsShown old_allows new_allows old new partners change w =
    shown old_allows new_allows old new partners naming.names.items told.names naming.possible.items told.possible c.modules-old_modules.ensures.rise
    c.modules-new_modules.ensures.rise (first_of naming.ranks) ways found searched in
    record {
      admits = Shown Admits c.in_ok-admits.admits
          (c.in_ok-admits.ensures.witness old_allows new_allows partners Admits told (λ k is. c.requires.ends Admits k is) (λ k is. near Admits k searched is))
          c.in_ok-admits.ensures.none;
      refuses = Shown Refuses c.in_ok-refuses.refuses
          (c.in_ok-refuses.ensures.witness old_allows new_allows partners Refuses told (λ k is. c.requires.ends Refuses k is)
          (λ k is. near Refuses k searched is)) c.in_ok-refuses.ensures.none;
      tells = Shown Tells c.in_ok-tells.tells
          (c.in_ok-tells.ensures.witness old_allows new_allows partners Tells told (λ k is. c.requires.ends Tells k is) (λ k is. near Tells k searched is))
          c.in_ok-tells.ensures.none;
    }
