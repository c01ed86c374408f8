use Rattle.std.proofs.Common.{◌∙◌, ap, subst, sym}
use Rattle.std.specs.Option.{option_map}
use Rattle.pam_policy.specs.host.HostStacks.{HasGraph}
use Rattle.pam_policy.specs.host.Stacks.{known_site}
use Rattle.pam_policy.specs.host.Told.{told_class}
use Rattle.pam_policy.proofs.HostProofs.Found.{all-pushed}
use Rattle.pam_policy.proofs.HostProofs.Told.{IfGraph, have-graphs, mapped-next}
use Rattle.pam_policy.proofs.host.told.sites_of.Goals as goal

pub loop-class-preserved : goal.loop-class-preserved
loop-class-preserved c =
    let class = c.class-item.result in
    record {
      known = mapped-next (option_map known_site) (told_class c.args.facts.now) c.args.classes.now c.loop-class.class-index class c.loop-class.sites.items
          _ _ c.in_ok-push.ensures.items c.loop-class-test.true (c.site_of.ensures.known ∙ ap (told_class c.args.facts.now) c.class-item.is)
          c.loop-class.invariant.known;
      graphs = λ all.
          all-pushed IfGraph c.loop-class.sites.items _ _ c.in_ok-push.ensures.items (c.loop-class.invariant.graphs all)
          (c.site_of.ensures.graph (subst HasGraph (sym c.class-item.is) (all c.loop-class.class-index class c.loop-class-test.true)));
    }

pub returns-clause-graphs : goal.returns-clause-graphs
returns-clause-graphs c all = have-graphs c.loop-class.sites.items (c.loop-class.invariant.graphs all)
