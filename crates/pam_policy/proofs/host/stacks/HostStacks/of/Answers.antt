use Rattle.pam_policy.proofs.host.stacks.HostStacks.of.Goals as goal

pub returns-clause-stacks : goal.returns-clause-stacks
returns-clause-stacks c = record {
  services = c.in_ok-services.ensures;
  places = c.in_ok-places.ensures.places.order;
  have_classes = c.in_ok-places.ensures.places.places;
  graphs = c.in_ok-places.ensures.places.are_found.graphs;
}
