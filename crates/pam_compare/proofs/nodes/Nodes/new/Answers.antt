use Rattle.std.proofs.Common.{arith}
use Rattle.std.proofs.lemmas.Option.{slice_get_within}
use Rattle.pam_compare.proofs.nodes.Nodes.new.Goals as goal

pub returns-clause-nodes : goal.returns-clause-nodes
returns-clause-nodes c old new = record {
  of_old = c.new.ensures.places old;
  of_new = c.new-2.ensures.places new;
  old_ends = c.new.ensures.ends old;
  new_ends = c.new-2.ensures.ends new;
  links = c.new-3.ensures;
  within = λ k s at. let inside = slice_get_within _ k s at in absurd (omega (arith, inside, c.new-4.ensures.len));
  listed = λ k s at. let inside = slice_get_within _ k s at in absurd (omega (arith, inside, c.new-4.ensures.len));
}
