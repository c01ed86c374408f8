use Rattle.std.proofs.Common.{ℕ, refl, subst, sym}
use Rattle.pam_compare.specs.inner.Held.{held_in}
use Rattle.pam_compare.specs.inner.HeldLists.{IsListed}
use Rattle.pam_compare.proofs.Growing.{keeps-same, tables-grown}
use Rattle.pam_compare.proofs.nodes.Nodes.situation_of.Goals as goal

pub returns-clause-keeps : goal.returns-clause-keeps
returns-clause-keeps c = record {
  of_old = c.in_ok-old.ensures.keeps;
  of_new = c.in_ok-new.ensures.keeps;
  held_lists = c.in_ok-held.ensures.keeps;
  situations = keeps-same _;
  ways = keeps-same _;
}

pub returns-clause-nodes : goal.returns-clause-nodes
returns-clause-nodes c old new held are is here there =
    tables-grown old new c.args.self.now _ (returns-clause-keeps c) refl (c.in_ok-old.ensures.places old are.of_old here)
    (c.in_ok-new.ensures.places new are.of_new there) (c.in_ok-old.ensures.ends old are.of_old are.old_ends here)
    (c.in_ok-new.ensures.ends new are.of_new are.new_ends there)
    (c.in_ok-held.ensures.links held are.links
    (subst (λ (n : ℕ). IsListed c.args.self.now.held_lists.links.keys n held) (sym c.list_at-before.ensures) is)) are

pub returns-clause-at : goal.returns-clause-at
returns-clause-at c old new held are is here there =
    let p = c.in_ok-old.ensures.found old are.of_old are.old_ends here in
    let q = c.in_ok-new.ensures.found new are.of_new are.new_ends there in
    record {
      node = record { old = p.0; new = q.0; held = held_in c.args.after.now held };
      is_at = record {
        old = p.1;
        new = q.1;
        held = c.in_ok-held.ensures.listed held are.links
            (subst (λ (n : ℕ). IsListed c.args.self.now.held_lists.links.keys n held) (sym c.list_at-before.ensures) is);
      };
      left_is = p.2;
      right_is = q.2;
      held_is = refl;
    }
