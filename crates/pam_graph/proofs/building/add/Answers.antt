use Rattle.std.proofs.Common.{subst, sym}
use Rattle.pam_dispatch.specs.Keys.{DiffersFrom, KeyValue}
use Rattle.pam_graph.proofs.building.add.Goals as goal

pub push-requires : goal.push-requires
push-requires c = subst (λ (k : KeyValue). DiffersFrom k c.args.draft.now.places) (sym c.key_at.ensures.key) c.requires.new
