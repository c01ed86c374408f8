use Rattle.std.proofs.Common.{refl}
use Rattle.pam_conf.specs.inner.ByKind.{indices_of}
use Rattle.pam_conf.proofs.by_kind.ByKind.new.Goals as goal

pub returns : goal.returns
unfolding indices_of
returns c = rw (c.new.ensures.items, c.new-2.ensures.items, c.new-3.ensures.items, c.new-4.ensures.items) refl
