use Rattle.std.proofs.Common.{◌≡◌, ◌||◌, ◌∷◌, ◌∙◌, ℕ, ap, arith, Bool, false, get_or, slice_set, subst, sym}
use Rattle.pam_dispatch.specs.Flat.{level_of}
use Rattle.pam_dispatch.specs.inner.ReadLevels.{AreReadLevels}
use Rattle.pam_dispatch.specs.Representatives.{resets}
use Rattle.pam_dispatch.proofs.ReadTables.{levels-item}
use Rattle.pam_dispatch.proofs.read_levels.levels_from.Goals as goal
use Rattle.pam_dispatch.proofs.read_levels.levels_from.Goals.{then-resets, else-resets}

pub returns : goal.returns
returns c rest read =
    let item = c.args.flat_item.now in
    let levels = c.loop-level.levels in
    let at : c.level-here.result ≡ level_of item = c.level-here.ensures in
    let own : c.if-resets.is_read ≡ (resets item || get_or levels (level_of item) false) = elim c.if-resets.branch [
      | then-resets w ↦
          w.is_read-is ∙ w.if-resets.true
          ∙ ap (λ (b : Bool). b || get_or levels (level_of item) false) (sym (sym c.resets.ensures ∙ w.if-resets.true))
      | else-resets w ↦
          w.is_read-is ∙ ap (λ (h : ℕ). get_or levels h false) at
          ∙ ap (λ (b : Bool). b || get_or levels (level_of item) false) (sym (sym c.resets.ensures ∙ w.if-resets.false))
    ] in
    subst (λ (h : ℕ). AreReadLevels (item ∷ rest) (slice_set levels h c.if-resets.is_read)) (sym at)
    (levels-item item rest c.args.after.now levels c.if-resets.is_read read c.requires c.loop-level.invariant.long
    (λ n k. c.loop-level.invariant.low n (omega (arith, at, k)))
    (λ n k small. c.loop-level.invariant.high n (omega (arith, at, k)) (omega (arith, small, c.loop-level-test.false)))
    own)
