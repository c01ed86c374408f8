use Rattle.std.proofs.Common.{◌+◌, ◌∙◌, Option, ap, refl, sym, ℕ}
use Rattle.std.specs.Option.{option_map}
use Rattle.pam_changes.specs.Modules.{pair_of}
use Rattle.pam_changes.specs.declared.modules.MatchedPair.{MatchedPair}
use Rattle.pam_changes.proofs.Listing.{gives, gives-none}
use Rattle.pam_changes.proofs.modules.matched_pairs.Goals.{in-Some+in_ok-push, in_default}
use Rattle.pam_changes.proofs.modules.matched_pairs.Goals as goal

pub loop-index-preserved : goal.loop-index-preserved
loop-index-preserved c =
    let n = c.loop-index.index in
    let make : Option ℕ → Option MatchedPair = option_map (λ partner. record { old = partner; new = n + 1 }) in
    elim c.match-partner.branch [
      | in-Some+in_ok-push w ↦
          rw w.pairs-is (gives (pair_of c.args.matching.now) n (n + 1) refl c.loop-index.pairs.items _ c.loop-index.invariant _
          (ap make (sym c.partner.ensures ∙ w.in-Some.is)) w.in_ok-push.ensures.items)
      | in_default w ↦
          rw w.pairs-is (gives-none (pair_of c.args.matching.now) n (n + 1) refl c.loop-index.pairs.items _ c.loop-index.invariant
          (ap make (sym c.partner.ensures ∙ w.in_default.is)) refl)
    ]
