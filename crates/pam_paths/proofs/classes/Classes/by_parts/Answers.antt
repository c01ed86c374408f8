use Rattle.std.proofs.Common.{ℕ, false, true, Option, Some, take, ◌<◌, ◌≡◌, sym, ap, refl, subst, ◌∙◌}
use Rattle.std.specs.Prelude.{IfSome, IsTrue}
use Rattle.std.specs.List.{list_any}
use Rattle.std.proofs.lemmas.Bool.{false≢true}
use Rattle.pam_codes.specs.Parts.{IsPart}
use Rattle.pam_codes.specs.Set.{is_in}
use Rattle.pam_dispatch.specs.Runs.{outcome_of}
use Rattle.pam_paths.specs.Classes.{class_at, same_outcome}
use Rattle.pam_paths.specs.inner.Sharing.{is_shared, shared_code}
use Rattle.pam_paths.proofs.Alone.{alone-all, alone-kept, alone-more}
use Rattle.pam_paths.proofs.OfferedCodes.{class-alone, class-whole, past-all, past-first, past-kept, past-more, past-some, seen-kept, seen-more, seen-other}
use Rattle.pam_paths.proofs.Sharing.{Member-is_in, code_low, nothing_passes}
use Rattle.pam_paths.proofs.classes.Classes.by_parts.Goals as goal
use Rattle.pam_paths.proofs.classes.Classes.by_parts.Goals.{in-Some, in_default}

pub loop-part-init : goal.loop-part-init
loop-part-init c =
    let ask = c.args.asked.now in
    record {
      offered = past-first ask c.args.allowed c.args.parts.now c.requires.allowed;
      seen = nothing_passes c.empty-seen.result (λ d. list_any (is_shared ask d) (take 0 c.args.parts.now)) c.empty-seen.ensures (λ d low. refl);
      alone = λ d low h. absurd (false≢true (sym (ap (is_in d) c.empty-seen.ensures) ∙ h));
      whole = λ d low h. absurd (false≢true (sym (ap (is_in d) c.empty-known.ensures) ∙ h));
      earlier = λ d low h. absurd (false≢true (sym (ap (is_in d) c.empty-earlier.ensures) ∙ h));
    }

pub loop-part-preserved : goal.loop-part-preserved
loop-part-preserved c =
    let ask = c.args.asked.now in
    let parts = c.args.parts.now in
    let i = c.loop-part.part-index in
    let part = c.part-item.result in
    let l = c.loop-part.invariant in
    let at = c.state.ensures in
    elim c.match-unseen_code.branch [
      | in-Some w ↦
          let code = w.in-Some.code in
          let class = w.class_at-class.result in
          let of : shared_code part ask.state ≡ Some code = ap (shared_code part) (sym at) ∙ w.in-Some.ensures.some in
          let own : IsPart ask.control part =
          subst (IsPart ask.control) (sym c.part-item.is) (c.requires.parts.each_part i part c.loop-part-test.true) in
          let low : code < 31 = code_low part.codes code own.set (Member-is_in part.codes code w.in-Some.ensures.inside) in
          let other : (d : ℕ) → d < 31 → is_in d c.loop-part.seen ≡ true → same_outcome w.outcome.result (outcome_of ask d) ≡ false =
          λ d small there.
          seen-other ask (take i parts) c.loop-part.seen code d w.outcome.result l.seen low small w.outcome.ensures
          w.in-Some.ensures.unseen there in
          let is = w.class_at-class.ensures other ∙ ap (class_at ask) (sym w.outcome.ensures) in
          record {
            offered = w.offered-is
                ∙ past-more ask c.args.allowed parts i part c.loop-part.offered w.with_least-offered.result c.loop-part-test.true c.part-item.is l.offered
                (past-some ask c.loop-part.offered w.with_least-offered.result class part code of is w.with_least-offered.ensures);
            seen = w.seen-is
                ∙ seen-more ask parts i part c.loop-part.seen c.loop-part-test.true c.part-item.is l.seen class w.union-seen.result code of is
                w.union-seen.ensures;
            alone = alone-more ask c.loop-part.seen _ c.loop-part.shared _ class code is (w.seen-is ∙ w.union-seen.ensures)
                (w.shared-is ∙ w.with_several-shared.ensures) l.alone;
            whole = λ d low h.
                class-whole ask class code d is low (sym (ap (is_in d) w.known-is) ∙ h) ∙ sym w.known-is;
            earlier = λ d low h. l.whole d low (sym (ap (is_in d) w.earlier-is) ∙ h) ∙ sym w.earlier-is;
          }
      | in_default w ↦
          let seen : IfSome (shared_code part ask.state) (λ d. IsTrue (is_in d c.loop-part.seen)) =
          subst (λ (x : Option ℕ). IfSome x (λ d. IsTrue (is_in d c.loop-part.seen)))
          (ap (shared_code part) at) w.in_default.ensures.none in
          record {
            offered = w.offered-is
                ∙ past-kept ask parts i part c.loop-part.seen c.loop-part-test.true c.part-item.is l.seen c.args.allowed c.loop-part.offered seen l.offered;
            seen = w.seen-is ∙ seen-kept ask parts i part c.loop-part.seen c.loop-part-test.true c.part-item.is l.seen seen;
            alone = alone-kept ask c.loop-part.seen _ c.loop-part.shared _ w.seen-is w.shared-is l.alone;
            whole = λ d low h. l.whole d low (sym (ap (is_in d) w.known-is) ∙ h) ∙ sym w.known-is;
            earlier = λ d low h. l.earlier d low (sym (ap (is_in d) w.earlier-is) ∙ h) ∙ sym w.earlier-is;
          }
    ]

pub returns-clause-offered : goal.returns-clause-offered
returns-clause-offered c =
    past-all c.args.asked.now c.args.parts.now c.requires.parts c.args.allowed c.loop-part.offered
    c.loop-part.part-index c.loop-part-test.false c.loop-part.invariant.offered

pub returns-clause-classes : goal.returns-clause-classes
returns-clause-classes c = record {
  alone = alone-all c.args.asked.now c.loop-part.seen c.loop-part.shared c.loop-part.invariant.alone
      (class-alone c.args.asked.now c.args.parts.now c.requires.parts c.loop-part.seen c.loop-part.part-index
      c.loop-part-test.false c.loop-part.invariant.seen);
  whole = c.loop-part.invariant.whole;
  earlier = c.loop-part.invariant.earlier;
}
