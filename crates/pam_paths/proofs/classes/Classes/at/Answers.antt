use Rattle.std.proofs.Common.{◌≡◌, true, refl, sym, ap, subst, ◌∙◌}
use Rattle.std.proofs.lemmas.Bool.{false≢true}
use Rattle.pam_codes.specs.Code.{all_codes}
use Rattle.pam_codes.specs.Parts.{IsParts}
use Rattle.pam_codes.specs.Set.{codes_where, is_in}
use Rattle.pam_codes.specs.inner.SetBits.{is_in-codes_where}
use Rattle.pam_dispatch.specs.declared.state.Impression.TheVariants.{Negative}
use Rattle.pam_dispatch.specs.declared.state.State.{State}
use Rattle.pam_dispatch.specs.Flat.{rest_of}
use Rattle.pam_dispatch.specs.Runs.{Ask, next_ask}
use Rattle.pam_paths.specs.inner.Sharing.{is_offered_by}
use Rattle.pam_paths.proofs.OfferedCodes.{class-every, offered-by, past-every}
use Rattle.pam_paths.proofs.Sets.{everything}
use Rattle.pam_paths.proofs.classes.Classes.at.Goals as goal

pub returns-then-all_keep_failure : goal.returns-then-all_keep_failure
returns-then-all_keep_failure c =
    let r = rest_of c.args.program.now c.args.place.now in
    let parts = c.as_slice-parts.result.now in
    let divided : IsParts (next_ask r).control parts =
    subst (IsParts (next_ask r).control) (sym c.as_slice-parts.ensures) (c.parts.ensures.asked c.args.place.now c.requires.place c.requires.asking) in
    let at = ap (λ (a : Ask). a.state) c.asked-asked.ensures in
    let failed : (next_ask r).state.impression ≡ Negative =
    ap (λ (s : State). s.impression) (sym (c.state.ensures ∙ at)) ∙ c.has_failed.ensures.failed c.if-has_failed.true in
    let kept = c.all_keep_failure.ensures c.if-all_keep_failure.true in
    record {
      offered = λ allows is.
          offered-by allows r c.args.module_number c.args.allowed c.of_one.result.offered c.requires.asking is
          (past-every (next_ask r) parts divided failed kept c.args.allowed all_codes c.of_one.result.offered refl c.of_one.ensures.offered);
      classes = record {
        alone = λ d low h.
            absurd (false≢true (sym h ∙ ap (is_in d) (c.of_one.ensures.shared ∙ everything) ∙ is_in-codes_where (λ x. true) d low));
        whole = λ d low h. class-every (next_ask r) parts divided failed kept d low ∙ sym c.of_one.ensures.known;
        earlier = λ d low h. class-every (next_ask r) parts divided failed kept d low ∙ sym c.of_one.ensures.earlier;
      };
      control = c.parts.ensures.control;
    }

pub returns-clause-offered : goal.returns-clause-offered
returns-clause-offered c allows is =
    offered-by allows (rest_of c.args.program.now c.args.place.now) c.args.module_number c.args.allowed c.by_parts.result.offered c.requires.asking is
    (c.by_parts.ensures.offered ∙ ap (λ (a : Ask). codes_where (is_offered_by c.args.allowed a)) c.asked-asked.ensures)
