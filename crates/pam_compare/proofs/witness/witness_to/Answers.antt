use Rattle.std.proofs.Common.{◌≡◌, ◌∙◌, ℕ, List, ap, subst, sym}
use Rattle.pam_dispatch.specs.Flat.{modules_of, rest_of, runs_of}
use Rattle.pam_dispatch.specs.Runs.{Assignment, answers_of}
use Rattle.std.specs.List.{AllByRecursion}
use Rattle.pam_compare.specs.declared.nodes.Way.{Way}
use Rattle.pam_compare.specs.declared.witness.Witness.{Witness}
use Rattle.pam_compare.specs.Comparison.{IsPreferred, decision_in}
use Rattle.pam_compare.specs.Names.{by_name}
use Rattle.pam_compare.specs.inner.Naming.{by_code}
use Rattle.pam_compare.specs.inner.Trails.{AreAnswers, Follows, IsTrail, answers_on}
use Rattle.pam_compare.specs.inner.Ways.{AreWalked, IsFit}
use Rattle.pam_compare.proofs.Preferring.{is-preferred}
use Rattle.pam_compare.proofs.Reaching.{possible-on, way-at}
use Rattle.pam_compare.proofs.Trails.{one-trail}
use Rattle.pam_compare.proofs.Walking.{walk-at}
use Rattle.pam_compare.proofs.Witnessing.{is-witness}
use Rattle.pam_compare.proofs.witness.witness_to.Goals as goal

pub trail_to-requires : goal.trail_to-requires
trail_to-requires c =
    let end = c.requires.end.1 in
    let r = c.requires.reached.reached c.args.index end.situation end.is_there in
    (r.way.trail, subst (λ (l : List Way). IsTrail l c.args.index r.way.trail) (sym c.deref.ensures.value) r.way.is_trail)

pub returns : goal.returns
unfolding AreWalked
returns c old_allows new_allows partners change told end near =
    let pair = c.args.pair.now in
    let naming = pair.naming.now in
    let r = c.requires.reached.reached c.args.index end.situation end.is_there in
    let way = way-at pair.old.now pair.new.now naming.names.items naming.possible.items c.args.nodes.now c.args.index end.situation end.node r end.is_at in
    let base : Assignment = by_code c.args.usual.now in
    let trail : c.in_ok-trail.trail.items ≡ way.trail =
    one-trail c.args.nodes.now.ways.items c.args.index c.in_ok-trail.trail.items way.trail
    (subst (λ (l : List Way). IsTrail l c.args.index c.in_ok-trail.trail.items) c.deref.ensures.value c.in_ok-trail.ensures) way.is_trail in
    let a : Assignment = answers_on base way.trail in
    let old = pair.old.now in
    let new = pair.new.now in
    let of_old : AreAnswers (modules_of old) a c.in_ok-old_codes.old_codes.items =
    subst (λ (l : List Way). AreAnswers (modules_of old) (answers_on base l) c.in_ok-old_codes.old_codes.items) (c.deref-2.ensures.value ∙ trail)
    (subst (λ (n : ℕ). AreAnswers n (answers_on base c.deref-2.result.now) c.in_ok-old_codes.old_codes.items) c.modules.ensures.count
    c.in_ok-old_codes.ensures) in
    let of_new : AreAnswers (modules_of new) (by_name naming.names.items a) c.in_ok-new_codes.new_codes.items =
    subst (λ (l : List ℕ). AreAnswers (modules_of new) (by_name l a) c.in_ok-new_codes.new_codes.items) c.deref-3.ensures.value
    (subst (λ (l : List Way). AreAnswers (modules_of new) (by_name c.deref-3.result.now (answers_on base l)) c.in_ok-new_codes.new_codes.items)
    (c.deref-4.ensures.value ∙ trail)
    (subst (λ (n : ℕ). AreAnswers n (by_name c.deref-3.result.now (answers_on base c.deref-4.result.now)) c.in_ok-new_codes.new_codes.items)
    c.modules-2.ensures.count c.in_ok-new_codes.ensures)) in
    let walk = walk-at old new naming c.args.nodes.now c.args.index end.situation end.node (c.requires.walked c.args.index end.situation end.is_there)
    end.is_at in
    let same : way.trail ≡ walk.trail = one-trail c.args.nodes.now.ways.items c.args.index way.trail walk.trail way.is_trail walk.is_trail in
    let w : Witness = record {
      old_codes = c.in_ok-old_codes.old_codes;
      new_codes = c.in_ok-new_codes.new_codes;
      old = c.decided-old.result;
      new = c.decided-new.result;
    } in
    let preferred : IsPreferred old_allows new_allows old new partners change w =
    is-preferred old_allows new_allows old new partners naming told c.requires.naming c.modules.ensures.rise c.modules-2.ensures.rise c.args.usual.now
    c.requires.usual c.requires.first c.args.nodes.now.ways.items c.args.index (rest_of old end.node.old) (rest_of new end.node.new) end.node.held walk
    end.old_ends end.new_ends change near
    (subst (AllByRecursion (IsFit naming.possible.items)) same way.fits)
    (subst (λ (l : List Way). Follows (answers_on base l) l) same (way.follows base)) w
    (subst (λ (l : List Way). AreAnswers (modules_of old) (answers_on base l) w.old_codes.items) same of_old)
    (subst (λ (l : List Way). AreAnswers (modules_of new) (by_name naming.names.items (answers_on base l)) w.new_codes.items) same of_new) in
    is-witness old_allows new_allows old new partners naming.names.items naming.possible.items told.names told.exact c.modules.ensures.rise c.modules-2.ensures.rise
    (rest_of old end.node.old) (rest_of new end.node.new) change end.change_is a (possible-on naming.possible.items base way.trail c.requires.usual way.fits)
    (way.old_comes a (way.follows base)) (way.new_comes a (way.follows base)) w of_old of_new
    (c.decided-old.ensures ∙ ap (λ (l : List ℕ). decision_in (runs_of old) (answers_of l)) c.deref-5.ensures.value)
    (c.decided-new.ensures ∙ ap (λ (l : List ℕ). decision_in (runs_of new) (answers_of l)) c.deref-6.ensures.value) preferred
