use Rattle.std.proofs.Common.{◌≡◌, ◌<◌, ◌∙◌, ◌&&◌, ℕ, Bool, true, false, ap, arith, inl, inr, get_or, refl, subst, sym}
use Rattle.std.specs.Prelude.{not}
use Rattle.std.proofs.lemmas.Bool.{and_from, and_parts, false≢true}
use Rattle.pam_codes.specs.Code.{all_codes}
use Rattle.pam_codes.specs.Set.{IsCodeSet, codes_where, is_in}
use Rattle.pam_codes.specs.inner.SetBits.{is_in-codes_where}
use Rattle.pam_dispatch.specs.Flat.{rest_of}
use Rattle.pam_compare.specs.inner.Naming.{IsPossible}
use Rattle.pam_compare.specs.declared.nodes.Way.{Way}
use Rattle.pam_compare.specs.inner.Ways.{AreBelow, IsFresh}
use Rattle.pam_compare.specs.inner.Nodes.{IsMet}
use Rattle.pam_compare.specs.Walks.{new_after, old_after, turn_name}
use Rattle.pam_paths.proofs.Sets.{where-is_set}
use Rattle.pam_compare.proofs.Fewer.{fewer-left}
use Rattle.pam_compare.proofs.Growing.{held-kept, longer, met-kept, nodes-both, nodes-same}
use Rattle.pam_compare.proofs.Holding.{taken-out, where-low, where-passes}
use Rattle.pam_compare.proofs.Possible.{in-common}
use Rattle.pam_compare.proofs.Classes.{one-back, one-through}
use Rattle.pam_compare.proofs.Stepping.{below-more, one-of, rising-more}
use Rattle.pam_compare.proofs.Choosing.{first-narrow}
use Rattle.pam_compare.proofs.Walking.{walk-kept}
use Rattle.pam_compare.proofs.Reaching.{way-kept}
use Rattle.pam_compare.proofs.expanding.expand.Goals as goal

not-in : (b : Bool) → not b ≡ true → b ≡ false
not-in true e = absurd (false≢true e)
not-in false e = refl

pub loop-code-init : goal.loop-code-init
unfolding AreBelow
loop-code-init c = record {
  keeps = nodes-same _;
  nodes = c.requires.nodes;
  reached = c.requires.reached;
  walked = c.requires.walked;
  ordered = record { unique = c.requires.ordered.unique; below = below-more c.args.nodes.now.ways.items c.args.fork.now.index c.requires.ordered.below; rising = c.requires.ordered.rising };
  apart = λ j w first at is. let less = c.requires.ordered.below j w first at in absurd (omega (arith, less, is));
  closed = λ x d low here member one. member;
  within = λ d h. h;
  met = λ a can holds out. absurd (false≢true (sym out ∙ c.codes_at-left.ensures.kept a can holds));
}

pub follow-requires-clause-within : goal.follow-requires-clause-within
follow-requires-clause-within c = longer _ _ c.args.fork.now.index c.loop-code.invariant.keeps.situations c.requires.within

pub follow-requires-clause-way : goal.follow-requires-clause-way
follow-requires-clause-way c = way-kept _ _ _ _ _ _ _ _ _ _ c.loop-code.invariant.keeps.ways c.requires.way

pub follow-requires-clause-held : goal.follow-requires-clause-held
follow-requires-clause-held c = held-kept _ _ c.args.fork.now.index _ c.loop-code.invariant.keeps c.requires.within c.requires.held

pub follow-requires-clause-step : goal.follow-requires-clause-step
follow-requires-clause-step c =
    let code = c.in-Some.code in
    let low = c.in-Some.ensures.low in
    let member = c.in-Some.ensures.member in
    let test : ℕ → Bool = λ x. is_in x c.class_of.result && is_in x c.loop-code.left in
    let name = c.turn_name-name.ensures in
    let listed : (d : ℕ) → is_in d c.intersection-class.result ≡ true → is_in d (codes_where test) ≡ true =
    λ d h. sym (ap (is_in d) c.intersection-class.ensures) ∙ h in
    let parts : (d : ℕ) → is_in d c.intersection-class.result ≡ true → (is_in d c.class_of.result ≡ true) × (is_in d c.loop-code.left ≡ true) =
    λ d h. and_parts (is_in d c.class_of.result) (is_in d c.loop-code.left) (where-passes test d (listed d h)) in
    let possible = c.args.pair.now.naming.now.possible.items in
    let here : is_in code c.intersection-class.result ≡ true =
    ap (is_in code) c.intersection-class.ensures ∙ in-common c.class_of.result c.loop-code.left code low (c.class_of.ensures.own low) member in
    record {
      turn_is = c.requires.turn;
      name = name;
      member = here;
      usual = first-narrow c.loop-code.left c.intersection-class.result code (sym c.in-Some.ensures.first) (λ d h. (parts d h).1) here;
      low = λ d h. where-low test d (listed d h);
      within = λ d h. subst (λ (n : ℕ). is_in d (get_or possible n all_codes) ≡ true) (sym name)
          (c.codes_at-left.ensures.within d (c.loop-code.invariant.within d (parts d h).1));
      narrows = λ i h at same d member. c.codes_at-left.ensures.left i h at (same ∙ name) d (c.loop-code.invariant.within d (parts d member).1);
      alike = λ d h. c.class_of.ensures.alike d (where-low test d (listed d h)) (parts d h).0;
    }

pub loop-code-smaller : goal.loop-code-smaller
loop-code-smaller c =
    let code = c.in-Some.code in
    let low = c.in-Some.ensures.low in
    let member = c.in-Some.ensures.member in
    fewer-left c.loop-code.left c.intersection-class.result _ code low member
    (ap (is_in code) c.intersection-class.ensures ∙ in-common c.class_of.result c.loop-code.left code low (c.class_of.ensures.own low) member)
    c.without-left.ensures

pub loop-code-preserved : goal.loop-code-preserved
unfolding IsPossible AreBelow
loop-code-preserved c =
    let inv = c.loop-code.invariant in
    let step = c.in_ok-follow.ensures in
    let old = c.args.pair.now.old.now in
    let new = c.args.pair.now.new.now in
    let turn = c.args.fork.now.turn in
    let left = rest_of old c.args.fork.now.node.now.old in
    let right = rest_of new c.args.fork.now.node.now.new in
    let code = c.in-Some.code in
    let test : ℕ → Bool = λ x. is_in x c.loop-code.left && not (is_in x c.intersection-class.result) in
    let way : Way = record { parent = c.args.fork.now.index; name = c.turn_name-name.result; code = code; class = c.intersection-class.result } in
    record {
      keeps = nodes-both _ _ _ inv.keeps step.keeps;
      nodes = step.nodes;
      reached = step.reached;
      walked = step.walked;
      ordered = record {
        unique = step.unique;
        below = λ j w first at. elim (one-of c.loop-code.nodes.ways.items c.follow.new.nodes.ways.items way step.more j w at) [
          | inl was ↦ inv.ordered.below j w first was
          | inr new ↦ let is = ap (λ (x : Way). x.parent) (sym new) in omega (arith, is)
        ];
        rising = rising-more c.loop-code.nodes.ways.items c.follow.new.nodes.ways.items way step.more inv.ordered.rising inv.ordered.below;
      };
      apart = λ j w first at is d here member. elim (one-of c.loop-code.nodes.ways.items c.follow.new.nodes.ways.items way step.more j w at) [
        | inl was ↦
            inv.apart j w first was is d
            (and_parts (is_in d c.loop-code.left) _ (where-passes test d (sym (ap (is_in d) c.without-left.ensures) ∙ here))).0 member
        | inr new ↦
            let out = (and_parts (is_in d c.loop-code.left) _ (where-passes test d (sym (ap (is_in d) c.without-left.ensures) ∙ here))).1 in
            false≢true (sym (not-in (is_in d c.intersection-class.result) out) ∙ ap (λ (x : Way). is_in d x.class) new ∙ member)
      ];
      closed = λ x d low here member one.
          let parts = and_parts (is_in x c.loop-code.left) _ (where-passes test x (sym (ap (is_in x) c.without-left.ensures) ∙ here)) in
          let small : x < 31 = where-low test x (sym (ap (is_in x) c.without-left.ensures) ∙ here) in
          let stays : is_in d c.loop-code.left ≡ true = inv.closed x d low parts.0 member one in
          let class : ℕ → Bool = λ y. is_in y c.class_of.result && is_in y c.loop-code.left in
          elim (is_in d c.intersection-class.result) as (λ (b : Bool). is_in d c.intersection-class.result ≡ b → is_in d c.without-left.result ≡ true) [
            | true ↦ λ e.
                let own : is_in d c.class_of.result ≡ true =
                (and_parts (is_in d c.class_of.result) (is_in d c.loop-code.left)
                (where-passes class d (sym (ap (is_in d) c.intersection-class.ensures) ∙ e))).0 in
                let same = one-through turn left right code d x (c.class_of.ensures.same d low own) (one-back turn left right x d one) in
                let too : is_in x c.intersection-class.result ≡ true =
                ap (is_in x) c.intersection-class.ensures
                ∙ in-common c.class_of.result c.loop-code.left x small (c.class_of.ensures.all x small parts.0 same) parts.0 in
                absurd (false≢true (sym (not-in (is_in x c.intersection-class.result) parts.1) ∙ too))
            | false ↦ λ e.
                ap (is_in d) c.without-left.ensures ∙ is_in-codes_where test d low ∙ and_from (is_in d c.loop-code.left) _ stays (ap not e)
          ] refl;
      within = λ d h. inv.within d (and_parts (is_in d c.loop-code.left) _ (where-passes test d (sym (ap (is_in d) c.without-left.ensures) ∙ h))).0;
      met = λ a can holds out.
          let name = turn_name c.args.pair.now.naming.now.names.items turn in
          let low = (can name).0 in
          let fails = sym (is_in-codes_where test (a name) low) ∙ sym (ap (is_in (a name)) c.without-left.ensures) ∙ out in
          elim (is_in (a name) c.loop-code.left) as (λ (b : Bool).
          is_in (a name) c.loop-code.left ≡ b → IsMet old new c.follow.new.nodes a (old_after turn left (a name)) (new_after turn right (a name))) [
            | true ↦ λ e. step.met a (λ n. (can n).0) holds (taken-out (is_in (a name) c.loop-code.left) (is_in (a name) c.intersection-class.result) e fails)
            | false ↦ λ e. met-kept old new _ _ a _ _ step.keeps (inv.met a can holds e)
          ] refl;
    }

pub follow-requires-clause-walk : goal.follow-requires-clause-walk
follow-requires-clause-walk c = walk-kept _ _ _ _ _ _ _ _ _ c.loop-code.invariant.keeps.ways c.requires.walk

pub follow-requires-clause-class : goal.follow-requires-clause-class
follow-requires-clause-class c =
    let code = c.in-Some.code in
    let low = c.in-Some.ensures.low in
    let member = c.in-Some.ensures.member in
    let inv = c.loop-code.invariant in
    let test : ℕ → Bool = λ x. is_in x c.class_of.result && is_in x c.loop-code.left in
    let listed : (d : ℕ) → is_in d c.intersection-class.result ≡ true → is_in d (codes_where test) ≡ true =
    λ d h. sym (ap (is_in d) c.intersection-class.ensures) ∙ h in
    let parts : (d : ℕ) → is_in d c.intersection-class.result ≡ true → (is_in d c.class_of.result ≡ true) × (is_in d c.loop-code.left ≡ true) =
    λ d h. and_parts (is_in d c.class_of.result) (is_in d c.loop-code.left) (where-passes test d (listed d h)) in
    record {
      set = subst IsCodeSet (sym c.intersection-class.ensures) (where-is_set test);
      within = λ d h. c.codes_at-left.ensures.within d (inv.within d (parts d h).1);
      kept = λ d h i x at same. c.codes_at-left.ensures.left i x at same d (inv.within d (parts d h).1);
      alike = λ d h. c.class_of.ensures.same d (where-low test d (listed d h)) (parts d h).0;
      all = λ d small can leaves one.
          let first : is_in d c.codes_at-left.result ≡ true = c.codes_at-left.ensures.all d small can leaves in
          let stays : is_in d c.loop-code.left ≡ true = inv.closed code d small member first one in
          ap (is_in d) c.intersection-class.ensures ∙ in-common c.class_of.result c.loop-code.left d small (c.class_of.ensures.all d small stays one) stays;
    }

pub follow-requires-clause-fresh : goal.follow-requires-clause-fresh
unfolding IsFresh
follow-requires-clause-fresh c j w first at parent class =
    let code = c.in-Some.code in
    let low = c.in-Some.ensures.low in
    let member = c.in-Some.ensures.member in
    let own : is_in code c.intersection-class.result ≡ true =
    ap (is_in code) c.intersection-class.ensures ∙ in-common c.class_of.result c.loop-code.left code low (c.class_of.ensures.own low) member in
    c.loop-code.invariant.apart j w first at parent code member (ap (is_in code) class ∙ own)
