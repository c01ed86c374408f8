use Rattle.std.proofs.Common.{◌∙◌, List, ap, refl, sym, ℕ}
use Rattle.std.specs.Prelude.{◌&&◌}
use Rattle.pam_codes.specs.Set.{codes_where, is_in}
use Rattle.pam_paths.specs.Known.{may_answer}
use Rattle.pam_policy.proofs.SearchProofs.Nodes.{answer-chosen, left-in, taken-all, taken-more, taken-none}
use Rattle.pam_policy.proofs.search.distances.Search.distance_by.Goals as goal

pub loop-code-init : goal.loop-code-init
loop-code-init c =
    let search = c.args.self.now in
    let edge = c.args.edge.now in
    let allows = may_answer search.known.now in
    let is = c.intersection-left.ensures ∙ ap (λ (xs : List ℕ). codes_where (λ d. is_in d edge.class && is_in d xs)) c.allowed.ensures in
    record {
      may = λ code h. answer-chosen allows c.args.number edge.class code (sym (ap (is_in code) is) ∙ h);
      least = λ known knows. taken-none allows search.query.now known c.args.number c.args.state edge c.intersection-left.result 65535 refl is;
    }

pub loop-code-preserved : goal.loop-code-preserved
loop-code-preserved c =
    let search = c.args.self.now in
    let left = c.loop-code.left in
    record {
      may = λ code h. c.loop-code.invariant.may code (left-in left code (sym (ap (is_in code) c.take_least.ensures.rest) ∙ h));
      least = λ known knows.
          taken-more (may_answer search.known.now) search.query.now known c.args.number c.args.state c.args.edge.now left c.take_least.new.self c.in-Some.code
          c.loop-code.least c.distance_after.result c.min-least.result (sym c.in-Some.ensures.first) c.take_least.ensures.rest c.loop-code.invariant.may
          c.min-least.ensures (c.loop-code.invariant.least known knows) (c.distance_after.ensures known knows);
    }

pub returns : goal.returns
returns c known knows =
    let search = c.args.self.now in
    taken-all (may_answer search.known.now) search.query.now known c.args.number c.args.state c.args.edge.now c.loop-code.left c.loop-code.least
    (sym c.in_default.ensures.first) (c.loop-code.invariant.least known knows)
