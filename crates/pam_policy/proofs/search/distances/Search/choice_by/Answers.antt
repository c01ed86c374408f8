use Rattle.std.proofs.Common.{◌∙◌, List, ap, sym, ℕ}
use Rattle.std.specs.Prelude.{◌&&◌}
use Rattle.pam_codes.specs.Set.{codes_where, is_in}
use Rattle.pam_paths.specs.Known.{may_answer}
use Rattle.pam_policy.proofs.SearchProofs.Best.{choices-all, choices-more, choices-none}
use Rattle.pam_policy.proofs.SearchProofs.Nodes.{answer-chosen, left-in}
use Rattle.pam_policy.proofs.search.distances.Search.choice_by.Goals as goal

pub loop-code-init : goal.loop-code-init
loop-code-init c =
    let search = c.args.self.now in
    let edge = c.args.edge.now in
    let is = c.intersection-left.ensures ∙ ap (λ (xs : List ℕ). codes_where (λ d. is_in d edge.class && is_in d xs)) c.allowed.ensures in
    record {
      may = λ code h. answer-chosen (may_answer search.known.now) c.args.number edge.class code (sym (ap (is_in code) is) ∙ h);
      first = λ known knows. choices-none search known c.args.number c.args.state c.args.distance edge c.intersection-left.result is;
    }

pub loop-code-preserved : goal.loop-code-preserved
loop-code-preserved c =
    let search = c.args.self.now in
    let edge = c.args.edge.now in
    let left = c.loop-code.left in
    record {
      may = λ code h. c.loop-code.invariant.may code (left-in left code (sym (ap (is_in code) c.take_least.ensures.rest) ∙ h));
      first = λ known knows.
          choices-more search known c.args.number c.args.state c.args.distance edge left c.take_least.new.self c.in-Some.code c.loop-code.first
          c.choice_at-choice.result c.first_of-first.result (sym c.in-Some.ensures.first) c.take_least.ensures.rest c.loop-code.invariant.may
          c.first_of-first.ensures (c.loop-code.invariant.first known knows) (c.choice_at-choice.ensures known knows);
    }

pub returns : goal.returns
returns c known knows =
    choices-all c.args.self.now known c.args.number c.args.state c.args.distance c.args.edge.now c.loop-code.left c.loop-code.first
    (sym c.in_default.ensures.first) (c.loop-code.invariant.first known knows)
