use Rattle.std.proofs.Common.{◌∙◌, ◌∷◌, List, ℕ, [], ap, drop, refl, sym, true}
use Rattle.pam_codes.proofs.Firsts.{first_and_rest, none_first}
use Rattle.pam_codes.proofs.SetNames.{less_codes}
use Rattle.pam_codes.proofs.Writing.{all-none, all-then, err-front, front-is, front-longer, front-then, writes-is, writes-then}
use Rattle.pam_render.proofs.JsonLinesProofs.Arrays.{item-more, items-all, rest_text}
use Rattle.pam_render.specs.json_text.Steps.{code_string}
use Rattle.pam_render.proofs.json_text.steps.put_codes.Goals as goal

pub loop-code-init : goal.loop-code-init
loop-code-init g c = record { front = []; parts = refl; took = all-none c.args.out.now }

pub returns-in_err-put_code : goal.returns-in_err-put_code
returns-in_err-put_code g c =
    let l = c.loop-code in
    let first = first_and_rest l.remaining c.in-Some.code (sym c.in-Some.ensures.first) in
    err-front _ c.from_residual.ensures.0
    (front-is (front-longer (rest_text code_string true (drop 1 l.remaining)) (front-then l.invariant.took c.in_err-put_code.ensures))
    (item-more code_string l.invariant.front _ l.later c.in-Some.code l.remaining (drop 1 l.remaining) first l.invariant.parts))

pub loop-code-smaller : goal.loop-code-smaller
loop-code-smaller g c = less_codes c.loop-code.remaining _ c.in-Some.code (sym c.in-Some.ensures.first) c.in-Some.ensures.rest

pub loop-code-preserved : goal.loop-code-preserved
loop-code-preserved g c =
    let l = c.loop-code in
    let code = c.in-Some.code in
    let first = first_and_rest l.remaining code (sym c.in-Some.ensures.first) in
    record {
      front = _;
      parts = item-more code_string l.invariant.front _ l.later code l.remaining c.take_least.new.self
          (first ∙ ap (λ (cs : List ℕ). code ∷ cs) (sym c.in-Some.ensures.rest)) l.invariant.parts;
      took = all-then l.invariant.took c.in_ok-put_code.ensures;
    }

pub returns : goal.returns
returns g c =
    let l = c.loop-code in
    writes-is _ _ _ _ _ _ (writes-then _ _ _ l.invariant.took c.put.ensures)
    (items-all code_string l.invariant.front _ l.later l.remaining (none_first l.remaining (sym c.in_default.ensures.first)) l.invariant.parts)
