use Rattle.std.proofs.Common.{◌++◌, ◌∷◌, ◌∙◌, [], List, arith, ap, map, sym, take}
use Rattle.std.proofs.lemmas.List.{get_or-map, length-map, take_more}
use Rattle.pam_graph.specs.Frames.{step_in}
use Rattle.pam_graph.proofs.walks.push_steps.Goals as goal
use Rattle.pam_paths.specs.Paths.{StepValue}

pub loop-index-preserved : goal.loop-index-preserved
loop-index-preserved c =
    let frames = c.args.frames.now in
    let i = c.loop-index.index in
    let frame = c.index-frames-index.result in
    let l = c.loop-index-test.true in
    let long = length-map frames step_in in
    record {
      same = c.push.ensures.steps
          ∙ ap (λ (x : List StepValue). x ++ step_in frame ∷ []) c.loop-index.invariant.same
          ∙ ap (λ (x : StepValue). take i (map step_in frames) ++ x ∷ [])
          (ap step_in c.index-frames-index.is ∙ sym (get_or-map step_in frames i frame (step_in frame) l))
          ∙ sym (take_more (map step_in frames) i (step_in frame) (omega (arith, l, long)));
      within = omega (arith, l);
    }
