use Rattle.std.proofs.Common.{◌≡◌, ap, arith, length}
use Rattle.std.proofs.lemmas.List.{length-map}
use Rattle.pam_paths.specs.Steps.{step_seen}
use Rattle.pam_paths.proofs.Tails.{all-alike, length-tail_from}
use Rattle.pam_paths.proofs.tail_steps.TailSteps.last.Goals as goal

pub slice_bounds-result-end : goal.slice_bounds-result-end
slice_bounds-result-end c =
    let steps = c.args.self.now.steps.items in
    let long : length steps ≡ 256 =
    omega (arith, ap length c.args.self.now.numbered, length-map steps step_seen, length-tail_from 1 256) in
    omega (arith, long, c.requires.few, ap length c.as_slice.ensures.value)

pub returns : goal.returns
returns c =
    all-alike c.args.self.now.steps.items c.as_slice.result.now c.args.modules c.args.count c.args.self.now.numbered c.as_slice.ensures.value
    c.requires.within c.requires.few
