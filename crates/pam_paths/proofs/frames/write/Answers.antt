use Rattle.std.proofs.Common.{◌∙◌, ℕ, add-zero, ap, map, sym, take}
use Rattle.std.proofs.lemmas.List.{take-map}
use Rattle.pam_paths.specs.Frames.{step_in}
use Rattle.pam_paths.specs.Steps.{step_seen}
use Rattle.pam_paths.proofs.frames.write.Goals as goal

pub loop-frame-init : goal.loop-frame-init
loop-frame-init c =
    let frames = c.args.frames.now in
    ap (map step_seen) c.truncate.ensures.items ∙ sym (take-map step_seen c.args.shared c.args.steps.now.items) ∙ c.requires.same
    ∙ take-map step_in c.args.shared frames ∙ ap (λ (n : ℕ). map step_in (take n frames)) (sym (add-zero c.args.shared))
