use Rattle.std.proofs.Common.{◌≡◌, ◌∷◌, [], List, ap, map, refl}
use Rattle.pam_codes.proofs.Writing.{writes-is}
use Rattle.pam_conf.specs.Stack.{Items}
use Rattle.pam_render.specs.json_lines.Line.{items_of}
use Rattle.pam_paths.specs.Steps.{step_seen}
use Rattle.pam_paths.specs.declared.path.PathStep.{PathStep}
use Rattle.serde_json.specs.Data.{Data, array}
use Rattle.serde_json.specs.Written.{compact_text}
use Rattle.pam_render.specs.json_text.Steps.{step_object}
use Rattle.pam_render.proofs.json_text.steps.put_steps.Goals as goal

objects : (items : Items) (steps : List PathStep) → map (λ step. step_object items (step_seen step)) steps ≡ map (step_object items) (map step_seen steps)
objects items [] = refl
objects items (step ∷ steps) = ap (λ (ds : List Data). step_object items (step_seen step) ∷ ds) (objects items steps)

pub returns : goal.returns
returns g c =
    writes-is _ _ _ _ _ _ c.put_array.ensures
    (ap (λ (ds : List Data). compact_text (array (items_of ds))) (objects c.args.modules.now c.args.steps.now))
