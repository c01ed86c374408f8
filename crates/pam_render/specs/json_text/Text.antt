-- The JSON of a reply.
use Rattle.std.specs.Prelude.{◌≡◌, ℕ, Bool, true, false, List, Option, None, Some, Result, Ok}
use Rattle.pam_codes.specs.Out.{Out}
use Rattle.pam_render.specs.parts.Prints.{PrintsBy}
use Rattle.pam_paths.specs.declared.cursor.CursorError.{CursorError}
use Rattle.pam_report.specs.Reply.{Reply, Stacks, Run, Access, Time, Outcomes, Page, Check, Compared, Policy, Needs}
use Rattle.pam_report.specs.declared.fault.Fault.{Fault}
use Rattle.pam_render.specs.json_text.Check.{check_json}
use Rattle.pam_render.specs.json_text.Compare.{compare_json}
use Rattle.pam_render.specs.json_text.Decide.{run_json}
use Rattle.pam_render.specs.json_text.Needs.{needs_json}
use Rattle.pam_render.specs.json_text.Outcomes.{outcomes_json}
use Rattle.pam_render.specs.json_text.Paths.{IsPageJson}
use Rattle.pam_render.specs.json_text.Policy.{policy_json}
use Rattle.pam_render.specs.json_text.Show.{stacks_json}
use Rattle.pam_render.specs.json_text.Tables.{access_json, time_json}

-- THE JSON of a reply. A page has none if its cursor is refused, and those of other commands have none
abbrev pub IsJson : Reply → Result (List ℕ) CursorError → Type 0
IsJson (Stacks stacks) text = text ≡ Ok (stacks_json stacks)
IsJson (Run run) text = text ≡ Ok (run_json run)
IsJson (Access answer table) text = text ≡ Ok (access_json answer table)
IsJson (Time found) text = text ≡ Ok (time_json found)
IsJson (Outcomes outcomes) text = text ≡ Ok (outcomes_json outcomes)
IsJson (Page page) text = IsPageJson page text
IsJson (Check found) text = text ≡ Ok (check_json found)
IsJson (Compared changes) text = text ≡ Ok (compare_json changes)
IsJson (Policy policies) text = text ≡ Ok (policy_json policies)
IsJson (Needs found) text = text ≡ Ok (needs_json found)
IsJson reply text = ⊥

-- the replies that have JSON
abbrev pub has_json : Reply → Bool
has_json (Stacks stacks) = true
has_json (Run run) = true
has_json (Access answer table) = true
has_json (Time found) = true
has_json (Outcomes outcomes) = true
has_json (Page page) = true
has_json (Check found) = true
has_json (Compared changes) = true
has_json (Policy policies) = true
has_json (Needs found) = true
has_json reply = false

-- what is written of a reply that has JSON is that; of others nothing is written
abbrev pub PrintsIfAny : {W : Type 0} → (W → Option (List ℕ)) → Out W → Out W → Option (Result (Unit {0}) Fault) → Reply → Type 0
PrintsIfAny contents old new (Some result) reply = (has_json reply ≡ true) × PrintsBy contents IsJson old new result reply
PrintsIfAny contents old new None reply = (has_json reply ≡ false) × (new ≡ old)
