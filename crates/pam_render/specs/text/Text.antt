-- The text of a reply.
use Rattle.std.specs.Prelude.{◌≡◌, ℕ, Bool, true, false, List, Result, Ok}
use Rattle.pam_paths.specs.declared.cursor.CursorError.{CursorError}
use Rattle.pam_report.specs.Reply.{Reply, Stacks, Released, Run, Access, Time, Outcomes, Drawing, Page, Check, Compared, Policy, Needs, Explained, Explanations}
use Rattle.pam_report.specs.Reply.{Facts, Version}
use Rattle.pam_facts.specs.Table.{facts_text}
use Rattle.pam_render.specs.json_text.Text.{IsJson, has_json}
use Rattle.pam_words.specs.declared.wanted.OutputForm.{OutputForm}
use Rattle.pam_words.specs.declared.wanted.OutputForm.TheVariants.{Full, Json, Patch, PlainText, Sarif}
use Rattle.pam_render.specs.full_text.Check.{IsFull}
use Rattle.pam_render.specs.parts.Findings.{is_check}
use Rattle.pam_render.specs.patch_text.Check.{IsPatch}
use Rattle.pam_render.specs.sarif.Document.{IsSarif}
use Rattle.pam_render.specs.text.About.{version_text}
use Rattle.pam_render.specs.text.Check.{check_text}
use Rattle.pam_render.specs.text.Compare.{compare_text}
use Rattle.pam_render.specs.text.Decide.{run_text}
use Rattle.pam_render.specs.text.Drawing.{IsDrawingText}
use Rattle.pam_render.specs.text.Explain.{explanation_text, explanations_text}
use Rattle.pam_render.specs.text.Needs.{needs_text}
use Rattle.pam_render.specs.text.Outcomes.{outcomes_text}
use Rattle.pam_render.specs.text.Page.{IsPageText}
use Rattle.pam_render.specs.text.Policy.{policy_text}
use Rattle.pam_render.specs.text.Released.{released_texts}
use Rattle.pam_render.specs.text.Show.{stacks_text}
use Rattle.pam_render.specs.text.Tables.{access_text, time_text}

-- THE TEXT of a reply. A page has none if its cursor is refused
abbrev pub IsText : Reply → Result (List ℕ) CursorError → Type 0
IsText (Stacks stacks) text = text ≡ Ok (stacks_text stacks)
IsText (Released readings) text = text ≡ Ok (released_texts readings)
IsText (Run run) text = text ≡ Ok (run_text run)
IsText (Access answer table) text = text ≡ Ok (access_text answer table)
IsText (Time found) text = text ≡ Ok (time_text found)
IsText (Outcomes outcomes) text = text ≡ Ok (outcomes_text outcomes)
IsText (Drawing drawing) text = IsDrawingText drawing text
IsText (Page page) text = IsPageText page text
IsText (Check found) text = text ≡ Ok (check_text found)
IsText (Compared changes) text = text ≡ Ok (compare_text changes)
IsText (Policy policies) text = text ≡ Ok (policy_text policies)
IsText (Needs found) text = text ≡ Ok (needs_text found)
IsText (Explained explanation) text = text ≡ Ok (explanation_text explanation)
IsText Explanations text = text ≡ Ok explanations_text
IsText Facts text = text ≡ Ok facts_text
IsText Version text = text ≡ Ok version_text

-- the JSON of a reply, or its text if it has none
abbrev pub IsJsonOrText : Bool → Reply → Result (List ℕ) CursorError → Type 0
IsJsonOrText true reply text = IsJson reply text
IsJsonOrText false reply text = IsText reply text

-- the SARIF of a reply, or its text if it has none
abbrev pub IsSarifOrText : Bool → Reply → Result (List ℕ) CursorError → Type 0
IsSarifOrText true reply text = IsSarif reply text
IsSarifOrText false reply text = IsText reply text

-- the full text of a reply, or its text if it has none
abbrev pub IsFullOrText : Bool → Reply → Result (List ℕ) CursorError → Type 0
IsFullOrText true reply text = IsFull reply text
IsFullOrText false reply text = IsText reply text

-- the patch of a reply, or its text if it has none
abbrev pub IsPatchOrText : Bool → Reply → Result (List ℕ) CursorError → Type 0
IsPatchOrText true reply text = IsPatch reply text
IsPatchOrText false reply text = IsText reply text

-- THE TEXT of a reply in a form
abbrev pub IsTextIn : OutputForm → Reply → Result (List ℕ) CursorError → Type 0
IsTextIn PlainText reply text = IsText reply text
IsTextIn Full reply text = IsFullOrText (is_check reply) reply text
IsTextIn Json reply text = IsJsonOrText (has_json reply) reply text
IsTextIn Sarif reply text = IsSarifOrText (is_check reply) reply text
IsTextIn Patch reply text = IsPatchOrText (is_check reply) reply text
