-- A page of the paths through a stack, in a form of answers.
use Rattle.std.specs.Prelude.{◌≡◌, ℕ, List, Result, Ok, Err}
use Rattle.pam_graph.specs.Goals.{meeting}
use Rattle.pam_paths.specs.Paths.{PathValue}
use Rattle.pam_paths.specs.declared.cursor.CursorError.{CursorError}
use Rattle.pam_report.specs.Paths.{IsOfStack, IsPart, side_of}
use Rattle.pam_report.specs.Reply.{PageValue}

-- if this is the text of a page, from the option that takes its cursors and the paths that it is taken from
module _ (text_of : PageValue → List ℕ → List PathValue → List ℕ) (page : PageValue) where
  -- the text with the paths of a part that meet the goal, or the reason why the cursor is refused
  abbrev pub text_from : Result (List PathValue) CursorError → Result (List ℕ) CursorError
  text_from (Err e) = Err e
  text_from (Ok paths) = Ok (text_of page (side_of page.part) (meeting page.goal paths))

  -- THE TEXT of a page in the form, or the reason why the cursor is refused
  abbrev pub IsPageBy : Result (List ℕ) CursorError → Type 0
  IsPageBy text = IsOfStack page → (given : Result (List PathValue) CursorError) × IsPart page.allows page.items page.part given × (text ≡ text_from given)
