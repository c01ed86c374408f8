-- A page of the paths through a stack (pam.conf(5), DESCRIPTION), as text: a line for each path, and a last line.
use Rattle.std.specs.Prelude.{ℕ, ◌+◌, nat_le, if◌then◌else◌, List, [], ◌∷◌, ◌++◌, codes, decimal, length, take, Option, Some, None, slice_get, unwrap_or}
use Rattle.std.specs.List.{concat, flat_map}
use Rattle.pam_codes.specs.Code.{code_names}
use Rattle.pam_codes.specs.SetText.{set_text}
use Rattle.pam_paths.specs.CursorText.{cursor_text}
use Rattle.pam_paths.specs.Pages.{Page, last_key}
use Rattle.pam_paths.specs.Paths.{PathValue, StepValue, key}

-- the name of a code
unfoldable pub code_name : ℕ → List ℕ
code_name code = unwrap_or (slice_get code_names code) []

-- ` NUMBER=CLASS`
unfoldable pub step_text : StepValue → List ℕ
step_text step = concat (codes " " ∷ decimal step.module_number ∷ codes "=" ∷ []) ++ set_text step.class

-- `CURSOR DECISION`, then the steps
unfoldable pub path_line : PathValue → List ℕ
path_line path =
    cursor_text (key path) ++ concat (codes " " ∷ code_name path.decision ∷ []) ++ flat_map step_text path.steps ++ codes "\n"

-- THE FIRST PAGE of these paths, at most as many as the limit. If more follow, it has the cursor of its last path
abbrev pub first_page : ℕ → List PathValue → Page
first_page limit paths =
    if nat_le (length paths) limit then record { paths = paths; more = None }
    else record { paths = take limit paths; more = Some (last_key (take limit paths)) }

-- `end COUNT paths` if no path follows, else `more COUNT paths SIDE CURSOR`
unfoldable pub last_line : List ℕ → ℕ → Option (List ℕ) → List ℕ
last_line side count None = concat (codes "end " ∷ decimal count ∷ codes " paths\n" ∷ [])
last_line side count (Some cursor) =
    concat (codes "more " ∷ decimal count ∷ codes " paths " ∷ side ∷ codes " " ∷ []) ++ cursor_text cursor ++ codes "\n"

-- a page, after `count` of its lines, in lines of some form: that of a path, and the last one
unfoldable pub text_by : (PathValue → List ℕ) → (List ℕ → ℕ → Option (List ℕ) → List ℕ) → List ℕ → ℕ → Page → List ℕ
text_by line last side count page = flat_map line page.paths ++ last side (count + length page.paths) page.more

-- the text of a page, after `count` of its lines
abbrev pub text_after : List ℕ → ℕ → Page → List ℕ
text_after = text_by path_line last_line

-- THE TEXT of a page
abbrev pub page_text : List ℕ → Page → List ℕ
page_text side page = text_after side 0 page
