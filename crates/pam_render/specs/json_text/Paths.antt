-- The JSON of `paths`: a line for each path of a page, and a last line.
use Rattle.std.specs.Prelude.{ℕ, max, List, [], ◌∷◌, ◌++◌, codes, None, Option, Some, Result}
use Rattle.pam_codes.specs.SetText.{name_of}
use Rattle.pam_conf.specs.Stack.{Items, module_count}
use Rattle.pam_render.specs.json_lines.Line.{kind, line}
use Rattle.pam_page.specs.Page.{first_page, text_by}
use Rattle.pam_render.specs.parts.Pages.{IsPageBy}
use Rattle.pam_paths.specs.CursorText.{cursor_text}
use Rattle.pam_paths.specs.Paths.{PathValue}
use Rattle.pam_paths.specs.declared.cursor.CursorError.{CursorError}
use Rattle.pam_report.specs.Reply.{PageValue}
use Rattle.serde_json.specs.Data.{Data, null, number, string, unsigned}
use Rattle.pam_render.specs.json_text.Header.{stack_members}
use Rattle.pam_render.specs.json_text.Steps.{cursor_string, steps_array}

-- a path: its cursor, its decision and its steps
abbrev pub path_members : Items → PathValue → List (List ℕ × Data)
path_members items path =
    kind (codes "path") ∷ (codes "cursor", cursor_string path) ∷ (codes "decision", string (name_of path.decision))
    ∷ (codes "steps", steps_array items path.steps) ∷ []

unfoldable pub path_json : Items → PathValue → List ℕ
path_json items path = line (path_members items path)

-- the cursor with which the listing goes on, if it does
abbrev pub next_or_null : Option (List ℕ) → Data
next_or_null None = null
next_or_null (Some cursor) = string (cursor_text cursor)

-- the number of paths, and the option that takes the cursor
abbrev pub page_members : List ℕ → ℕ → Option (List ℕ) → List (List ℕ × Data)
page_members side count next =
    kind (codes "page") ∷ (codes "paths", number (unsigned count)) ∷ (codes "next", next_or_null next) ∷ (codes "direction", string side) ∷ []

unfoldable pub last_json : List ℕ → ℕ → Option (List ℕ) → List ℕ
last_json side count next = line (page_members side count next)

-- the page after the line of its stack, from the option that takes its cursors and the paths that meet the goal. It has room for at
-- least one path
abbrev pub page_json : PageValue → List ℕ → List PathValue → List ℕ
page_json page side paths =
    line (stack_members page.service page.kind (module_count page.items))
    ++ text_by (path_json page.items) last_json side 0 (first_page (max page.limit 1) paths)

-- THE JSON of `paths`, or the reason why the cursor is refused
abbrev pub IsPageJson : PageValue → Result (List ℕ) CursorError → Type 0
IsPageJson = IsPageBy page_json
