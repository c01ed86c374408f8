-- The text of `paths`: a page.
use Rattle.std.specs.Prelude.{ℕ, max, List, ◌++◌, Result}
use Rattle.pam_conf.specs.Stack.{module_count}
use Rattle.pam_page.specs.Page.{first_page, page_text as lines_text}
use Rattle.pam_render.specs.parts.Pages.{IsPageBy}
use Rattle.pam_paths.specs.Paths.{PathValue}
use Rattle.pam_paths.specs.declared.cursor.CursorError.{CursorError}
use Rattle.pam_report.specs.Reply.{PageValue}
use Rattle.pam_render.specs.text.Header.{header_text}

-- the page with its header, from the option that takes its cursors and the paths that meet the goal. It has room for at least one path
abbrev pub page_text : PageValue → List ℕ → List PathValue → List ℕ
page_text page side paths =
    header_text page.service page.kind (module_count page.items) ++ lines_text side (first_page (max page.limit 1) paths)

-- THE TEXT of `paths`, or the reason why the cursor is refused
abbrev pub IsPageText : PageValue → Result (List ℕ) CursorError → Type 0
IsPageText = IsPageBy page_text
