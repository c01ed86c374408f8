-- The text of a page, from its header, its side and its paths.
use Rattle.std.proofs.Common.{◌≡◌, ℕ, List, refl}
use Rattle.pam_conf.specs.Stack.{module_count}
use Rattle.pam_conf.specs.declared.rule.Kind.{Kind}
use Rattle.pam_page.specs.Page.{first_page, page_text as lines_text}
use Rattle.pam_paths.specs.Paths.{PathValue}
use Rattle.pam_report.specs.Reply.{PageValue}
use Rattle.pam_render.specs.text.Header.{header_text}

pub limit-is : (side : List ℕ) (paths : List PathValue) {one other : ℕ} → one ≡ other →
    lines_text side (first_page one paths) ≡ lines_text side (first_page other paths)
limit-is side paths is = rw is refl

pub header-is : (page : PageValue) {service : List ℕ} {kind : Kind} {modules : ℕ} → service ≡ page.service → kind ≡ page.kind
    → modules ≡ module_count page.items → header_text service kind modules ≡ header_text page.service page.kind (module_count page.items)
header-is page e f g = rw (e, f, g) refl
