-- The lines of whole answers, from what is read of their stacks.
use Rattle.std.proofs.Common.{◌≡◌, ℕ, List, map, max, refl}
use Rattle.std.specs.List.{flat_map}
use Rattle.pam_conf.specs.Stack.{Items, module_count}
use Rattle.pam_conf.specs.declared.rule.Kind.{Kind}
use Rattle.pam_render.specs.json_lines.Line.{line}
use Rattle.pam_page.specs.Page.{first_page, text_by}
use Rattle.pam_paths.specs.Paths.{PathValue}
use Rattle.pam_report.specs.Reply.{PageValue}
use Rattle.pam_report.specs.ReplyViews.{outcome_view}
use Rattle.pam_report.specs.declared.report.outcomes.Outcome as declared
use Rattle.pam_render.specs.json_text.Header.{stack_members}
use Rattle.pam_render.specs.json_text.Outcomes.{outcome_json}
use Rattle.pam_render.specs.json_text.Paths.{last_json, path_json}

pub stack_line-is : (service : List ℕ) (kind : Kind) (items : Items) {modules : ℕ} → modules ≡ module_count items
    → line (stack_members service kind modules) ≡ line (stack_members service kind (module_count items))
stack_line-is service kind items counted = rw counted refl

pub outcomes-are : (items : Items) {named : Items} {one other : List declared.Outcome} → named ≡ items → one ≡ other
    → flat_map (outcome_json named) (map outcome_view one) ≡ flat_map (outcome_json items) (map outcome_view other)
outcomes-are items n e = rw (n, e) refl

-- the lines of a page
pub page_line-is : (page : PageValue) {service : List ℕ} {kind : Kind} {items : Items} {modules : ℕ} → service ≡ page.service → kind ≡ page.kind
    → items ≡ page.items → modules ≡ module_count items
    → line (stack_members service kind modules) ≡ line (stack_members page.service page.kind (module_count page.items))
page_line-is page e f g h = rw (h, e, f, g) refl

pub page-is : (page : PageValue) (side : List ℕ) (paths : List PathValue) {items : Items} {limit : ℕ} → items ≡ page.items → limit ≡ max page.limit 1
    → text_by (path_json items) last_json side 0 (first_page limit paths)
    ≡ text_by (path_json page.items) last_json side 0 (first_page (max page.limit 1) paths)
page-is page side paths e f = rw (e, f) refl
