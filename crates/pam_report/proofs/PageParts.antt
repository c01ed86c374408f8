-- The part of a listing that a page is taken from, and the answer, from the contract of the explorer.
use Rattle.std.proofs.Common.{◌≡◌, ◌≢◌, ℕ, List, Option, Result, Ok, Err, refl, sym, subst, ◌∙◌}
use Rattle.pam_conf.specs.Stack.{Items, module_count}
use Rattle.pam_paths.specs.Cursor.{IsAccepted, IsRefusal}
use Rattle.pam_paths.specs.CursorText.{IsCursor, cursor_text}
use Rattle.pam_page.specs.declared.listing.Listing.{Listing}
use Rattle.pam_paths.specs.Known.{may_answer}
use Rattle.pam_paths.specs.Paths.{PathValue, path_through}
use Rattle.pam_paths.specs.declared.cursor.CursorError.{CursorError}
use Rattle.pam_paths.specs.declared.cursor.CursorError.TheVariants.{Syntax, NotLeast, TooShort, TooLong}
use Rattle.pam_report.specs.PageView.{FindsListing, FindsPage, goal_of, graph_of, page_value}
use Rattle.pam_report.specs.Paths.{IsTaken}
use Rattle.pam_report.specs.declared.fault.Fault.{Fault}
use Rattle.pam_report.specs.declared.report.goal_pages.GoalGraph.{GoalGraph}
use Rattle.pam_report.specs.declared.report.paths.PathsPage.{PathsPage}

-- a text that is no cursor, as a part
pub text-refused : (IsRest : List ℕ → List PathValue → Type 0) (items : Items) (read text : List ℕ) (e : CursorError) → read ≡ text
    → (e ≡ Syntax) × ((cursor : List ℕ) → IsCursor cursor → cursor_text cursor ≢ read) → IsTaken IsRest items text (Err e)
text-refused IsRest items read text Syntax same h = λ cursor is found. h.1 cursor is (found ∙ sym same)
text-refused IsRest items read text (NotLeast place) same h = let e = h.0 in cc
text-refused IsRest items read text TooShort same h = let e = h.0 in cc
text-refused IsRest items read text TooLong same h = let e = h.0 in cc

-- a cursor of a stack with this number of modules, as a part
module _ (items : Items) (text cursor : List ℕ) (n : ℕ) (counted : n ≡ module_count items) (is : IsCursor cursor) (same : cursor_text cursor ≡ text) where
  refusal : (e : CursorError) → IsRefusal n (path_through items) cursor e → IsRefusal (module_count items) (path_through items) cursor e
  refusal e h = subst (λ (k : ℕ). IsRefusal k (path_through items) cursor e) counted h

  pub cursor-refused : (IsRest : List ℕ → List PathValue → Type 0) (e : CursorError) → IsRefusal n (path_through items) cursor e →
      IsTaken IsRest items text (Err e)
  cursor-refused IsRest Syntax h = absurd (h.1 refl)
  cursor-refused IsRest (NotLeast place) h = (cursor, is, same, refusal (NotLeast place) h)
  cursor-refused IsRest TooShort h = (cursor, is, same, refusal TooShort h)
  cursor-refused IsRest TooLong h = (cursor, is, same, refusal TooLong h)

  pub cursor-taken : (IsRest : ℕ → List ℕ → List PathValue → Type 0) (paths : List PathValue) → IsAccepted n (path_through items) cursor →
      IsRest n cursor paths → IsTaken (IsRest (module_count items)) items text (Ok paths)
  cursor-taken IsRest paths accepted rest = (
    cursor,
    is,
    same,
    subst (λ (k : ℕ). IsAccepted k (path_through items) cursor) counted accepted,
    subst (λ (k : ℕ). IsRest k cursor paths) counted rest,
  )

-- what is listed of a page is what is listed of its walks
pub page-listed : {K : Type 0} (page : PathsPage) (result : Result (Listing K) Fault) (given : Option GoalGraph) → page.walks ≡ given
    → FindsListing page.program (may_answer page.found.known) (graph_of given) (goal_of given) page.part result → FindsPage (page_value page) result
page-listed page result given same h =
    subst (λ (walks : Option GoalGraph). FindsListing page.program (may_answer page.found.known) (graph_of walks) (goal_of walks) page.part result)
    (sym same) h
