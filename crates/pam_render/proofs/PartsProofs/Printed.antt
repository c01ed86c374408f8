-- What is written of replies, in a form of answers.
use Rattle.std.proofs.Common.{◌≡◌, ℕ, List, Option, Result, Ok, Err, ap, ◌∙◌, refl, subst, sym}
use Rattle.std.specs.Prelude.{MatchResult}
use Rattle.pam_page.specs.Coming.{coming, side}
use Rattle.pam_page.specs.declared.listing.Listing.{Listing}
use Rattle.pam_paths.specs.Paths.{PathValue}
use Rattle.pam_paths.specs.declared.cursor.CursorError.{CursorError}
use Rattle.pam_report.specs.PageView.{FindsPage, RendersFound}
use Rattle.pam_report.specs.Paths.{side_of}
use Rattle.pam_report.specs.Reply.{Page, PageValue, Reply}
use Rattle.pam_report.specs.ReplyViews.{reply_view}
use Rattle.pam_report.specs.declared.fault.Fault.{Fault}
use Rattle.pam_report.specs.declared.fault.Fault.TheVariants as faults
use Rattle.pam_report.specs.declared.report.replies.Reply as declared
use Rattle.pam_text.specs.Out.{WritesAndFlushes}
use Rattle.pam_text.specs.declared.out.Device.{Device}
use Rattle.pam_text.specs.declared.out.Out.{Out}
use Rattle.pam_render.specs.parts.Pages.{IsPageBy}
use Rattle.pam_render.specs.parts.Prints.{PrintsBy}

module _ {W : Type 0} (contents : W → Option (List ℕ)) (IsText : Reply → Result (List ℕ) CursorError → Type 0) (old new : Out W) where
  -- the text of a reply is written, and what is told of it is this
  pub text-printed : (reply : Reply) (text : List ℕ) (written : Result (Unit {0}) Device) (result : Result (Unit {0}) Fault) → IsText reply (Ok text)
      → MatchResult written (λ none. result ≡ Ok none) (λ _. result ≡ Err faults.Device) → WritesAndFlushes contents old new written text
      → PrintsBy contents IsText old new result reply
  text-printed reply text (Ok none) result is told h =
      subst (λ (r : Result (Unit {0}) Fault). PrintsBy contents IsText old new r reply) (sym told) (text, is, h)
  text-printed reply text (Err e) result is told h =
      subst (λ (r : Result (Unit {0}) Fault). PrintsBy contents IsText old new r reply) (sym told) (text, is, h)

  -- it is this reply that is printed
  pub reply-is : (result : Result (Unit {0}) Fault) (one other : declared.Reply) → other ≡ one → PrintsBy contents IsText old new result (reply_view one)
      → PrintsBy contents IsText old new result (reply_view other)
  reply-is result one other same h = subst (λ (reply : declared.Reply). PrintsBy contents IsText old new result (reply_view reply)) (sym same) h

-- the text of a reply is also that of another form
module _ {W : Type 0} (contents : W → Option (List ℕ)) (One Other : Reply → Result (List ℕ) CursorError → Type 0) (old new : Out W) (reply : Reply)
    (also : (text : Result (List ℕ) CursorError) → One reply text → Other reply text) where
  pub printed-as : (result : Result (Unit {0}) Fault) → PrintsBy contents One old new result reply → PrintsBy contents Other old new result reply
  printed-as (Ok told) h = (h.0, also _ h.1, h.2)
  printed-as (Err faults.Device) h = (h.0, also _ h.1, h.2)
  printed-as (Err faults.Memory) h = h
  printed-as (Err (faults.Cursor e)) h = (h.0, also _ h.1)
  printed-as (Err (faults.Conf e)) h = absurd h
  printed-as (Err (faults.Count e)) h = absurd h
  printed-as (Err faults.TooManyStates) h = absurd h
  printed-as (Err faults.NoSuchModule) h = absurd h
  printed-as (Err faults.NoSuchKey) h = absurd h
  printed-as (Err faults.NoSuchNumber) h = absurd h
  printed-as (Err faults.NoSuchService) h = absurd h
  printed-as (Err faults.UnusedCandidate) h = absurd h
  printed-as (Err faults.Unread) h = absurd h
  printed-as (Err (faults.Facts e)) h = absurd h
  printed-as (Err (faults.Policy e)) h = absurd h
  printed-as (Err (faults.Accept e)) h = absurd h
  printed-as (Err (faults.Moment e)) h = absurd h
  printed-as (Err (faults.Table e)) h = absurd h
  printed-as (Err (faults.Time e)) h = absurd h

-- ---- pages, if this is the text of a page that is listed

module _ (text_of : PageValue → List ℕ → List PathValue → List ℕ) (page : PageValue) {K : Type 0} where
  pub listed : (listing : Listing K) → FindsPage page (Ok listing) → IsPageBy text_of page (Ok (text_of page (side listing) (coming listing)))
  listed listing h of_stack =
      let found = h page.items of_stack.0 of_stack.1 in
      let same : text_of page (side listing) (coming listing) ≡ text_of page (side_of page.part) (coming listing) =
      ap (λ (to : List ℕ). text_of page to (coming listing)) found.3 in
      (Ok found.0, found.1, ap (λ (text : List ℕ). Ok text) (same ∙ ap (λ (paths : List PathValue). text_of page (side_of page.part) paths) found.2))

module _ (K : Type 0) {W : Type 0} (contents : W → Option (List ℕ)) (IsText : Reply → Result (List ℕ) CursorError → Type 0)
    (text_of : PageValue → List ℕ → List PathValue → List ℕ) (page : PageValue)
    (also : (text : Result (List ℕ) CursorError) → IsPageBy text_of page text → IsText (Page page) text) (old new : Out W) where
  -- nothing is written of a page that is not listed
  pub listing-refused : (fault : Fault) → FindsPage {K = K} page (Err fault) → new ≡ old → PrintsBy contents IsText old new (Err fault) (Page page)
  listing-refused (faults.Cursor e) h same = (same, also (Err e) (λ of_stack. (Err e, h page.items of_stack.0 of_stack.1, refl)))
  listing-refused faults.Memory h same = (same, refl)
  listing-refused faults.Device h same = absurd h
  listing-refused faults.TooManyStates h same = absurd h
  listing-refused faults.NoSuchModule h same = absurd h
  listing-refused faults.NoSuchKey h same = absurd h
  listing-refused (faults.Conf e) h same = absurd h
  listing-refused (faults.Count e) h same = absurd h
  listing-refused faults.NoSuchNumber h same = absurd h
  listing-refused faults.NoSuchService h same = absurd h
  listing-refused faults.UnusedCandidate h same = absurd h
  listing-refused faults.Unread h same = absurd h
  listing-refused (faults.Facts e) h same = absurd h
  listing-refused (faults.Policy e) h same = absurd h
  listing-refused (faults.Accept e) h same = absurd h
  listing-refused (faults.Moment e) h same = absurd h
  listing-refused (faults.Table e) h same = absurd h
  listing-refused (faults.Time e) h same = absurd h

  -- what is written of a page, from what is written of its listing
  pub printed-by : (result : Result (Unit {0}) Fault) (found : Result (Listing K) Fault) → FindsPage page found
      → RendersFound (λ (listing : Listing K) old new result. FindsPage page (Ok listing) → PrintsBy contents IsText old new result (Page page)) old new result
      found → PrintsBy contents IsText old new result (Page page)
  printed-by result (Ok listing) h rendered = rendered h
  printed-by result (Err fault) h rendered =
      subst (λ (r : Result (Unit {0}) Fault). PrintsBy contents IsText old new r (Page page)) (sym rendered.1) (listing-refused fault h rendered.0)
