-- What a call leaves that finds a reply and prints it.
use Rattle.std.proofs.Common.{◌≡◌, ◌∙◌, ℕ, Bool, true, false, List, Option, None, Some, Result, Ok, Err, ap, refl, subst, sym}
use Rattle.std.specs.Option.{option_copied}
use Rattle.pam_codes.specs.Out.{Out}
use Rattle.pam_conf.specs.Files.{Folder}
use Rattle.pam_conf.specs.declared.conf_error.ConfError.{ConfError}
use Rattle.pam_conf.specs.declared.rule.Kind.{Kind}
use Rattle.pam_explain.specs.Explanation.{Explanation}
use Rattle.pam_explain.specs.Explanations.{explanation_of}
use Rattle.pam_render.specs.json_text.Text.{IsJson, PrintsIfAny, has_json}
use Rattle.pam_render.proofs.PartsProofs.Printed.{printed-as}
use Rattle.pam_render.specs.parts.Prints.{PrintsBy}
use Rattle.pam_paths.specs.declared.cursor.CursorError.{CursorError}
use Rattle.pam_report.specs.Answer.{AnswersBy, answer_of, explained, explained_by, shown_by}
use Rattle.pam_report.specs.Candidates.{CandidateText}
use Rattle.pam_report.specs.Finds.{Finds, Refuses}
use Rattle.pam_report.specs.Memory.{IsWanting, Wants, wants as wants_of}
use Rattle.pam_report.specs.Released.{ReleasedValue, released}
use Rattle.pam_report.specs.Reply.{Answer, Check as CheckReply, CheckValue, Released, Reply, StackValue, Stacks, status_of, wants_memory}
use Rattle.pam_report.specs.ReplyViews.{reply_view}
use Rattle.pam_report.specs.Show.{for_each, kinds_shown, stack_in}
use Rattle.pam_report.specs.declared.fault.Fault.{Fault}
use Rattle.pam_report.specs.declared.fault.Fault.TheVariants as faults
use Rattle.pam_report.specs.declared.inputs.Inputs.{Inputs}
use Rattle.pam_report.specs.declared.report.Status.{Status}
use Rattle.pam_report.specs.declared.report.replies.Reply as declared
use Rattle.pam_words.specs.declared.wanted.OutputForm.TheVariants.{Full, Json, Patch, Sarif}
use Rattle.pam_words.specs.declared.wanted.ReleaseName.{ReleaseName}
use Rattle.pam_words.specs.declared.wanted.Task.{Task}
use Rattle.pam_words.specs.declared.wanted.Task.TheVariants.{Show, Decide, Access, Time, Paths, Outcomes, Graph, Check, Compare, Policy, Explain}
use Rattle.pam_words.specs.declared.wanted.Task.TheVariants.{Facts, Needs, Version}
use Rattle.pam_render.specs.full_text.Check.{IsFull}
use Rattle.pam_render.specs.parts.Findings.{is_check}
use Rattle.pam_render.specs.patch_text.Check.{IsPatch}
use Rattle.pam_render.specs.sarif.Document.{IsSarif}
use Rattle.pam_render.specs.text.Leaves.{LeavesFault, LeavesSome}
use Rattle.pam_render.specs.text.Text.{IsFullOrText, IsJsonOrText, IsPatchOrText, IsSarifOrText, IsText as IsPlainText, IsTextIn}

-- what a call gives that answers a task, if another gives as much for each relation
pub answers-by : (One Other : (Answer → Type 0) → Type 0) → ((IsAnswer : Answer → Type 0) → One IsAnswer → Other IsAnswer)
    → (service : List ℕ) (candidates : List CandidateText) (task : Task) (files : Folder) (inputs : Inputs)
    → AnswersBy One service candidates task files inputs → AnswersBy Other service candidates task files inputs
unfolding AnswersBy
answers-by One Other go service candidates (Show source kind release) files inputs h = go _ h
answers-by One Other go service candidates (Decide source kind answered) files inputs h = go _ h
answers-by One Other go service candidates (Access table groups passwd login arguments) files inputs h = go _ h
answers-by One Other go service candidates (Time table login moment) files inputs h = (h.0, h.1, go _ h.2)
answers-by One Other go service candidates (Paths source kind limit part filter knowledge) files inputs h = (h.0, h.1, go _ h.2)
answers-by One Other go service candidates (Outcomes source kind knowledge) files inputs h = (h.0, h.1, go _ h.2)
answers-by One Other go service candidates (Graph source kind format knowledge) files inputs h = (h.0, h.1, go _ h.2)
answers-by One Other go service candidates (Check source services fail_on named) files inputs h = go _ h
answers-by One Other go service candidates (Compare old new named kind given) files inputs h = go _ h
answers-by One Other go service candidates (Policy source names fail_on knowledge) files inputs h = (h.0, h.1, go _ h.2)
answers-by One Other go service candidates (Needs source kind knowledge) files inputs h = (h.0, h.1, go _ h.2)
answers-by One Other go service candidates (Explain number) files inputs h = go _ h
answers-by One Other go service candidates Facts files inputs h = go _ h
answers-by One Other go service candidates Version files inputs h = go _ h

module _ {W : Type 0} (contents : W → Option (List ℕ)) (IsText : Reply → Result (List ℕ) CursorError → Type 0) (old new : Out W) where
  -- a fault is found, and nothing is written
  pub refused : (fault : Fault) (IsAnswer : Answer → Type 0) → new ≡ old → Refuses IsAnswer fault → LeavesFault contents IsText old new IsAnswer fault
  refused faults.Device IsAnswer same h = absurd h
  refused faults.Memory IsAnswer same h = same
  refused (faults.Cursor e) IsAnswer same h = absurd h
  refused (faults.Conf e) IsAnswer same h = (same, h)
  refused (faults.Count e) IsAnswer same h = (same, h)
  refused faults.TooManyStates IsAnswer same h = (same, h)
  refused faults.NoSuchModule IsAnswer same h = (same, h)
  refused faults.NoSuchKey IsAnswer same h = (same, h)
  refused faults.NoSuchNumber IsAnswer same h = (same, h)
  refused faults.NoSuchService IsAnswer same h = (same, h)
  refused faults.UnusedCandidate IsAnswer same h = (same, h)
  refused faults.Unread IsAnswer same h = (same, h)
  refused (faults.Facts e) IsAnswer same h = (same, h)
  refused (faults.Policy e) IsAnswer same h = (same, h)
  refused (faults.Accept e) IsAnswer same h = (same, h)
  refused (faults.Moment e) IsAnswer same h = (same, h)
  refused (faults.Table e) IsAnswer same h = (same, h)
  refused (faults.Time e) IsAnswer same h = (same, h)

  -- a reply is printed
  pub printed : (reply : Reply) (status : Status) (none : Unit {0}) → PrintsBy contents IsText old new (Ok none) reply → status ≡ status_of reply
      → (IsAnswer : Answer → Type 0) → IsAnswer (Ok reply) → LeavesSome contents IsText old new (Ok status) IsAnswer
  printed reply status none h same IsAnswer is = (reply, h.0, is, h.1, same, h.2)

  -- a reply is not printed, or not whole
  pub unprinted : (fault : Fault) (reply : Reply) → PrintsBy contents IsText old new (Err fault) reply
      → (IsAnswer : Answer → Type 0) → IsAnswer (Ok reply) → LeavesFault contents IsText old new IsAnswer fault
  unprinted faults.Device reply h IsAnswer is = (reply, h.0, is, h.1, h.2)
  unprinted faults.Memory reply h IsAnswer is = h.0
  unprinted (faults.Cursor e) reply h IsAnswer is = (h.0, (reply, is, h.1))
  unprinted (faults.Conf e) reply h IsAnswer is = absurd h
  unprinted (faults.Count e) reply h IsAnswer is = absurd h
  unprinted faults.TooManyStates reply h IsAnswer is = absurd h
  unprinted faults.NoSuchModule reply h IsAnswer is = absurd h
  unprinted faults.NoSuchKey reply h IsAnswer is = absurd h
  unprinted faults.NoSuchNumber reply h IsAnswer is = absurd h
  unprinted faults.NoSuchService reply h IsAnswer is = absurd h
  unprinted faults.UnusedCandidate reply h IsAnswer is = absurd h
  unprinted faults.Unread reply h IsAnswer is = absurd h
  unprinted (faults.Facts e) reply h IsAnswer is = absurd h
  unprinted (faults.Policy e) reply h IsAnswer is = absurd h
  unprinted (faults.Accept e) reply h IsAnswer is = absurd h
  unprinted (faults.Moment e) reply h IsAnswer is = absurd h
  unprinted (faults.Table e) reply h IsAnswer is = absurd h
  unprinted (faults.Time e) reply h IsAnswer is = absurd h

  -- if it is for want of memory, it is a page, a drawing, a check or policies
  pub unprinted-wants : (wants : Wants) (fault : Fault) (reply : Reply) → PrintsBy contents IsText old new (Err fault) reply
      → (wants_memory reply ≡ true → wants.work ≡ true) → IsWanting wants fault
  unprinted-wants wants faults.Device reply h works = tt
  unprinted-wants wants faults.Memory reply h works = works h.1
  unprinted-wants wants (faults.Cursor e) reply h works = tt
  unprinted-wants wants (faults.Conf e) reply h works = absurd h
  unprinted-wants wants (faults.Count e) reply h works = absurd h
  unprinted-wants wants faults.TooManyStates reply h works = absurd h
  unprinted-wants wants faults.NoSuchModule reply h works = absurd h
  unprinted-wants wants faults.NoSuchKey reply h works = absurd h
  unprinted-wants wants faults.NoSuchNumber reply h works = absurd h
  unprinted-wants wants faults.NoSuchService reply h works = absurd h
  unprinted-wants wants faults.UnusedCandidate reply h works = absurd h
  unprinted-wants wants faults.Unread reply h works = absurd h
  unprinted-wants wants (faults.Facts e) reply h works = absurd h
  unprinted-wants wants (faults.Policy e) reply h works = absurd h
  unprinted-wants wants (faults.Accept e) reply h works = absurd h
  unprinted-wants wants (faults.Moment e) reply h works = absurd h
  unprinted-wants wants (faults.Table e) reply h works = absurd h
  unprinted-wants wants (faults.Time e) reply h works = absurd h

-- ---- JSON

-- the text of a reply that has JSON is that, and it is plain if it has none
as_json : (reply : Reply) → has_json reply ≡ true → (text : Result (List ℕ) CursorError) → IsJson reply text → IsTextIn Json reply text
as_json reply has text is = subst (λ (given : Bool). IsJsonOrText given reply text) (sym has) is

as_plain : (reply : Reply) → has_json reply ≡ false → (text : Result (List ℕ) CursorError) → IsPlainText reply text → IsTextIn Json reply text
as_plain reply none text is = subst (λ (given : Bool). IsJsonOrText given reply text) (sym none) is

module _ {W : Type 0} (contents : W → Option (List ℕ)) (reply : Reply) (result : Result (Unit {0}) Fault) where
  pub json-printed : (old new : Out W) → PrintsIfAny contents old new (Some result) reply → PrintsBy contents (IsTextIn Json) old new result reply
  json-printed old new h = printed-as contents IsJson (IsTextIn Json) old new reply (as_json reply h.0) result h.1

  -- no JSON is written, and then the text
  pub text-printed-instead : (old mid new : Out W) → PrintsIfAny contents old mid None reply → PrintsBy contents IsPlainText mid new result reply
      → PrintsBy contents (IsTextIn Json) old new result reply
  text-printed-instead old mid new nothing h =
      subst (λ (out : Out W). PrintsBy contents (IsTextIn Json) out new result reply) nothing.1
      (printed-as contents IsPlainText (IsTextIn Json) mid new reply (as_plain reply nothing.0) result h)

-- ---- SARIF

plain-as_sarif : (reply : Reply) → is_check reply ≡ false → (text : Result (List ℕ) CursorError) → IsPlainText reply text → IsTextIn Sarif reply text
plain-as_sarif reply none text is = subst (λ (given : Bool). IsSarifOrText given reply text) (sym none) is

module _ {W : Type 0} (contents : W → Option (List ℕ)) (old new : Out W) (reply : Reply) where
  -- the SARIF of the check that the reply is
  pub sarif-printed : (found : CheckValue) (result : Result (Unit {0}) Fault) → reply ≡ CheckReply found
      → PrintsBy contents IsSarif old new result (CheckReply found) → PrintsBy contents (IsTextIn Sarif) old new result reply
  sarif-printed found result same h =
      subst (λ (r : Reply). PrintsBy contents (IsTextIn Sarif) old new result r) (sym same)
      (printed-as contents IsSarif (IsTextIn Sarif) old new (CheckReply found) (λ text is. is) result h)

  -- the text of another reply
  pub text-printed-for : (result : Result (Unit {0}) Fault) → is_check reply ≡ false → PrintsBy contents IsPlainText old new result reply
      → PrintsBy contents (IsTextIn Sarif) old new result reply
  text-printed-for result none h = printed-as contents IsPlainText (IsTextIn Sarif) old new reply (plain-as_sarif reply none) result h

-- ---- the full text

plain-as_full : (reply : Reply) → is_check reply ≡ false → (text : Result (List ℕ) CursorError) → IsPlainText reply text → IsTextIn Full reply text
plain-as_full reply none text is = subst (λ (given : Bool). IsFullOrText given reply text) (sym none) is

module _ {W : Type 0} (contents : W → Option (List ℕ)) (old new : Out W) (reply : Reply) where
  -- the full text of the check that the reply is
  pub full-printed : (found : CheckValue) (result : Result (Unit {0}) Fault) → reply ≡ CheckReply found
      → PrintsBy contents IsFull old new result (CheckReply found) → PrintsBy contents (IsTextIn Full) old new result reply
  full-printed found result same h =
      subst (λ (r : Reply). PrintsBy contents (IsTextIn Full) old new result r) (sym same)
      (printed-as contents IsFull (IsTextIn Full) old new (CheckReply found) (λ text is. is) result h)

  -- the text of another reply
  pub text-printed-for_full : (result : Result (Unit {0}) Fault) → is_check reply ≡ false → PrintsBy contents IsPlainText old new result reply
      → PrintsBy contents (IsTextIn Full) old new result reply
  text-printed-for_full result none h = printed-as contents IsPlainText (IsTextIn Full) old new reply (plain-as_full reply none) result h

-- ---- the patch

plain-as_patch : (reply : Reply) → is_check reply ≡ false → (text : Result (List ℕ) CursorError) → IsPlainText reply text → IsTextIn Patch reply text
plain-as_patch reply none text is = subst (λ (given : Bool). IsPatchOrText given reply text) (sym none) is

module _ {W : Type 0} (contents : W → Option (List ℕ)) (old new : Out W) (reply : Reply) where
  -- the patch of the check that the reply is
  pub patch-printed : (found : CheckValue) (result : Result (Unit {0}) Fault) → reply ≡ CheckReply found
      → PrintsBy contents IsPatch old new result (CheckReply found) → PrintsBy contents (IsTextIn Patch) old new result reply
  patch-printed found result same h =
      subst (λ (r : Reply). PrintsBy contents (IsTextIn Patch) old new result r) (sym same)
      (printed-as contents IsPatch (IsTextIn Patch) old new (CheckReply found) (λ text is. is) result h)

  -- the text of another reply
  pub text-printed-for_patch : (result : Result (Unit {0}) Fault) → is_check reply ≡ false → PrintsBy contents IsPlainText old new result reply
      → PrintsBy contents (IsTextIn Patch) old new result reply
  text-printed-for_patch result none h = printed-as contents IsPlainText (IsTextIn Patch) old new reply (plain-as_patch reply none) result h

-- ---- pages

abbrev page_in : Answer → Bool
page_in (Ok reply) = wants_memory reply
page_in (Err fault) = false

no_stacks : (given : Result (List StackValue) ConfError) → page_in (answer_of Stacks given) ≡ false
no_stacks (Err e) = refl
no_stacks (Ok stacks) = refl

no_rules : (given : Result (List ReleasedValue) ConfError) → page_in (answer_of Released given) ≡ false
no_rules (Err e) = refl
no_rules (Ok readings) = refl

no_shown : (release : Option ReleaseName) (service : List ℕ) (kind : Option Kind) (files : Folder) → page_in (shown_by release service kind files) ≡ false
no_shown None service kind files = no_stacks (for_each (stack_in service files) (kinds_shown kind))
no_shown (Some release) service kind files = no_rules (for_each (λ kind. released service kind release files) (kinds_shown kind))

no_explanation : (found : Option Explanation) → page_in (explained_by found) ≡ false
no_explanation None = refl
no_explanation (Some explanation) = refl

no_explained : (number : Option (List ℕ)) → page_in (explained number) ≡ false
no_explained None = refl
no_explained (Some number) = no_explanation (explanation_of number)

not_both : true ≡ false → ⊥
not_both both = cc

-- a page, a drawing, a check and policies are the reply of a task that may want memory for what is made
pub page-wants : (service : List ℕ) (candidates : List CandidateText) (task : Task) (files : Folder) (inputs : Inputs) (reply : declared.Reply)
    → AnswersBy (Finds (Ok reply)) service candidates task files inputs → wants_memory (reply_view reply) ≡ true → (wants_of task inputs).work ≡ true
unfolding AnswersBy
page-wants service candidates (Show source kind release) files inputs reply h page =
    absurd (not_both (sym page ∙ ap page_in (sym h) ∙ no_shown release service kind files))
page-wants service candidates (Decide source kind answered) files inputs reply h page = refl
page-wants service candidates (Access table groups passwd login arguments) files inputs reply h page = refl
page-wants service candidates (Time table login moment) files inputs reply h page = refl
page-wants service candidates (Paths source kind limit part filter knowledge) files inputs reply h page = refl
page-wants service candidates (Outcomes source kind knowledge) files inputs reply h page = refl
page-wants service candidates (Graph source kind format knowledge) files inputs reply h page = refl
page-wants service candidates (Check source services fail_on named) files inputs reply h page = refl
page-wants service candidates (Compare old new named kind given) files inputs reply h page = refl
page-wants service candidates (Policy source names fail_on knowledge) files inputs reply h page = refl
page-wants service candidates (Needs source kind knowledge) files inputs reply h page = refl
page-wants service candidates (Explain number) files inputs reply h page =
    absurd (not_both (sym page ∙ ap page_in (sym h) ∙ no_explained (option_copied number)))
page-wants service candidates Facts files inputs reply h page = absurd (not_both (sym page ∙ ap page_in (sym h)))
page-wants service candidates Version files inputs reply h page = absurd (not_both (sym page ∙ ap page_in (sym h)))
