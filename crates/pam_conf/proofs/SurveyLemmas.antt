-- The survey of a service, as the code makes it.
use Rattle.std.proofs.Common.{◌≡◌, ◌-◌, ℕ, List, [], ◌∷◌, ◌++◌, length, eqb, true, codes, option_and_then, Option, Some, None, Result, Ok, Err, IfOk}
use Rattle.std.proofs.Common.{OnOk, IsFalse, false, ap, refl, sym, subst, ◌∙◌}
use Rattle.std.specs.List.{list_any}
use Rattle.std.specs.declared.alloc.AllocError.{AllocError}
use Rattle.pam_conf.specs.Files.{Folder, position_of}
use Rattle.pam_conf.specs.ItemsOf.{items_of}
use Rattle.pam_conf.specs.inner.Progress.{Count, Passes, Refuses}
use Rattle.pam_conf.specs.Resolution.{StartText, carried, start_in, start_of, start_read}
use Rattle.pam_conf.specs.Rule.{RuleText}
use Rattle.pam_conf.specs.Stack.{Items, End}
use Rattle.pam_conf.specs.Survey.{SurveyText, good_at, survey_from}
use Rattle.pam_conf.specs.SurveyText.{survey_text}
use Rattle.pam_conf.specs.Tells.{UnlessMemory}
use Rattle.pam_conf.specs.Walk.{carries, walk}
use Rattle.pam_conf.specs.declared.conf_error.ConfError.{ConfError}
use Rattle.pam_conf.specs.declared.error.FaultKind.{FaultKind}
use Rattle.pam_conf.specs.declared.error.FaultKind.TheVariants.{Memory}
use Rattle.pam_conf.specs.declared.rule.Form.{Form}
use Rattle.pam_conf.specs.declared.rule.Form.TheVariants.{Single}
use Rattle.pam_conf.specs.declared.rule.Kind.{Kind}
use Rattle.pam_conf.specs.declared.stack.Item.{Item}
use Rattle.pam_conf.specs.declared.stack.Item.TheVariants.{Module as ModuleItem, Sub as SubItem}
use Rattle.pam_conf.specs.declared.survey.Survey.{Survey}
use Rattle.pam_conf.specs.declared.trail.TheConstants.{MAX_OPEN_FILES}
use Rattle.pam_conf.proofs.Accounts.{told-all, told-ended}
use Rattle.pam_conf.proofs.ResolutionLemmas.{begun, stack-walked}

unless_memory : (e : ConfError) (kind : FaultKind) {P : Type 0} → UnlessMemory e kind P → (kind ≡ Memory → ⊥) → P
unless_memory e Memory h other = absurd (other refl)
unless_memory e kind h other = h

-- the count at the start of a survey
abbrev pub first_count : ℕ → Count
first_count file = record { modules = 0; follows = 0; noted = []; reached = file ∷ [] }

module _ (folder seen : Folder) (kind : Kind) (start : StartText) (trail : List ℕ) (is : trail ≡ start.file ∷ []) (same : folder ≡ seen) (n n' : Count)
    (begins : n ≡ first_count start.file) where
  pub survey-done : (i0 i : Items) → i0 ≡ End → Passes true n i0 (begun folder (good_at folder) kind start trail) n' i →
      record { items = Some i; faults = n'.noted; reached = n'.reached; other_answers = false } ≡ survey_from seen kind start
  unfolding survey_from
  survey-done i0 i none p =
      let w = walk folder (good_at folder) kind start.service (MAX_OPEN_FILES - 1) (start.file ∷ []) start.file in
      let walked = stack-walked folder (good_at folder) kind start trail is true n n' (ap (λ (m : Count). m.modules) begins) i0 i none p in
      told-all start.file w n n' i begins walked.0 walked.1 ∙ ap (λ (f : Folder). survey_from f kind start) same

  pub survey-ended : (e : ConfError) (result : Result Survey AllocError) → Refuses true n (begun folder (good_at folder) kind start trail) n' e →
      OnOk result (e.kind ≡ Memory → ⊥) →
      IfOk result (λ s. survey_text s ≡ record { items = None; faults = n'.noted ++ e ∷ []; reached = n'.reached; other_answers = false }) →
      IfOk result (λ s. survey_text s ≡ survey_from seen kind start)
  unfolding survey_from
  survey-ended e (Ok s) r limit text =
      let w = walk folder (good_at folder) kind start.service (MAX_OPEN_FILES - 1) (start.file ∷ []) start.file in
      let ended = unless_memory e e.kind (subst (λ (t : List ℕ). Refuses true n (begun folder (good_at folder) kind start t) n' e) is r) limit in
      text ∙ told-ended start.file w n n' e begins (ended []) ∙ ap (λ (f : Folder). survey_from f kind start) same
  survey-ended e (Err failed) r limit text = tt

-- the start of a service in pam.conf
pub start_single : (seen : Folder) (service : List ℕ) (file : ℕ) (rules : List RuleText) (start : Option StartText) → seen.form ≡ Single →
    position_of (codes "pam.conf") seen.entries ≡ Some file → good_at seen file ≡ Ok rules →
    start ≡ carried (list_any (carries service) rules) file service → start ≡ start_of seen (good_at seen) service
start_single seen service file rules start form at read is =
    is
    ∙ sym (ap (λ (f : Form). start_in f seen (good_at seen) service) form
    ∙ ap (λ (o : Option ℕ). option_and_then (λ f. start_read f service (good_at seen f)) o) at
    ∙ ap (start_read file service) read)

-- a list with items is not empty
pub not_end : (xs : List Item) (stack : Option Items) (items : Items) → stack ≡ Some items → items_of xs ≡ items → IsFalse (eqb (length xs) 0) →
    stack ≡ Some End → ⊥
not_end [] stack items some same more none = absurd (cc)
not_end (ModuleItem m ∷ xs) stack items some same more none = absurd (cc)
not_end (SubItem s ∷ xs) stack items some same more none = absurd (cc)

-- a survey with these items
abbrev pub with_stack : Count → Items → SurveyText
with_stack n items = record { items = Some items; faults = n.noted; reached = n.reached; other_answers = false }
