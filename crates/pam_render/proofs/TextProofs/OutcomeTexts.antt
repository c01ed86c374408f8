-- The lines of `outcomes`.
use Rattle.std.proofs.Common.{◌≡◌, ℕ, List, ◌∷◌, ◌++◌, Option, codes, map, refl}
use Rattle.std.specs.List.{flat_map}
use Rattle.pam_codes.specs.SetText.{name_of, set_text}
use Rattle.pam_conf.specs.Stack.{Items, module_count}
use Rattle.pam_conf.specs.declared.rule.Kind.{Kind}
use Rattle.pam_facts.specs.known.Answers.{name_of_path}
use Rattle.pam_paths.specs.CursorText.{cursor_text}
use Rattle.pam_paths.specs.Paths.{StepValue, key}
use Rattle.pam_paths.specs.Steps.{step_seen}
use Rattle.pam_paths.specs.declared.path.PathStep.{PathStep}
use Rattle.pam_report.specs.Decide.{path_at}
use Rattle.pam_report.specs.Reply.{Outcome}
use Rattle.pam_report.specs.ReplyViews.{outcome_view}
use Rattle.pam_report.specs.declared.report.outcomes.Outcome as declared
use Rattle.pam_render.specs.parts.Ways.{count_text}
use Rattle.pam_render.specs.text.Header.{header_text}
use Rattle.pam_render.specs.text.Outcomes.{named_step, named_steps, next_step, outcome_line, total_line}
use Rattle.pam_render.specs.text.WordText.{shown_word_text}

pub named_step-is : (items : Items) (step : StepValue) (number : ℕ) (path name class : List ℕ) → number ≡ step.module_number → path ≡ path_at number items
    → name ≡ name_of_path path → class ≡ step.class → codes " " ++ shown_word_text name ++ codes " " ++ set_text class ≡ named_step items step
unfolding named_step
named_step-is items step number path name class e f g h = rw (g, f, e, h) refl

pub named_steps-is : (items : Items) (all : List PathStep) (first : PathStep) (others : List PathStep) → all ≡ first ∷ others
    → (codes ":" ++ named_step items (step_seen first)) ++ flat_map (next_step items) (map step_seen others) ≡ named_steps items (map step_seen all)
unfolding named_steps
named_steps-is items all first others e = rw e refl

pub outcome_line-is : (items : Items) (o : Outcome) (name k : List ℕ) (steps : List StepValue)
    → name ≡ name_of o.decision → k ≡ key o.first → steps ≡ o.first.steps
    → name ++ codes " " ++ count_text o.count ++ codes " ways, first " ++ cursor_text k ++ named_steps items steps ++ codes "\n" ≡ outcome_line items o
unfolding outcome_line
outcome_line-is items o name k steps e f g = rw (e, f, g) refl

pub lines-are : (service : List ℕ) (kind : Kind) (items : Items) (total : Option ℕ) {modules : ℕ} {named : Items} {one other : List declared.Outcome}
    → modules ≡ module_count items
    → named ≡ items
    → one ≡ other
    → header_text service kind modules ++ flat_map (outcome_line named) (map outcome_view one) ++ total_line total
    ≡ header_text service kind (module_count items) ++ flat_map (outcome_line items) (map outcome_view other) ++ total_line total
lines-are service kind items total e n f = rw (e, n, f) refl
