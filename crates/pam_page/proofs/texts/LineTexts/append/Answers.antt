use Rattle.std.proofs.Common.{◌≡◌, ◌∙◌, ◌∷◌, ◌++◌, [], Bool, List, ap, cond, map, subst, sym}
use Rattle.std.proofs.lemmas.List.{map-append}
use Rattle.pam_page.proofs.KeptTexts.{no_texts, texts_push}
use Rattle.pam_page.specs.KeptSteps.{step_of}
use Rattle.pam_page.specs.inner.KeptSteps.{AreTexts}
use Rattle.pam_page.specs.declared.texts.KeptStep.{KeptStep}
use Rattle.pam_paths.specs.Paths.{StepValue}
use Rattle.pam_page.proofs.texts.LineTexts.append.Goals as goal

abbrev kept_of : goal.Then-push_kept → KeptStep
kept_of c = record { step = c.args.step.now; cursor_end = c.len.result; steps_end = c.len-then-append_step.result }

pushed : (c : goal.Then-push_kept) → c.push_kept.new.kept.items ≡ c.self.inside.kept.items ++ kept_of c ∷ []
pushed c =
    let kept = c.self.inside.kept.items in
    c.push_kept.ensures ∙ ap (λ (ok : Bool). cond ok (kept ++ kept_of c ∷ []) kept) c.if-push_kept.true

pub invariant_of-self : goal.invariant_of-self
invariant_of-self c =
    let inside = c.self.inside in
    let cursor = c.append_code.new.cursor in
    let steps = c.append_step.new.steps in
    subst (λ (ms : List KeptStep). AreTexts ms cursor steps) (sym (pushed c))
    (texts_push inside.kept.items inside.cursor inside.steps (kept_of c) cursor steps c.self.invariant
    (c.append_code.ensures c.if-append_code.true) (c.append_step.ensures c.if-append_step.true) c.len.ensures c.len-then-append_step.ensures)

pub invariant_of-self-2 : goal.invariant_of-self-2
invariant_of-self-2 c = no_texts _ _ _ c.clear.ensures.items c.truncate.ensures c.truncate-2.ensures

pub returns-then-push_kept : goal.returns-then-push_kept
returns-then-push_kept c =
    ap (map step_of) (pushed c) ∙ map-append step_of c.self.inside.kept.items (kept_of c ∷ [])
    ∙ ap (λ (l : List StepValue). l ++ step_of (kept_of c) ∷ []) c.self.view_is

pub returns : goal.returns
returns c = ap (map step_of) c.clear.ensures.items
