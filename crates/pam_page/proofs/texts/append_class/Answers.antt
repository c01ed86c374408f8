use Rattle.std.proofs.Common.{◌∙◌, ◌++◌, Bool, List, ap, codes, cond, sym, ℕ}
use Rattle.pam_page.proofs.LineParts.{set_text-all, set_text-one}
use Rattle.pam_page.specs.Page.{code_name}
use Rattle.pam_page.proofs.texts.append_class.Goals as goal

pub returns-in-Some : goal.returns-in-Some
returns-in-Some c ok =
    let steps = c.args.steps.now in
    let name = code_name c.in-Some.code in
    c.append_name.ensures ∙ ap (λ (fits : Bool). cond fits (steps ++ name) steps) ok
    ∙ ap (λ (l : List ℕ). steps ++ l) (set_text-one _ _ (sym c.len.ensures.count ∙ c.in-1.is) c.in-Some.ensures.first)

pub returns-in-31 : goal.returns-in-31
returns-in-31 c ok =
    let steps = c.args.steps.now in
    c.append_front.ensures ∙ ap (λ (fits : Bool). cond fits (steps ++ codes "any") steps) ok
    ∙ ap (λ (l : List ℕ). steps ++ l) (set_text-all _ (sym c.len.ensures.count ∙ c.in-31.is))
