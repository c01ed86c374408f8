use Rattle.std.proofs.Common.{ap, ◌∙◌, Option}
use Rattle.std.specs.Option.{option_map, option_map_or}
use Rattle.pam_codes.specs.Code.{all_codes}
use Rattle.pam_conf.specs.Stack.{ModuleText}
use Rattle.pam_facts.specs.Answers.{answers_at, module_answers}
use Rattle.pam_facts.proofs.answers.Question.answers_at.Goals as goal

pub returns-in-Some : goal.returns-in-Some
unfolding answers_at
returns-in-Some c =
    let q = c.args.self.now in
    c.module_answers.ensures
    ∙ ap (λ (o : Option ModuleText). option_map_or (module_answers q.checks q.kind q.facts.now (option_map (λ t. t.now) q.there)) o all_codes)
    c.in-Some.ensures.module

pub returns-in-None : goal.returns-in-None
unfolding answers_at
returns-in-None c =
    let q = c.args.self.now in
    c.all.ensures ∙ ap (λ (o : Option ModuleText). option_map_or (module_answers q.checks q.kind q.facts.now (option_map (λ t. t.now) q.there)) o all_codes)
    c.in-None.ensures.module
