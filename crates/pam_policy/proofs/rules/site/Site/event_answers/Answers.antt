use Rattle.std.proofs.Common.{◌∙◌, List, Option, [], ap, ℕ}
use Rattle.std.specs.Option.{option_map_or}
use Rattle.pam_conf.specs.Stack.{ModuleText}
use Rattle.pam_policy.specs.rules.Happening.{codes_at_module, event_answers}
use Rattle.pam_policy.specs.rules.Site.{site_view}
use Rattle.pam_policy.specs.text.Events.{event_view}
use Rattle.pam_policy.proofs.rules.site.Site.event_answers.Goals as goal

pub returns-in-Some : goal.returns-in-Some
unfolding event_answers
returns-in-Some c =
    let at : ModuleText → List ℕ = codes_at_module (site_view c.args.self.now) c.args.is_strict (event_view c.args.event.now) in
    let all : Option ModuleText → List ℕ = λ m. option_map_or at m [] in
    c.codes_at_module.ensures ∙ ap all c.in-Some.ensures.module

pub returns-in-None : goal.returns-in-None
unfolding event_answers
returns-in-None c =
    let at : ModuleText → List ℕ = codes_at_module (site_view c.args.self.now) c.args.is_strict (event_view c.args.event.now) in
    let all : Option ModuleText → List ℕ = λ m. option_map_or at m [] in
    c.empty.ensures ∙ ap all c.in-None.ensures.module
