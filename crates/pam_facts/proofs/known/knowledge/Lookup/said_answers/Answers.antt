use Rattle.std.proofs.Common.{ap, subst, sym, List}
use Rattle.std.specs.Prelude.{Option}
use Rattle.std.specs.Option.{option_map}
use Rattle.pam_codes.specs.Code.{all_codes}
use Rattle.pam_paths.specs.Known.{set_for}
use Rattle.pam_facts.specs.Rows.{Row}
use Rattle.pam_facts.specs.known.Knowledge.{said_at}
use Rattle.pam_facts.specs.known.inner.Sets.{Lets}
use Rattle.pam_facts.proofs.KnownProofs.SetSteps.{lets_all}
use Rattle.pam_facts.proofs.known.knowledge.Lookup.said_answers.Goals as goal

pub returns-in-Some : goal.returns-in-Some
unfolding said_at Lets
returns-in-Some c m low high = subst (λ (facts : Option (List Row)). Lets (said_at c.args.self.now.kind facts c.args.stack.now m) (set_for c.answers.result m))
    (sym (ap (option_map (λ f. f.now)) c.in-Some.is)) (λ code small. c.answers.ensures m code low high small)

pub returns-in-None : goal.returns-in-None
unfolding said_at
returns-in-None c m low high = subst (λ (facts : Option (List Row)). Lets (said_at c.args.self.now.kind facts c.args.stack.now m) (set_for c.new.result m))
    (sym (ap (option_map (λ f. f.now)) c.in-None.is)) (subst (Lets all_codes) (sym (c.new.ensures m)) lets_all)
