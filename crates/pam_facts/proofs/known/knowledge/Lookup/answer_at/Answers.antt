use Rattle.std.proofs.Common.{sym, ap, subst}
use Rattle.std.specs.Prelude.{Option}
use Rattle.std.specs.Option.{option_and_then}
use Rattle.pam_conf.specs.Stack.{ModuleText}
use Rattle.pam_tables.specs.Login.{login_view}
use Rattle.pam_facts.specs.known.Answers.{table_answer}
use Rattle.pam_facts.specs.known.Knowledge.{told_at}
use Rattle.pam_facts.specs.known.inner.Sets.{TellsIfAny}
use Rattle.pam_facts.specs.known.Tables.{tables_view}
use Rattle.pam_facts.proofs.known.knowledge.Lookup.answer_at.Goals as goal

pub returns-in-Some-clause-told : goal.returns-in-Some-clause-told
unfolding told_at
returns-in-Some-clause-told c =
    let l = c.args.self.now in
    subst (λ (m : Option ModuleText). TellsIfAny c.answer_of.result
    (option_and_then (table_answer l.kind (login_view l.login.now) (tables_view l.tables.now) l.groups) m))
    c.in-Some.ensures.module c.answer_of.ensures.told

pub returns-in-None-clause-told : goal.returns-in-None-clause-told
unfolding told_at
returns-in-None-clause-told c =
    let l = c.args.self.now in
    ap (option_and_then (table_answer l.kind (login_view l.login.now) (tables_view l.tables.now) l.groups)) (sym c.in-None.ensures.module)
