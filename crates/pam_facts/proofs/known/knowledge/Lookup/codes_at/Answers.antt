use Rattle.std.proofs.Common.{◌≡◌, subst, refl}
use Rattle.std.specs.Prelude.{Option, None}
use Rattle.std.specs.Option.{option_and_then}
use Rattle.pam_conf.specs.Stack.{ModuleText}
use Rattle.pam_tables.specs.Login.{login_view}
use Rattle.pam_tables.specs.Returns.{codes_for}
use Rattle.pam_facts.specs.known.Answers.{name_of_path, table_answer}
use Rattle.pam_facts.specs.known.Knowledge.{codes_by, line_at, told_at}
use Rattle.pam_facts.specs.known.inner.Sets.{Adds}
use Rattle.pam_facts.specs.known.Tables.{tables_view}
use Rattle.pam_facts.proofs.known.knowledge.Lookup.codes_at.Goals as goal

pub returns-in-Some : goal.returns-in-Some
unfolding told_at line_at
returns-in-Some c =
    let l = c.args.self.now in
    subst (λ (m : Option ModuleText). Adds c.codes_of.result
    (option_and_then (table_answer l.kind (login_view l.login.now) (tables_view l.tables.now) l.groups) m)
    (option_and_then (λ t. codes_for c.args.returns.now (name_of_path t.path)) m))
    c.in-Some.ensures.module c.codes_of.ensures

pub returns-in-None : goal.returns-in-None
unfolding told_at line_at
returns-in-None c said =
    let l = c.args.self.now in
    subst (λ (m : Option ModuleText).
    codes_by (option_and_then (table_answer l.kind (login_view l.login.now) (tables_view l.tables.now) l.groups) m)
    (option_and_then (λ t. codes_for c.args.returns.now (name_of_path t.path)) m) said
    ≡ codes_by (option_and_then (table_answer l.kind (login_view l.login.now) (tables_view l.tables.now) l.groups) m) None said)
    c.in-None.ensures.module refl
