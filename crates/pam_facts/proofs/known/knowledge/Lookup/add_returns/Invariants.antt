use Rattle.pam_conf.specs.Stack.{module_count}
use Rattle.pam_paths.specs.Known.{set_for}
use Rattle.pam_facts.specs.known.Knowledge.{line_at}
use Rattle.pam_facts.specs.known.inner.Sets.{AreDone, IsLineSet, IsTableSet, said_of, told_of_number}
use Rattle.pam_facts.proofs.known.knowledge.Lookup.add_returns.Given as goal

abbrev pub invariant-loop-index : goal.invariant-loop-index
invariant-loop-index l =
    let told = told_of_number l.self l.stack in
    let said = said_of l.self l.stack in
    AreDone (module_count l.stack) (IsTableSet told said) (IsLineSet told (line_at l.returns l.stack) said) (set_for l.known) l.index
