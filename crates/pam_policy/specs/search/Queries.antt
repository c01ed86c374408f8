-- What is looked for among the runs of a stack: pam.conf(5), DESCRIPTION.
use Rattle.std.specs.Prelude.{◌≡◌, ℕ, All, IsTrue, List, ◌∷◌, ◌++◌}
use Rattle.pam_codes.specs.Set.{is_in}
use Rattle.pam_conf.specs.Stack.{Items}
use Rattle.pam_dispatch.specs.Runs.{Ask, Assignment}
use Rattle.pam_dispatch.specs.State.{start_state}
use Rattle.pam_dispatch.specs.Tree.{asked, decided}
use Rattle.pam_text.specs.Members.{Member}
use Rattle.pam_policy.specs.declared.search.marks.Marks.{Marks}
use Rattle.pam_policy.specs.declared.search.query.Query.{Query}
use Rattle.pam_policy.specs.declared.search.query.Query.TheVariants.{Together, Before}
use Rattle.pam_policy.specs.search.Marks.{codes_at}

-- an event happens at a module that is asked: its answer is one of those by which the event happens there
abbrev pub HappensAt : Assignment → Marks → Ask → Type 0
HappensAt answers marks ask = IsTrue (is_in (answers ask.module_number) (codes_at marks ask.module_number))

-- AN EVENT HAPPENS in the run of a stack: at some module that is asked
pub record Happens (items : Items) (answers : Assignment) (marks : Marks) : Type 0 where
  pub ask : Ask
  pub is_asked : Member ask (asked items start_state start_state answers)
  pub here : HappensAt answers marks ask

-- the run decides one of these codes, each of the events `wanted` happens, and `barred` does not
pub record DoesTogether (items : Items) (answers : Assignment) (wanted : List Marks) (barred : Marks) (decisions : List ℕ) : Type 0 where
  pub decides : IsTrue (is_in (decided items answers) decisions)
  pub wanted_happen : All (Happens items answers) wanted
  pub barred_not : Happens items answers barred → ⊥

-- `second` happens at a module that is asked, and `first` at none that is asked before that one
pub record DoesBefore (items : Items) (answers : Assignment) (first second : Marks) : Type 0 where
  pub earlier : List Ask
  pub ask : Ask
  pub later : List Ask
  pub are_asked : asked items start_state start_state answers ≡ earlier ++ ask ∷ later
  pub here : HappensAt answers second ask
  pub not_before : (other : Ask) → Member other earlier → HappensAt answers first other → ⊥

-- THE RUN DOES WHAT A QUERY ASKS FOR
abbrev pub Does : Items → Query → Assignment → Type 0
Does items (Together wanted barred decisions) answers = DoesTogether items answers wanted.items barred decisions
Does items (Before first second) answers = DoesBefore items answers first second
