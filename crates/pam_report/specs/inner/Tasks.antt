-- For private contracts and proofs alone: what a request is about.
use Rattle.pam_words.specs.declared.wanted.Task.{Task}
use Rattle.pam_words.specs.declared.wanted.Task.TheVariants.{Access, Decide, Graph, Needs, Outcomes, Paths, Show, Time}

-- the runs of a stack
abbrev pub IsAboutRuns : Task → Type 0
IsAboutRuns (Paths source kind limit part filter knowledge) = Unit {0}
IsAboutRuns (Outcomes source kind knowledge) = Unit {0}
IsAboutRuns (Graph source kind format knowledge) = Unit {0}
IsAboutRuns _ = ⊥

-- a service, its runs included
abbrev pub IsAboutService : Task → Type 0
IsAboutService (Show source kind release) = Unit {0}
IsAboutService (Decide source kind codes) = Unit {0}
IsAboutService (Access table groups passwd login arguments) = Unit {0}
IsAboutService (Time table login moment) = Unit {0}
IsAboutService (Needs source kind knowledge) = Unit {0}
IsAboutService task = IsAboutRuns task
