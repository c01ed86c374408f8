-- What the definitions imply.
use Rattle.std.specs.Prelude.{◌≡◌, ◌⊎◌, ◌↔◌, ℕ, ◌≤◌, Bool, true, false, List, Option, None}
use Rattle.pam_conf.specs.Stack.{Items, IsNumbered, module_count}
use Rattle.pam_dispatch.specs.Runs.{Assignment}
use Rattle.pam_dispatch.specs.State.{success}
use Rattle.pam_dispatch.specs.Tree.{decided}
use Rattle.pam_text.specs.Members.{Member}
use Rattle.pam_paths.specs.Listing.{Allowance, IsAllowed, IsLawful}
use Rattle.pam_paths.specs.Paths.{PathValue}
use Rattle.pam_findings.specs.stack.Asked.{IsNeverAsked, JumpsPastEnd, RiseAbove}
use Rattle.pam_findings.specs.stack.Counting.{Counts}
use Rattle.pam_findings.specs.stack.Soundness.{IsFirstWayIn, LetsIn, LetsNobodyIn, SaysNobody, SaysWayIn}

-- one knowledge allows only what the other allows
abbrev pub AllowsNoMore : Allowance → Allowance → ℕ → Type 0
AllowsNoMore one other n = (number code : ℕ) → 1 ≤ number → number ≤ n → one number code ≡ true → other number code ≡ true

-- whoever is let in where less is allowed is let in where more is: a stack that lets anybody in does not let nobody in
abbrev pub MoreAllowedLetsIn : Type 0
MoreAllowedLetsIn =
    (failing free : Allowance) (items : Items) → AllowsNoMore failing free (module_count items) → LetsIn failing items → LetsIn free items

-- there is at most one first way in
abbrev pub FirstWayInIsOne : Type 0
FirstWayInIsOne =
    (allows : Allowance) (items : Items) (one other : PathValue) → IsFirstWayIn allows items one → IsFirstWayIn allows items other → one ≡ other

-- a stack in which the success of a module counts lets somebody in
abbrev pub CountingLetsIn : Type 0
CountingLetsIn = (allows : Allowance) (items : Items) (number : ℕ) → Counts allows items number → LetsIn allows items

-- each stack has an answer to S1, and to S2
abbrev pub SomebodyOrNobody : Type 0
SomebodyOrNobody =
    (allows : Allowance) (items : Items) → IsNumbered items → IsLawful allows (module_count items) → LetsIn allows items ⊎ LetsNobodyIn allows items

-- A SOUND STACK, without S1 and S2: some answers let somebody in, and none let anybody in whose checks all fail
abbrev pub SoundStack : Type 0
SoundStack =
    (free failing : Allowance) (items : Items) (nobody : Bool) (way : Option PathValue) →
    SaysNobody free items nobody → SaysWayIn failing items way → nobody ≡ false → way ≡ None →
    LetsIn free items × ((answers : Assignment) → IsAllowed failing (module_count items) answers → decided items answers ≡ success → ⊥)

-- lists that rise strictly and have the same members are equal: so there is one list of exactly the numbers of which something holds
abbrev pub RisingListsAreOne : Type 0
RisingListsAreOne =
    (one other : List ℕ) → RiseAbove 0 one → RiseAbove 0 other → ((number : ℕ) → Member number one ↔ Member number other) → one ≡ other

-- a module that jumps past the end of its list is one that is asked
abbrev pub JumpingIsAsked : Type 0
JumpingIsAsked =
    (allows : Allowance) (items : Items) (number : ℕ) → JumpsPastEnd allows items number → IsNeverAsked allows items number → ⊥
