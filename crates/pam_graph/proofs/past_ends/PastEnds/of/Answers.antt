use Rattle.std.proofs.Common.{◌≡◌, ◌-◌, ◌++◌, ◌∙◌, List, ℕ, [], ap, arith, get_or, length}
use Rattle.pam_conf.specs.ItemsOf.{items_of}
use Rattle.pam_conf.specs.Stack.{Items}
use Rattle.pam_graph.specs.PastEnds.{past_ends}
use Rattle.pam_graph.proofs.Passing.{length-past_ends}
use Rattle.pam_graph.proofs.past_ends.PastEnds.of.Given.{Over}
use Rattle.pam_graph.proofs.past_ends.PastEnds.of.Goals as goal
use Rattle.pam_graph.proofs.past_ends.PastEnds.of.Goals.{After-deref}

all : (g : Over) (c : After-deref g) → c.deref.result.now ≡ past_ends (g.K.Knowledge.allows c.args.knowledge.now) c.args.stack.now
all g c =
    let allows = g.K.Knowledge.allows c.args.knowledge.now in
    c.deref.ensures.value ∙ c.in_ok-push_past_ends.ensures
    ∙ ap (λ (x : List (List ℕ)). x ++ past_ends allows (items_of c.items.result.now)) c.new-found.ensures.items
    ∙ ap (λ (x : Items). past_ends allows x) c.items.ensures.items

pub by_number-requires : goal.by_number-requires
by_number-requires g c =
    let few = c.items.ensures.few in
    let long = ap (λ (x : List (List ℕ)). length x) (all g c) ∙ length-past_ends (g.K.Knowledge.allows c.args.knowledge.now) c.args.stack.now in
    omega (arith, few, long)

pub returns : goal.returns
returns g c number =
    let k = (goal.at.returns g c).After-deref in
    c.by_number.ensures (number - 1) ∙ ap (λ (x : List (List ℕ)). get_or x (number - 1) []) (all g k)
