-- What the definitions imply.
use Rattle.std.proofs.Common.{◌≡◌, ◌⊎◌, Bool, true, false, None, Some, not, refl, sym, ◌∙◌, ap, subst, inl, inr}
use Rattle.std.proofs.lemmas.Bool.{false≢true}
use Rattle.std.specs.List.{list_any}
use Rattle.pam_conf.specs.Stack.{Items, module_count}
use Rattle.pam_dispatch.specs.State.{success}
use Rattle.pam_dispatch.specs.Tree.{decided, runs_of_stack}
use Rattle.pam_dispatch.proofs.Numbering.{AsksRise-stack}
use Rattle.pam_graph.specs.Goals.{meets}
use Rattle.pam_paths.specs.Computed.{listing}
use Rattle.pam_paths.specs.Listing.{Allowance}
use Rattle.pam_paths.specs.Paths.{PathValue, Precedes, key}
use Rattle.pam_paths.proofs.Listings.{Precedes-irreflexive, Precedes-trans, listing-is, some_assignment}
use Rattle.pam_paths.proofs.Trees.{listing-tree}
use Rattle.pam_findings.specs.stack.Laws.{CountingLetsIn, FirstWayInIsOne, JumpingIsAsked, MoreAllowedLetsIn, SomebodyOrNobody, SoundStack}
use Rattle.pam_findings.specs.stack.Soundness.{IsFirstWayIn, LetsIn, LetsNobodyIn, SaysNobody}
use Rattle.pam_findings.proofs.StackProofs.WaysIn.{path-decides, says-nobody, success_goal}

pub more_allowed : MoreAllowedLetsIn
more_allowed failing free items more x = record {
  answers = x.answers;
  allowed = λ m from to. let here = x.allowed m from to in (here.0, more m (x.answers m) from to here.1);
  decides = x.decides;
}

-- one of two first ways in comes first
comes-first : (allows : Allowance) (items : Items) (one other : PathValue) → IsFirstWayIn allows items one → IsFirstWayIn allows items other →
    (one ≡ other) ⊎ Precedes (key one) (key other)
comes-first allows items one other a b =
    let decides : decided items b.way.0 ≡ success =
    sym (path-decides items b.way.0) ∙ sym (ap (λ (p : PathValue). p.decision) b.way.2) ∙ b.decides in
    subst (λ p. (one ≡ p) ⊎ Precedes (key one) (key p)) (sym b.way.2) (a.first b.way.0 b.way.1 decides)

pub one_first : FirstWayInIsOne
one_first allows items one other a b = either (comes-first allows items one other a b) (comes-first allows items other one b a)
  where
    either : (one ≡ other) ⊎ Precedes (key one) (key other) → (other ≡ one) ⊎ Precedes (key other) (key one) → one ≡ other
    either (inl e) back = e
    either (inr p) (inl e) = sym e
    either (inr p) (inr q) = absurd (Precedes-irreflexive (key one) (Precedes-trans (key one) (key other) (key one) p q))

pub somebody_or_nobody : SomebodyOrNobody
somebody_or_nobody allows items numbered lawful =
    let paths = listing allows (runs_of_stack items) in
    let some = some_assignment allows (module_count items) lawful in
    let is =
    listing-tree allows (module_count items) (runs_of_stack items) items refl paths
    (listing-is allows (module_count items) (runs_of_stack items) (AsksRise-stack items numbered) some.0 some.1) in
    either (list_any (meets success_goal) paths) (says-nobody allows items paths is (list_any (meets success_goal) paths) refl)
  where
    either : (is_met : Bool) → SaysNobody allows items (not is_met) → LetsIn allows items ⊎ LetsNobodyIn allows items
    either true h = inl h
    either false h = inr h

pub sound_stack : SoundStack
sound_stack free failing items true way nobody anybody e n = absurd (false≢true (sym e))
sound_stack free failing items false None nobody anybody e n =
    (nobody, λ answers ok d. anybody (record { answers = answers; allowed = ok; decides = d }))
sound_stack free failing items false (Some path) nobody anybody e n = absurd (let k : ⊥ = cc in k)

pub jumping_asked : JumpingIsAsked
jumping_asked allows items number jumps never = never.never jumps.asks

pub counting_lets_in : CountingLetsIn
counting_lets_in allows items number counts = record {
  answers = counts.succeeds.asks.answers;
  allowed = counts.succeeds.asks.allowed;
  decides = counts.decides;
}
