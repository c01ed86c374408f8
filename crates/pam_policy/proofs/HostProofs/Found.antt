-- Classes that are found one after another.
use Rattle.std.proofs.Common.{◌≡◌, ◌∙◌, ◌++◌, ℕ, zero, suc, List, [], ◌∷◌, Some, ap, arith, length, refl, slice_get, subst, sym}
use Rattle.std.proofs.lemmas.List.Elements.{All-append, All-from_recursion, All-nil}
use Rattle.std.proofs.lemmas.Option.{same_Some}
use Rattle.std.specs.Prelude.{All}
use Rattle.pam_compare.proofs.SameItems.{same-self}
use Rattle.pam_compare.specs.Same.{AreSame}
use Rattle.pam_conf.specs.Stack.{module_count}
use Rattle.pam_conf.specs.declared.conf_error.ConfError.{ConfError}
use Rattle.pam_conf.specs.declared.rule.Kind.{Kind}
use Rattle.pam_facts.specs.known.Knowledge.{Agree}
use Rattle.pam_paths.specs.Known.{may_answer}
use Rattle.pam_paths.specs.Listing.{Allowance}
use Rattle.pam_policy.specs.declared.host.classes.Answered.{Answered}
use Rattle.pam_policy.specs.declared.host.classes.Classes.{Classes}
use Rattle.pam_policy.specs.declared.host.classes.LargeStack.{LargeStack}
use Rattle.pam_policy.specs.declared.host.stacks.ClassStack.{ClassStack}
use Rattle.pam_policy.specs.declared.host.stacks.ClassStack.TheVariants as classes
use Rattle.pam_policy.specs.declared.host.stacks.KnownStack.{KnownStack}
use Rattle.pam_policy.specs.declared.host.stacks.StackClass.{StackClass}
use Rattle.pam_policy.specs.host.HostStacks.{HasGraph}
use Rattle.pam_policy.specs.host.inner.Classes.{Adds, AreFound, Holds, HoldsAt, HoldsIn, IsLarge, IsLargeClass, IsLikeLarge, Keeps, Refuses, RefusesAt}

-- LISTS

pub all-got : {X : Type 0} (P : X → Type 0) (xs : List X) (k : ℕ) (x : X) → All P xs → slice_get xs k ≡ Some x → P x
all-got P [] k x all is = absurd cc
all-got P (y ∷ xs) zero x all is = subst P (same_Some y x is) (all 0 y (omega arith))
all-got P (y ∷ xs) (suc k) x all is = all-got P xs k x (λ j d l. all (suc j) d (omega (arith, l))) is

pub all-pushed : {X : Type 0} (P : X → Type 0) (before after : List X) (x : X) → after ≡ before ++ x ∷ [] → All P before → P x → All P after
all-pushed P before after x pushed all this =
    subst (All P) (sym pushed) (All-append P before (x ∷ []) all (All-from_recursion P (x ∷ []) (this, tt)))

last-there : {X : Type 0} (xs : List X) (x : X) → slice_get (xs ++ x ∷ []) (length xs) ≡ Some x
last-there [] x = refl
last-there (y ∷ xs) x = last-there xs x

pub last-at : {X : Type 0} (before after : List X) (x : X) (k : ℕ) → after ≡ before ++ x ∷ [] → k ≡ length before → slice_get after k ≡ Some x
last-at before after x k pushed end =
    ap (λ l. slice_get l k) pushed ∙ ap (slice_get (before ++ x ∷ [])) end ∙ last-there before x

got-more : {X : Type 0} (xs : List X) (x : X) (k : ℕ) (y : X) → slice_get xs k ≡ Some y → slice_get (xs ++ x ∷ []) k ≡ Some y
got-more [] x k y at = absurd cc
got-more (z ∷ xs) x zero y at = at
got-more (z ∷ xs) x (suc k) y at = got-more xs x k y at

-- CLASSES ARE ADDED

pub adds-none : (found : Classes) → Adds found found
unfolding Keeps
adds-none found = record { keeps = λ k class at. at; found = λ so. so }

keeps-more : (before after : List StackClass) (class : StackClass) → after ≡ before ++ class ∷ [] → Keeps before after
unfolding Keeps
keeps-more before after class pushed k one at = subst (λ (l : List StackClass). slice_get l k ≡ Some one) (sym pushed) (got-more before class k one at)

pub adds-one : (before after : Classes) (class : StackClass) → after.classes.items ≡ before.classes.items ++ class ∷ [] →
    after.large.items ≡ before.large.items → HasGraph class → Adds before after
adds-one before after class pushed same graph = record {
  keeps = keeps-more before.classes.items after.classes.items class pushed;
  found = λ so. record {
    graphs = all-pushed HasGraph before.classes.items after.classes.items class pushed so.graphs graph;
    large = subst (All (λ (l : LargeStack). IsLarge l.answered)) (sym same) so.large;
  };
}

pub adds-large : (before after : Classes) (class : StackClass) (large : LargeStack) → after.classes.items ≡ before.classes.items ++ class ∷ [] →
    after.large.items ≡ before.large.items ++ large ∷ [] → HasGraph class → IsLarge large.answered → Adds before after
adds-large before after class large pushed more graph is = record {
  keeps = keeps-more before.classes.items after.classes.items class pushed;
  found = λ so. record {
    graphs = all-pushed HasGraph before.classes.items after.classes.items class pushed so.graphs graph;
    large = all-pushed (λ (l : LargeStack). IsLarge l.answered) before.large.items after.large.items large more so.large is;
  };
}

pub none-found : (found : Classes) → found.classes.items ≡ [] → found.large.items ≡ [] → AreFound found
none-found found none no-large = record {
  graphs = subst (All HasGraph) (sym none) (All-nil HasGraph);
  large = subst (All (λ (l : LargeStack). IsLarge l.answered)) (sym no-large) (All-nil (λ (l : LargeStack). IsLarge l.answered));
}

-- A CLASS IS THAT OF A STACK

pub holds-at : (answered : Answered) (list : List StackClass) (k : ℕ) (class : StackClass) → slice_get list k ≡ Some class → Holds answered class →
    HoldsAt answered (slice_get list k)
holds-at answered list k class at holds = subst (HoldsAt answered) (sym at) holds

pub refuses-at : (kind : Kind) (fault : ConfError) (list : List StackClass) (k : ℕ) (class : StackClass) → slice_get list k ≡ Some class →
    Refuses kind fault class → RefusesAt kind fault (slice_get list k)
refuses-at kind fault list k class at refuses = subst (RefusesAt kind fault) (sym at) refuses

-- where its runs are not too many
pub holds-known : (answered : Answered) (class : StackClass) (known : KnownStack) → class.stack ≡ classes.Known known → class.kind ≡ answered.kind →
    AreSame known.stack answered.stack → Agree (module_count answered.stack) (may_answer known.known) (may_answer answered.known) →
    HasGraph class → Holds answered class
holds-known answered class known is kind same agree graph = record {
  kind_is = kind;
  stack = subst (HoldsIn answered) (sym is) (record {
    same = same;
    agree = agree;
    graph = subst (λ (s : ClassStack). HasGraph (record { kind = class.kind; stack = s })) is graph;
  });
}

-- where they are
pub holds-large : (answered : Answered) (class : StackClass) → IsLargeClass answered.kind class → IsLikeLarge answered → Holds answered class
holds-large answered class is like = record { kind_is = is.kind_is; stack = subst (HoldsIn answered) (sym is.stack) like }

pub agree-self : (n : ℕ) (allows : Allowance) → Agree n allows allows
agree-self n allows number code low high small = refl

pub like-itself : (answered : Answered) → IsLarge answered → IsLikeLarge answered
like-itself answered large = record {
  other = answered;
  same = same-self answered.stack;
  agree = agree-self (module_count answered.stack) (may_answer answered.known);
  large = large;
}
