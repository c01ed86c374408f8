-- The decisions of the paths of a listing.
use Rattle.std.proofs.Common.{◌≡◌, ℕ, Bool, true, false, not, List, [], ◌∷◌, Option, None, Some, refl, sym, ◌∙◌, ap, subst, inl, inr, ◌⊎◌}
use Rattle.std.proofs.Common.{filter, slice_get}
use Rattle.std.proofs.lemmas.Bool.{cond_both, eq-eqb, eqb-true, false≢true, or_cases, or_left, or_right}
use Rattle.std.specs.List.{list_any}
use Rattle.std.specs.Prelude.{MatchOption, ◌==◌}
use Rattle.pam_codes.specs.Set.{is_in}
use Rattle.pam_conf.specs.Stack.{Items, module_count}
use Rattle.pam_dispatch.specs.Runs.{Assignment}
use Rattle.pam_dispatch.specs.State.{success}
use Rattle.pam_dispatch.specs.Tree.{decided}
use Rattle.pam_graph.specs.declared.goal.Goal.{Goal}
use Rattle.pam_graph.specs.declared.goal.Goal.TheVariants.{Decides}
use Rattle.pam_graph.specs.Goals.{meeting, meets}
use Rattle.pam_text.specs.Members.{Member}
use Rattle.pam_paths.specs.Listing.{Allowance, IsAllowed, IsListing}
use Rattle.pam_paths.specs.Paths.{IsRising, PathValue, Precedes, key, path_through}
use Rattle.pam_paths.proofs.Listings.{PrecedesAll-at}
use Rattle.pam_findings.specs.stack.Soundness.{LetsIn, SaysNobody, SaysWayIn}

-- ELEMENTS THAT PASS A TEST

pub passing-any : {X : Type 0} (test : X → Bool) (xs : List X) (x : X) → Member x xs → test x ≡ true → list_any test xs ≡ true
unfolding Member
passing-any test [] x h t = absurd h
passing-any test (y ∷ ys) x (inl e) t = or_left (test y) _ (sym (ap test e) ∙ t)
passing-any test (y ∷ ys) x (inr h) t = or_right (test y) _ (passing-any test ys x h t)

pub some-passing : {X : Type 0} (test : X → Bool) (xs : List X) → list_any test xs ≡ true → (x : X) × Member x xs × (test x ≡ true)
unfolding Member
some-passing test [] h = absurd (false≢true h)
some-passing test (y ∷ ys) h =
    elim (or_cases (test y) (list_any test ys) h) [
      | inl t ↦ (y, inl refl, t)
      | inr k ↦ let again = some-passing test ys k in (again.0, inr again.1, again.2)
    ]

-- the first path that passes a test
record IsFirst (test : PathValue → Bool) (paths : List PathValue) (path : PathValue) : Type 0 where
  pub member : Member path paths
  pub passes : test path ≡ true
  pub first : (other : PathValue) → Member other paths → test other ≡ true → (path ≡ other) ⊎ Precedes (key path) (key other)

abbrev Finds : (PathValue → Bool) → List PathValue → Option PathValue → Type 0
Finds test paths found = MatchOption found ((path : PathValue) → Member path paths → test path ≡ true → ⊥) (IsFirst test paths)

-- a path that does not pass comes before them
found-later : (test : PathValue → Bool) (path : PathValue) (paths : List PathValue) (found : Option PathValue) → test path ≡ false →
    Finds test paths found → Finds test (path ∷ paths) found
unfolding Member
found-later test path paths None fails h = λ q m t. elim m [
  | inl e ↦ absurd (false≢true (sym fails ∙ sym (ap test e) ∙ t))
  | inr i ↦ h q i t
]
found-later test path paths (Some p) fails h = record {
  member = inr h.member;
  passes = h.passes;
  first = λ q m t. elim m [
    | inl e ↦ absurd (false≢true (sym fails ∙ sym (ap test e) ∙ t))
    | inr i ↦ h.first q i t
  ];
}

first-passing : (test : PathValue → Bool) (paths : List PathValue) → IsRising paths → Finds test paths (slice_get (filter test paths) 0)
unfolding IsRising Member
first-passing test [] rising = λ q m t. m
first-passing test (path ∷ paths) rising =
    cond_both (test path) (path ∷ filter test paths) (filter test paths) (λ found. Finds test (path ∷ paths) (slice_get found 0))
    (λ t. record {
      member = inl refl;
      passes = t;
      first = λ q m u. elim m [ inl e ↦ inl (sym e) | inr i ↦ inr (PrecedesAll-at (key path) paths q rising.0 i) ];
    })
    (λ f. found-later test path paths (slice_get (filter test paths) 0) f (first-passing test paths rising.1))

-- THE DECISION OF SUCCESS

abbrev pub success_goal : Goal
success_goal = Decides (success ∷ [])

is-success : (decision : ℕ) → is_in decision (success ∷ []) ≡ true → decision ≡ success
is-success decision h =
    elim (or_cases (success == decision) false h) [
      | inl t ↦ sym (eqb-true success decision t)
      | inr f ↦ absurd (false≢true f)
    ]

success-is : (decision : ℕ) → decision ≡ success → is_in decision (success ∷ []) ≡ true
success-is decision e = or_left (success == decision) false (eq-eqb success decision (sym e))

pub path-decides : (items : Items) (answers : Assignment) → (path_through items answers).decision ≡ decided items answers
unfolding path_through
path-decides items answers = refl

module _ (allows : Allowance) (items : Items) (paths : List PathValue) (is : IsListing allows (module_count items) (path_through items) paths) where
  lets-in : (path : PathValue) → Member path paths → meets success_goal path ≡ true → LetsIn allows items
  lets-in path member t =
      let way = (is.members path).0 member in
      record {
        answers = way.0;
        allowed = way.1;
        decides = sym (path-decides items way.0) ∙ sym (ap (λ (p : PathValue). p.decision) way.2) ∙ is-success path.decision t;
      }

  listed : (answers : Assignment) → IsAllowed allows (module_count items) answers → Member (path_through items answers) paths
  listed answers ok = (is.members (path_through items answers)).1 (answers, ok, refl)

  wanted : (answers : Assignment) → decided items answers ≡ success → meets success_goal (path_through items answers) ≡ true
  wanted answers d = success-is (path_through items answers).decision (path-decides items answers ∙ d)

  -- whether some path decides success
  pub says-nobody : (is_met : Bool) → is_met ≡ list_any (meets success_goal) paths → SaysNobody allows items (not is_met)
  says-nobody true e = let found = some-passing (meets success_goal) paths (sym e) in lets-in found.0 found.1 found.2
  says-nobody false e =
      λ x. false≢true (e ∙ passing-any (meets success_goal) paths (path_through items x.answers) (listed x.answers x.allowed) (wanted x.answers x.decides))

  finds-way : (found : Option PathValue) → Finds (meets success_goal) paths found → SaysWayIn allows items found
  finds-way None h = λ x. h (path_through items x.answers) (listed x.answers x.allowed) (wanted x.answers x.decides)
  finds-way (Some path) h = record {
    way = (is.members path).0 h.member;
    decides = is-success path.decision h.passes;
    first = λ answers ok d. h.first (path_through items answers) (listed answers ok) (wanted answers d);
  }

  -- the first path that does
  pub says-way : (way : Option PathValue) → way ≡ slice_get (meeting success_goal paths) 0 → SaysWayIn allows items way
  says-way way e = finds-way way (subst (Finds (meets success_goal) paths) (sym e) (first-passing (meets success_goal) paths is.rising))
