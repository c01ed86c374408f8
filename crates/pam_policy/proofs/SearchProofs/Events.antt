-- Events among the steps of a run.
use Rattle.std.proofs.Common.{◌≡◌, true, List, [], ◌∷◌, ◌++◌, ◌⊎◌, inl, inr, refl, sym, ◌∙◌, ap, subst, arith, map, zero, suc}
use Rattle.std.proofs.lemmas.List.{map-append}
use Rattle.std.specs.Prelude.{All}
use Rattle.pam_codes.specs.Set.{is_in}
use Rattle.pam_conf.specs.Stack.{Items}
use Rattle.pam_dispatch.specs.Runs.{Ask, Assignment}
use Rattle.pam_dispatch.specs.State.{start_state}
use Rattle.pam_dispatch.specs.Tree.{asked}
use Rattle.pam_text.specs.Members.{Member}
use Rattle.pam_paths.proofs.Listings.{Member-map, Member-map_back}
use Rattle.pam_policy.specs.declared.search.marks.Marks.{Marks}
use Rattle.pam_policy.specs.declared.search.run.Step.{Step}
use Rattle.pam_policy.specs.search.Marks.{codes_at}
use Rattle.pam_policy.specs.search.Queries.{DoesBefore, Happens}
use Rattle.pam_policy.specs.search.Runs.{step_by}

-- AN EVENT HAPPENS at a step, and in some steps
pub record HappensBy (marks : Marks) (step : Step) : Type 0 where
  pub here : is_in step.code (codes_at marks step.module_number) ≡ true

pub record HappensIn (marks : Marks) (steps : List Step) : Type 0 where
  pub step : Step
  pub member : Member step steps
  pub by : HappensBy marks step

pub happens-here : (marks : Marks) (step : Step) (steps : List Step) → HappensBy marks step → HappensIn marks (step ∷ steps)
unfolding Member
happens-here marks step steps h = record { step = step; member = inl refl; by = h }

pub happens-later : (marks : Marks) (step : Step) (steps : List Step) → HappensIn marks steps → HappensIn marks (step ∷ steps)
unfolding Member
happens-later marks step steps h = record { step = h.step; member = inr h.member; by = h.by }

pub happens-cases : (marks : Marks) (step : Step) (steps : List Step) → HappensIn marks (step ∷ steps) → HappensBy marks step ⊎ HappensIn marks steps
unfolding Member
happens-cases marks step steps h =
    elim h.member [
      | inl e ↦ inl (subst (HappensBy marks) e h.by)
      | inr i ↦ inr (record { step = h.step; member = i; by = h.by })
    ]

pub happens-none : (marks : Marks) → HappensIn marks [] → ⊥
unfolding Member
happens-none marks h = h.member

-- EACH OF SOME EVENTS HAPPENS
unfoldable pub AllHappen : List Marks → List Step → Type 0
AllHappen [] steps = Unit {0}
AllHappen (marks ∷ wanted) steps = HappensIn marks steps × AllHappen wanted steps

-- `second` happens at a step, and `first` at none before
pub record HappensBefore (first second : Marks) (steps : List Step) : Type 0 where
  pub earlier : List Step
  pub step : Step
  pub later : List Step
  pub are : steps ≡ earlier ++ step ∷ later
  pub here : HappensBy second step
  pub not_before : HappensIn first earlier → ⊥

pub before-here : (first second : Marks) (step : Step) (steps : List Step) → HappensBy second step → HappensBefore first second (step ∷ steps)
before-here first second step steps h = record { earlier = []; step = step; later = steps; are = refl; here = h; not_before = happens-none first }

pub before-later : (first second : Marks) (step : Step) (steps : List Step) → (HappensBy first step → ⊥) → HappensBefore first second steps →
    HappensBefore first second (step ∷ steps)
before-later first second step steps not h = record {
  earlier = step ∷ h.earlier;
  step = h.step;
  later = h.later;
  are = ap (λ (xs : List Step). step ∷ xs) h.are;
  here = h.here;
  not_before = λ k. elim (happens-cases first step h.earlier k) [ inl by ↦ not by | inr later ↦ h.not_before later ];
}

-- it is so at the first step, or `first` does not happen there and it is so later
pub before-cases : (first second : Marks) (step : Step) (steps : List Step) → HappensBefore first second (step ∷ steps) →
    HappensBy second step ⊎ ((HappensBy first step → ⊥) × HappensBefore first second steps)
before-cases first second step steps h = cases h.earlier h.are h.not_before
  where
    cases : (earlier : List Step) → step ∷ steps ≡ earlier ++ h.step ∷ h.later → (HappensIn first earlier → ⊥) →
        HappensBy second step ⊎ ((HappensBy first step → ⊥) × HappensBefore first second steps)
    cases [] e not = inl (subst (HappensBy second) (let k : h.step ≡ step = cc in k) h.here)
    cases (one ∷ earlier) e not =
        let same : one ≡ step = cc in
        let rest : steps ≡ earlier ++ h.step ∷ h.later = cc in
        inr (
          (λ by. not (happens-here first one earlier (subst (HappensBy first) (sym same) by))),
          record {
            earlier = earlier;
            step = h.step;
            later = h.later;
            are = rest;
            here = h.here;
            not_before = λ k. not (happens-later first one earlier k);
          },
        )

pub before-none : (first second : Marks) → HappensBefore first second [] → ⊥
before-none first second h = none h.earlier h.are
  where
    none : (earlier : List Step) → [] ≡ earlier ++ h.step ∷ h.later → ⊥
    none [] e = cc
    none (one ∷ earlier) e = cc

-- THE STEPS OF A RUN

-- lists that are joined after a map
record Joined {X Y : Type 0} (f : X → Y) (earlier : List Y) (y : Y) (later : List Y) (xs : List X) : Type 0 where
  pub before : List X
  pub x : X
  pub after : List X
  pub are : xs ≡ before ++ x ∷ after
  pub mapped : map f before ≡ earlier
  pub is : f x ≡ y

joined-more : {X Y : Type 0} (f : X → Y) (x : X) (xs : List X) (one : Y) (earlier : List Y) (y : Y) (later : List Y) → f x ≡ one →
    Joined f earlier y later xs → Joined f (one ∷ earlier) y later (x ∷ xs)
joined-more {X} {Y} f x xs one earlier y later first h = record {
  before = x ∷ h.before;
  x = h.x;
  after = h.after;
  are = ap (λ (zs : List X). x ∷ zs) h.are;
  mapped = ap (λ (zs : List Y). f x ∷ zs) h.mapped ∙ ap (λ (z : Y). z ∷ earlier) first;
  is = h.is;
}

map-joined : {X Y : Type 0} (f : X → Y) (xs : List X) (earlier : List Y) (y : Y) (later : List Y) → map f xs ≡ earlier ++ y ∷ later →
    Joined f earlier y later xs
map-joined f [] [] y later e = absurd (let k : ⊥ = cc in k)
map-joined f [] (one ∷ earlier) y later e = absurd (let k : ⊥ = cc in k)
map-joined f (x ∷ xs) [] y later e = record { before = []; x = x; after = xs; are = refl; mapped = refl; is = cc }
map-joined f (x ∷ xs) (one ∷ earlier) y later e =
    joined-more f x xs one earlier y later (let k : f x ≡ one = cc in k)
    (map-joined f xs earlier y later (let k : map f xs ≡ earlier ++ y ∷ later = cc in k))

module _ (items : Items) (answers : Assignment) where
  abbrev asks : List Ask
  asks = asked items start_state start_state answers

  abbrev steps : List Step
  steps = map (step_by answers) asks

  happens-steps : (marks : Marks) (some : List Ask) (ask : Ask) → Member ask some →
      is_in (answers ask.module_number) (codes_at marks ask.module_number) ≡ true →
      HappensIn marks (map (step_by answers) some)
  happens-steps marks some ask i h =
      record { step = step_by answers ask; member = Member-map (step_by answers) ask some i; by = record { here = h } }

  pub in-steps : (marks : Marks) → Happens items answers marks → HappensIn marks steps
  in-steps marks h = happens-steps marks asks h.ask h.is_asked h.here

  pub of-steps : (marks : Marks) → HappensIn marks steps → Happens items answers marks
  of-steps marks h =
      let back = Member-map_back (step_by answers) h.step asks h.member in
      record { ask = back.0; is_asked = back.1; here = (subst (HappensBy marks) back.2 h.by).here }

  pub all-in : (wanted : List Marks) → All (Happens items answers) wanted → AllHappen wanted steps
  unfolding AllHappen
  all-in [] h = tt
  all-in (marks ∷ wanted) h = (in-steps marks (h 0 marks (omega arith)), all-in wanted (λ k d l. h (suc k) d (omega (arith, l))))

  pub all-of : (wanted : List Marks) → AllHappen wanted steps → All (Happens items answers) wanted
  unfolding AllHappen
  all-of [] h k d l = absurd (omega (arith, l))
  all-of (marks ∷ wanted) h zero d l = of-steps marks h.0
  all-of (marks ∷ wanted) h (suc k) d l = all-of wanted h.1 k d (omega (arith, l))

  pub before-in : (first second : Marks) → DoesBefore items answers first second → HappensBefore first second steps
  before-in first second h = record {
    earlier = map (step_by answers) h.earlier;
    step = step_by answers h.ask;
    later = map (step_by answers) h.later;
    are = ap (map (step_by answers)) h.are_asked ∙ map-append (step_by answers) h.earlier (h.ask ∷ h.later);
    here = record { here = h.here };
    not_before = λ k.
        let back = Member-map_back (step_by answers) k.step h.earlier k.member in
        h.not_before back.0 back.1 (subst (HappensBy first) back.2 k.by).here;
  }

  pub before-of : (first second : Marks) → HappensBefore first second steps → DoesBefore items answers first second
  before-of first second h =
      let back = map-joined (step_by answers) asks h.earlier h.step h.later h.are in
      record {
        earlier = back.before;
        ask = back.x;
        later = back.after;
        are_asked = back.are;
        here = (subst (HappensBy second) (sym back.is) h.here).here;
        not_before = λ other i k. h.not_before (subst (HappensIn first) back.mapped (happens-steps first back.before other i k));
      }
