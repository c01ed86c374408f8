-- The runs in which a stack ends in some way are those that some queries find.
use Rattle.std.proofs.Common.{◌≡◌, ◌⊎◌, ℕ, true, List, [], ◌∷◌, ◌++◌, inl, inr, refl, sym, ◌∙◌, subst, Option, None, Some, arith}
use Rattle.std.specs.Prelude.{All, IfSome, IsTrue}
use Rattle.pam_codes.specs.Set.{is_in}
use Rattle.pam_conf.specs.Stack.{IsNumbered, module_count}
use Rattle.pam_dispatch.specs.Runs.{Ask, Assignment}
use Rattle.pam_dispatch.specs.Tree.{decided}
use Rattle.pam_paths.specs.Listing.{Allowance, IsAllowed}
use Rattle.pam_paths.proofs.Listings.{Member-cases, Member-left, Member-right}
use Rattle.pam_text.specs.Members.{Member}
use Rattle.pam_policy.specs.declared.search.marks.Marks.{Marks}
use Rattle.pam_policy.specs.declared.search.query.Query.{Query}
use Rattle.pam_policy.specs.declared.search.query.Query.TheVariants.{Together, Before}
use Rattle.pam_policy.specs.declared.search.run.Run.{Run}
use Rattle.pam_policy.specs.rules.Happening.{PartHappens, PartText}
use Rattle.pam_policy.specs.rules.Settling.{asked_in}
use Rattle.pam_policy.specs.rules.Site.{SiteText}
use Rattle.pam_policy.specs.rules.inner.Choosing.{SaysFirst, first_of}
use Rattle.pam_policy.specs.rules.inner.Looking.{AimText, AreBarred, AreWanted, IsMet, IsMetBarring, IsTogether}
use Rattle.pam_policy.specs.search.Queries.{Happens}
use Rattle.pam_policy.specs.search.Runs.{RunValue}
use Rattle.pam_policy.specs.search.Witness.{IsFound, SaysWitness}
use Rattle.pam_policy.proofs.RulesProofs.Asks.{AreOwn, asked-own}
use Rattle.pam_policy.proofs.RulesProofs.Choosing.{IsOf, first-both, first-same}
use Rattle.pam_policy.proofs.RulesProofs.Happening.{MarksHappen, happen-marked, marked-happen, none-unmarked, one-unmarked, unmarked-not}
use Rattle.pam_policy.proofs.RulesProofs.Lists.{all-each}
use Rattle.pam_policy.proofs.SearchProofs.Implied.{all-member}

-- what a search finds is the first of the runs that do what its query asks for
pub witness-first : (allows : Allowance) (site : SiteText) (query : Query) (found : Option Run) → SaysWitness allows site.items query found →
    SaysFirst (IsFound allows site.items query) found
witness-first allows site query None h = h
witness-first allows site query (Some run) h = record { such = h.found; fewest = h.fewest; first = h.first }

module _ (site : SiteText) (answers : Assignment) where
  pub to-happens : (marks : Marks) → MarksHappen answers (asked_in site answers) marks → Happens site.items answers marks
  to-happens marks h = record { ask = h.ask; is_asked = h.among; here = h.here }

  pub of-happens : (marks : Marks) → Happens site.items answers marks → MarksHappen answers (asked_in site answers) marks
  of-happens marks h = record { ask = h.ask; among = h.is_asked; here = h.here }

-- THE EVENTS OF A PART, in a run of allowed answers
module _ (allows : Allowance) (site : SiteText) (numbered : IsNumbered site.items) (answers : Assignment)
    (ok : IsAllowed allows (module_count site.items) answers) where
  abbrev Asked : List Ask
  Asked = asked_in site answers

  own : AreOwn (module_count site.items) answers Asked
  own = asked-own allows site.items answers numbered ok

  pub happen-wanted : (part : Option PartText) (wanted : List Marks) → AreWanted site part wanted →
      IfSome part (λ p. PartHappens site p answers Asked) → All (Happens site.items answers) wanted
  happen-wanted None wanted are h =
      subst (All (Happens site.items answers)) (sym are) (λ k d l. absurd (omega (arith, l)))
  happen-wanted (Some part) wanted are h =
      all-each (Happens site.items answers) wanted (λ marks i.
      to-happens site answers marks (happen-marked site part.is_strict answers Asked own part.events wanted are h marks i))

  pub wanted-happen : (part : Option PartText) (wanted : List Marks) → AreWanted site part wanted → All (Happens site.items answers) wanted →
      IfSome part (λ p. PartHappens site p answers Asked)
  wanted-happen None wanted are h = tt
  wanted-happen (Some part) wanted are h =
      marked-happen site part.is_strict answers Asked own part.events wanted are
      (λ marks i. of-happens site answers marks (all-member (Happens site.items answers) wanted marks h i))

  pub one-barred : (part : Option PartText) (barred : List Marks) → AreBarred site part barred →
      IfSome part (λ p. PartHappens site p answers Asked → ⊥) → (marks : Marks) × Member marks barred × (Happens site.items answers marks → ⊥)
  one-barred None barred are h =
      let one = none-unmarked site true answers Asked own barred are in
      (one.0, one.1, λ k. one.2 (of-happens site answers one.0 k))
  one-barred (Some part) barred are h =
      let one = one-unmarked site part.is_strict answers Asked own part.events barred are h in
      (one.0, one.1, λ k. one.2 (of-happens site answers one.0 k))

  pub barred-not : (part : Option PartText) (barred : List Marks) → AreBarred site part barred → (marks : Marks) → Member marks barred →
      (Happens site.items answers marks → ⊥) → IfSome part (λ p. PartHappens site p answers Asked → ⊥)
  barred-not None barred are marks i not = tt
  barred-not (Some part) barred are marks i not =
      unmarked-not site part.is_strict answers Asked own part.events barred are marks i (λ k. not (to-happens site answers marks k))

module _ (allows : Allowance) (site : SiteText) (numbered : IsNumbered site.items) (aim : AimText) where
  abbrev Barring : List Marks → RunValue → Type 0
  Barring barred run = IsMetBarring allows site aim barred run

  barring-of : (barred : List Marks) (run : RunValue) → Barring barred run → IsOf site.items run
  unfolding IsOf
  barring-of barred run m = (m.answers, m.is_run)

  -- ONE QUERY
  found-barring : (marks : Marks) (query : Query) → IsTogether site aim marks query → (run : RunValue) → IsFound allows site.items query run →
      Barring (marks ∷ []) run
  unfolding Member
  found-barring marks (Before first second) is run f = absurd is
  found-barring marks (Together wanted barred decisions) is run f = record {
    marks = marks;
    member = inl refl;
    answers = f.answers;
    allowed = f.allowed;
    meets = record {
      ends = subst (λ (codes : List ℕ). IsTrue (is_in (decided site.items f.answers) codes)) is.2 f.does.decides;
      happens = wanted-happen allows site numbered f.answers f.allowed aim.with wanted.items is.0 f.does.wanted_happen;
      happens_not = tt;
    };
    barred_not = subst (λ (m : Marks). Happens site.items f.answers m → ⊥) is.1 f.does.barred_not;
    is_run = f.is_run;
  }

  barring-found : (marks : Marks) (query : Query) → IsTogether site aim marks query → (run : RunValue) → Barring (marks ∷ []) run →
      IsFound allows site.items query run
  unfolding Member
  barring-found marks (Before first second) is run m = absurd is
  barring-found marks (Together wanted barred decisions) is run m =
      let same : m.marks ≡ barred = elim m.member [ inl e ↦ e ∙ sym is.1 | inr none ↦ absurd none ] in
      record {
        answers = m.answers;
        allowed = m.allowed;
        does = record {
          decides = subst (λ (codes : List ℕ). IsTrue (is_in (decided site.items m.answers) codes)) (sym is.2) m.meets.ends;
          wanted_happen = happen-wanted allows site numbered m.answers m.allowed aim.with wanted.items is.0 m.meets.happens;
          barred_not = subst (λ (x : Marks). Happens site.items m.answers x → ⊥) same m.barred_not;
        };
        is_run = m.is_run;
      }

  -- SEVERAL QUERIES, one after another
  moved : (some more : List Marks) → ((marks : Marks) → Member marks some → Member marks more) → (run : RunValue) → Barring some run → Barring more run
  moved some more into run m = record {
    marks = m.marks;
    member = into m.marks m.member;
    answers = m.answers;
    allowed = m.allowed;
    meets = m.meets;
    barred_not = m.barred_not;
    is_run = m.is_run;
  }

  split : (some : List Marks) (marks : Marks) (run : RunValue) → Barring (some ++ marks ∷ []) run → Barring some run ⊎ Barring (marks ∷ []) run
  split some marks run m =
      elim (Member-cases m.marks some (marks ∷ []) m.member) [
        | inl i ↦ inl (record {
          marks = m.marks;
          member = i;
          answers = m.answers;
          allowed = m.allowed;
          meets = m.meets;
          barred_not = m.barred_not;
          is_run = m.is_run;
        })
        | inr i ↦ inr (record {
          marks = m.marks;
          member = i;
          answers = m.answers;
          allowed = m.allowed;
          meets = m.meets;
          barred_not = m.barred_not;
          is_run = m.is_run;
        })
      ]

  pub barring-none : (run : RunValue) → Barring [] run → ⊥
  unfolding Member
  barring-none run m = m.member

  pub barring-more : (some next : List Marks) (marks : Marks) (query : Query) (first found new : Option Run) → next ≡ some ++ marks ∷ [] →
      IsTogether site aim marks query → SaysFirst (Barring some) first → SaysWitness allows site.items query found → new ≡ first_of first found →
      SaysFirst (Barring next) new
  barring-more some next marks query first found new is together h w chosen =
      let one = first-same (IsFound allows site.items query) (Barring (marks ∷ [])) (found-barring marks query together) (barring-found marks query together)
      found (witness-first allows site query found w) in
      subst (λ (ms : List Marks). SaysFirst (Barring ms) new) (sym is)
      (subst (SaysFirst (Barring (some ++ marks ∷ []))) (sym chosen)
      (first-both site.items (Barring some) (Barring (marks ∷ [])) (Barring (some ++ marks ∷ [])) (barring-of some) (barring-of (marks ∷ []))
      (split some marks) (moved some (some ++ marks ∷ []) (λ m i. Member-left m some (marks ∷ []) i))
      (moved (marks ∷ []) (some ++ marks ∷ []) (λ m i. Member-right m some (marks ∷ []) i)) first found h one))

  -- ALL QUERIES
  barring-met : (barred : List Marks) → AreBarred site aim.without barred → (run : RunValue) → Barring barred run → IsMet allows site aim run
  barring-met barred are run m = record {
    answers = m.answers;
    allowed = m.allowed;
    meets = record {
      ends = m.meets.ends;
      happens = m.meets.happens;
      happens_not = barred-not allows site numbered m.answers m.allowed aim.without barred are m.marks m.member m.barred_not;
    };
    is_run = m.is_run;
  }

  met-barring : (barred : List Marks) → AreBarred site aim.without barred → (run : RunValue) → IsMet allows site aim run → Barring barred run
  met-barring barred are run m =
      let one = one-barred allows site numbered m.answers m.allowed aim.without barred are m.meets.happens_not in
      record {
        marks = one.0;
        member = one.1;
        answers = m.answers;
        allowed = m.allowed;
        meets = record { ends = m.meets.ends; happens = m.meets.happens; happens_not = tt };
        barred_not = one.2;
        is_run = m.is_run;
      }

  pub barring-all : (some barred : List Marks) (found : Option Run) → some ≡ barred → AreBarred site aim.without barred → SaysFirst (Barring some) found →
      SaysFirst (IsMet allows site aim) found
  barring-all some barred found is are h =
      first-same (Barring barred) (IsMet allows site aim) (barring-met barred are) (met-barring barred are) found
      (subst (λ (ms : List Marks). SaysFirst (Barring ms) found) is h)
