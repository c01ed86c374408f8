-- The runs in which events happen too late are those that some queries find.
use Rattle.std.proofs.Common.{◌≡◌, ◌⊎◌, ℕ, false, List, [], ◌∷◌, ◌++◌, inl, inr, refl, sym, subst, Option}
use Rattle.pam_conf.specs.Stack.{IsNumbered, module_count}
use Rattle.pam_dispatch.specs.Runs.{Ask, Assignment}
use Rattle.pam_paths.specs.Listing.{Allowance, IsAllowed}
use Rattle.pam_paths.proofs.Listings.{Member-cases, Member-left, Member-right}
use Rattle.pam_text.specs.Members.{Member}
use Rattle.pam_policy.specs.declared.search.marks.Marks.{Marks}
use Rattle.pam_policy.specs.declared.search.query.Query.{Query}
use Rattle.pam_policy.specs.declared.search.query.Query.TheVariants.{Before}
use Rattle.pam_policy.specs.declared.search.run.Run.{Run}
use Rattle.pam_policy.specs.rules.Happening.{PartText}
use Rattle.pam_policy.specs.rules.Settling.{asked_in}
use Rattle.pam_policy.specs.rules.Site.{SiteText}
use Rattle.pam_policy.specs.rules.inner.Choosing.{SaysFirst, first_of}
use Rattle.pam_policy.specs.rules.inner.Looking.{IsLate, IsLateBarring}
use Rattle.pam_policy.specs.rules.inner.Marking.{AreMarks, AreMarksOf, groups_of}
use Rattle.pam_policy.specs.search.Queries.{HappensAt}
use Rattle.pam_policy.specs.search.Runs.{RunValue}
use Rattle.pam_policy.specs.search.Witness.{IsFound, SaysWitness}
use Rattle.pam_policy.specs.text.Events.{EventText}
use Rattle.pam_policy.proofs.RulesProofs.Asks.{AreOwn, asked-own}
use Rattle.pam_policy.proofs.RulesProofs.Choosing.{IsOf, first-both, first-same}
use Rattle.pam_policy.proofs.RulesProofs.Happening.{marked-some, one-unmarked, some-marked, unmarked-not}
use Rattle.pam_policy.proofs.RulesProofs.Looking.{witness-first}

-- the modules before one that is asked, and that one, are asked
before-own : (count : ℕ) (answers : Assignment) (all before after : List Ask) (ask : Ask) → all ≡ before ++ ask ∷ after → AreOwn count answers all →
    AreOwn count answers before
before-own count answers all before after ask are own other i = own other (subst (Member other) (sym are) (Member-left other before (ask ∷ after) i))

one-own : (count : ℕ) (answers : Assignment) (all before after : List Ask) (ask : Ask) → all ≡ before ++ ask ∷ after → AreOwn count answers all →
    AreOwn count answers (ask ∷ [])
unfolding Member
one-own count answers all before after ask are own other (inl e) =
    own other (subst (Member other) (sym are) (Member-right other before (ask ∷ after) (inl e)))
one-own count answers all before after ask are own other (inr none) = absurd none

module _ (allows : Allowance) (site : SiteText) (numbered : IsNumbered site.items) (first_part : PartText) (later : List EventText) where
  own : (answers : Assignment) → IsAllowed allows (module_count site.items) answers → AreOwn (module_count site.items) answers (asked_in site answers)
  own answers ok = asked-own allows site.items answers numbered ok

  abbrev Barring : List Marks → RunValue → Type 0
  Barring barred run = IsLateBarring allows site later barred run

  barring-of : (barred : List Marks) (run : RunValue) → Barring barred run → IsOf site.items run
  unfolding IsOf
  barring-of barred run m = (m.answers, m.is_run)

  -- ONE QUERY
  module _ (marks second : Marks) (are : AreMarks site false later second) where
    abbrev query : Query
    query = Before marks second

    found-barring : (run : RunValue) → IsFound allows site.items query run → Barring (marks ∷ []) run
    unfolding Member
    found-barring run f =
        let d = f.does in
        record {
          marks = marks;
          member = inl refl;
          answers = f.answers;
          allowed = f.allowed;
          before = d.earlier;
          ask = d.ask;
          after = d.later;
          are_asked = d.are_asked;
          here = marked-some site false f.answers (d.ask ∷ [])
              (one-own (module_count site.items) f.answers (asked_in site f.answers) d.earlier d.later d.ask d.are_asked (own f.answers f.allowed)) later
              second are (record { ask = d.ask; among = inl refl; here = d.here });
          not_before = d.not_before;
          is_run = f.is_run;
        }

    barring-found : (run : RunValue) → Barring (marks ∷ []) run → IsFound allows site.items query run
    unfolding Member
    barring-found run m =
        let same : m.marks ≡ marks = elim m.member [ inl e ↦ e | inr none ↦ absurd none ] in
        let marked = some-marked site false m.answers (m.ask ∷ [])
        (one-own (module_count site.items) m.answers (asked_in site m.answers) m.before m.after m.ask m.are_asked (own m.answers m.allowed)) later second
        are m.here in
        let at : marked.ask ≡ m.ask = elim marked.among [ inl e ↦ e | inr none ↦ absurd none ] in
        record {
          answers = m.answers;
          allowed = m.allowed;
          does = record {
            earlier = m.before;
            ask = m.ask;
            later = m.after;
            are_asked = m.are_asked;
            here = subst (HappensAt m.answers second) at marked.here;
            not_before = subst (λ (x : Marks). (other : Ask) → Member other m.before → HappensAt m.answers x other → ⊥) same m.not_before;
          };
          is_run = m.is_run;
        }

  -- SEVERAL QUERIES, one after another
  with-member : (some more : List Marks) (run : RunValue) (m : Barring some run) → Member m.marks more → Barring more run
  with-member some more run m i = record {
    marks = m.marks;
    member = i;
    answers = m.answers;
    allowed = m.allowed;
    before = m.before;
    ask = m.ask;
    after = m.after;
    are_asked = m.are_asked;
    here = m.here;
    not_before = m.not_before;
    is_run = m.is_run;
  }

  split : (some : List Marks) (marks : Marks) (run : RunValue) → Barring (some ++ marks ∷ []) run → Barring some run ⊎ Barring (marks ∷ []) run
  split some marks run m =
      elim (Member-cases m.marks some (marks ∷ []) m.member) [
        | inl i ↦ inl (with-member (some ++ marks ∷ []) some run m i)
        | inr i ↦ inr (with-member (some ++ marks ∷ []) (marks ∷ []) run m i)
      ]

  pub late-none : (run : RunValue) → Barring [] run → ⊥
  unfolding Member
  late-none run m = m.member

  pub late-more : (some next : List Marks) (marks second : Marks) (first found new : Option Run) → next ≡ some ++ marks ∷ [] →
      AreMarks site false later second → SaysFirst (Barring some) first → SaysWitness allows site.items (Before marks second) found →
      new ≡ first_of first found → SaysFirst (Barring next) new
  late-more some next marks second first found new is are h w chosen =
      let one = first-same (IsFound allows site.items (Before marks second)) (Barring (marks ∷ [])) (found-barring marks second are)
      (barring-found marks second are) found (witness-first allows site (Before marks second) found w) in
      subst (λ (ms : List Marks). SaysFirst (Barring ms) new) (sym is)
      (subst (SaysFirst (Barring (some ++ marks ∷ []))) (sym chosen)
      (first-both site.items (Barring some) (Barring (marks ∷ [])) (Barring (some ++ marks ∷ [])) (barring-of some) (barring-of (marks ∷ []))
      (split some marks) (λ run m. with-member some (some ++ marks ∷ []) run m (Member-left m.marks some (marks ∷ []) m.member))
      (λ run m. with-member (marks ∷ []) (some ++ marks ∷ []) run m (Member-right m.marks some (marks ∷ []) m.member)) first found h one))

  -- ALL QUERIES
  module _ (barred : List Marks) (are : AreMarksOf site first_part.is_strict (groups_of first_part.events) barred) where
    barring-late : (run : RunValue) → Barring barred run → IsLate allows site first_part later run
    barring-late run m = record {
      answers = m.answers;
      allowed = m.allowed;
      late = record {
        before = m.before;
        ask = m.ask;
        after = m.after;
        are_asked = m.are_asked;
        here = m.here;
        not_before = unmarked-not site first_part.is_strict m.answers m.before
            (before-own (module_count site.items) m.answers (asked_in site m.answers) m.before m.after m.ask m.are_asked (own m.answers m.allowed))
            first_part.events barred are m.marks m.member (λ k. m.not_before k.ask k.among k.here);
      };
      is_run = m.is_run;
    }

    late-barring : (run : RunValue) → IsLate allows site first_part later run → Barring barred run
    late-barring run m =
        let l = m.late in
        let one = one-unmarked site first_part.is_strict m.answers l.before
        (before-own (module_count site.items) m.answers (asked_in site m.answers) l.before l.after l.ask l.are_asked (own m.answers m.allowed))
        first_part.events barred are l.not_before in
        record {
          marks = one.0;
          member = one.1;
          answers = m.answers;
          allowed = m.allowed;
          before = l.before;
          ask = l.ask;
          after = l.after;
          are_asked = l.are_asked;
          here = l.here;
          not_before = λ other i k. one.2 (record { ask = other; among = i; here = k });
          is_run = m.is_run;
        }

    pub late-all : (some : List Marks) (found : Option Run) → some ≡ barred → SaysFirst (Barring some) found →
        SaysFirst (IsLate allows site first_part later) found
    late-all some found is h =
        first-same (Barring barred) (IsLate allows site first_part later) barring-late late-barring found
        (subst (λ (ms : List Marks). SaysFirst (Barring ms) found) is h)
