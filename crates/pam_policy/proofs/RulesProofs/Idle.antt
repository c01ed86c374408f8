-- Whether there is a run that is looked for.
use Rattle.std.proofs.Common.{◌≡◌, ◌↔◌, ℕ, Bool, false, List, [], ◌∷◌, inl, refl, sym, ◌∙◌, ap, subst, Option, None, Some}
use Rattle.std.proofs.lemmas.Bool.{false≢true}
use Rattle.std.specs.Prelude.{IsTrue, is_some, option_map}
use Rattle.pam_codes.specs.Code.{all_codes}
use Rattle.pam_codes.specs.Set.{is_in}
use Rattle.pam_conf.specs.Stack.{IsNumbered}
use Rattle.pam_dispatch.specs.Tree.{decided}
use Rattle.pam_paths.specs.Listing.{Allowance}
use Rattle.pam_text.specs.Members.{Member}
use Rattle.pam_paths.proofs.Listings.{Member-right}
use Rattle.pam_policy.specs.declared.search.marks.Marks.{Marks}
use Rattle.pam_policy.specs.declared.search.query.Query.TheVariants.{Before}
use Rattle.pam_policy.specs.declared.search.run.Run.{Run}
use Rattle.pam_policy.specs.rules.Happening.{PartText}
use Rattle.pam_policy.specs.rules.Idle.{CanEnd, CanHappen}
use Rattle.pam_policy.specs.rules.Settling.{Meets, asked_in, loose, strict}
use Rattle.pam_policy.specs.rules.Site.{SiteText}
use Rattle.pam_policy.specs.rules.inner.Choosing.{SaysFirst}
use Rattle.pam_policy.specs.rules.inner.Looking.{AimText, CanBeMet, SomeCanHappen, with_alone}
use Rattle.pam_policy.specs.rules.inner.Marking.{AreMarks}
use Rattle.pam_policy.specs.search.Marks.{codes_at}
use Rattle.pam_policy.specs.search.Runs.{RunValue, run_of, run_value}
use Rattle.pam_policy.specs.search.Witness.{IsFound}
use Rattle.pam_policy.specs.text.Events.{EventText}
use Rattle.pam_policy.specs.text.Sentences.{ConditionText, SentenceText, Never, Can, sentence_decisions}
use Rattle.pam_policy.proofs.RulesProofs.Asks.{asked-own}
use Rattle.pam_policy.proofs.RulesProofs.Happening.{marked-some, some-marked}
use Rattle.pam_policy.proofs.RulesProofs.Lists.{member-split}

-- a run is found exactly where there is one
pub some-run : (Such : RunValue → Type 0) (found : Option Run) (test : Bool) → test ≡ is_some found → SaysFirst Such found →
    IsTrue test ↔ ((run : RunValue) × Such run)
some-run Such None test is h = (λ t. absurd (false≢true (sym is ∙ t)), λ s. absurd (h s.0 s.1))
some-run Such (Some run) test is h = (λ t. (run_value run, h.such), λ s. is)

pub iff-same : {A B C : Type 0} → A ↔ B → (B → C) → (C → B) → A ↔ C
iff-same h to from = (λ a. to (h.0 a), λ c. h.1 (from c))

module _ (allows : Allowance) (site : SiteText) where
  abbrev ending : List ℕ → AimText
  ending codes = record { decisions = codes; with = None; without = None }

  -- HOW IT CAN END
  pub met-end : (sentence : SentenceText) (codes : List ℕ) → codes ≡ sentence_decisions sentence site.kind → CanBeMet allows site (ending codes) →
      CanEnd allows site sentence
  met-end sentence codes is m = record {
    answers = m.1.answers;
    allowed = m.1.allowed;
    ends = subst (λ (cs : List ℕ). IsTrue (is_in (decided site.items m.1.answers) cs)) is m.1.meets.ends;
  }

  pub end-met : (sentence : SentenceText) (codes : List ℕ) → codes ≡ sentence_decisions sentence site.kind → CanEnd allows site sentence →
      CanBeMet allows site (ending codes)
  end-met sentence codes is e = (
    run_of site.items e.answers,
    record {
      answers = e.answers;
      allowed = e.allowed;
      meets = record { ends = subst (λ (cs : List ℕ). IsTrue (is_in (decided site.items e.answers) cs)) (sym is) e.ends; happens = tt; happens_not = tt };
      is_run = refl;
    },
  )

  -- WHAT CAN HAPPEN
  pub met-never : (c : ConditionText) (part : Option PartText) → part ≡ option_map loose c.with → CanBeMet allows site (with_alone part) →
      CanHappen allows site (Never c)
  met-never c part is m = record {
    answers = m.1.answers;
    allowed = m.1.allowed;
    concerns = subst (λ (p : Option PartText). Meets site all_codes p None m.1.answers) is m.1.meets;
  }

  pub never-met : (c : ConditionText) (part : Option PartText) → part ≡ option_map loose c.with → CanHappen allows site (Never c) →
      CanBeMet allows site (with_alone part)
  never-met c part is h = (
    run_of site.items h.answers,
    record {
      answers = h.answers;
      allowed = h.allowed;
      meets = subst (λ (p : Option PartText). Meets site all_codes p None h.answers) (sym is) h.concerns;
      is_run = refl;
    },
  )

  pub met-can : (c : ConditionText) (part : Option PartText) → part ≡ option_map strict c.with → CanBeMet allows site (with_alone part) →
      CanHappen allows site (Can c)
  met-can c part is m = record {
    answers = m.1.answers;
    allowed = m.1.allowed;
    concerns = subst (λ (p : Option PartText). Meets site all_codes p None m.1.answers) is m.1.meets;
  }

  pub can-met : (c : ConditionText) (part : Option PartText) → part ≡ option_map strict c.with → CanHappen allows site (Can c) →
      CanBeMet allows site (with_alone part)
  can-met c part is h = (
    run_of site.items h.answers,
    record {
      answers = h.answers;
      allowed = h.allowed;
      meets = subst (λ (p : Option PartText). Meets site all_codes p None h.answers) (sym is) h.concerns;
      is_run = refl;
    },
  )

  -- WHETHER ONE OF SOME EVENTS CAN HAPPEN
  module _ (numbered : IsNumbered site.items) (events : List EventText) (none second : Marks) (never : (number : ℕ) → codes_at none number ≡ [])
      (are : AreMarks site false events second) where
    pub found-some : (run : RunValue) → IsFound allows site.items (Before none second) run → SomeCanHappen allows site events
    unfolding Member
    found-some run f =
        let d = f.does in
        let all = asked_in site f.answers in
        record {
          answers = f.answers;
          allowed = f.allowed;
          happens = marked-some site false f.answers all (asked-own allows site.items f.answers numbered f.allowed) events second are (record {
            ask = d.ask;
            among = subst (Member d.ask) (sym d.are_asked) (Member-right d.ask d.earlier (d.ask ∷ d.later) (inl refl));
            here = d.here;
          });
        }

    pub some-found : SomeCanHappen allows site events → (run : RunValue) × IsFound allows site.items (Before none second) run
    some-found h =
        let all = asked_in site h.answers in
        let marked = some-marked site false h.answers all (asked-own allows site.items h.answers numbered h.allowed) events second are h.happens in
        let split = member-split all marked.ask marked.among in (
          run_of site.items h.answers,
          record {
            answers = h.answers;
            allowed = h.allowed;
            does = record {
              earlier = split.0;
              ask = marked.ask;
              later = split.1;
              are_asked = split.2;
              here = marked.here;
              not_before = λ other i k. false≢true (sym (ap (is_in (h.answers other.module_number)) (never other.module_number)) ∙ k);
            };
            is_run = refl;
          },
        )
