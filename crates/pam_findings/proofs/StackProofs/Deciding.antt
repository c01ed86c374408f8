-- Whether some run is one that is sought: some is, or none is.
use Rattle.std.proofs.Common.{◌≡◌, ◌⊎◌, ℕ, ◌-◌, ◌≤◌, Bool, true, false, List, map, refl, sym, ◌∙◌, ap, subst, inl, inr, arith}
use Rattle.std.proofs.lemmas.Bool.{false≢true}
use Rattle.std.proofs.lemmas.List.FromFn.{get_or-map-range_with_len}
use Rattle.std.specs.List.{list_any, range_with_len}
use Rattle.pam_conf.specs.Stack.{IsNumbered, Items, module_count}
use Rattle.pam_dispatch.proofs.Numbering.{AsksRise-stack}
use Rattle.pam_dispatch.specs.Runs.{Ask, Assignment}
use Rattle.pam_dispatch.specs.State.{start_state}
use Rattle.pam_dispatch.specs.Tree.{asked, runs_of_stack}
use Rattle.pam_paths.proofs.Listings.{Member-map, Member-map_back, listing-is, some_assignment}
use Rattle.pam_paths.proofs.Trees.{listing-tree}
use Rattle.pam_paths.specs.Computed.{listing}
use Rattle.pam_paths.specs.Known.{may_answer}
use Rattle.pam_paths.specs.Listing.{IsListing}
use Rattle.pam_paths.specs.Paths.{PathValue, StepValue, path_through, step_by}
use Rattle.pam_paths.specs.declared.knowledge.Known.{Known}
use Rattle.pam_paths.specs.inner.Known.{some_code}
use Rattle.pam_text.specs.Members.{Member}
use Rattle.pam_findings.specs.stack.Asked.{Asks}
use Rattle.pam_findings.specs.stack.Leading.{Leads}
use Rattle.pam_findings.specs.stack.inner.Leading.{SaysLeads}
use Rattle.pam_findings.specs.stack.inner.Marks.{mark_of}
use Rattle.pam_findings.proofs.StackProofs.Leading.{says-leads}
use Rattle.pam_findings.proofs.StackProofs.NeverCounting.{asks-range}
use Rattle.pam_findings.proofs.StackProofs.Onward.{walk_leads}
use Rattle.pam_findings.proofs.StackProofs.WaysIn.{passing-any, some-passing}

-- the first modules, marked if their numbers pass a test
abbrev marks_by : (ℕ → Bool) → ℕ → List Bool
marks_by test count = map test (range_with_len 1 count)

mark-by : (test : ℕ → Bool) (count number : ℕ) → 1 ≤ number → number ≤ count → mark_of (marks_by test count) number ≡ test number
mark-by test count number low high =
    get_or-map-range_with_len test 1 count (number - 1) number false (omega (arith, low, high)) (omega (arith, low))

module _ (free : Known) (items : Items) (numbered : IsNumbered items) where
  abbrev paths : List PathValue
  paths = listing (may_answer free) (runs_of_stack items)

  listed : IsListing (may_answer free) (module_count items) (path_through items) paths
  listed =
      let some = some_assignment (may_answer free) (module_count items) (λ number first last. some_code free number) in
      listing-tree (may_answer free) (module_count items) (runs_of_stack items) items refl paths
      (listing-is (may_answer free) (module_count items) (runs_of_stack items) (AsksRise-stack items numbered) some.0 some.1)

  -- SOME RUN ASKS A MODULE

  pub record SomeAsked (test : ℕ → Bool) : Type 0 where
    pub number : ℕ
    pub passes : test number ≡ true
    pub asks : Asks (may_answer free) items number

  module _ (test : ℕ → Bool) where
    abbrev passes : StepValue → Bool
    passes step = test step.module_number

    abbrev passes_on : PathValue → Bool
    passes_on path = list_any passes path.steps

    on-path : (number : ℕ) (asks : Asks (may_answer free) items number) → test number ≡ true → passes_on (path_through items asks.answers) ≡ true
    unfolding path_through
    on-path number asks t =
        let a = asks.answers in
        passing-any passes (path_through items a).steps (step_by a asks.ask)
        (Member-map (step_by a) asks.ask (asked items start_state start_state a) asks.is_asked) (ap test asks.numbered ∙ t)

    from-path : (path : PathValue) → Member path paths → passes_on path ≡ true → SomeAsked test
    unfolding path_through
    from-path path member t =
        let way = (listed.members path).0 member in
        let a = way.0 in
        let step = some-passing passes (path_through items a).steps (sym (ap passes_on way.2) ∙ t) in
        let ask = Member-map_back (step_by a) step.0 (asked items start_state start_state a) step.1 in
        record {
          number = ask.0.module_number;
          passes = sym (ap passes ask.2) ∙ step.2;
          asks = record { answers = a; allowed = way.1; ask = ask.0; is_asked = ask.1; numbered = refl };
        }

    pub asked_or_not : SomeAsked test ⊎ ((number : ℕ) → test number ≡ true → Asks (may_answer free) items number → ⊥)
    asked_or_not = either (list_any passes_on paths) refl
      where
        either : (some : Bool) → list_any passes_on paths ≡ some → SomeAsked test ⊎ ((number : ℕ) → test number ≡ true → Asks (may_answer free) items number → ⊥)
        either true e = let path = some-passing passes_on paths e in inl (from-path path.0 path.1 path.2)
        either false e = inr (λ number t asks.
            let here = (listed.members (path_through items asks.answers)).1 (asks.answers, asks.allowed, refl) in
            false≢true (sym e ∙ passing-any passes_on paths (path_through items asks.answers) here (on-path number asks t)))

  -- SOME RUN ASKS A MODULE, gets one of some codes from it, and then asks another module

  pub record SomeLed (first : ℕ → Bool) (codes : List ℕ) (later : ℕ → Bool) : Type 0 where
    pub one : ℕ
    pub other : ℕ
    pub is_first : first one ≡ true
    pub is_later : later other ≡ true
    pub leads : Leads (may_answer free) items codes one other

  module _ (first : ℕ → Bool) (codes : List ℕ) (later : ℕ → Bool) where
    abbrev firsts : List Bool
    firsts = marks_by first (module_count items)

    abbrev laters : List Bool
    laters = marks_by later (module_count items)

    first-marked : (one other : ℕ) → Leads (may_answer free) items codes one other → mark_of firsts one ≡ first one
    first-marked one other l =
        let range = asks-range (may_answer free) items one numbered l.asks in mark-by first (module_count items) one range.0 range.1

    later-marked : (one other : ℕ) → Leads (may_answer free) items codes one other → mark_of laters other ≡ later other
    later-marked one other l =
        let asks : Asks (may_answer free) items other =
        record { answers = l.asks.answers; allowed = l.asks.allowed; ask = l.ask; is_asked = l.is_asked; numbered = l.numbered } in
        let range = asks-range (may_answer free) items other numbered asks in
        mark-by later (module_count items) other range.0 range.1

    pub led_or_not : SomeLed first codes later
        ⊎ ((one other : ℕ) → first one ≡ true → later other ≡ true → Leads (may_answer free) items codes one other → ⊥)
    led_or_not =
        either (list_any (walk_leads (may_answer free) firsts codes laters) paths)
        (says-leads (may_answer free) firsts codes laters items numbered paths listed
        (list_any (walk_leads (may_answer free) firsts codes laters) paths) refl)
      where
        either : (some : Bool) → SaysLeads (may_answer free) items firsts codes laters some → SomeLed first codes later
            ⊎ ((one other : ℕ) → first one ≡ true → later other ≡ true → Leads (may_answer free) items codes one other → ⊥)
        either true says =
            let l = says.4 in
            inl (record {
              one = says.0;
              other = says.1;
              is_first = sym (first-marked says.0 says.1 l) ∙ says.2;
              is_later = sym (later-marked says.0 says.1 l) ∙ says.3;
              leads = l;
            })
        either false says = inr (λ one other is_first is_later l. says one other (first-marked one other l ∙ is_first) (later-marked one other l ∙ is_later) l)
