-- Whether sentences hold, and which events are chosen.
use Rattle.std.proofs.Common.{◌≡◌, ◌∙◌, ◌↔◌, ℕ, ◌+◌, ◌<◌, ◌≤◌, Bool, true, false, List, [], ◌∷◌, ◌++◌, arith, cond, get_or, inl, inr}
use Rattle.std.proofs.Common.{length, refl, subst, suc, sym}
use Rattle.std.proofs.lemmas.Bool.{cases_lt, eqb-true, false≢true}
use Rattle.std.specs.Prelude.{◌==◌, IfOk, IsTrue, Result, Ok, Err, is_some, not}
use Rattle.pam_codes.specs.Set.{codes_where, is_in}
use Rattle.pam_codes.specs.declared.code.TheConstants.{CODES}
use Rattle.pam_codes.specs.inner.SetBits.{is_in-codes_where}
use Rattle.pam_conf.specs.Stack.{Items, module_count}
use Rattle.pam_paths.specs.Listing.{Allowance}
use Rattle.pam_policy.specs.declared.needs.choices.Choice.{Choice}
use Rattle.pam_policy.specs.declared.needs.choices.Choice.TheVariants as choices
use Rattle.pam_policy.specs.declared.needs.event.StackEvent.{StackEvent}
use Rattle.pam_policy.specs.declared.needs.sentences.Verb.{Verb}
use Rattle.pam_policy.specs.declared.needs.sentences.Verb.TheVariants.{Needs, Obeys, NeedsAsked, AlwaysAsks}
use Rattle.pam_policy.specs.declared.rules.verdict.Verdict.{Verdict}
use Rattle.pam_policy.specs.declared.rules.verdict.Verdict.TheVariants.{Holds, Broken, Shown, Impossible}
use Rattle.pam_policy.specs.host.Stacks.{KnownSite}
use Rattle.pam_policy.specs.needs.Choices.{AreNeeded, CanFail, Holds as HoldsAt, IsChosen, IsLeft, IsSaid, IsSaidFirst, MayAnswer}
use Rattle.pam_policy.specs.needs.Choices.{MayNotFail, SaysOf, bare, is_vouching, needing_some, sentence_about}
use Rattle.pam_policy.specs.needs.Fewest.{AreThose}
use Rattle.pam_policy.specs.needs.inner.Adding.{IsNever, is_unbroken}
use Rattle.pam_policy.specs.rules.Happening.{event_answers}
use Rattle.pam_policy.specs.rules.Idle.{CanHappen}
use Rattle.pam_policy.specs.rules.Judging.{IsUnsettled, SaysVerdict}
use Rattle.pam_policy.specs.rules.Site.{SiteText}
use Rattle.pam_policy.specs.text.Events.{EventText}
use Rattle.pam_policy.specs.text.Sentences.{ConditionText, Never, Can, Before, SentenceText}
use Rattle.pam_policy.proofs.NeedsProofs.Fewest.{SoFar, found-done, found-next, found-skip}

not-nil : (n : ℕ) → (suc n == 0) ≡ true → ⊥
not-nil n e = absurd (omega (arith, eqb-true (suc n) 0 e))

-- A VERDICT on what is never to be

pub unbroken : (allows : Allowance) (site : SiteText) (c : ConditionText) (verdict : Verdict) → SaysVerdict allows site (Never c) verdict →
    IsTrue (is_unbroken verdict) ↔ IsUnsettled allows site (Never c)
unbroken allows site c Holds says = (λ t. says, λ none. refl)
unbroken allows site c (Broken run) says =
    (λ t. absurd (false≢true t), λ none. absurd (none says.settled.answers says.settled.allowed says.settled.settles))
unbroken allows site c (Shown run) says = absurd says
unbroken allows site c Impossible says = absurd says

-- the same, of a sentence that is such a one
pub unbroken-as : (allows : Allowance) (site : SiteText) (sentence : SentenceText) (verdict : Verdict) (holds : Bool) → IsNever sentence →
    holds ≡ is_unbroken verdict → SaysVerdict allows site sentence verdict → IsTrue holds ↔ IsUnsettled allows site sentence
unbroken-as allows site (Never c) verdict holds never is says =
    subst (λ (b : Bool). IsTrue b ↔ IsUnsettled allows site (Never c)) (sym is) (unbroken allows site c verdict says)
unbroken-as allows site (Can c) verdict holds never is says = absurd never
unbroken-as allows site (Before first later) verdict holds never is says = absurd never

pub never-about : (items : Items) (verb : Verb) (event : StackEvent) → IsNever (sentence_about items verb event)
unfolding sentence_about
never-about items Needs event = tt
never-about items Obeys event = tt
never-about items NeedsAsked event = tt
never-about items AlwaysAsks event = tt

-- WHETHER A SENTENCE HOLDS that is another one
pub holds-as : (known : KnownSite) (text sentence : SentenceText) (holds : Bool) → sentence ≡ text → IsNever text →
    (IsNever sentence → IsTrue holds ↔ HoldsAt known sentence) → IsTrue holds ↔ HoldsAt known text
holds-as known text sentence holds is never h =
    subst (λ (s : SentenceText). IsTrue holds ↔ HoldsAt known s) is (h (subst IsNever (sym is) never))

pub holds-ok : {E : Type 0} (known : KnownSite) (text sentence : SentenceText) (r : Result Bool E) → sentence ≡ text → IsNever text →
    (IsNever sentence → IfOk r (λ holds. IsTrue holds ↔ HoldsAt known sentence)) → IfOk r (λ holds. IsTrue holds ↔ HoldsAt known text)
holds-ok known text sentence r is never h =
    subst (λ (s : SentenceText). IfOk r (λ holds. IsTrue holds ↔ HoldsAt known s)) is (h (subst IsNever (sym is) never))

-- what a result says, in other words
pub ok-iff : {E : Type 0} (P Q : Type 0) (r : Result Bool E) → ((b : Bool) → IsTrue b ↔ P → IsTrue b ↔ Q) → IfOk r (λ b. IsTrue b ↔ P) →
    IfOk r (λ b. IsTrue b ↔ Q)
ok-iff P Q (Ok b) to h = to b h
ok-iff P Q (Err e) to h = h

-- SOME EVENTS ARE NEEDED

pub needed-none : (known : KnownSite) (events : List StackEvent) (empty : Bool) → empty ≡ true → empty ≡ (length events == 0) →
    IsTrue false ↔ AreNeeded known events
unfolding AreNeeded
needed-none known [] empty holds_so is = (λ t. absurd (false≢true t), λ needed. absurd needed)
needed-none known (event ∷ events) empty holds_so is = absurd (not-nil (length events) (sym is ∙ holds_so))

pub needed-ok : {E : Type 0} (known : KnownSite) (events : List StackEvent) (empty : Bool) (r : Result Bool E) → empty ≡ false →
    empty ≡ (length events == 0) → IfOk r (λ b. IsTrue b ↔ HoldsAt known (needing_some known.site.items events)) →
    IfOk r (λ b. IsTrue b ↔ AreNeeded known events)
unfolding AreNeeded
needed-ok known [] empty r holds_not is h = absurd (false≢true (sym holds_not ∙ is))
needed-ok known (event ∷ events) empty r holds_not is h = h

-- WHAT MODULES MAY ANSWER

module _ (known : KnownSite) (event : EventText) where
  -- the module with this number may not answer so
  abbrev pub NotAt : ℕ → Type 0
  NotAt number = (code : ℕ) → code < CODES → known.allows number code ≡ true → IsTrue (is_in code (event_answers known.site false event number)) → ⊥

  -- none of the first so many may
  abbrev pub NoneTo : ℕ → Type 0
  NoneTo count = (number : ℕ) → 1 ≤ number → number ≤ count → NotAt number

  abbrev pub Meets : ℕ → Type 0
  Meets number = (code : ℕ) × (code < CODES) × IsTrue (is_in code (event_answers known.site false event number))
      × IsTrue (is_in code (codes_where (known.allows number)))

  pub answers-at : (index : ℕ) → index < module_count known.site.items → Meets (index + 1) → IsTrue true ↔ MayAnswer known event
  answers-at index within meets = (
    λ t. record {
      number = index + 1;
      from = omega arith;
      to = omega (arith, within);
      code = meets.0;
      low = meets.1;
      allowed = sym (is_in-codes_where (known.allows (index + 1)) meets.0 meets.1) ∙ meets.3;
      answers = meets.2;
    },
    λ may. refl,
  )

  pub meets-as : (number : ℕ) (codes allowed : List ℕ) (meets : Bool) → codes ≡ event_answers known.site false event number →
      allowed ≡ codes_where (known.allows number) →
      IsTrue meets ↔ ((code : ℕ) × (code < CODES) × IsTrue (is_in code codes) × IsTrue (is_in code allowed)) → IsTrue meets ↔ Meets number
  meets-as number codes allowed meets codes_is allowed_is h =
      subst (λ (a : List ℕ). IsTrue meets ↔ ((code : ℕ) × (code < CODES) × IsTrue (is_in code (event_answers known.site false event number))
      × IsTrue (is_in code a))) allowed_is
      (subst (λ (cs : List ℕ). IsTrue meets ↔ ((code : ℕ) × (code < CODES) × IsTrue (is_in code cs) × IsTrue (is_in code allowed))) codes_is h)

  pub none-next : (index : ℕ) (meets : Bool) → meets ≡ false → IsTrue meets ↔ Meets (index + 1) → NoneTo index → NoneTo (index + 1)
  none-next index meets is iff none number from to code low allowed answers =
      elim (cases_lt number (index + 1)) [
        | inl before ↦ none number from (omega (arith, before)) code low allowed answers
        | inr last ↦
            let same : number ≡ index + 1 = omega (arith, to, last) in
            let there = subst (λ (n : ℕ). (known.allows n code ≡ true) × IsTrue (is_in code (event_answers known.site false event n))) same
            (allowed, answers) in
            false≢true (sym is ∙ iff.1 (code, low, there.1, is_in-codes_where (known.allows (index + 1)) code low ∙ there.0))
      ]

  pub none-may : (count : ℕ) → module_count known.site.items ≤ count → NoneTo count → IsTrue false ↔ MayAnswer known event
  none-may count all none = (
    λ t. absurd (false≢true t),
    λ may. absurd (none may.number may.from (omega (arith, may.to, all)) may.code may.low may.allowed may.answers),
  )

-- DECISIONS, of parts

pub iff-and-not : (A B C : Type 0) → IsTrue false ↔ (A × B) → IsTrue false ↔ (A × B × C)
iff-and-not A B C h = (λ t. absurd (false≢true t), λ abc. h.1 (abc.0, abc.1))

pub iff-and : (A B C : Type 0) (c : Bool) → IsTrue true ↔ (A × B) → IsTrue c ↔ C → IsTrue c ↔ (A × B × C)
iff-and A B C c h k = (λ t. let ab = h.0 refl in (ab.0, ab.1, k.0 t), λ abc. k.1 abc.2)

pub iff-first-not : (A B : Type 0) (a : Bool) → a ≡ false → IsTrue a ↔ A → IsTrue false ↔ (A × B)
iff-first-not A B a is h = (λ t. absurd (false≢true t), λ ab. absurd (false≢true (sym is ∙ h.1 ab.0)))

pub iff-first : (A B : Type 0) (a b : Bool) → a ≡ true → IsTrue a ↔ A → IsTrue b ↔ B → IsTrue b ↔ (A × B)
iff-first A B a b is h k = (λ t. (h.0 is, k.0 t), λ ab. k.1 ab.1)

pub iff-not : (A B : Type 0) (a b : Bool) → a ≡ true → IsTrue a ↔ A → IsTrue b ↔ B → IsTrue (not b) ↔ (A × (B → ⊥))
iff-not A B a true is h k = (λ t. absurd (false≢true t), λ ab. absurd (ab.1 (k.0 refl)))
iff-not A B a false is h k = (λ t. (h.0 is, λ b. false≢true (k.1 b)), λ ab. refl)

-- WHAT IS SAID

pub said-not : (known : KnownSite) (event : StackEvent) (verb : Verb) (is : Bool) → verb ≡ Obeys → is ≡ false →
    IsTrue is ↔ (SaysOf known Obeys event × CanFail known event) → IsTrue false ↔ IsSaid known verb event
unfolding IsSaid
said-not known event verb is of holds_not h =
    subst (λ (v : Verb). IsTrue false ↔ IsSaid known v event) (sym of)
    (iff-and-not (SaysOf known Obeys event) (CanFail known event) (MayNotFail known event)
    (subst (λ (b : Bool). IsTrue b ↔ (SaysOf known Obeys event × CanFail known event)) holds_not h))

pub said-obeys : (known : KnownSite) (event : StackEvent) (verb : Verb) (is may : Bool) → verb ≡ Obeys → is ≡ true →
    IsTrue is ↔ (SaysOf known Obeys event × CanFail known event) → IsTrue may ↔ MayNotFail known event → IsTrue may ↔ IsSaid known verb event
unfolding IsSaid
said-obeys known event verb is may of holds_so h k =
    subst (λ (v : Verb). IsTrue may ↔ IsSaid known v event) (sym of)
    (iff-and (SaysOf known Obeys event) (CanFail known event) (MayNotFail known event) may
    (subst (λ (b : Bool). IsTrue b ↔ (SaysOf known Obeys event × CanFail known event)) holds_so h) k)

-- a verb of which nothing else has to be so
abbrev pub is_plain : Verb → Bool
is_plain Obeys = false
is_plain verb = true

pub said-plain : {E : Type 0} (known : KnownSite) (event : StackEvent) (verb : Verb) (r : Result Bool E) → is_plain verb ≡ true →
    IfOk r (λ b. IsTrue b ↔ SaysOf known verb event) → IfOk r (λ b. IsTrue b ↔ IsSaid known verb event)
unfolding IsSaid
said-plain known event Needs r plain h = h
said-plain known event Obeys r plain h = absurd (false≢true plain)
said-plain known event NeedsAsked r plain h = h
said-plain known event AlwaysAsks r plain h = h

-- with an argument only where it is not said of the name alone
pub first-not : (known : KnownSite) (event : StackEvent) (verb : Verb) (is : Bool) → is ≡ false → IsTrue is ↔ IsSaid known verb event →
    IsTrue false ↔ IsSaidFirst known verb event
first-not known event verb is holds_not h = (λ t. absurd (false≢true t), λ said. absurd (false≢true (sym holds_not ∙ h.1 said.0)))

pub first-bare : (known : KnownSite) (event : StackEvent) (verb : Verb) (is some : Bool) → is ≡ true → some ≡ false → some ≡ is_some event.argument →
    IsTrue is ↔ IsSaid known verb event → IsTrue true ↔ IsSaidFirst known verb event
first-bare known event verb is some holds_so none some_is h =
    (λ t. (h.0 holds_so, λ there said. false≢true (sym none ∙ some_is ∙ there)), λ said. refl)

pub first-of : (known : KnownSite) (event : StackEvent) (verb : Verb) (is some is_bare : Bool) → is ≡ true → some ≡ true → some ≡ is_some event.argument →
    IsTrue is ↔ IsSaid known verb event → IsTrue is_bare ↔ IsSaid known verb (bare event) → IsTrue (not is_bare) ↔ IsSaidFirst known verb event
first-of known event verb is some true holds_so there some_is h k =
    (λ t. absurd (false≢true t), λ said. absurd (said.1 (sym some_is ∙ there) (k.0 refl)))
first-of known event verb is some false holds_so there some_is h k = (λ t. (h.0 holds_so, λ _ said. false≢true (k.1 said)), λ said. refl)

-- WHICH ARE CHOSEN

pub left-not : (known : KnownSite) (event : StackEvent) (some : Bool) → some ≡ true → some ≡ is_some event.argument → IsTrue false ↔ IsLeft known event
left-not known event some there is = (λ t. absurd (false≢true t), λ left. absurd (false≢true (sym left.0 ∙ sym is ∙ there)))

pub left-unless : (known : KnownSite) (event : StackEvent) (some needed : Bool) → some ≡ false → some ≡ is_some event.argument →
    IsTrue needed ↔ SaysOf known Needs event → IsTrue (not needed) ↔ IsLeft known event
left-unless known event some true none is h = (λ t. absurd (false≢true t), λ left. absurd (left.1 (h.0 refl)))
left-unless known event some false none is h = (λ t. (sym is ∙ none, λ says. false≢true (h.1 says)), λ left. refl)

pub guarding-not : (known : KnownSite) (event : StackEvent) (vouching : Bool) → vouching ≡ true → vouching ≡ is_vouching known.site event →
    IsTrue false ↔ IsChosen known choices.Guarding event
unfolding IsChosen
guarding-not known event vouching holds_so is =
    (λ t. absurd (false≢true t), λ guarding. absurd (false≢true (sym guarding.1 ∙ sym is ∙ holds_so)))

pub guarding-needed : (known : KnownSite) (event : StackEvent) (left : Bool) → left ≡ false → IsTrue left ↔ IsLeft known event →
    IsTrue false ↔ IsChosen known choices.Guarding event
unfolding IsChosen
guarding-needed known event left holds_not h = (λ t. absurd (false≢true t), λ guarding. absurd (false≢true (sym holds_not ∙ h.1 guarding.0)))

pub guarding-obeyed : (known : KnownSite) (event : StackEvent) (vouching left obeyed : Bool) → vouching ≡ false → vouching ≡ is_vouching known.site event →
    left ≡ true → IsTrue left ↔ IsLeft known event → IsTrue obeyed ↔ (SaysOf known Obeys event × CanFail known event) →
    IsTrue obeyed ↔ IsChosen known choices.Guarding event
unfolding IsChosen
guarding-obeyed known event vouching left obeyed holds_not is holds_so h k =
    (λ t. let of = k.0 t in (h.0 holds_so, sym is ∙ holds_not, of.0, of.1), λ guarding. k.1 (guarding.2, guarding.3))

pub vouching-not : (known : KnownSite) (event : StackEvent) (vouching : Bool) → vouching ≡ false → vouching ≡ is_vouching known.site event →
    IsTrue false ↔ IsChosen known choices.Vouching event
unfolding IsChosen
vouching-not known event vouching holds_not is = (λ t. absurd (false≢true t), λ chosen. absurd (false≢true (sym holds_not ∙ is ∙ chosen.1)))

pub vouching-left : (known : KnownSite) (event : StackEvent) (vouching left : Bool) → vouching ≡ true → vouching ≡ is_vouching known.site event →
    IsTrue left ↔ IsLeft known event → IsTrue left ↔ IsChosen known choices.Vouching event
unfolding IsChosen
vouching-left known event vouching left holds_so is h = (λ t. (h.0 t, sym is ∙ holds_so), λ chosen. h.1 chosen.0)

pub asked-not : (known : KnownSite) (event : StackEvent) (asked : Bool) → asked ≡ false → IsTrue asked ↔ IsSaidFirst known NeedsAsked event →
    IsTrue false ↔ IsChosen known choices.AskedOnWayIn event
unfolding IsChosen
asked-not known event asked holds_not h = (λ t. absurd (false≢true t), λ chosen. absurd (false≢true (sym holds_not ∙ h.1 chosen.0)))

pub asked-needed : (known : KnownSite) (event : StackEvent) (needed : Bool) → needed ≡ true → IsTrue needed ↔ IsSaidFirst known Needs event →
    IsTrue false ↔ IsChosen known choices.AskedOnWayIn event
unfolding IsChosen
asked-needed known event needed holds_so h = (λ t. absurd (false≢true t), λ chosen. absurd (chosen.1 (h.0 holds_so)))

pub asked-unless : (known : KnownSite) (event : StackEvent) (asked needed always : Bool) → asked ≡ true → IsTrue asked ↔ IsSaidFirst known NeedsAsked event →
    needed ≡ false → IsTrue needed ↔ IsSaidFirst known Needs event → IsTrue always ↔ IsSaidFirst known AlwaysAsks event →
    IsTrue (not always) ↔ IsChosen known choices.AskedOnWayIn event
unfolding IsChosen
asked-unless known event asked needed true holds_so h holds_not k l = (λ t. absurd (false≢true t), λ chosen. absurd (chosen.2 (l.0 refl)))
asked-unless known event asked needed false holds_so h holds_not k l =
    (λ t. (h.0 holds_so, λ said. false≢true (sym holds_not ∙ k.1 said), λ said. false≢true (l.1 said)), λ chosen. refl)

-- WHETHER AN EVENT IS OBEYED

pub obeyed-not : (known : KnownSite) (event : StackEvent) (sentence : SentenceText) (holds : Bool) →
    sentence ≡ sentence_about known.site.items Obeys event → holds ≡ false → (IsNever sentence → IsTrue holds ↔ HoldsAt known sentence) →
    IsTrue false ↔ (SaysOf known Obeys event × CanFail known event)
obeyed-not known event sentence holds is holds_not h =
    iff-first-not (SaysOf known Obeys event) (CanFail known event) holds holds_not
    (holds-as known (sentence_about known.site.items Obeys event) sentence holds is (never-about known.site.items Obeys event) h)

pub obeyed-ok : {E : Type 0} (known : KnownSite) (event : StackEvent) (sentence : SentenceText) (holds : Bool) (r : Result Bool E) →
    sentence ≡ sentence_about known.site.items Obeys event → holds ≡ true → (IsNever sentence → IsTrue holds ↔ HoldsAt known sentence) →
    IfOk r (λ b. IsTrue b ↔ CanHappen known.allows known.site sentence) →
    IfOk r (λ b. IsTrue b ↔ (SaysOf known Obeys event × CanFail known event))
obeyed-ok known event sentence holds r is holds_so h can =
    ok-iff (CanFail known event) (SaysOf known Obeys event × CanFail known event) r
    (λ b k. iff-first (SaysOf known Obeys event) (CanFail known event) holds b holds_so
    (holds-as known (sentence_about known.site.items Obeys event) sentence holds is (never-about known.site.items Obeys event) h) k)
    (subst (λ (s : SentenceText). IfOk r (λ b. IsTrue b ↔ CanHappen known.allows known.site s)) is can)

-- CHOICES

pub as-choice : (known : KnownSite) (event : StackEvent) (choice other : Choice) (b : Bool) → choice ≡ other →
    IsTrue b ↔ IsChosen known other event → IsTrue b ↔ IsChosen known choice event
as-choice known event choice other b is h = subst (λ (c : Choice). IsTrue b ↔ IsChosen known c event) (sym is) h

pub said-chosen : {E : Type 0} (known : KnownSite) (event : StackEvent) (choice : Choice) (r : Result Bool E) → choice ≡ choices.Needed →
    IfOk r (λ b. IsTrue b ↔ IsSaidFirst known Needs event) → IfOk r (λ b. IsTrue b ↔ IsChosen known choice event)
unfolding IsChosen
said-chosen known event choice r is h = subst (λ (c : Choice). IfOk r (λ b. IsTrue b ↔ IsChosen known c event)) (sym is) h

pub obeyed-chosen : {E : Type 0} (known : KnownSite) (event : StackEvent) (choice : Choice) (r : Result Bool E) → choice ≡ choices.Obeyed →
    IfOk r (λ b. IsTrue b ↔ IsSaidFirst known Obeys event) → IfOk r (λ b. IsTrue b ↔ IsChosen known choice event)
unfolding IsChosen
obeyed-chosen known event choice r is h = subst (λ (c : Choice). IfOk r (λ b. IsTrue b ↔ IsChosen known c event)) (sym is) h

pub always-chosen : {E : Type 0} (known : KnownSite) (event : StackEvent) (choice : Choice) (r : Result Bool E) → choice ≡ choices.AlwaysAsked →
    IfOk r (λ b. IsTrue b ↔ IsSaidFirst known AlwaysAsks event) → IfOk r (λ b. IsTrue b ↔ IsChosen known choice event)
unfolding IsChosen
always-chosen known event choice r is h = subst (λ (c : Choice). IfOk r (λ b. IsTrue b ↔ IsChosen known c event)) (sym is) h

-- THOSE THAT ARE CHOSEN, one after another

module _ (known : KnownSite) (choice : Choice) (events : List StackEvent) where
  pub chosen-next : (i : ℕ) (event : StackEvent) (old new : List StackEvent) (is : Bool) → i < length events →
      IsTrue is ↔ IsChosen known choice (get_or events i event) → new ≡ cond is (old ++ get_or events i event ∷ []) old →
      SoFar (λ (x y : StackEvent). (x ≡ y) × IsChosen known choice x) events i old →
      SoFar (λ (x y : StackEvent). (x ≡ y) × IsChosen known choice x) events (i + 1) new
  chosen-next i event old new true within h adds so_far =
      found-next (λ (x y : StackEvent). (x ≡ y) × IsChosen known choice x) events i event old new (get_or events i event) adds within
      (refl, h.0 refl) so_far
  chosen-next i event old new false within h adds so_far =
      subst (SoFar (λ (x y : StackEvent). (x ≡ y) × IsChosen known choice x) events (i + 1)) (sym adds)
      (found-skip (λ (x y : StackEvent). (x ≡ y) × IsChosen known choice x) events i event old within (λ y goes. false≢true (h.1 goes.1)) so_far)

  pub chosen-all : (i : ℕ) (found : List StackEvent) → length events ≤ i →
      SoFar (λ (x y : StackEvent). (x ≡ y) × IsChosen known choice x) events i found → AreThose (IsChosen known choice) events found
  chosen-all i found past so_far = found-done (λ (x y : StackEvent). (x ≡ y) × IsChosen known choice x) events i found past so_far
