-- Lists of needs.
use Rattle.std.proofs.Common.{◌≡◌, ◌∙◌, ◌⊎◌, ◌↔◌, ℕ, ◌+◌, ◌≤◌, Bool, true, false, List, [], ◌∷◌, ◌++◌, map, refl, sym, ap, subst, inl, inr, arith}
use Rattle.std.proofs.Common.{MatchOption, Option, Some, None, if◌then◌else◌, zero, suc, get_or, take, length, ◌<◌, is_some}
use Rattle.std.specs.Option.{option_map}
use Rattle.std.proofs.lemmas.Bool.{cases_eq}
use Rattle.std.proofs.lemmas.List.{map-append, take_all, take_more}
use Rattle.pam_conf.specs.Files.{Folder}
use Rattle.pam_conf.specs.Stack.{Items, IsNumbered, ModuleText, module_at, module_count}
use Rattle.pam_conf.specs.Survey.{surveyed}
use Rattle.pam_conf.specs.declared.rule.Kind.{Kind}
use Rattle.pam_conf.specs.declared.rule.Kind.TheVariants.{Auth, Account, Password, Session}
use Rattle.pam_conf.proofs.StackTree.{module_at-range}
use Rattle.pam_facts.specs.known.Answers.{is_access_reader, is_time_reader}
use Rattle.pam_text.specs.Members.{Member}
use Rattle.pam_paths.proofs.Listings.{Member-cases, Member-left, Member-map, Member-right}
use Rattle.pam_tables.specs.Options.{options_of}
use Rattle.pam_findings.specs.tables.Needs.{IsNeeded, IsNeededBy, IsNeededIn, Need, OfAccess, OfGroups, OfTime, access_needs, needs_of, time_needs}
use Rattle.pam_findings.specs.tables.inner.Passes.{Adds, IsNeededAt, IsNeededFor, need_view}
use Rattle.pam_findings.specs.declared.tables.needs.Needed.{Needed}

-- MEMBERS OF A LIST SO FAR

pub of-one : {X : Type 0} (x y : X) → Member x (y ∷ []) ↔ (x ≡ y)
unfolding Member
of-one x y = (λ h. elim h [ inl e ↦ e | inr n ↦ absurd n ], λ e. inl e)

pub of-none : {X : Type 0} (x : X) → Member x [] → ⊥
unfolding Member
of-none x h = h

pub of-first : {X : Type 0} (x y : X) (ys : List X) → Member x (y ∷ ys) ↔ (x ≡ y) ⊎ Member x ys
unfolding Member
of-first x y ys = (λ h. h, λ h. h)

pub one_more : {X : Type 0} (x y d : X) (xs : List X) (n : ℕ) → n < length xs → y ≡ get_or xs n d →
    (Member x (take n xs) ⊎ (x ≡ y)) ↔ Member x (take (n + 1) xs)
one_more x y d xs n h is =
    let front = take_more xs n d h ∙ ap (λ z. take n xs ++ z ∷ []) (sym is) in (
      λ w. subst (Member x) (sym front) (elim w [
        | inl k ↦ Member-left x (take n xs) (y ∷ []) k
        | inr e ↦ Member-right x (take n xs) (y ∷ []) ((of-one x y).1 e)
      ]),
      λ k. elim (Member-cases x (take n xs) (y ∷ []) (subst (Member x) front k)) [ inl i ↦ inl i | inr i ↦ inr ((of-one x y).0 i) ],
    )

pub all_so_far : {X : Type 0} (x : X) (xs : List X) (n : ℕ) → length xs ≤ n → Member x (take n xs) ↔ Member x xs
all_so_far x xs n h = (λ k. subst (Member x) (take_all n xs h) k, λ k. subst (Member x) (sym (take_all n xs h)) k)

-- WHAT A PASS ADDS

pub adds-none : (Holds : Need → Type 0) (needs : List Need) → ((need : Need) → Holds need → ⊥) → Adds Holds needs needs
adds-none Holds needs none need = (λ w. elim w [ inl h ↦ h | inr h ↦ absurd (none need h) ], λ h. inl h)

pub adds-iff : (A B : Need → Type 0) (old new : List Need) → ((need : Need) → A need ↔ B need) → Adds A old new → Adds B old new
adds-iff A B old new same h need = (
  λ w. (h need).0 (elim w [ inl k ↦ inl k | inr b ↦ inr ((same need).1 b) ]),
  λ i. elim ((h need).1 i) [ inl k ↦ inl k | inr a ↦ inr ((same need).0 a) ],
)

pub adds-both : (A B : Need → Type 0) (old middle new : List Need) → Adds A old middle → Adds B middle new → Adds (λ need. A need ⊎ B need) old new
adds-both A B old middle new h k need = (
  λ w. elim w [
    | inl i ↦ (k need).0 (inl ((h need).0 (inl i)))
    | inr c ↦ elim c [ inl a ↦ (k need).0 (inl ((h need).0 (inr a))) | inr b ↦ (k need).0 (inr b) ]
  ],
  λ i. elim ((k need).1 i) [
    | inl j ↦ elim ((h need).1 j) [ inl l ↦ inl l | inr a ↦ inr (inl a) ]
    | inr b ↦ inr (inr b)
  ],
)

-- a need that is known already, and one that is not
pub adds-known : (known : Need) (needs : List Need) → Member known needs → Adds (λ need. need ≡ known) needs needs
adds-known known needs h need = (λ w. elim w [ inl k ↦ k | inr e ↦ subst (λ n. Member n needs) (sym e) h ], λ k. inl k)

pub adds-pushed : (one : Needed) (value : Need) (old new : List Needed) → new ≡ old ++ one ∷ [] → need_view one ≡ value →
    Adds (λ need. need ≡ value) (map need_view old) (map need_view new)
adds-pushed one value old new is same need =
    let all : map need_view new ≡ map need_view old ++ value ∷ [] =
    ap (map need_view) is ∙ map-append need_view old (one ∷ []) ∙ ap (λ (v : Need). map need_view old ++ v ∷ []) same in (
      λ w. subst (Member need) (sym all) (elim w [
        | inl k ↦ Member-left need (map need_view old) (value ∷ []) k
        | inr e ↦ Member-right need (map need_view old) (value ∷ []) ((of-one need value).1 e)
      ]),
      λ k. elim (Member-cases need (map need_view old) (value ∷ []) (subst (Member need) all k)) [
        | inl i ↦ inl i
        | inr i ↦ inr ((of-one need value).0 i)
      ],
    )

-- a need of some needs
at : {X : Type 0} (xs : List X) (i : ℕ) (d : X) → i < length xs → Member (get_or xs i d) xs
unfolding Member
at [] i d h = absurd (omega (arith, h))
at (x ∷ xs) zero d h = inl refl
at (x ∷ xs) (suc i) d h = inr (at xs i d (omega (arith, h)))

pub known-at : (needs : List Needed) (i : ℕ) (one d : Needed) (value : Need) → i < length needs → one ≡ get_or needs i d → need_view one ≡ value →
    Member value (map need_view needs)
known-at needs i one d value h is same =
    subst (λ v. Member v (map need_view needs)) (ap need_view (sym is) ∙ same) (Member-map need_view (get_or needs i d) needs (at needs i d h))

-- MODULES

-- a module that reads no table of pam_access, and one that does
pub no-access : (m : ModuleText) (needs : List Need) → is_access_reader m ≡ false → Adds (λ need. Member need (access_needs m)) needs needs
no-access m needs h =
    adds-none (λ need. Member need (access_needs m)) needs
    (λ need k. of-none need (subst (λ (b : Bool). Member need (if b then OfGroups ∷ OfAccess (options_of m.arguments) ∷ [] else [])) h k))

pub both-access : (m : ModuleText) (old middle new : List Need) → is_access_reader m ≡ true → Adds (λ need. need ≡ OfGroups) old middle →
    Adds (λ need. need ≡ OfAccess (options_of m.arguments)) middle new → Adds (λ need. Member need (access_needs m)) old new
both-access m old middle new h a b =
    let access = OfAccess (options_of m.arguments) in
    adds-iff (λ need. (need ≡ OfGroups) ⊎ (need ≡ access)) (λ need. Member need (access_needs m)) old new
    (λ need.
    let two : Member need (access_needs m) ↔ Member need (OfGroups ∷ access ∷ []) = (
      λ k. subst (λ (t : Bool). Member need (if t then OfGroups ∷ access ∷ [] else [])) h k,
      λ k. subst (λ (t : Bool). Member need (if t then OfGroups ∷ access ∷ [] else [])) (sym h) k,
    ) in (
      λ w. two.1 ((of-first need OfGroups (access ∷ [])).1 (elim w [ inl e ↦ inl e | inr e ↦ inr ((of-one need access).1 e) ])),
      λ k. elim ((of-first need OfGroups (access ∷ [])).0 (two.0 k)) [ inl e ↦ inl e | inr i ↦ inr ((of-one need access).0 i) ],
    ))
    (adds-both (λ need. need ≡ OfGroups) (λ need. need ≡ access) old middle new a b)

pub no-time : (kind : Kind) (m : ModuleText) (needs : List Need) → is_time_reader kind m ≡ false → Adds (λ need. Member need (time_needs kind m)) needs needs
no-time kind m needs h =
    adds-none (λ need. Member need (time_needs kind m)) needs
    (λ need k. of-none need (subst (λ (b : Bool). Member need (if b then OfTime ∷ [] else [])) h k))

pub some-time : (kind : Kind) (m : ModuleText) (old new : List Need) → is_time_reader kind m ≡ true → Adds (λ need. need ≡ OfTime) old new →
    Adds (λ need. Member need (time_needs kind m)) old new
some-time kind m old new h =
    adds-iff (λ need. need ≡ OfTime) (λ need. Member need (time_needs kind m)) old new
    (λ need. (
      λ e. subst (λ (t : Bool). Member need (if t then OfTime ∷ [] else [])) (sym h) ((of-one need OfTime).1 e),
      λ k. (of-one need OfTime).0 (subst (λ (t : Bool). Member need (if t then OfTime ∷ [] else [])) h k),
    ))

pub both-tables : (kind : Kind) (m : ModuleText) (old middle new : List Need) → Adds (λ need. Member need (access_needs m)) old middle →
    Adds (λ need. Member need (time_needs kind m)) middle new → Adds (λ need. Member need (needs_of kind m)) old new
both-tables kind m old middle new a b =
    adds-iff (λ need. Member need (access_needs m) ⊎ Member need (time_needs kind m)) (λ need. Member need (needs_of kind m)) old new
    (λ need. (
      λ w. elim w [
        | inl k ↦ Member-left need (access_needs m) (time_needs kind m) k
        | inr k ↦ Member-right need (access_needs m) (time_needs kind m) k
      ],
      λ k. Member-cases need (access_needs m) (time_needs kind m) k,
    ))
    (adds-both (λ need. Member need (access_needs m)) (λ need. Member need (time_needs kind m)) old middle new a b)

-- STACKS

pub at-module : {M : Type 0} (f : M → ModuleText) (o : Option M) (m : M) (items : Items) (number : ℕ) (kind : Kind) (old new : List Need) →
    option_map f o ≡ module_at number items → o ≡ Some m → Adds (λ need. Member need (needs_of kind (f m))) old new →
    Adds (IsNeededAt kind items number) old new
at-module f o m items number kind old new h is a =
    subst (λ (x : Option ModuleText). Adds (λ need. MatchOption x ⊥ (λ rule. Member need (needs_of kind rule))) old new) (sym (ap (option_map f) is) ∙ h) a

pub at-no-module : {M : Type 0} (f : M → ModuleText) (o : Option M) (items : Items) (number : ℕ) (kind : Kind) (needs : List Need) →
    option_map f o ≡ module_at number items → o ≡ None → Adds (IsNeededAt kind items number) needs needs
at-no-module f o items number kind needs h is =
    let none : module_at number items ≡ None = sym h ∙ ap (option_map f) is in
    adds-none (IsNeededAt kind items number) needs
    (λ need k. subst (λ (x : Option ModuleText). MatchOption x ⊥ (λ rule. Member need (needs_of kind rule))) none k)

-- of the first modules
abbrev pub OfFirst : Kind → Items → ℕ → Need → Type 0
OfFirst kind items n need = (number : ℕ) × (1 ≤ number) × (number ≤ n) × IsNeededAt kind items number need

pub modules-none : (kind : Kind) (items : Items) (needs : List Need) → Adds (OfFirst kind items 0) needs needs
modules-none kind items needs = adds-none (OfFirst kind items 0) needs (λ need m. omega (arith, m.1, m.2))

pub modules-more : (kind : Kind) (items : Items) (n : ℕ) (old middle new : List Need) → Adds (OfFirst kind items n) old middle →
    Adds (IsNeededAt kind items (n + 1)) middle new → Adds (OfFirst kind items (n + 1)) old new
modules-more kind items n old middle new h k =
    adds-iff (λ need. OfFirst kind items n need ⊎ IsNeededAt kind items (n + 1) need) (OfFirst kind items (n + 1)) old new
    (λ need. (
      λ w. elim w [ inl m ↦ (m.0, m.1, omega (arith, m.2), m.3) | inr o ↦ (n + 1, omega arith, omega arith, o) ],
      λ m. elim (cases_eq m.0 (n + 1)) [
        | inl e ↦ inr (subst (λ number. IsNeededAt kind items number need) e m.3)
        | inr ne ↦ inl (m.0, m.1, omega (arith, m.2, ne), m.3)
      ],
    ))
    (adds-both (OfFirst kind items n) (IsNeededAt kind items (n + 1)) old middle new h k)

rule-of : (kind : Kind) (need : Need) (o : Option ModuleText) → MatchOption o ⊥ (λ rule. Member need (needs_of kind rule)) →
    (rule : ModuleText) × (o ≡ Some rule) × Member need (needs_of kind rule)
rule-of kind need None h = absurd h
rule-of kind need (Some rule) h = (rule, refl, h)

pub modules-all : (kind : Kind) (items : Items) (n : ℕ) (old new : List Need) → IsNumbered items → module_count items ≤ n →
    Adds (OfFirst kind items n) old new → Adds (IsNeededIn items kind) old new
modules-all kind items n old new is all h =
    adds-iff (OfFirst kind items n) (IsNeededIn items kind) old new
    (λ need. (
      λ m.
          let k = rule-of kind need (module_at m.0 items) m.3 in
          record { number = m.0; rule = k.0; is_there = k.1; reads = k.2 },
      λ m.
          let range = module_at-range 1 m.number items is (ap is_some m.is_there) in (
            m.number,
            range.0,
            omega (arith, range.1, all),
            subst (λ (o : Option ModuleText). MatchOption o ⊥ (λ rule. Member need (needs_of kind rule))) (sym m.is_there) m.reads,
          ),
    ))
    h

-- SERVICES

pub of-stack : (folder : Folder) (service : List ℕ) (kind : Kind) (items : Items) (old new : List Need) →
    (surveyed folder service kind).items ≡ Some items → Adds (IsNeededIn items kind) old new → Adds (IsNeededFor folder service kind) old new
of-stack folder service kind items old new is h =
    subst (λ (o : Option Items). Adds (λ need. MatchOption o ⊥ (λ i. IsNeededIn i kind need)) old new) (sym is) h

pub of-no-stack : (folder : Folder) (service : List ℕ) (kind : Kind) (needs : List Need) → (surveyed folder service kind).items ≡ None →
    Adds (IsNeededFor folder service kind) needs needs
of-no-stack folder service kind needs is =
    adds-none (IsNeededFor folder service kind) needs
    (λ need k. subst (λ (o : Option Items). MatchOption o ⊥ (λ i. IsNeededIn i kind need)) is k)

stack-of : (kind : Kind) (need : Need) (o : Option Items) → MatchOption o ⊥ (λ i. IsNeededIn i kind need) →
    (items : Items) × (o ≡ Some items) × IsNeededIn items kind need
stack-of kind need None h = absurd h
stack-of kind need (Some items) h = (items, refl, h)

to-service : (folder : Folder) (service : List ℕ) (kind : Kind) (need : Need) → IsNeededFor folder service kind need → IsNeededBy folder service need
to-service folder service kind need h =
    let k = stack-of kind need (surveyed folder service kind).items h in
    record { kind = kind; items = k.0; stack = k.1; reads = k.2 }

from-service : (folder : Folder) (service : List ℕ) (kind : Kind) (items : Items) (need : Need) → (surveyed folder service kind).items ≡ Some items →
    IsNeededIn items kind need → IsNeededFor folder service kind need
from-service folder service kind items need is h = subst (λ (o : Option Items). MatchOption o ⊥ (λ i. IsNeededIn i kind need)) (sym is) h

module _ (folder : Folder) (service : List ℕ) where
  by-kind : (kind : Kind) (need : Need) → IsNeededFor folder service kind need →
      ((IsNeededFor folder service Auth need ⊎ IsNeededFor folder service Account need) ⊎ IsNeededFor folder service Password need)
      ⊎ IsNeededFor folder service Session need
  by-kind Auth need h = inl (inl (inl h))
  by-kind Account need h = inl (inl (inr h))
  by-kind Password need h = inl (inr h)
  by-kind Session need h = inr h

  pub four-kinds : (old first second third new : List Need) → Adds (IsNeededFor folder service Auth) old first →
      Adds (IsNeededFor folder service Account) first second → Adds (IsNeededFor folder service Password) second third →
      Adds (IsNeededFor folder service Session) third new → Adds (IsNeededBy folder service) old new
  four-kinds old first second third new a b c d =
      let A : Need → Type 0 = IsNeededFor folder service Auth in
      let B : Need → Type 0 = IsNeededFor folder service Account in
      let C : Need → Type 0 = IsNeededFor folder service Password in
      let D : Need → Type 0 = IsNeededFor folder service Session in
      adds-iff (λ need. ((A need ⊎ B need) ⊎ C need) ⊎ D need) (IsNeededBy folder service) old new
      (λ need. (
        λ w. elim w [
          | inl x ↦ elim x [
            | inl y ↦ elim y [ inl h ↦ to-service folder service Auth need h | inr h ↦ to-service folder service Account need h ]
            | inr h ↦ to-service folder service Password need h
          ]
          | inr h ↦ to-service folder service Session need h
        ],
        λ h. by-kind h.kind need (from-service folder service h.kind h.items need h.stack h.reads),
      ))
      (adds-both (λ need. (A need ⊎ B need) ⊎ C need) D old third new
      (adds-both (λ need. A need ⊎ B need) C old second third (adds-both A B old first second a b) c) d)

-- what the services that are left add to what is known
abbrev pub Comes : Folder → List (List ℕ) → List (List ℕ) → List Need → Type 0
Comes folder services left needs = (need : Need) → (Member need needs ⊎ IsNeeded folder left need) ↔ IsNeeded folder services need

comes-first : (folder : Folder) (services : List (List ℕ)) → Comes folder services services []
comes-first folder services need = (λ w. elim w [ inl k ↦ absurd (of-none need k) | inr h ↦ h ], λ h. inr h)

pub comes-start : (folder : Folder) (services left : List (List ℕ)) (needs : List Needed) → left ≡ services → needs ≡ [] →
    Comes folder services left (map need_view needs)
comes-start folder services left needs is none =
    subst (λ (l : List (List ℕ)). Comes folder services l (map need_view needs)) (sym is)
    (subst (λ (n : List Needed). Comes folder services services (map need_view n)) (sym none) (comes-first folder services))

pub comes-more : (folder : Folder) (services left rest : List (List ℕ)) (service : List ℕ) (old new : List Need) → left ≡ service ∷ rest →
    Adds (IsNeededBy folder service) old new → Comes folder services left old → Comes folder services rest new
comes-more folder services left rest service old new is adds h need = (
  λ w. (h need).0 (elim w [
    | inl k ↦ elim ((adds need).1 k) [
      | inl o ↦ inl o
      | inr b ↦ inr (record { service = service; checked = subst (Member service) (sym is) ((of-first service service rest).1 (inl refl)); by = b })
    ]
    | inr n ↦ inr (record { service = n.service; checked = subst (Member n.service) (sym is) ((of-first n.service service rest).1 (inr n.checked)); by = n.by })
  ]),
  λ n. elim ((h need).1 n) [
    | inl o ↦ inl ((adds need).0 (inl o))
    | inr m ↦ elim ((of-first m.service service rest).0 (subst (Member m.service) is m.checked)) [
      | inl e ↦ inl ((adds need).0 (inr (subst (λ (s : List ℕ). IsNeededBy folder s need) e m.by)))
      | inr k ↦ inr (record { service = m.service; checked = k; by = m.by })
    ]
  ],
)

pub comes-end : (folder : Folder) (services left : List (List ℕ)) (needs : List Need) → left ≡ [] → Comes folder services left needs →
    Adds (IsNeeded folder services) [] needs
comes-end folder services left needs is h need = (
  λ w. elim w [
    | inl k ↦ absurd (of-none need k)
    | inr n ↦ elim ((h need).1 n) [ inl k ↦ k | inr m ↦ absurd (of-none m.service (subst (Member m.service) is m.checked)) ]
  ],
  λ k. inr ((h need).0 (inl k)),
)
