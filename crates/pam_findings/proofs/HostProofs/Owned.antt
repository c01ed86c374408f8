-- The problems of files themselves.
use Rattle.std.proofs.Common.{◌≡◌, ◌∙◌, ◌⊎◌, ◌↔◌, ℕ, ◌+◌, Bool, true, false, if◌then◌else◌, is_none, List, [], ◌∷◌, ◌++◌, map}
use Rattle.std.proofs.Common.{Option, Some, None, MatchOption, ap, arith, inl, inr, refl, slice_index_or, subst, sym}
use Rattle.std.specs.List.{flat_map}
use Rattle.std.specs.Option.{option_map, option_map_or}
use Rattle.std.proofs.lemmas.Bool.{cases_Bool, cases_eq}
use Rattle.pam_conf.specs.FileRules.{good_rules, own_faults}
use Rattle.pam_conf.specs.Files.{Folder, bytes_at}
use Rattle.pam_conf.specs.Rule.{RuleText}
use Rattle.pam_conf.specs.declared.error.RuleFault.{RuleFault}
use Rattle.pam_text.specs.Members.{Member}
use Rattle.pam_findings.specs.host.FileProblems.{BytesHave, includes_vendor, released_in}
use Rattle.pam_findings.specs.host.inner.Own.{IsOwn, IsRead, fault_spot, met_in, read_by, released_spot, vendor_spot, vendor_spots, vendor_spots_in}
use Rattle.pam_findings.specs.host.inner.Table.{Puts, Table, with_met}
use Rattle.pam_findings.specs.declared.host.met.Met.{Met}
use Rattle.pam_findings.specs.declared.host.problem.Problem.{Problem}
use Rattle.pam_findings.specs.declared.host.problem.Problem.TheVariants as problems
use Rattle.pam_findings.specs.declared.host.problem.Spot.{Spot}
use Rattle.pam_findings.specs.declared.host.report.Finding.{Finding}
use Rattle.pam_findings.proofs.HostProofs.Meeting.{from_both, to_back, to_front}
use Rattle.pam_findings.proofs.HostProofs.Passes.{Settles, puts-as, puts-both, puts-iff, puts-none}

-- MEMBERS OF A MAPPED LIST

pub to_map : {X Y : Type 0} (f : X → Y) (x : X) (xs : List X) → Member x xs → Member (f x) (map f xs)
unfolding Member
to_map f x [] h = h
to_map f x (y ∷ xs) (inl e) = inl (ap f e)
to_map f x (y ∷ xs) (inr h) = inr (to_map f x xs h)

pub from_map : {X Y : Type 0} (f : X → Y) (y : Y) (xs : List X) → Member y (map f xs) → (x : X) × Member x xs × (y ≡ f x)
unfolding Member
from_map f y [] h = absurd h
from_map f y (x ∷ xs) (inl e) = (x, inl refl, e)
from_map f y (x ∷ xs) (inr h) = let k = from_map f y xs h in (k.0, inr k.1, k.2)

pub to_flat : {X Y : Type 0} (f : X → List Y) (y : Y) (xs : List X) (x : X) → Member x xs → Member y (f x) → Member y (flat_map f xs)
unfolding Member
to_flat f y [] x h k = absurd h
to_flat f y (z ∷ zs) x (inl e) k = to_front y (f z) (flat_map f zs) (subst (λ w. Member y (f w)) e k)
to_flat f y (z ∷ zs) x (inr h) k = to_back y (f z) (flat_map f zs) (to_flat f y zs x h k)

pub from_flat : {X Y : Type 0} (f : X → List Y) (y : Y) (xs : List X) → Member y (flat_map f xs) → (x : X) × Member x xs × Member y (f x)
unfolding Member
from_flat f y [] h = absurd h
from_flat f y (z ∷ zs) h = elim (from_both y (f z) (flat_map f zs) h) [
  | inl k ↦ (z, inl refl, k)
  | inr k ↦ let r = from_flat f y zs k in (r.0, inr r.1, r.2)
]

-- L10 OF ONE RULE

module _ (folder : Folder) (start file : ℕ) (rule : RuleText) where
  if-vendor : Bool → List Spot
  if-vendor b = if b then vendor_spot file rule ∷ [] else []

  to_vendor : includes_vendor folder start rule.body ≡ true → Member (vendor_spot file rule) (vendor_spots folder start file rule)
  unfolding Member if-vendor
  to_vendor h = subst (λ b. Member (vendor_spot file rule) (if-vendor b)) (sym h) (inl refl)

  from_vendor : (spot : Spot) → Member spot (vendor_spots folder start file rule) →
      (includes_vendor folder start rule.body ≡ true) × (spot ≡ vendor_spot file rule)
  unfolding Member if-vendor
  from_vendor spot m = elim (cases_Bool (includes_vendor folder start rule.body)) [
    | inl t ↦
        let one : Member spot (if-vendor true) = subst (λ b. Member spot (if-vendor b)) t m in
        (t, elim one [ inl e ↦ e | inr none ↦ absurd none ])
    | inr f ↦
        let none : Member spot (if-vendor false) = subst (λ b. Member spot (if-vendor b)) f m in
        absurd none
  ]

-- THE PROBLEMS OF ONE FILE

module _ (folder : Folder) (start file : ℕ) (bytes : List ℕ) where
  faults : List Spot
  faults = map (fault_spot file) (own_faults folder.form bytes)

  founds : List Spot
  founds = map (released_spot file) (released_in folder.form bytes)

  vendors : List Spot
  vendors = flat_map (vendor_spots folder start file) (good_rules folder.form bytes)

  -- by the problem
  to_spot : (line : ℕ) (problem : Problem) → BytesHave folder start bytes line problem →
      Member (let s : Spot = record { file = Some file; line = line; problem = problem } in s) ((faults ++ founds) ++ vendors)
  unfolding faults founds vendors
  to_spot line (problems.Fault fault) h =
      to_front _ (faults ++ founds) vendors
      (to_front _ faults founds (to_map (fault_spot file) (record { kind = fault; line = line }) (own_faults folder.form bytes) h))
  to_spot line (problems.Released difference) h =
      to_front _ (faults ++ founds) vendors
      (to_back _ faults founds (to_map (released_spot file) (record { line = line; difference = difference }) (released_in folder.form bytes) h))
  to_spot line (problems.IncludedFromVendor is_at_include) h =
      let at_line : ℕ → Spot = λ l. record { file = Some file; line = l; problem = problems.IncludedFromVendor (is_none h.rule.kind) } in
      let of_kind : Bool → Spot = λ b. record { file = Some file; line = line; problem = problems.IncludedFromVendor b } in
      let is : vendor_spot file h.rule ≡ of_kind is_at_include = ap at_line h.at ∙ ap of_kind h.at_include in
      subst (λ (s : Spot). Member s ((faults ++ founds) ++ vendors)) is
      (to_back _ (faults ++ founds) vendors
      (to_flat (vendor_spots folder start file) (vendor_spot file h.rule) (good_rules folder.form bytes) h.rule h.is_rule
      (to_vendor folder start file h.rule h.includes)))
  to_spot line (problems.Walk fault) h = absurd h
  to_spot line (problems.LetsNobodyIn service kind) h = absurd h
  to_spot line (problems.LetsAnybodyIn service is_greeter) h = absurd h
  to_spot line problems.JumpPastEnd h = absurd h
  to_spot line problems.NeverAsked h = absurd h
  to_spot line (problems.NoModule is_dashed) h = absurd h
  to_spot line problems.NoOther h = absurd h
  to_spot line problems.UnreachableName h = absurd h
  to_spot line (problems.TooLarge service kind) h = absurd h
  to_spot line (problems.OtherAnswers service kind has_no_rule lets_nobody_in) h = absurd h
  to_spot line problems.LeftOver h = absurd h
  to_spot line problems.JumpIntoInclude h = absurd h
  to_spot line problems.NoFunction h = absurd h
  to_spot line (problems.CallerIsRoot is_daemon) h = absurd h
  to_spot line (problems.Argument argument wrong) h = absurd h
  to_spot line (problems.BadArguments lack) h = absurd h
  to_spot line problems.EmptySeparator h = absurd h
  to_spot line problems.UnknownModule h = absurd h
  to_spot line problems.SuccessNeverCounts h = absurd h
  to_spot line problems.LinkOutside h = absurd h
  to_spot line (problems.StoredThoughRefused by) h = absurd h
  to_spot line problems.NoFailureCounted h = absurd h
  to_spot line (problems.NotCounted counts) h = absurd h

  abbrev Has : Spot → Type 0
  Has s = (s.file ≡ Some file) × BytesHave folder start bytes s.line s.problem

  from_spot : (spot : Spot) → Member spot ((faults ++ founds) ++ vendors) → Has spot
  unfolding faults founds vendors
  from_spot spot h = elim (from_both spot (faults ++ founds) vendors h) [
    | inl own ↦ elim (from_both spot faults founds own) [
      | inl i ↦ let k = from_map (fault_spot file) spot (own_faults folder.form bytes) i in subst Has (sym k.2) (refl, k.1)
      | inr i ↦ let k = from_map (released_spot file) spot (released_in folder.form bytes) i in subst Has (sym k.2) (refl, k.1)
    ]
    | inr i ↦
        let k = from_flat (vendor_spots folder start file) spot (good_rules folder.form bytes) i in
        let v = from_vendor folder start file k.0 spot k.2 in
        subst Has (sym v.1) (refl, record { rule = k.0; is_rule = k.1; at = refl; at_include = refl; includes = v.0 })
  ]

  pub spots-of-file : (spot : Spot) →
      Member spot ((map (fault_spot file) (own_faults folder.form bytes) ++ map (released_spot file) (released_in folder.form bytes))
      ++ flat_map (vendor_spots folder start file) (good_rules folder.form bytes))
      ↔ ((spot.file ≡ Some file) × BytesHave folder start bytes spot.line spot.problem)
  unfolding faults founds vendors
  spots-of-file spot = (
    λ h. from_spot spot h,
    λ h. subst (λ (x : Option ℕ). Member (let s : Spot = record { file = x; line = spot.line; problem = spot.problem } in s) ((faults ++ founds) ++ vendors))
        (sym h.0) (to_spot spot.line spot.problem h.1),
  )

-- what is put for a file whose bytes are known
pub puts-file : (folder : Folder) (start file : ℕ) (bytes : List ℕ) (met : Met) (spots : List Spot) (old new : Table) →
    bytes_at file folder.entries ≡ Some bytes →
    spots ≡ (map (fault_spot file) (own_faults folder.form bytes) ++ map (released_spot file) (released_in folder.form bytes))
    ++ vendor_spots_in folder start file →
    Puts (λ spot. Member spot spots) (with_met (Some met)) old new → Puts (IsOwn folder start file) (with_met (Some met)) old new
puts-file folder start file bytes met spots old new there is h =
    let others = map (fault_spot file) (own_faults folder.form bytes) ++ map (released_spot file) (released_in folder.form bytes) in
    let all = is ∙ ap (λ o. others ++ option_map_or (λ b. flat_map (vendor_spots folder start file) (good_rules folder.form b)) o []) there in
    puts-iff (λ spot. Member spot spots) (IsOwn folder start file) (with_met (Some met)) old new
    (λ spot.
    let same = spots-of-file folder start file bytes spot in
    let P : Option (List ℕ) → Type 0 = λ o. MatchOption o ⊥ (λ b. BytesHave folder start b spot.line spot.problem) in (
      λ i. let k = same.0 (subst (Member spot) all i) in (k.0, subst P (sym there) k.1),
      λ own. subst (Member spot) (sym all) (same.1 (own.0, subst P there own.1)),
    ))
    h

pub faults-of-file : (folder rules : Folder) (file : ℕ) (bytes : List ℕ) (faults : List RuleFault) → rules ≡ folder → bytes_at file folder.entries
    ≡ Some bytes →
    option_map (own_faults rules.form) (bytes_at file rules.entries) ≡ Some faults → faults ≡ own_faults folder.form bytes
faults-of-file folder rules file bytes faults same there h =
    let P : Folder → Type 0 = λ r. option_map (own_faults r.form) (bytes_at file r.entries) ≡ Some faults in
    let k : Some (own_faults folder.form bytes) ≡ Some faults = sym (ap (option_map (own_faults folder.form)) there) ∙ subst P same h in
    cc

pub puts-no-file : (folder : Folder) (start file : ℕ) (met : Met) (table : Table) → bytes_at file folder.entries ≡ None →
    Puts (IsOwn folder start file) (with_met (Some met)) table table
puts-no-file folder start file met table gone =
    puts-none (IsOwn folder start file) (with_met (Some met)) table
    (λ spot own. subst (λ (o : Option (List ℕ)). MatchOption o ⊥ (λ b. BytesHave folder start b spot.line spot.problem)) gone own.1)

-- THE PROBLEMS OF ALL FILES

pub settles-read : (readers : List (Option Met)) → Settles (read_by readers)
settles-read readers spot o = refl

pub reads-none : (folder : Folder) (start : ℕ) (readers : List (Option Met)) (table : Table) →
    Puts (IsRead folder start readers 0) (read_by readers) table table
reads-none folder start readers table = puts-none (IsRead folder start readers 0) (read_by readers) table (λ spot h. omega (arith, h.within))

-- one more file, which these stacks read
pub reads-more : (folder : Folder) (start : ℕ) (readers : List (Option Met)) (n : ℕ) (met : Met) (old middle new : Table) →
    slice_index_or readers n None ≡ Some met →
    Puts (IsRead folder start readers n) (read_by readers) old middle → Puts (IsOwn folder start n) (with_met (Some met)) middle new →
    Puts (IsRead folder start readers (n + 1)) (read_by readers) old new
reads-more folder start readers n met old middle new reads so_far one =
    puts-iff (λ spot. IsRead folder start readers n spot ⊎ IsOwn folder start n spot) (IsRead folder start readers (n + 1)) (read_by readers) old new
    (λ spot. (
      λ h. elim h [
        | inl r ↦ record { position = r.position; within = omega (arith, r.within); met = r.met; reads = r.reads; own = r.own }
        | inr own ↦ record { position = n; within = omega arith; met = met; reads = reads; own = own }
      ],
      λ r. elim (cases_eq r.position n) [
        | inl e ↦ inr (subst (λ p. IsOwn folder start p spot) e r.own)
        | inr ne ↦ inl record { position = r.position; within = omega (arith, r.within, ne); met = r.met; reads = r.reads; own = r.own }
      ],
    ))
    (puts-both (IsRead folder start readers n) (IsOwn folder start n) (read_by readers) old middle new (settles-read readers) so_far
    (puts-as (IsOwn folder start n) (with_met (Some met)) (read_by readers) middle new
    (λ spot o own. ap (λ (m : Option Met). let f : Finding = record { problem = spot.problem; met = m } in f) (sym reads ∙ ap (met_in readers) (sym own.0)))
    one))

-- one more file, which no stack reads
pub reads-skip : (folder : Folder) (start : ℕ) (readers : List (Option Met)) (n : ℕ) (old new : Table) → slice_index_or readers n None ≡ None →
    Puts (IsRead folder start readers n) (read_by readers) old new → Puts (IsRead folder start readers (n + 1)) (read_by readers) old new
reads-skip folder start readers n old new none so_far =
    puts-iff (IsRead folder start readers n) (IsRead folder start readers (n + 1)) (read_by readers) old new
    (λ spot. (
      λ r. record { position = r.position; within = omega (arith, r.within); met = r.met; reads = r.reads; own = r.own },
      λ r. elim (cases_eq r.position n) [
        | inl e ↦ let clash : Some r.met ≡ None = sym r.reads ∙ ap (λ p. slice_index_or readers p None) e ∙ none in absurd cc
        | inr ne ↦ record { position = r.position; within = omega (arith, r.within, ne); met = r.met; reads = r.reads; own = r.own }
      ],
    ))
    so_far
