-- The rules of the kinds of stacks whose walk a limit ends.
use Rattle.std.proofs.Common.{◌≡◌, ◌⊎◌, ℕ, ◌+◌, ◌<◌, ◌≤◌, true, false, List, [], ◌∷◌, ◌++◌, take, length, map, refl, sym, ◌∙◌, ap, subst, inl}
use Rattle.std.proofs.Common.{inr, arith, MatchOption, Option, Some, None, get_or}
use Rattle.std.specs.Option.{option_map}
use Rattle.std.proofs.lemmas.Bool.{cases_eq, cases_lt, false≢true}
use Rattle.std.proofs.lemmas.Option.{slice_get_past}
use Rattle.pam_conf.specs.FileRules.{good_rules}
use Rattle.pam_conf.specs.Files.{Folder, Named, bytes_at}
use Rattle.pam_conf.specs.Rule.{RuleText, rule_view}
use Rattle.pam_conf.specs.declared.rule.Kind.{Kind}
use Rattle.pam_conf.specs.declared.rule.Rule.{Rule}
use Rattle.pam_facts.specs.Kinds.{has_kind}
use Rattle.pam_facts.specs.declared.kinds.Kinds.{Kinds}
use Rattle.pam_text.specs.Members.{Member}
use Rattle.pam_findings.specs.host.inner.CutOff.{OfAmong, OfCut, OfFile, OfFiles, OfKinds}
use Rattle.pam_findings.specs.host.inner.Meeting.{MetSoFar}
use Rattle.pam_findings.specs.host.inner.Table.{Adds}
use Rattle.pam_findings.specs.host.StackProblems.{HasRule}
use Rattle.pam_findings.specs.declared.host.met.Met.{Met}
use Rattle.pam_findings.specs.declared.host.problem.Problem.TheVariants as problems
use Rattle.pam_findings.specs.declared.host.problem.Spot.{Spot}
use Rattle.pam_findings.proofs.HostProofs.Adding.{adds-both, adds-iff, adds-none, adds-one}
use Rattle.pam_findings.proofs.HostProofs.Owned.{from_map, to_map}
use Rattle.pam_findings.proofs.HostProofs.Passes.{all_so_far, none_yet, one_more}
use Rattle.pam_findings.proofs.HostProofs.Verdicted.{same-spot}

-- ONE RULE

module _ (kinds : Kinds) (file : ℕ) (rule : RuleText) where
  pub of-rule : (kind : Kind) → rule.kind ≡ Some kind → has_kind kind kinds ≡ true → (old new : List Spot) →
      (let one : Spot = record { file = Some file; line = rule.line; problem = problems.NeverAsked } in new ≡ old ++ one ∷ []
      → Adds (OfKinds kinds file rule) old new)
  of-rule kind is has old new pushed =
      let one : Spot = record { file = Some file; line = rule.line; problem = problems.NeverAsked } in
      adds-iff (λ spot. spot ≡ one) (OfKinds kinds file rule) old new
      (λ spot. (
        λ e. record {
          problem = ap (λ (s : Spot). s.problem) e;
          kind = kind;
          is_kind = is;
          has = has;
          at = ap (λ (s : Spot). s.file) e;
          line = ap (λ (s : Spot). s.line) e;
        },
        λ k. same-spot spot one k.at k.line k.problem,
      ))
      (adds-one old new one pushed)

  pub of-other-kind : (kind : Kind) → rule.kind ≡ Some kind → has_kind kind kinds ≡ false → (spots : List Spot) → Adds (OfKinds kinds file rule) spots spots
  of-other-kind kind is has spots =
      adds-none (OfKinds kinds file rule) spots
      (λ spot k.
      let same : Some k.kind ≡ Some kind = sym k.is_kind ∙ is in
      let equal : k.kind ≡ kind = cc in
      false≢true (sym has ∙ ap (λ (x : Kind). has_kind x kinds) (sym equal) ∙ k.has))

  pub of-no-kind : rule.kind ≡ None → (spots : List Spot) → Adds (OfKinds kinds file rule) spots spots
  of-no-kind is spots =
      adds-none (OfKinds kinds file rule) spots (λ spot k. let clash : Some k.kind ≡ None = sym k.is_kind ∙ is in absurd cc)

-- THE RULES OF A FILE

-- of one of the first
abbrev pub OfFirst : Kinds → ℕ → List Rule → ℕ → Spot → Type 0
OfFirst kinds file rules n spot = (rule : Rule) × Member rule (take n rules) × OfKinds kinds file (rule_view rule) spot

module _ (kinds : Kinds) (file : ℕ) (rules : List Rule) where
  pub rules-none : (spots : List Spot) → Adds (OfFirst kinds file rules 0) spots spots
  rules-none spots = adds-none (OfFirst kinds file rules 0) spots (λ spot m. none_yet m.0 rules m.1)

  pub rules-more : (n : ℕ) (rule d : Rule) (old middle new : List Spot) → n < length rules → rule ≡ get_or rules n d →
      Adds (OfFirst kinds file rules n) old middle → Adds (OfKinds kinds file (rule_view rule)) middle new → Adds (OfFirst kinds file rules (n + 1)) old new
  rules-more n rule d old middle new within is h k =
      adds-iff (λ spot. OfFirst kinds file rules n spot ⊎ OfKinds kinds file (rule_view rule) spot) (OfFirst kinds file rules (n + 1)) old new
      (λ spot. (
        λ w. elim w [
          | inl m ↦ (m.0, (one_more m.0 rule d rules n within is).0 (inl m.1), m.2)
          | inr o ↦ (rule, (one_more rule rule d rules n within is).0 (inr refl), o)
        ],
        λ m. elim ((one_more m.0 rule d rules n within is).1 m.1) [
          | inl i ↦ inl (m.0, i, m.2)
          | inr e ↦ inr (subst (λ (r : Rule). OfKinds kinds file (rule_view r) spot) e m.2)
        ],
      ))
      (adds-both (OfFirst kinds file rules n) (OfKinds kinds file (rule_view rule)) old middle new h k)

  pub rules-all : (n : ℕ) (old new : List Spot) → length rules ≤ n → Adds (OfFirst kinds file rules n) old new →
      Adds (OfAmong kinds file (map rule_view rules)) old new
  rules-all n old new all h =
      adds-iff (OfFirst kinds file rules n) (OfAmong kinds file (map rule_view rules)) old new
      (λ spot. (
        λ m. (rule_view m.0, to_map rule_view m.0 rules ((all_so_far m.0 rules n all).0 m.1), m.2),
        λ m.
            let r = from_map rule_view m.0 rules m.1 in
            (r.0, (all_so_far r.0 rules n all).1 r.1, subst (λ (t : RuleText). OfKinds kinds file t spot) r.2 m.2),
      ))
      h

-- by the bytes of the file
module _ (folder : Folder) (kinds : Kinds) (file : ℕ) where
  bytes-there : (rules : List RuleText) (o : Option (List ℕ)) → Some rules ≡ option_map (good_rules folder.form) o → (old new : List Spot) →
      Adds (OfAmong kinds file rules) old new →
      Adds (λ spot. MatchOption o ⊥ (λ bytes. OfAmong kinds file (good_rules folder.form bytes) spot)) old new
  bytes-there rules None e old new h = absurd cc
  bytes-there rules (Some bytes) e old new h =
      let same : rules ≡ good_rules folder.form bytes = cc in
      subst (λ (l : List RuleText). Adds (OfAmong kinds file l) old new) same h

  bytes-gone : (o : Option (List ℕ)) → None ≡ option_map (good_rules folder.form) o → (spots : List Spot) →
      Adds (λ spot. MatchOption o ⊥ (λ bytes. OfAmong kinds file (good_rules folder.form bytes) spot)) spots spots
  bytes-gone None e spots = adds-none (λ spot. ⊥) spots (λ spot h. h)
  bytes-gone (Some bytes) e spots = absurd cc

  pub file-there : (rules : List RuleText) → Some rules ≡ option_map (good_rules folder.form) (bytes_at file folder.entries) → (old new : List Spot) →
      Adds (OfAmong kinds file rules) old new → Adds (OfFile folder kinds file) old new
  file-there rules e old new h = bytes-there rules (bytes_at file folder.entries) e old new h

  pub file-gone : None ≡ option_map (good_rules folder.form) (bytes_at file folder.entries) → (spots : List Spot) → Adds (OfFile folder kinds file) spots spots
  file-gone e spots = bytes-gone (bytes_at file folder.entries) e spots

-- ALL FILES

module _ (folder : Folder) (kinds : Kinds) where
  pub files-none : (spots : List Spot) → Adds (OfFiles folder kinds 0) spots spots
  files-none spots = adds-none (OfFiles folder kinds 0) spots (λ spot m. omega (arith, m.1))

  pub files-more : (n : ℕ) (old middle new : List Spot) → Adds (OfFiles folder kinds n) old middle → Adds (OfFile folder kinds n) middle new →
      Adds (OfFiles folder kinds (n + 1)) old new
  files-more n old middle new h k =
      adds-iff (λ spot. OfFiles folder kinds n spot ⊎ OfFile folder kinds n spot) (OfFiles folder kinds (n + 1)) old new
      (λ spot. (
        λ w. elim w [ inl m ↦ (m.0, omega (arith, m.1), m.2) | inr o ↦ (n, omega arith, o) ],
        λ m. elim (cases_eq m.0 n) [
          | inl e ↦ inr (subst (λ (file : ℕ). OfFile folder kinds file spot) e m.2)
          | inr ne ↦ inl (m.0, omega (arith, m.1, ne), m.2)
        ],
      ))
      (adds-both (OfFiles folder kinds n) (OfFile folder kinds n) old middle new h k)

-- WHERE SOME STACKS ARE CUT OFF

pub cut-none : (folder : Folder) (cut_off : Option Met) → cut_off ≡ None → (spots : List Spot) → Adds (OfCut folder cut_off) spots spots
cut-none folder cut_off is spots =
    subst (λ (o : Option Met). Adds (OfCut folder o) spots spots) (sym is) (adds-none (λ spot. ⊥) spots (λ spot h. h))

pub cut-some : (folder : Folder) (cut_off : Option Met) (met : Met) → cut_off ≡ Some met → (old new : List Spot) →
    Adds (OfFiles folder met.kinds (length folder.entries)) old new → Adds (OfCut folder cut_off) old new
cut-some folder cut_off met is old new h = subst (λ (o : Option Met). Adds (OfCut folder o) old new) (sym is) h

-- the bytes of a file that has such a rule
has-bytes : (P : List ℕ → Type 0) (o : Option (List ℕ)) → MatchOption o ⊥ P → (bytes : List ℕ) × (o ≡ Some bytes) × P bytes
has-bytes P None h = absurd h
has-bytes P (Some bytes) h = (bytes, refl, h)

has-met : (P : Met → Type 0) (o : Option Met) → MatchOption o ⊥ P → (met : Met) × (o ≡ Some met) × P met
has-met P None h = absurd h
has-met P (Some met) h = (met, refl, h)

inside : (folder : Folder) (file : ℕ) (bytes : List ℕ) → bytes_at file folder.entries ≡ Some bytes → file < length folder.entries
inside folder file bytes is = elim (cases_lt file (length folder.entries)) [
  | inl lt ↦ lt
  | inr ge ↦
      let none : bytes_at file folder.entries ≡ None = ap (λ (o : Option Named). option_map (λ f. f.1) o) (slice_get_past folder.entries file ge) in
      let clash : None ≡ Some bytes = sym none ∙ is in
      absurd cc
]

known-met : (P : ℕ → Kind → Type 0) (o : Option Met) (s : ℕ) (k : Kind) → MetSoFar P o → P s k →
    (met : Met) × (o ≡ Some met) × (has_kind k met.kinds ≡ true)
known-met P None s k none p = absurd (none s k p)
known-met P (Some met) s k h p = (met, refl, (h.kinds k).1 (s, p))

module _ (folder : Folder) (P : ℕ → Kind → Type 0) (cut_off : Option Met) (known : MetSoFar P cut_off) (spot : Spot) where
  -- some stack of the kind of the rule is cut off
  pub cut-from : OfCut folder cut_off spot → (s : ℕ) × (k : Kind) × P s k × HasRule folder k spot × (spot.problem ≡ problems.NeverAsked)
  cut-from h =
      let m = has-met (λ met. OfFiles folder met.kinds (length folder.entries) spot) cut_off h in
      let file = m.2.0 in
      let b = has-bytes (λ bytes. OfAmong m.0.kinds file (good_rules folder.form bytes) spot) (bytes_at file folder.entries) m.2.2 in
      let rule = b.2.0 in
      let of = b.2.2 in
      let met : MetSoFar P (Some m.0) = subst (MetSoFar P) m.1 known in
      let stack = (met.kinds of.kind).0 of.has in (
        stack.0,
        of.kind,
        stack.1,
        record {
          file = file;
          bytes = b.0;
          rule = rule;
          is_file = b.1;
          is_rule = b.2.1;
          is_kind = of.is_kind;
          at = of.at;
          line = of.line;
        },
        of.problem,
      )

  pub cut-to : (s : ℕ) (k : Kind) → P s k → HasRule folder k spot → spot.problem ≡ problems.NeverAsked →
      OfCut folder cut_off spot
  cut-to s k p rule problem =
      let m = known-met P cut_off s k known p in
      let of : OfKinds m.0.kinds rule.file rule.rule spot = record {
        problem = problem;
        kind = k;
        is_kind = rule.is_kind;
        has = m.2;
        at = rule.at;
        line = rule.line;
      } in
      let Q : Option (List ℕ) → Type 0 = λ o. MatchOption o ⊥ (λ bytes. OfAmong m.0.kinds rule.file (good_rules folder.form bytes) spot) in
      let within : rule.file < length folder.entries = inside folder rule.file rule.bytes rule.is_file in
      let files : OfFiles folder m.0.kinds (length folder.entries) spot =
      (rule.file, within, subst Q (sym rule.is_file) (rule.rule, rule.is_rule, of)) in
      subst (λ (o : Option Met). MatchOption o ⊥ (λ met. OfFiles folder met.kinds (length folder.entries) spot)) (sym m.1) files
