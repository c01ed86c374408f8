-- Modules that may ask for a token, and modules that only take one.
use Rattle.std.proofs.Common.{◌≡◌, ◌≢◌, ℕ, ◌+◌, ◌-◌, ◌<◌, ◌≤◌, ◌==◌, ◌||◌, Bool, true, false, List, [], ◌∷◌, Option, None, Some, refl, sym, ◌∙◌, ap}
use Rattle.std.proofs.Common.{subst, arith}
use Rattle.std.proofs.Common.{if◌then◌else◌, inl, inr, replicate, slice_get, suc, zero}
use Rattle.std.specs.List.{list_any}
use Rattle.std.specs.Option.{option_and_then, option_map_or}
use Rattle.std.proofs.lemmas.Bool.{cases_Bool, cases_eq, cases_lt, eq-eqb, eqb-true, false≢true, ne_eqb, or_left, or_right}
use Rattle.pam_codes.specs.Code.{all_codes}
use Rattle.pam_conf.specs.Stack.{IsNumbered, Items, ModuleText, module_at, module_count}
use Rattle.pam_conf.specs.declared.rule.Kind.{Kind}
use Rattle.pam_paths.specs.Known.{may_answer}
use Rattle.pam_findings.specs.host.Tokens.{NoneAsksBefore, may_ask_for, takes}
use Rattle.pam_findings.specs.host.Verdicts.{Judgement}
use Rattle.pam_findings.specs.host.inner.Looked.{spot_at}
use Rattle.pam_findings.specs.host.inner.Table.{Adds}
use Rattle.pam_findings.specs.host.inner.Taking.{AreAsking, Lacks, LacksAt, LacksIn, lacking_by}
use Rattle.pam_findings.specs.host.inner.WrongArguments.{OfFound}
use Rattle.pam_findings.specs.stack.Leading.{Leads}
use Rattle.pam_findings.specs.stack.inner.Leading.{SaysLeads}
use Rattle.pam_findings.specs.stack.inner.Marks.{mark_of}
use Rattle.pam_findings.specs.declared.host.problem.ArgumentProblem.{ArgumentProblem}
use Rattle.pam_findings.specs.declared.host.problem.ArgumentProblem.TheVariants.{NoToken}
use Rattle.pam_findings.specs.declared.host.problem.Problem.TheVariants as problems
use Rattle.pam_findings.specs.declared.host.problem.Spot.{Spot}
use Rattle.pam_findings.proofs.HostProofs.Adding.{OfFirst, adds-iff, adds-none, numbered}
use Rattle.pam_findings.proofs.HostProofs.Verdicted.{same-spot}
use Rattle.pam_findings.proofs.StackProofs.MarkLists.{none-marked, or-false}
use Rattle.pam_findings.proofs.StackProofs.NeverCounting.{asks-range}

-- MARKS, module by module

-- the first modules are marked if they pass a test, and no other
pub record MarkedSoFar (test : ℕ → Bool) (index : ℕ) (marks : List Bool) : Type 0 where
  pub done : (n : ℕ) → 1 ≤ n → n ≤ index → mark_of marks n ≡ test n
  pub rest : (n : ℕ) → index < n → mark_of marks n ≡ false

pub none-so-far : (test : ℕ → Bool) (count : ℕ) → MarkedSoFar test 0 (replicate count false)
none-so-far test count = record {
  done = λ n low high. absurd (omega (arith, low, high));
  rest = λ n above. none-marked count (n - 1);
}

module _ (test : ℕ → Bool) (index : ℕ) (old : List Bool) (so_far : MarkedSoFar test index old) where
  pub one-marked : (new : List Bool) → ((n : ℕ) → 1 ≤ n → mark_of new n ≡ (n == index + 1 || mark_of old n)) → test (index + 1) ≡ true →
      MarkedSoFar test (index + 1) new
  one-marked new is passes = record {
    done = λ n low high. elim (cases_eq n (index + 1)) [
      | inl e ↦ is n low ∙ ap (λ (t : Bool). t || mark_of old n) (eq-eqb n (index + 1) e) ∙ sym passes ∙ sym (ap test e)
      | inr ne ↦ other n low ne ∙ so_far.done n low (omega (arith, high, ne))
    ];
    rest = λ n above. other n (omega (arith, above)) (λ e. omega (arith, above, e)) ∙ so_far.rest n (omega (arith, above));
  }
    where
      other : (n : ℕ) → 1 ≤ n → n ≢ index + 1 → mark_of new n ≡ mark_of old n
      other n low ne = is n low ∙ ap (λ (t : Bool). t || mark_of old n) (ne_eqb n (index + 1) ne)

  pub one-not-marked : test (index + 1) ≡ false → MarkedSoFar test (index + 1) old
  one-not-marked fails = record {
    done = λ n low high. elim (cases_eq n (index + 1)) [
      | inl e ↦ so_far.rest n (omega (arith, e)) ∙ sym fails ∙ sym (ap test e)
      | inr ne ↦ so_far.done n low (omega (arith, high, ne))
    ];
    rest = λ n above. so_far.rest n (omega (arith, above));
  }

-- past the last module there is none
none-past : (passes : ModuleText → Bool) (items : Items) (n : ℕ) (o : Option ModuleText) → IsNumbered items → module_count items < n →
    module_at n items ≡ o → option_map_or passes o false ≡ false
none-past passes items n None is above there = refl
none-past passes items n (Some rule) is above there =
    let range = numbered items n rule is there in
    absurd (omega (arith, range.1, above))

-- whether the rule of the module with a number passes a test
abbrev pub passes_at : (ModuleText → Bool) → Items → ℕ → Bool
passes_at passes items number = option_map_or passes (module_at number items) false

pub all-marked : (passes : ModuleText → Bool) (items : Items) (n : ℕ) (marks : List Bool) → IsNumbered items → module_count items ≤ n →
    MarkedSoFar (passes_at passes items) n marks → (number : ℕ) → 1 ≤ number → mark_of marks number ≡ passes_at passes items number
all-marked passes items n marks is all so_far number low =
    elim (cases_lt n number) [
      | inl above ↦ so_far.rest number above ∙ sym (none-past passes items number (module_at number items) is (omega (arith, above, all)) refl)
      | inr within ↦ so_far.done number low within
    ]

-- the module with a number alone is marked
pub alone-marked : (count number : ℕ) (new : List Bool) →
    ((n : ℕ) → 1 ≤ n → mark_of new n ≡ (n == number || mark_of (replicate count false) n)) →
    (n : ℕ) → 1 ≤ n → mark_of new n ≡ (n == number)
alone-marked count number new is n low =
    is n low ∙ ap (λ (t : Bool). n == number || t) (none-marked count (n - 1)) ∙ or-false (n == number)

-- WHETHER A TOKEN IS ASKED FOR BEFORE

pub passing-rule : (passes : ModuleText → Bool) (o : Option ModuleText) → option_map_or passes o false ≡ true →
    (rule : ModuleText) × (o ≡ Some rule) × (passes rule ≡ true)
passing-rule passes None h = absurd (false≢true h)
passing-rule passes (Some rule) h = (rule, refl, h)

module _ (kind : Kind) (j : Judgement) (number : ℕ) (asking later : List Bool) (is : IsNumbered j.items) (are : AreAsking kind j.items asking)
    (one : (n : ℕ) → 1 ≤ n → mark_of later n ≡ (n == number)) where
  abbrev Says : Bool → Type 0
  Says t = SaysLeads (may_answer j.free) j.items asking all_codes later t

  pub none-before : (t : Bool) → 1 ≤ number → Says t → t ≡ false → NoneAsksBefore kind j number
  none-before true low says e = absurd (false≢true (sym e))
  none-before false low says e = λ first rule there may l.
      let range = numbered j.items first rule is there in
      says first number
      (are first range.0 ∙ ap (λ (o : Option ModuleText). option_map_or (may_ask_for kind) o false) there ∙ may)
      (one number low ∙ eq-eqb number number refl) l

  pub some-before : (t : Bool) → Says t → t ≡ true → NoneAsksBefore kind j number → ⊥
  some-before false says e none = false≢true e
  some-before true says e none =
      let l = says.4 in
      let range = asks-range (may_answer j.free) j.items says.0 is l.asks in
      let found = passing-rule (may_ask_for kind) (module_at says.0 j.items) (sym (are says.0 range.0) ∙ says.2) in
      let at : says.1 ≡ number = eqb-true says.1 number (sym (one says.1 (omega (arith, l.order))) ∙ says.3) in
      none says.0 found.0 found.1 found.2 (subst (Leads (may_answer j.free) j.items all_codes says.0) at l)

-- WORDS BY WHICH A MODULE ONLY TAKES A TOKEN

module _ (kind : Kind) (rule : ModuleText) where
  by-word : (o : Option (List ℕ)) (wrong : ArgumentProblem) → option_and_then (lacking_by kind rule) o ≡ Some wrong →
      (option_map_or (takes kind rule) o false ≡ true) × (wrong ≡ NoToken)
  by-word None wrong h = absurd (let no : None ≡ Some wrong = h in cc)
  by-word (Some word) wrong h = elim (cases_Bool (takes kind rule word)) [
    | inl t ↦
        let found : Some NoToken ≡ Some wrong =
        sym (ap (λ (b : Bool). let o : Option ArgumentProblem = if b then Some NoToken else None in o) t) ∙ h in
        (t, let same : NoToken ≡ wrong = cc in sym same)
    | inr f ↦
        let none : None ≡ Some wrong =
        sym (ap (λ (b : Bool). let o : Option ArgumentProblem = if b then Some NoToken else None in o) f) ∙ h in
        absurd cc
  ]

  word-by : (o : Option (List ℕ)) → option_map_or (takes kind rule) o false ≡ true → option_and_then (lacking_by kind rule) o ≡ Some NoToken
  word-by None h = absurd (false≢true h)
  word-by (Some word) h = ap (λ (b : Bool). let o : Option ArgumentProblem = if b then Some NoToken else None in o) h

  some-word : (words : List (List ℕ)) (n : ℕ) → option_map_or (takes kind rule) (slice_get words n) false ≡ true → list_any (takes kind rule) words ≡ true
  some-word [] zero h = absurd (false≢true h)
  some-word [] (suc n) h = absurd (false≢true h)
  some-word (word ∷ words) zero h = or_left (takes kind rule word) _ h
  some-word (word ∷ words) (suc n) h = or_right (takes kind rule word) _ (some-word words n h)

-- S20

pub adds-lacks : (kind : Kind) (j : Judgement) (number : ℕ) (rule : ModuleText) (old new : List Spot) → module_at number j.items ≡ Some rule →
    Lacks kind j number rule → Adds (OfFound (lacking_by kind rule) rule) old new → Adds (LacksAt kind j number) old new
adds-lacks kind j number rule old new there lacks h =
    adds-iff (OfFound (lacking_by kind rule) rule) (LacksAt kind j number) old new
    (λ spot. (
      λ f. record { rule = rule; is_there = there; lacks = lacks; of = f },
      λ l.
          let both : Some l.rule ≡ Some rule = sym l.is_there ∙ there in
          let same : l.rule ≡ rule = cc in
          subst (λ (x : ModuleText). OfFound (lacking_by kind x) x spot) same l.of,
    ))
    h

pub adds-no-lacks : (kind : Kind) (j : Judgement) (number : ℕ) (rule : ModuleText) (spots : List Spot) → module_at number j.items ≡ Some rule →
    (Lacks kind j number rule → ⊥) → Adds (LacksAt kind j number) spots spots
adds-no-lacks kind j number rule spots there none =
    adds-none (LacksAt kind j number) spots
    (λ spot l.
    let both : Some l.rule ≡ Some rule = sym l.is_there ∙ there in
    let same : l.rule ≡ rule = cc in
    none (subst (Lacks kind j number) same l.lacks))

pub adds-no-rule : (kind : Kind) (j : Judgement) (number : ℕ) (spots : List Spot) → module_at number j.items ≡ None →
    Adds (LacksAt kind j number) spots spots
adds-no-rule kind j number spots none =
    adds-none (LacksAt kind j number) spots (λ spot l. let clash : Some l.rule ≡ None = sym l.is_there ∙ none in absurd cc)

module _ (kind : Kind) (j : Judgement) where
  to-stack : (number : ℕ) (spot : Spot) → LacksAt kind j number spot → LacksIn false kind j spot
  to-stack number spot l =
      let w = l.of.of in
      let by = by-word kind l.rule (slice_get l.rule.arguments l.of.position) w.wrong w.is in
      record {
        alone = refl;
        argument = l.of.position;
        problem_is = ap (λ (s : Spot). s.problem) w.at ∙ ap (problems.Argument l.of.position) by.1;
        has = (
          number,
          l.rule,
          record { is_there = l.is_there; file = ap (λ (s : Spot). s.file) w.at; line = ap (λ (s : Spot). s.line) w.at },
          (by.0, l.lacks.asked, l.lacks.none),
        );
      }

  from-stack : (spot : Spot) (l : LacksIn false kind j spot) → LacksAt kind j l.has.0 spot
  from-stack spot l =
      let rule = l.has.1 in
      let at = l.has.2 in
      record {
        rule = rule;
        is_there = at.is_there;
        lacks = record { takes = some-word kind rule rule.arguments l.argument l.has.3.0; asked = l.has.3.1; none = l.has.3.2 };
        of = record {
          position = l.argument;
          of = record {
            wrong = NoToken;
            is = word-by kind rule (slice_get rule.arguments l.argument) l.has.3.0;
            at = same-spot spot (spot_at rule (problems.Argument l.argument NoToken)) at.file at.line l.problem_is;
          };
        };
      }

  -- of a file that others include nothing is told
  pub lacks-included : (is_included : Bool) (spots : List Spot) → is_included ≡ true → Adds (LacksIn is_included kind j) spots spots
  lacks-included is_included spots is = adds-none (LacksIn is_included kind j) spots (λ spot l. false≢true (sym l.alone ∙ is))

  pub lacks-all : (is_included : Bool) (n : ℕ) (old new : List Spot) → is_included ≡ false → IsNumbered j.items → module_count j.items ≤ n →
      Adds (OfFirst (LacksAt kind j) n) old new → Adds (LacksIn is_included kind j) old new
  lacks-all is_included n old new alone is all h =
      subst (λ (b : Bool). Adds (LacksIn b kind j) old new) (sym alone)
      (adds-iff (OfFirst (LacksAt kind j) n) (LacksIn false kind j) old new
      (λ spot. (
        λ m. to-stack m.0 spot m.3,
        λ l.
            let range = numbered j.items l.has.0 l.has.1 is l.has.2.is_there in
            (l.has.0, range.0, omega (arith, range.1, all), from-stack spot l),
      ))
      h)
