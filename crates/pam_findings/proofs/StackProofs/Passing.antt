-- The modules that are never asked, and those that jump past the end of their lists.
use Rattle.std.proofs.Common.{◌≡◌, ℕ, ◌+◌, ◌<◌, Bool, true, false, not, ◌&&◌, filter, List, refl, sym, ◌∙◌, ap, subst, arith}
use Rattle.std.proofs.lemmas.Bool.{and_from, and_parts, false≢true}
use Rattle.std.specs.List.{range_with_len}
use Rattle.pam_codes.specs.Code.{all_codes}
use Rattle.pam_codes.specs.declared.action.Action.{Action}
use Rattle.pam_codes.specs.Set.{codes_where, is_in}
use Rattle.pam_codes.specs.inner.SetBits.{is_in-codes_where}
use Rattle.pam_conf.specs.Stack.{Items, IsNumbered, IsNumberedFrom, ModuleText, module_count}
use Rattle.pam_dispatch.specs.State.{action_of, start_state}
use Rattle.pam_text.specs.Members.{Member}
use Rattle.pam_paths.specs.Listing.{Allowance, IsLawful}
use Rattle.pam_paths.proofs.Alike.{Member-codes, Member-codes_back, Member-filter, Member-filter_back}
use Rattle.pam_findings.specs.stack.Asked.{AreExactly, Asks, IsNeverAsked, JumpsPastEnd}
use Rattle.pam_graph.specs.PastEnds.{is_past_end}
use Rattle.pam_findings.specs.stack.inner.Marks.{AreMarks, SaysAsked, mark_of}
use Rattle.pam_findings.specs.stack.inner.PastEnd.{can_pass, numbers_where, passes}
use Rattle.pam_findings.proofs.StackProofs.Exactly.{range-rises, where-rises}
use Rattle.pam_findings.proofs.StackProofs.Placed.{Passing, asked-placed, passing-where, placed-one, placed-range, where-passing}
use Rattle.pam_findings.proofs.StackProofs.WaysIn.{passing-any, some-passing}

pub not-true : (t : Bool) → not t ≡ true → t ≡ false
not-true true h = absurd (false≢true h)
not-true false h = refl

module _ (allows : Allowance) (items : Items) (marks : List Bool) (are : AreMarks allows items marks) where
  -- what a mark says
  unmarked-never : (number : ℕ) (t : Bool) → SaysAsked allows items number t → t ≡ false → Asks allows items number → ⊥
  unmarked-never number true says e = absurd (false≢true (sym e))
  unmarked-never number false says e = says

  never-unmarked : (number code : ℕ) (t : Bool) → SaysAsked allows items number t → code < 31 → allows number code ≡ true →
      (Asks allows items number → ⊥) → not t ≡ true
  never-unmarked number code true says small may never = absurd (never (says code small may).asks)
  never-unmarked number code false says small may never = refl

  pub asked-marked : (number : ℕ) (t : Bool) → SaysAsked allows items number t → Asks allows items number → t ≡ true
  asked-marked number true says asks = refl
  asked-marked number false says asks = absurd (says asks)

  -- THE MODULES THAT ARE NEVER ASKED
  pub exactly-never : IsLawful allows (module_count items) → (numbers : List ℕ) →
      numbers ≡ filter (λ number. not (mark_of marks number)) (range_with_len 1 (module_count items)) →
      AreExactly (IsNeverAsked allows items) numbers
  exactly-never lawful numbers e = subst (AreExactly (IsNeverAsked allows items)) (sym e) exact
    where
      test : ℕ → Bool
      test number = not (mark_of marks number)

      exact : AreExactly (IsNeverAsked allows items) (filter test (range_with_len 1 (module_count items)))
      exact = record {
        rising = range-rises test 0 (module_count items);
        members = λ number. (
          λ member.
              let back = Member-filter_back test (range_with_len 1 (module_count items)) number member in
              let within = Member-codes_back 1 (module_count items) number back.0 in
              record {
                first = within.0;
                last = omega (arith, within.1);
                never = unmarked-never number (mark_of marks number) (are number within.0) (not-true (mark_of marks number) back.1);
              },
          λ h.
              let some = lawful number h.first h.last in
              Member-filter test (range_with_len 1 (module_count items)) number
              (Member-codes 1 (module_count items) number h.first (omega (arith, h.last)))
              (never-unmarked number some.0 (mark_of marks number) (are number h.first) some.1 some.2 h.never),
        );
      }

  -- THE MODULES THAT JUMP PAST THE END OF THEIR LISTS

  -- an answer that jumps
  record Jumping (m : ModuleText) (after : ℕ) : Type 0 where
    pub marked : mark_of marks m.number ≡ true
    pub code : ℕ
    pub small : code < 31
    pub allowed : allows m.number code ≡ true
    pub past : is_past_end after (action_of m.control code) ≡ true

  abbrev passes_by : ModuleText → ℕ → ℕ → Bool
  passes_by m after code = is_in code (codes_where (allows m.number)) && is_past_end after (action_of m.control code)

  jumping : (m : ModuleText) (after : ℕ) → passes allows marks m after ≡ true → Jumping m after
  unfolding all_codes
  jumping m after t =
      let both = and_parts (mark_of marks m.number) (can_pass m.control (codes_where (allows m.number)) after) t in
      let some = some-passing (passes_by m after) (range_with_len 0 31) both.1 in
      let small : some.0 < 31 = omega (arith, (Member-codes_back 0 31 some.0 some.1).1) in
      let parts = and_parts (is_in some.0 (codes_where (allows m.number))) (is_past_end after (action_of m.control some.0)) some.2 in
      record {
        marked = both.0;
        code = some.0;
        small = small;
        allowed = sym (is_in-codes_where (allows m.number) some.0 small) ∙ parts.0;
        past = parts.1;
      }

  passing-from : (m : ModuleText) (after code : ℕ) → mark_of marks m.number ≡ true → code < 31 → allows m.number code ≡ true →
      is_past_end after (action_of m.control code) ≡ true → passes allows marks m after ≡ true
  unfolding all_codes
  passing-from m after code marked small may past =
      and_from (mark_of marks m.number) (can_pass m.control (codes_where (allows m.number)) after) marked
      (passing-any (passes_by m after) (range_with_len 0 31) code (Member-codes 0 31 code (omega arith) (omega (arith, small)))
      (and_from (is_in code (codes_where (allows m.number))) (is_past_end after (action_of m.control code))
      (is_in-codes_where (allows m.number) code small ∙ may) past))

  says-marked : (number code : ℕ) (t : Bool) → SaysAsked allows items number t → t ≡ true → code < 31 → allows number code ≡ true →
      (asks : Asks allows items number) × (asks.answers number ≡ code)
  says-marked number code true says e small may = let a = says code small may in (a.asks, a.answer)
  says-marked number code false says e small may = absurd (false≢true e)

  abbrev past_by : ℕ → List Action → ℕ → Bool
  past_by after control code = is_past_end after (action_of control code)

  module _ (numbered : IsNumbered items) where
    jumps-at : (number : ℕ) → Passing (passes allows marks) items number → JumpsPastEnd allows items number
    jumps-at number p =
        let m = p.module_text in
        let j = jumping m p.after p.passes in
        let first = (placed-range 1 m p.after items numbered p.placed).0 in
        let a = says-marked m.number j.code (mark_of marks m.number) (are m.number first) j.marked j.small j.allowed in
        let q = asked-placed 0 items start_state start_state a.0.answers a.0.ask a.0.is_asked in
        let same = placed-one 1 q.module_text m a.0.ask.after p.after items numbered q.placed p.placed (sym q.numbered ∙ a.0.numbered) in
        let control : a.0.ask.control ≡ m.control = q.control ∙ ap (λ (x : ModuleText). x.control) same.0 in
        let jump : JumpsPastEnd allows items m.number =
        record {
          asks = a.0;
          past = ap (λ (x : ℕ). past_by a.0.ask.after a.0.ask.control x) a.1
              ∙ ap (λ (x : List Action). past_by a.0.ask.after x j.code) control
              ∙ ap (λ (x : ℕ). past_by x m.control j.code) same.1
              ∙ j.past;
        } in
        subst (JumpsPastEnd allows items) (sym p.numbered) jump

    at-jumps : (number : ℕ) → JumpsPastEnd allows items number → Member number (numbers_where (passes allows marks) items)
    at-jumps number h =
        let a = h.asks in
        let q = asked-placed 0 items start_state start_state a.answers a.ask a.is_asked in
        let m = q.module_text in
        let same : m.number ≡ number = sym q.numbered ∙ a.numbered in
        let range = placed-range 1 m a.ask.after items numbered q.placed in
        let here = a.allowed m.number range.0 (omega (arith, range.1)) in
        let marked : mark_of marks m.number ≡ true =
        asked-marked m.number (mark_of marks m.number) (are m.number range.0) (subst (Asks allows items) (sym same) a) in
        let past : past_by a.ask.after m.control (a.answers m.number) ≡ true =
        ap (λ (x : ℕ). past_by a.ask.after m.control (a.answers x)) same
        ∙ ap (λ (x : List Action). past_by a.ask.after x (a.answers number)) (sym q.control)
        ∙ h.past in
        subst (λ (n : ℕ). Member n (numbers_where (passes allows marks) items)) same
        (passing-where (passes allows marks) m a.ask.after items q.placed
        (passing-from m a.ask.after (a.answers m.number) marked here.0 here.1 past))

    pub exactly-jumping : (numbers : List ℕ) → numbers ≡ numbers_where (passes allows marks) items → AreExactly (JumpsPastEnd allows items) numbers
    exactly-jumping numbers e = subst (AreExactly (JumpsPastEnd allows items)) (sym e) (record {
      rising = where-rises (passes allows marks) 0 items from;
      members = λ number. (λ member. jumps-at number (where-passing (passes allows marks) items number member), at-jumps number);
    })
      where
        from : IsNumberedFrom (0 + 1) items
        from = let one : 1 ≡ 0 + 1 = omega arith in subst (λ (n : ℕ). IsNumberedFrom n items) one numbered
