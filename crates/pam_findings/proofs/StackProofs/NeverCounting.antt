-- The modules whose success never counts, by the marks of those that are asked and of those whose success counts.
use Rattle.std.proofs.Common.{◌≡◌, ℕ, ◌≤◌, Bool, true, false, not, ◌&&◌, filter, List, refl, sym, ◌∙◌, ap, subst, arith}
use Rattle.std.proofs.lemmas.Bool.{and_from, and_parts, false≢true}
use Rattle.std.specs.List.{range_with_len}
use Rattle.pam_conf.specs.Stack.{Items, IsNumbered, module_count}
use Rattle.pam_dispatch.specs.State.{start_state, success}
use Rattle.pam_paths.specs.Listing.{Allowance}
use Rattle.pam_paths.proofs.Alike.{Member-codes, Member-codes_back, Member-filter, Member-filter_back}
use Rattle.pam_findings.specs.stack.Asked.{AreExactly, Asks, AsksWith}
use Rattle.pam_findings.specs.stack.Counting.{Counts, NeverCounts}
use Rattle.pam_findings.specs.stack.inner.Counting.{AreCounting, SaysCounts, never_counts}
use Rattle.pam_findings.specs.stack.inner.Marks.{AreMarks, SaysAsked, mark_of}
use Rattle.pam_findings.proofs.StackProofs.Exactly.{range-rises}
use Rattle.pam_findings.proofs.StackProofs.Passing.{asked-marked, not-true}
use Rattle.pam_findings.proofs.StackProofs.Placed.{asked-placed, placed-range}

module _ (allows : Allowance) (items : Items) where
  asks-with : (number : ℕ) (t : Bool) → SaysAsked allows items number t → t ≡ true → allows number success ≡ true → AsksWith allows items number success
  asks-with number true says e may = says success (omega arith) may
  asks-with number false says e may = absurd (false≢true e)

  unmarked-never : (number : ℕ) (t : Bool) → SaysCounts allows items number t → t ≡ false → Counts allows items number → ⊥
  unmarked-never number true says e = absurd (false≢true (sym e))
  unmarked-never number false says e = says

  never-unmarked : (number : ℕ) (t : Bool) → SaysCounts allows items number t → (Counts allows items number → ⊥) → not t ≡ true
  never-unmarked number true says never = absurd (never says)
  never-unmarked number false says never = refl

-- a module that is asked is one of the stack
pub asks-range : (allows : Allowance) (items : Items) (number : ℕ) → IsNumbered items → Asks allows items number → (1 ≤ number) × (number ≤ module_count items)
asks-range allows items number numbered a =
    let placed = asked-placed 0 items start_state start_state a.answers a.ask a.is_asked in
    let range = placed-range 1 placed.module_text a.ask.after items numbered placed.placed in
    (omega (arith, range.0, placed.numbered, a.numbered), omega (arith, range.1, placed.numbered, a.numbered))

module _ (allows : Allowance) (items : Items) (asked counting : List Bool) (are : AreMarks allows items asked)
    (count : AreCounting allows items counting) where
  abbrev test : ℕ → Bool
  test = never_counts allows asked counting

  passes-never : (number : ℕ) → 1 ≤ number → test number ≡ true → NeverCounts allows items number
  passes-never number first passes =
      let parts = and_parts (mark_of asked number) (allows number success && not (mark_of counting number)) passes in
      let both = and_parts (allows number success) (not (mark_of counting number)) parts.1 in
      record {
        succeeds = asks-with allows items number (mark_of asked number) (are number first) parts.0 both.0;
        never = unmarked-never allows items number (mark_of counting number) (count number first both.0) (not-true (mark_of counting number) both.1);
      }

  never-passes : (number : ℕ) → 1 ≤ number → number ≤ module_count items → NeverCounts allows items number → test number ≡ true
  never-passes number first last h =
      let asks = h.succeeds.asks in
      let may : allows number success ≡ true = sym (ap (allows number) h.succeeds.answer) ∙ (asks.allowed number first last).1 in
      and_from (mark_of asked number) (allows number success && not (mark_of counting number))
      (asked-marked allows items asked are number (mark_of asked number) (are number first) asks)
      (and_from (allows number success) (not (mark_of counting number)) may
      (never-unmarked allows items number (mark_of counting number) (count number first may) h.never))

  pub exactly-never-counting : IsNumbered items → (numbers : List ℕ) → numbers ≡ filter test (range_with_len 1 (module_count items)) →
      AreExactly (NeverCounts allows items) numbers
  exactly-never-counting numbered numbers e = subst (AreExactly (NeverCounts allows items)) (sym e) (record {
    rising = range-rises test 0 (module_count items);
    members = λ number. (
      λ member.
          let back = Member-filter_back test (range_with_len 1 (module_count items)) number member in
          let within = Member-codes_back 1 (module_count items) number back.0 in
          passes-never number within.0 back.1,
      λ h.
          let range = asks-range allows items number numbered h.succeeds.asks in
          Member-filter test (range_with_len 1 (module_count items)) number
          (Member-codes 1 (module_count items) number range.0 (omega (arith, range.1))) (never-passes number range.0 range.1 h),
    );
  })
