-- The modules that a stack asks are its own, and their allowed answers are codes.
use Rattle.std.proofs.Common.{ℕ, ◌<◌, ◌≤◌, List, inl, inr, sym, subst, arith}
use Rattle.pam_conf.specs.Stack.{Items, IsNumbered, module_count}
use Rattle.pam_dispatch.specs.Runs.{Ask, Assignment, AsksRise, Runs, asked_by, asks, ends, outcome_of}
use Rattle.pam_dispatch.specs.State.{start_state}
use Rattle.pam_dispatch.specs.Tree.{asked, runs_of_stack}
use Rattle.pam_dispatch.proofs.Numbering.{AsksRise-stack}
use Rattle.pam_dispatch.proofs.OpenRuns.{asked_by-runs_of_stack}
use Rattle.pam_paths.specs.Listing.{Allowance, IsAllowed}
use Rattle.pam_text.specs.Members.{Member}

-- a module that is asked has a number of the stack, and answers a code
pub record IsOwn (count : ℕ) (answers : Assignment) (ask : Ask) : Type 0 where
  pub first : 1 ≤ ask.module_number
  pub last : ask.module_number ≤ count
  pub code : answers ask.module_number < 31

abbrev pub AreOwn : ℕ → Assignment → List Ask → Type 0
AreOwn count answers those = (ask : Ask) → Member ask those → IsOwn count answers ask

record IsWithin (low high : ℕ) (ask : Ask) : Type 0 where
  pub first : low < ask.module_number
  pub last : ask.module_number ≤ high

asks-within : (low high : ℕ) (runs : Runs) (answers : Assignment) (ask : Ask) → AsksRise low high runs → Member ask (asked_by runs answers) →
    IsWithin low high ask
unfolding Member AsksRise asked_by
asks-within low high (ends s) answers ask h i = absurd i
asks-within low high (asks first next) answers ask h (inl e) =
    subst (IsWithin low high) (sym e) (record { first = h.0; last = h.1 })
asks-within low high (asks first next) answers ask h (inr i) =
    let o = outcome_of first (answers first.module_number) in
    let later = asks-within first.module_number high (next o) answers ask (h.2 o) i in
    record { first = omega (arith, h.0, later.first); last = later.last }

pub asked-own : (allows : Allowance) (items : Items) (answers : Assignment) → IsNumbered items → IsAllowed allows (module_count items) answers →
    AreOwn (module_count items) answers (asked items start_state start_state answers)
asked-own allows items answers numbered ok ask i =
    let within = asks-within 0 (module_count items) (runs_of_stack items) answers ask (AsksRise-stack items numbered)
    (subst (Member ask) (sym (asked_by-runs_of_stack items answers)) i) in
    let first : 1 ≤ ask.module_number = omega (arith, within.first) in
    record { first = first; last = within.last; code = (ok ask.module_number first within.last).0 }
