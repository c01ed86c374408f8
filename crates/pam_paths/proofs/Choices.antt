-- The choices at a fork.
use Rattle.std.proofs.Common.{◌≡◌, ℕ, ◌<◌, ◌==◌, true, Some, ◌∙◌, ap, subst}
use Rattle.std.proofs.lemmas.Bool.{and_parts, eqb-true}
use Rattle.std.specs.List.{list_any}
use Rattle.pam_dispatch.specs.Runs.{Ask, Runs, after_answer, asked_module, asks, ends, next_ask}
use Rattle.pam_paths.specs.Classes.{class_of, least}
use Rattle.pam_paths.specs.Computed.{is_offered}
use Rattle.pam_paths.specs.Listing.{Allowance}
use Rattle.pam_paths.proofs.Alike.{class-same, list_any_back, of_class}

-- a code that begins a branch is the least of its class
pub chosen-least : (allows : Allowance) (ask : Ask) (code : ℕ) → is_offered allows ask code ≡ true → least (class_of ask code) ≡ code
unfolding is_offered
chosen-least allows ask code h =
    eqb-true _ _ (and_parts (least (class_of ask code) == code) (list_any (allows ask.module_number) (class_of ask code)) h).0

-- an allowed answer leads where the branch leads, and has its class
pub allowed-answer : (allows : Allowance) (r q : Runs) (m code : ℕ) → asked_module r ≡ Some m → is_offered allows (next_ask r) code ≡ true →
    q ≡ after_answer r code → (answer : ℕ) × (answer < 31) × (allows m answer ≡ true) × (q ≡ after_answer r answer)
    × (class_of (next_ask r) code ≡ class_of (next_ask r) answer)
unfolding is_offered
allowed-answer allows (ends s) q m code asking h is = absurd (let k : ⊥ = cc in k)
allowed-answer allows (asks ask next) q m code asking h is =
    let number : ask.module_number ≡ m = cc in
    let some = (and_parts (least (class_of ask code) == code) (list_any (allows ask.module_number) (class_of ask code)) h).1 in
    let found = list_any_back (allows ask.module_number) (class_of ask code) some in
    let same = of_class ask code found.0 found.1 in
    (found.0, same.0, subst (λ (n : ℕ). allows n found.0 ≡ true) number found.2, is ∙ ap next same.1, class-same ask code found.0 same.1)
