use Rattle.std.proofs.Common.{◌≡◌, ◌-◌, ℕ, find}
use Rattle.std.specs.List.{range_with_len}
use Rattle.pam_codes.specs.Code.{all_codes}
use Rattle.pam_released.specs.Control.{begins, name_of}
use Rattle.pam_released.proofs.control.code_at.Given as goal

abbrev pub invariant-loop-number : goal.invariant-loop-number
invariant-loop-number l =
    find (λ (code : ℕ). begins (name_of code) l.text) (range_with_len l.number (31 - l.number)) ≡
    find (λ (code : ℕ). begins (name_of code) l.text) all_codes
