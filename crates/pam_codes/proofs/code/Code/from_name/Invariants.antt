use Rattle.std.proofs.Common.{◌≡◌, drop}
use Rattle.std.specs.List.{find, position}
use Rattle.pam_codes.specs.Code.{code_names, same_name}
use Rattle.pam_codes.proofs.CodeNames.{has_name}
use Rattle.pam_codes.proofs.code.Code.from_name.Given as goal

-- no code before the index has the name
abbrev pub invariant-loop-number : goal.invariant-loop-number
invariant-loop-number l = find (has_name l.name) (drop l.number-index l.number-items) ≡ position (λ n. same_name n l.name) code_names
