-- the kinds so far, and those of the names that are left
use Rattle.std.proofs.Common.{◌≡◌, drop, length}
use Rattle.pam_facts.specs.Kinds.{kinds_of_names}
use Rattle.pam_facts.proofs.KindSteps.{found_with}
use Rattle.pam_policy.specs.text.Services.{tokens_in}
use Rattle.pam_policy.proofs.text.services.named_kinds.Given as goal

abbrev pub invariant-loop-name : goal.invariant-loop-name
invariant-loop-name l = found_with l.kinds (drop (length l.yielded) (tokens_in l.word)) ≡ kinds_of_names (tokens_in l.word)
