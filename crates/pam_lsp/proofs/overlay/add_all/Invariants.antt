-- the names with those so far
use Rattle.std.proofs.Common.{◌≡◌, ◌++◌, map}
use Rattle.pam_lsp.proofs.overlay.add_all.Given as goal

abbrev pub invariant-loop-name : goal.invariant-loop-name
invariant-loop-name l = map (λ n. n.items) l.names.items ≡ map (λ n. n.items) l.initial.names.items ++ map (λ n. n.items) l.yielded
