-- the names that are found, before those of the names that are left
use Rattle.std.proofs.Common.{◌≡◌, ◌++◌, drop, map}
use Rattle.pam_lsp.specs.Overlay.{lacked}
use Rattle.pam_lsp.proofs.overlay.lacked.Given as goal

abbrev pub invariant-loop-name : goal.invariant-loop-name
invariant-loop-name l =
    map (λ n. n.items) l.more.items ++ lacked (map (λ n. n.items) l.there) (map (λ n. n.now) (drop l.name-index l.names))
    ≡ lacked (map (λ n. n.items) l.there) (map (λ n. n.now) l.names)
