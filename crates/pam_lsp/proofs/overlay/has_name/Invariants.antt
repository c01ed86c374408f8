-- of the names that are left, one is the name if one of all is
use Rattle.std.proofs.Common.{◌≡◌, drop, map}
use Rattle.std.specs.List.{list_any}
use Rattle.std.specs.Str.{bytes_eq}
use Rattle.pam_lsp.proofs.overlay.has_name.Given as goal

abbrev pub invariant-loop-other : goal.invariant-loop-other
invariant-loop-other l =
    list_any (λ o. bytes_eq o l.name) (map (λ n. n.items) (drop l.other-index l.names))
    ≡ list_any (λ o. bytes_eq o l.name) (map (λ n. n.items) l.names)
