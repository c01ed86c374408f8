use Rattle.std.proofs.Common.{◌≡◌, ◌*◌, List, ℕ, drop, length}
use Rattle.std.specs.List.{flat_map}
use Rattle.pam_codes.specs.declared.code.TheConstants.{CODES}
use Rattle.pam_graph.specs.Goals.{fit}
use Rattle.pam_graph.specs.Walks.{walks_by}
use Rattle.pam_graph.specs.inner.Accounts.{Accounts, deciders}
use Rattle.pam_graph.specs.inner.Within.{AreWithin}
use Rattle.pam_paths.specs.Paths.{PathValue}
use Rattle.pam_graph.proofs.ways.go_on_by.Given as goal

abbrev pub invariant-loop-edge : goal.invariant-loop-edge
invariant-loop-edge l = record {
  few : length l.ends.items ≡ CODES;
  long : length l.ways.items ≡ length l.fn.ways.items;
  within : AreWithin (length l.ways.items) (drop l.edge-index l.edges);
  accounts : (all : List PathValue) (known : List (List PathValue)) (n m : ℕ) → l.number ≡ fit n →
      Accounts all known l.fn.ends.items l.fn.ways.items (λ test. n * deciders test (flat_map (walks_by known m) l.edges)) →
      Accounts all known l.ends.items l.ways.items (λ test. n * deciders test (flat_map (walks_by known m) (drop l.edge-index l.edges)));
}
