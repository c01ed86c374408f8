-- the lines so far are written or kept, and the later paths remain
use Rattle.std.proofs.Common.{◌≡◌, ◌≤◌, take, drop, length}
use Rattle.std.specs.List.{flat_map}
use Rattle.pam_page.specs.Coming.{GoesOn, coming, followed}
use Rattle.pam_page.specs.inner.Lines.{Holds}
use Rattle.pam_page.specs.Page.{path_line}
use Rattle.pam_page.proofs.page.put_lines.Given as goal

abbrev pub invariant-loop-count : goal.invariant-loop-count
invariant-loop-count g l = record {
  written : Holds g.W.Write.contents l.initial.out l.out l.lines.lines (flat_map path_line (take l.count (coming l.fn.listing)));
  left : coming l.listing ≡ drop l.count (coming l.fn.listing);
  kept : l.lines.texts ≡ take (length l.lines.texts) (followed l.listing).steps;
  within : l.count ≤ length (coming l.fn.listing);
  listing : GoesOn l.count l.fn.listing l.listing;
}
