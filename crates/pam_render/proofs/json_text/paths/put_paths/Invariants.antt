-- the lines so far are written, and the later paths remain
use Rattle.std.proofs.Common.{◌≡◌, ◌≤◌, take, drop, length}
use Rattle.std.specs.List.{flat_map}
use Rattle.pam_codes.specs.Out.{TookAll}
use Rattle.pam_page.specs.Coming.{coming, side}
use Rattle.pam_render.specs.json_text.Paths.{path_json}
use Rattle.pam_render.proofs.json_text.paths.put_paths.Given as goal

abbrev pub invariant-loop-count : goal.invariant-loop-count
invariant-loop-count g l = record {
  written : TookAll g.W.Write.contents l.initial.out l.out (flat_map (path_json l.modules) (take l.count (coming l.fn.listing)));
  left : coming l.listing ≡ drop l.count (coming l.fn.listing);
  side : side l.listing ≡ side l.fn.listing;
  within : l.count ≤ length (coming l.fn.listing);
}
