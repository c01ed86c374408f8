-- the mendings of the findings so far
use Rattle.std.proofs.Common.{◌≡◌, map, take}
use Rattle.std.specs.List.{enumerate_from, flat_map}
use Rattle.std.specs.Option.{option_map}
use Rattle.pam_findings.specs.misspelled.Cursors.{IsAt}
use Rattle.pam_findings.specs.misspelled.MisspelledView.{misspelled_view}
use Rattle.pam_render.specs.patch_text.Mendings.{numbered_mending}
use Rattle.pam_render.specs.patch_text.inner.Views.{mendings_view}
use Rattle.pam_render.proofs.patch_text.mending.mendings_of.Given as goal

abbrev pub invariant-loop-position : goal.invariant-loop-position
invariant-loop-position l = record {
  at : IsAt l.cursor;
  still : l.cursor.files.now ≡ l.files;
  so_far : mendings_view l.mendings.items
      ≡ flat_map (numbered_mending l.files (map (option_map misspelled_view) l.words)) (take l.position (enumerate_from 0 l.found));
}
