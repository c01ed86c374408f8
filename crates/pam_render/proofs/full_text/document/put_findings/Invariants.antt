-- the findings so far are written
use Rattle.std.proofs.Common.{◌≡◌, map, take}
use Rattle.std.specs.List.{enumerate_from, flat_map}
use Rattle.std.specs.Option.{option_map}
use Rattle.pam_text.specs.Out.{TookAll}
use Rattle.pam_findings.specs.misspelled.Cursors.{IsAt}
use Rattle.pam_findings.specs.misspelled.MisspelledView.{misspelled_view}
use Rattle.pam_render.specs.full_text.Check.{numbered_full}
use Rattle.pam_render.specs.parts.CheckNames.{names_view}
use Rattle.pam_render.proofs.full_text.document.put_findings.Given as goal

abbrev pub invariant-loop-position : goal.invariant-loop-position
invariant-loop-position g l = record {
  at : IsAt l.cursor;
  still : l.cursor.files.now ≡ l.files;
  took : TookAll g.W.Write.contents l.initial.out l.out
      (flat_map (numbered_full (names_view l.names) l.files l.outside (map (option_map misspelled_view) l.words)) (take l.position (enumerate_from 0 l.found)));
}
