-- the diffs so far
use Rattle.std.proofs.Common.{◌≡◌, length, take}
use Rattle.std.specs.List.{flat_map, range_with_len}
use Rattle.pam_render.specs.parts.CheckNames.{names_view}
use Rattle.pam_render.specs.patch_text.Check.{file_diff}
use Rattle.pam_render.specs.patch_text.inner.Views.{mendings_view}
use Rattle.pam_render.proofs.patch_text.document.diffs.Given as goal

abbrev pub invariant-loop-file : goal.invariant-loop-file
invariant-loop-file l =
    l.text.items ≡ flat_map (file_diff l.files (names_view l.names).paths (mendings_view l.mendings)) (take l.file (range_with_len 0 (length l.files.entries)))
