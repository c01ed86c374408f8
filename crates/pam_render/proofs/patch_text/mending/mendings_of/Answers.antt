use Rattle.std.proofs.Common.{Bor, List, Option, ◌++◌, ◌∙◌, ap, map, sym, take}
use Rattle.std.specs.List.{enumerate_from, flat_map}
use Rattle.std.specs.Option.{option_map}
use Rattle.pam_conf.specs.Files.{Folder}
use Rattle.pam_findings.specs.misspelled.MisspelledView.{misspelled_view}
use Rattle.pam_render.proofs.PatchTextProofs.Lists.{numbered_all, numbered_more}
use Rattle.pam_render.proofs.PatchTextProofs.Steps.{numbered_is}
use Rattle.pam_render.specs.parts.CheckNames.{word_of}
use Rattle.pam_render.specs.patch_text.Mended.{Mending}
use Rattle.pam_render.specs.patch_text.Mendings.{if_any, numbered_mending}
use Rattle.pam_render.specs.patch_text.inner.Views.{mending_view}
use Rattle.pam_render.proofs.patch_text.mending.mendings_of.Goals as goal

pub loop-position-preserved : goal.loop-position-preserved
loop-position-preserved c =
    let files = c.args.files.now in
    let words = map (option_map misspelled_view) c.args.words.now in
    let f = numbered_mending files words in
    let so = c.loop-position.invariant in
    let position = c.loop-position.position in
    let before = flat_map f (take position (enumerate_from 0 c.args.found.now)) in
    record {
      at = c.mending_of-mending.ensures.at;
      still = ap (λ (g : Bor Folder). g.now) c.mending_of-mending.ensures.same ∙ so.still;
      so_far =
          c.in_ok-push_if_any.ensures
          ∙ ap (λ (l : List Mending). l ++ if_any (option_map mending_view c.mending_of-mending.result)) so.so_far
          ∙ ap (λ (o : Option Mending). before ++ if_any o) c.mending_of-mending.ensures.mending
          ∙ ap (λ (l : List Mending). before ++ l)
          (numbered_is files c.loop-position.cursor.files.now words position _ (word_of c.word_at-word.result) so.still c.word_at-word.ensures)
          ∙ sym (numbered_more f c.args.found.now position _ c.loop-position-test.true);
    }

pub returns : goal.returns
returns c =
    let f = numbered_mending c.args.files.now (map (option_map misspelled_view) c.args.words.now) in
    c.loop-position.invariant.so_far ∙ numbered_all f c.args.found.now c.loop-position.position c.loop-position-test.false
