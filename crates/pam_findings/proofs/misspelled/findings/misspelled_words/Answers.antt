use Rattle.std.proofs.Common.{◌∙◌, [], Bor, ap, sym}
use Rattle.std.specs.Option.{option_map, option_map_or}
use Rattle.pam_conf.specs.Files.{Folder}
use Rattle.pam_findings.specs.misspelled.Findings.{misspelled_at, right_names}
use Rattle.pam_findings.specs.misspelled.MisspelledView.{misspelled_view}
use Rattle.pam_findings.proofs.MisspelledProofs.LaterWords.{words-more}
use Rattle.pam_findings.proofs.misspelled.findings.misspelled_words.Goals as goal

pub loop-entry-preserved : goal.loop-entry-preserved
loop-entry-preserved c =
    let files = c.args.files.now in
    let there = option_map (λ t. t.now) c.args.there in
    let outside = c.args.outside.now in
    let dead = option_map_or (λ d. d.now) c.args.dead [] in
    let so_far = c.loop-entry.invariant in
    let same = so_far.same in
    let told = c.in_ok-word.ensures.word there dead (c.in_ok-right.ensures ∙ ap (λ (folder : Folder). right_names folder there dead) (sym same)) in
    record {
      reading = c.in_ok-word.ensures.reading;
      same = ap (λ (f : Bor Folder). f.now) c.in_ok-word.ensures.same ∙ same;
      at = c.in_ok-word.ensures.at;
      still = ap (λ (f : Bor Folder). f.now) c.in_ok-word.ensures.still ∙ so_far.still;
      words =
          words-more (option_map misspelled_view) (misspelled_at files there outside dead) c.args.found.now c.loop-entry.entry-index _ c.loop-entry.words.items
          c.push.new.self.items c.in_ok-word.word c.loop-entry-test.true so_far.words c.in_ok-push.ensures.items (rw same at told);
    }
