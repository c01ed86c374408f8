use Rattle.std.proofs.Common.{◌<◌, ◌∙◌, subst, sym}
use Rattle.pam_findings.proofs.MisspelledProofs.Readers.{read_on, sought_next}
use Rattle.pam_findings.proofs.misspelled.reader.Reader.seek.Goals as goal

pub loop-self-preserved : goal.loop-self-preserved
loop-self-preserved c =
    let old = c.loop-self.self in
    let new = c.read_line.new.self in
    let next = c.in_ok-read_line.ensures in
    let kept = c.loop-self.invariant in
    record {
      reading = read_on old new kept.reading _ c.if-not-branch.false next.next next.same next.file;
      same = next.same ∙ kept.same;
      file = next.file ∙ kept.file;
      sought = λ upto. rw (sym kept.same, sym kept.file)
          (sought_next old new kept.reading _ c.if-not-branch.false next.next c.args.number
          (subst (λ last. last < c.args.number) c.last_number.ensures c.loop-self-test.true) upto);
    }
