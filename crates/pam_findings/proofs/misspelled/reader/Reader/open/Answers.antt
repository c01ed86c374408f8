use Rattle.std.proofs.Common.{◌∙◌, ap}
use Rattle.pam_text.specs.Text.{text_of}
use Rattle.pam_findings.proofs.MisspelledProofs.ReadLines.{opened}
use Rattle.pam_findings.proofs.misspelled.reader.Reader.open.Goals as goal

pub returns-clause-reading : goal.returns-clause-reading
returns-clause-reading c = opened _ c.args.self.now.line.items _ (c.of-self.ensures ∙ ap (text_of 1) c.source_of.ensures)
