use Rattle.pam_drawing.proofs.Quotes.{dot-reads, mermaid-plain}
use Rattle.pam_drawing.proofs.laws.labels.Goals as goal

pub returns-clause-dot : goal.returns-clause-dot
returns-clause-dot c = dot-reads

pub returns-clause-mermaid : goal.returns-clause-mermaid
returns-clause-mermaid c = mermaid-plain
