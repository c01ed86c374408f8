use Rattle.pam_findings.proofs.TablesProofs.Places.{apart-by-parts}
use Rattle.pam_findings.proofs.tables.problem.TableFinding.place.Goals as goal

pub returns-clause-apart : goal.returns-clause-apart
returns-clause-apart c other same = apart-by-parts c.args.self other c.rank.result c.rank-2.result c.rank.ensures c.rank-2.ensures same
