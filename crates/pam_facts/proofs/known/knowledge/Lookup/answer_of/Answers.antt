use Rattle.std.proofs.Common.{sym}
use Rattle.pam_facts.proofs.KnownProofs.ReaderSteps.{access_is_given, time_is_given}
use Rattle.pam_facts.proofs.known.knowledge.Lookup.answer_of.Goals as goal

pub access_answer-requires-clause-table : goal.access_answer-requires-clause-table
access_answer-requires-clause-table c = access_is_given _ _ _ (sym c.in-Some.ensures)

pub time_answer-requires-clause-table : goal.time_answer-requires-clause-table
time_answer-requires-clause-table c = time_is_given _ _ _ _ (sym c.in-Some-time_read.ensures)
