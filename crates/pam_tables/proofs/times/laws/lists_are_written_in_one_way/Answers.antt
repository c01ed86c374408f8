use Rattle.pam_tables.proofs.TimesProofs.LawSteps.{is_read, is_written}
use Rattle.pam_tables.proofs.times.laws.lists_are_written_in_one_way.Goals as goal

pub returns : goal.returns
returns c = λ text items. (is_written text items, is_read text items)
