use Rattle.std.proofs.Common.{◌∙◌}
use Rattle.jiff.specs.Words.{epoch_day, monday_zero}
use Rattle.pam_tables.proofs.TimesProofs.TimeSteps.{same_weekday, unsigned_weekday}
use Rattle.pam_tables.proofs.times.week_time.WeekTime.weekday.Goals as goal

pub returns-clause-value : goal.returns-clause-value
returns-clause-value c =
    unsigned_weekday c.to_monday_zero_offset.result (monday_zero c.weekday.result) _ c.to_monday_zero_offset.ensures.bound c.to_monday_zero_offset.ensures.value
    (c.weekday.ensures ∙ same_weekday (epoch_day c.args.moment.now.date))
