use Rattle.std.proofs.Common.{rules, tests}
use Rattle.std.proofs.lemmas.Iterator.Consumers.{YieldsList-end}
use Rattle.std.proofs.lemmas.Iterator.Splits.{YieldsList-from_slice_split}
use Rattle.pam_facts.specs.Table.{table_text}
use Rattle.pam_facts.proofs.TableSteps.{all_rows, is_feed, row_more}
use Rattle.pam_facts.proofs.reading.add_table.Goals as goal

pub loop-line-preserved : goal.loop-line-preserved
loop-line-preserved c = row_more _ _ _ c.loop-line.yielded c.in-Some.line c.loop-line.invariant c.in_ok-add_table_line.ensures.row

pub returns-clause-rows : goal.returns-clause-rows
returns-clause-rows c =
    let cut = YieldsList-from_slice_split _ is_feed table_text (cc) (cc) (cc) (λ x b q k. search (rules, tests)) in
    let end = YieldsList-end cut c.loop-line.yielded _ c.loop-line.yielded_by _ _ c.in-None.is c.next.ensures.steps in
    all_rows _ _ _ c.loop-line.invariant end.0
