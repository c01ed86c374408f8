use Rattle.std.proofs.Common.{◌∙◌, map, sym}
use Rattle.std.proofs.lemmas.Result.{on_ok_weaker}
use Rattle.pam_conf.specs.ItemsOf.{module_text}
use Rattle.pam_findings.specs.tables.inner.Passes.{need_view}
use Rattle.pam_findings.proofs.TablesProofs.Adding.{no-time, some-time}
use Rattle.pam_findings.proofs.tables.needs.add_of_time.Goals as goal

pub returns-then-not-is_time_reader : goal.returns-then-not-is_time_reader
returns-then-not-is_time_reader c =
    no-time c.args.kind (module_text c.args.module.now) (map need_view c.args.needs.now.items) (sym c.is_time_reader.ensures ∙ c.if-not-is_time_reader.true)

pub returns : goal.returns
returns c =
    on_ok_weaker c.add_time.result
    (some-time c.args.kind (module_text c.args.module.now) (map need_view c.args.needs.now.items) (map need_view c.add_time.new.needs.items)
    (sym c.is_time_reader.ensures ∙ c.if-not-is_time_reader.false))
    c.add_time.ensures
