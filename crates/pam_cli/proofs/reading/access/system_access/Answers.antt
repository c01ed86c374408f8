use Rattle.pam_cli.proofs.AccessTables.{of_system}
use Rattle.pam_cli.proofs.reading.access.system_access.Goals as goal

pub returns : goal.returns
returns g c =
    of_system (g.S.System.told c.args.system.now) c.args.root.now c.no_tables-tables.result c.put_own.new.tables c.put_folder.new.tables
    c.no_tables-tables.ensures c.in_ok-put_own.ensures c.in_ok-put_folder.ensures
