use Rattle.std.proofs.Common.{refl}
use Rattle.pam_cli.proofs.reading.known_tables.Goals as goal

pub returns-clause-ok : goal.returns-clause-ok
returns-clause-ok g c =
    let login = c.looked_up-looked_up.ensures.login in record {
      read = c.in_ok-groups.field-0;
      are_read = rw (← c.looked_up-looked_up.ensures.moment, ← login) c.in_ok-groups.ensures.ok;
      access = refl;
      time = refl;
      groups = record {
        users = c.in_ok-passwd.passwd;
        are_users = rw (← login) c.in_ok-passwd.ensures.ok;
        path = c.in_ok-groups-2.ensures.path;
        bytes = c.in_ok-groups-2.ensures.bytes;
      };
    }
