use Rattle.std.proofs.Common.{◌≡◌, ◌&&◌, List, ap₂, map, subst, sym, true}
use Rattle.std.specs.Bool.{beq}
use Rattle.std.specs.Borrow.{Bor}
use Rattle.std.specs.Prelude.{is_some}
use Rattle.clap.specs.Words.{Text}
use Rattle.pam_cli.specs.AccessTables.{AreContents}
use Rattle.pam_cli.proofs.AccessTables.{as_many}
use Rattle.pam_cli.proofs.NamedTables.{same_there}
use Rattle.pam_cli.proofs.reading.access_inputs.Goals as goal

pub returns : goal.returns
returns g c = λ candidates named login arguments same.
    let told = g.S.System.told c.args.system.now in
    let groups = c.in_ok-groups.ensures.ok in
    let tables = c.in_ok-tables.field-0.contents in
    let read = subst (λ (names : List (Bor Text)). AreContents told (map (λ s. s.now) names) tables) same c.in_ok-tables.ensures.ok.1 in
    let joined = c.in_ok-groups-2.ensures in
    let given = subst (λ there. beq there (is_some c.args.groups) ≡ true) (sym (same_there _ _ _ _ joined)) groups.0 in (
      ap₂ ◌&&◌ (as_many told (λ s. s.now) named.items tables read) given,
      (
        read,
        record {
          file = c.in_ok-groups.groups;
          users = c.in_ok-passwd.passwd;
          is_file = groups.1;
          are_users = c.in_ok-passwd.ensures.ok;
          bytes = joined;
        },
      ),
    )
