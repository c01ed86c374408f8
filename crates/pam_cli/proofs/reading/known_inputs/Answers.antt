use Rattle.std.proofs.Common.{◌&&◌, [], ap₂, subst, sym}
use Rattle.pam_cli.specs.AccessTables.{AreContents}
use Rattle.pam_cli.proofs.NamedTables.{known_given}
use Rattle.pam_cli.proofs.reading.known_inputs.Goals as goal

pub returns : goal.returns
returns g c =
    let files = c.in_ok-others.ensures.ok in
    let tables = c.in_ok-tables.ensures.ok in
    let told = g.S.System.told c.args.system.now in (
      ap₂ ◌&&◌ files.0.0 (ap₂ ◌&&◌ files.1.0 (known_given told c.args.source c.args.named.now c.in_ok-tables.tables tables)),
      tables,
      files.0.1,
      files.1.1,
      rw (← c.deref.ensures.value) c.in_ok-there.ensures.ok,
      subst (λ policies. AreContents told [] policies) (sym c.new.ensures) tt,
    )
