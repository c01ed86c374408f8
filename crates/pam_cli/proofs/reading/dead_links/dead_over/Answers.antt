use Rattle.std.proofs.Common.{List, subst}
use Rattle.clap.specs.Words.{Text}
use Rattle.pam_cli.specs.DeadLinks.{AddsDead}
use Rattle.pam_cli.specs.System.{place_view}
use Rattle.pam_cli.proofs.reading.dead_links.dead_over.Goals as goal

pub returns : goal.returns
returns g c =
    let first = c.put_folder.new.dead in (
      first,
      subst (λ (l : List Text). AddsDead (g.S.System.told c.args.system.now) (place_view c.args.folder) c.args.files.now.entries l first)
          c.new-dead.ensures c.in_ok-put_folder.ensures,
      c.in_ok-put_folder-2.ensures,
    )
