use Rattle.std.proofs.Common.{◌&&◌, ap₂, map, subst, sym}
use Rattle.std.proofs.lemmas.Bool.{eq-eqb}
use Rattle.pam_words.specs.Wanted.{candidate_view}
use Rattle.pam_cli.proofs.Sizes.{read_fits}
use Rattle.pam_cli.specs.Links.{AreLinks}
use Rattle.pam_cli.specs.Sources.{IsRead}
use Rattle.pam_cli.specs.UnreadFiles.{AreUnreadIn, going_on}
use Rattle.pam_cli.proofs.reading.check_inputs.Goals as goal

pub returns : goal.returns
returns g c =
    let told = g.S.System.told c.args.system.now in
    let found = c.in_ok-found.found in
    let checked = c.in_ok-given.given in
    let given = c.in_ok-given.ensures in
    let candidates = map candidate_view c.args.candidates.now in
    let fits = read_fits (going_on told) candidates c.args.source found.files found.paths found.vendor_start c.in_ok-found.ensures in
    let read = subst (IsRead (going_on told) candidates c.args.source found.files found.paths) (sym given.0) c.in_ok-found.ensures in
    let unread = subst (λ start. AreUnreadIn told candidates c.args.source found.files start checked.unread.items) (sym given.0) given.8 in
    let links = subst (λ start. AreLinks told candidates c.args.source found.files.entries start checked.outside.items) (sym given.0) given.6 in
    λ services fail_on. (ap₂ ◌&&◌ (eq-eqb _ _ fits) given.1, ((read, unread), given.2, given.3, given.4, given.5, links, given.7))
