use Rattle.std.proofs.Common.{ℕ, Ok, refl, subst, sym}
use Rattle.pam_page.specs.declared.listing.Listing.TheVariants.{Forward}
use Rattle.pam_paths.specs.Known.{may_answer}
use Rattle.pam_paths.specs.Listing.{IsListing}
use Rattle.pam_paths.specs.Paths.{path_through}
use Rattle.pam_report.proofs.OutcomeLists.{all-meet}
use Rattle.pam_report.proofs.report.paths.render_all.Goals as goal

pub returns : goal.returns
returns g c =
    let known = may_answer c.args.paging.now.known.now in
    let coming = c.start-explorer.result.coming in
    let stack = c.start-explorer.ensures.stack in (
      Ok (Forward c.start-explorer.result),
      λ items program none. (
        coming,
        subst (λ (n : ℕ). IsListing known n (path_through items) coming) program.1 (stack items program.0),
        sym (all-meet coming),
        refl,
      ),
      c.render.ensures,
    )
