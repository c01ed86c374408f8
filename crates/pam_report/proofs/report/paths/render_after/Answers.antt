use Rattle.std.proofs.Common.{Ok, Err, ◌∙◌, refl, sym}
use Rattle.pam_conf.specs.Stack.{module_count}
use Rattle.pam_page.specs.declared.listing.Listing.TheVariants.{Forward}
use Rattle.pam_paths.specs.Known.{may_answer}
use Rattle.pam_paths.specs.Listing.{IsListingAfter}
use Rattle.pam_paths.specs.Paths.{path_through}
use Rattle.pam_report.proofs.OutcomeLists.{all-meet}
use Rattle.pam_report.proofs.PageParts.{cursor-refused, cursor-taken, text-refused}
use Rattle.pam_report.specs.declared.fault.Fault.TheVariants as faults
use Rattle.pam_report.proofs.report.paths.render_after.Goals as goal

pub returns-in-Err : goal.returns-in-Err
returns-in-Err g c =
    let known = may_answer c.args.paging.now.known.now in
    let read = c.in-Err.ensures.err in (
      Err (faults.Cursor c.in-Err.error),
      λ items program none. text-refused (IsListingAfter known (module_count items) (path_through items)) items _ _ _ c.as_bytes.ensures.value read,
      (refl, refl),
    )

pub returns-in-Ok-after : goal.returns-in-Ok-after
returns-in-Ok-after g c =
    let explored = c.in-Ok-after.ensures in
    let known = may_answer c.args.paging.now.known.now in
    let same = c.in-Ok.ensures.ok ∙ c.as_bytes.ensures.value in
    let coming = c.in-Ok-after.explorer.coming in (
      Ok (Forward c.in-Ok-after.explorer),
      λ items program none. (
        coming,
        cursor-taken items c.args.text.now c.in-Ok.cursor _ program.1 c.in-Ok.ensures.cursor same
            (λ n. IsListingAfter known n (path_through items)) coming (explored.tree items program.0) (explored.stack items program.0),
        sym (all-meet coming),
        refl,
      ),
      c.render.ensures,
    )

pub returns-in-Err-after : goal.returns-in-Err-after
returns-in-Err-after g c =
    let known = may_answer c.args.paging.now.known.now in
    let same = c.in-Ok.ensures.ok ∙ c.as_bytes.ensures.value in
    let refused = c.in-Err-after.ensures.tree in (
      Err (faults.Cursor c.in-Err-after.error),
      λ items program none. cursor-refused items _ c.in-Ok.cursor _ program.1 c.in-Ok.ensures.cursor same
          (IsListingAfter known (module_count items) (path_through items)) _ (refused items program.0),
      (refl, refl),
    )
