use Rattle.std.proofs.Common.{Ok, Err, ◌∙◌, refl, sym}
use Rattle.pam_conf.specs.Stack.{module_count}
use Rattle.pam_page.specs.declared.listing.Listing.TheVariants.{Backward}
use Rattle.pam_paths.specs.Known.{may_answer}
use Rattle.pam_paths.specs.Listing.{IsListingBefore}
use Rattle.pam_paths.specs.Paths.{path_through}
use Rattle.pam_report.proofs.OutcomeLists.{all-meet}
use Rattle.pam_report.proofs.PageParts.{cursor-refused, cursor-taken, text-refused}
use Rattle.pam_report.specs.declared.fault.Fault.TheVariants as faults
use Rattle.pam_report.proofs.report.paths.render_before.Goals as goal

pub returns-in-Err : goal.returns-in-Err
returns-in-Err g c =
    let known = may_answer c.args.paging.now.known.now in
    let read = c.in-Err.ensures.err in (
      Err (faults.Cursor c.in-Err.error),
      λ items program none. text-refused (IsListingBefore known (module_count items) (path_through items)) items _ _ _ c.as_bytes.ensures.value read,
      (refl, refl),
    )

pub returns-in-Ok-before : goal.returns-in-Ok-before
returns-in-Ok-before g c =
    let explored = c.in-Ok-before.ensures in
    let known = may_answer c.args.paging.now.known.now in
    let same = c.in-Ok.ensures.ok ∙ c.as_bytes.ensures.value in
    let coming = c.in-Ok-before.before.coming in (
      Ok (Backward c.in-Ok-before.before),
      λ items program none. (
        coming,
        cursor-taken items c.args.text.now c.in-Ok.cursor _ program.1 c.in-Ok.ensures.cursor same
            (λ n. IsListingBefore known n (path_through items)) coming (explored.tree items program.0) (explored.stack items program.0),
        sym (all-meet coming),
        refl,
      ),
      c.render.ensures,
    )

pub returns-in-Err-before : goal.returns-in-Err-before
returns-in-Err-before g c =
    let known = may_answer c.args.paging.now.known.now in
    let same = c.in-Ok.ensures.ok ∙ c.as_bytes.ensures.value in
    let refused = c.in-Err-before.ensures.tree in (
      Err (faults.Cursor c.in-Err-before.error),
      λ items program none. cursor-refused items _ c.in-Ok.cursor _ program.1 c.in-Ok.ensures.cursor same
          (IsListingBefore known (module_count items) (path_through items)) _ (refused items program.0),
      (refl, refl),
    )
