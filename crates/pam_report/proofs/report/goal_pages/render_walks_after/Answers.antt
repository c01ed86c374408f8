use Rattle.std.proofs.Common.{Ok, Err, refl}
use Rattle.pam_page.specs.declared.listing.Listing.TheVariants.{WalksForward}
use Rattle.pam_report.specs.declared.fault.Fault.TheVariants as faults
use Rattle.pam_report.proofs.report.goal_pages.render_walks_after.Goals as goal

pub returns-in-Ok : goal.returns-in-Ok
returns-in-Ok g c = (Ok (WalksForward c.in-Ok.walks), (c.in-Ok.ensures.walks, refl), c.render.ensures)

pub returns-in-Err : goal.returns-in-Err
returns-in-Err g c = (Err faults.Memory, tt, (refl, refl))
