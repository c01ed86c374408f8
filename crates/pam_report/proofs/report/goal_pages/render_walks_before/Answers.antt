use Rattle.std.proofs.Common.{Ok, Err, refl}
use Rattle.pam_page.specs.declared.listing.Listing.TheVariants.{WalksBackward}
use Rattle.pam_report.specs.declared.fault.Fault.TheVariants as faults
use Rattle.pam_report.proofs.report.goal_pages.render_walks_before.Goals as goal

pub returns-in-Ok : goal.returns-in-Ok
returns-in-Ok g c = (Ok (WalksBackward c.in-Ok.walks), (c.in-Ok.ensures.walks, refl), c.render.ensures)

pub returns-in-Err : goal.returns-in-Err
returns-in-Err g c = (Err faults.Memory, tt, (refl, refl))
