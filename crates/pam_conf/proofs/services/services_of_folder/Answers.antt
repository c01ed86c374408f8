use Rattle.std.proofs.Common.{◌∙◌, ◌+◌, ◌++◌, drop, filter, map, ap}
use Rattle.pam_conf.specs.Services.{is_service}
use Rattle.pam_conf.proofs.ServiceSteps.{seen-of, service-more}
use Rattle.pam_conf.proofs.services.services_of_folder.Goals as goal

pub loop-position-preserved : goal.loop-position-preserved
loop-position-preserved c =
    let entries = c.args.files.now.entries in
    let n = c.loop-position.position in
    ap (λ names. names ++ filter is_service (map (λ f. f.0) (drop (n + 1) entries))) c.in_ok-push_service.ensures
    ∙ service-more c.loop-position.names entries n c.unwrap-name.result.now
    (seen-of _ c.name.result c.unwrap-name.result _ c.name.ensures c.unwrap-name.ensures)
    ∙ c.loop-position.invariant
