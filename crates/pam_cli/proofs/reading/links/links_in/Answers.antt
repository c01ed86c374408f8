use Rattle.std.proofs.Common.{Bool, map, subst}
use Rattle.clap.specs.Words.{Text}
use Rattle.pam_cli.specs.Links.{IsOut, folder_at}
use Rattle.pam_conf.proofs.ServiceSteps.{seen-of}
use Rattle.pam_words.specs.Wanted.{candidate_view}
use Rattle.pam_cli.proofs.Links.{more-out}
use Rattle.pam_cli.proofs.reading.links.links_in.Goals as goal

pub loop-position-preserved : goal.loop-position-preserved
loop-position-preserved g c =
    let told = g.S.System.told c.args.system.now in
    let candidates = map candidate_view c.args.candidates.now in
    let found = c.args.found.now in
    let name = c.unwrap-name.result.now in
    more-out told candidates c.args.folder.now c.args.vendor.now found.vendor_start found.files.entries c.loop-position.position c.loop-position.outside.items
    c.push.new.self.items name c.in_ok-out.out c.loop-position.invariant
    (seen-of _ c.name.result c.unwrap-name.result _ c.name.ensures c.unwrap-name.ensures)
    (subst (λ (given : Bool). IsOut told given (folder_at c.args.folder.now c.args.vendor.now found.vendor_start c.loop-position.position) name c.in_ok-out.out)
    c.is_candidate-given.ensures
    (subst (λ (home : Text). IsOut told c.is_candidate-given.result home name c.in_ok-out.out) c.folder_at-home.ensures c.in_ok-out.ensures))
    c.in_ok-push.ensures.items
