use Rattle.std.proofs.Common.{◌⊎◌, Option, subst}
use Rattle.std.specs.Option.{option_map}
use Rattle.pam_facts.specs.declared.arguments.lacks.Lack.{Lack}
use Rattle.pam_conf.specs.ItemsOf.{module_text}
use Rattle.pam_facts.specs.arguments.Calls.{known_of, lack_in}
use Rattle.pam_findings.specs.host.MissingFiles.{missing_by}
use Rattle.pam_findings.specs.host.inner.Table.{Adds}
use Rattle.pam_findings.specs.host.inner.WrongArguments.{OfFound, OfKnown, OfLack}
use Rattle.pam_findings.proofs.HostProofs.Adding.{adds-both}
use Rattle.pam_findings.proofs.host.arguments.push_arguments.Goals as goal

pub returns : goal.returns
returns c =
    let rule = module_text c.args.module.now in
    let files = option_map (λ t. t.now) c.args.files in
    adds-both (λ spot. OfKnown c.args.facts.now (known_of rule) c.args.kind rule spot ⊎ OfLack (lack_in c.args.kind rule) rule spot)
    (OfFound (missing_by files c.args.kind rule) rule)
    c.args.spots.now.items c.push_lack.new.spots.items c.push_missing.new.spots.items
    (adds-both (OfKnown c.args.facts.now (known_of rule) c.args.kind rule) (OfLack (lack_in c.args.kind rule) rule)
    c.args.spots.now.items c.push_wrong.new.spots.items c.push_lack.new.spots.items c.in_ok-push_wrong.ensures
    (subst (λ (o : Option Lack). Adds (OfLack o rule) c.push_wrong.new.spots.items c.push_lack.new.spots.items) c.lack_in.ensures
    c.in_ok-push_lack.ensures))
    c.in_ok-push_missing.ensures
