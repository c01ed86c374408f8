use Rattle.std.proofs.Common.{◌-◌, length}
use Rattle.pam_page.proofs.KeptTexts.{kept_own, own_kept}
use Rattle.pam_page.proofs.texts.LineTexts.replace.Goals as goal

pub replace_steps-requires : goal.replace_steps-requires
replace_steps-requires c =
    let own = length c.steps-steps.result.now - length c.tail.result.now in
    kept_own c.args.self.now c.args.path.now.steps c.steps-steps.result.now c.args.shared own c.min.result c.requires c.steps-steps.ensures c.min.ensures

pub returns : goal.returns
returns c =
    let own = length c.steps-steps.result.now - length c.tail.result.now in
    own_kept c.replace_steps.new.self c.args.path.now.steps c.steps-steps.result.now own c.replace_steps.ensures c.steps-steps.ensures
