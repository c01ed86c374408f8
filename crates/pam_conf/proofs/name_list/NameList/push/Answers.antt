use Rattle.std.proofs.Common.{◌∙◌, ap}
use Rattle.indexmap.specs.IndexSet.{insert_key}
use Rattle.std.specs.Str.{bytes_eq}
use Rattle.pam_conf.proofs.NameSteps.{has-with}
use Rattle.pam_conf.proofs.name_list.NameList.push.Goals as goal

pub invariant_of-self-2 : goal.invariant_of-self-2
invariant_of-self-2 c =
    has-with (λ name. name.items) c.self.inside.known.keys c.insert.new.self.keys c.in_ok-copy.copy
    (c.in_ok-insert.ensures.keys ∙ ap (λ known. insert_key (λ a b. bytes_eq a.items b.items) known c.in_ok-copy.copy) c.in_ok-reserve.ensures.keys)
    c.self.inside.names c.push.new.self c.args.name.now c.in_ok-copy.ensures.items c.in_ok-push.ensures c.self.invariant
