use Rattle.std.proofs.Common.{ap, subst, arith, length, map, ◌≤◌, ◌∙◌}
use Rattle.pam_conf.specs.Files.{Folder}
use Rattle.pam_conf.specs.ListedText.{listed_text}
use Rattle.pam_conf.proofs.ListLemmas.{list-none}
use Rattle.pam_conf.proofs.rule_files.RuleFiles.list.Goals as goal

pub returns-then-file-len : goal.returns-then-file-len
returns-then-file-len c =
    ap (map listed_text) c.new.ensures.items
    ∙ list-none c.args.self.now c.args.kind c.args.file
    (subst (λ (f : Folder). length f.entries ≤ c.args.file) c.self.view_is (omega (arith, c.len.ensures, c.if-file-len.true)))
