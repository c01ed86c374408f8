use Rattle.std.proofs.Common.{◌≡◌, ◌++◌, map, ◌+◌, ◌*◌, drop}
use Rattle.pam_conf.specs.inner.ByKind.{picked}
use Rattle.pam_conf.specs.inner.Kept.{kept_view}
use Rattle.pam_conf.specs.Listed.{file_listed, further, rules_listed}
use Rattle.pam_conf.specs.ListedText.{listed_text}
use Rattle.pam_conf.proofs.listed.Lister.+list.Given as goal

abbrev pub decreases-list_target : goal.decreases-list_target
decreases-list_target l = 3 * l.room

abbrev pub decreases-list_rule : goal.decreases-list_rule
decreases-list_rule l = 3 * l.room + 1

abbrev pub decreases-list_file : goal.decreases-list_file
decreases-list_file l = 3 * l.room + 2

-- the items so far, and those of the rules at the indices that are left, are those of the file
abbrev pub invariant-list_file-loop-index : goal.invariant-list_file-loop-index
invariant-list_file-loop-index l =
    map listed_text l.items.items
    ++ rules_listed l.self.rules.now l.self.kind (further l.self.rules.now l.self.kind l.room) l.includes l.file
    (picked (map kept_view l.found.rules.items) (drop l.index-index l.index-items))
    ≡ map listed_text l.fn.items.items ++ file_listed l.self.rules.now l.self.kind l.room l.includes l.file
