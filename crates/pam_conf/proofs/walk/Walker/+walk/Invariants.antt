use Rattle.std.proofs.Common.{◌+◌, ◌-◌, ◌*◌, length, map, drop, is_some}
use Rattle.std.specs.Option.{option_map}
use Rattle.pam_conf.specs.ItemsOf.{items_of}
use Rattle.pam_conf.specs.inner.ByKind.{picked}
use Rattle.pam_conf.specs.inner.FilesRead.{kind_rules}
use Rattle.pam_conf.specs.inner.Kept.{kept_view}
use Rattle.pam_conf.specs.inner.Progress.{HasRules, count_of, reads_by}
use Rattle.pam_conf.specs.declared.trail.TheConstants.{MAX_OPEN_FILES}
use Rattle.pam_conf.proofs.KindWalks.{walk_at}
use Rattle.pam_conf.proofs.WalkLemmas.{Leads, walk_of}
use Rattle.pam_conf.proofs.walk.Walker.+walk.Given as goal

abbrev pub decreases-follow : goal.decreases-follow
decreases-follow l = 4 * (MAX_OPEN_FILES - length l.trail.now)

abbrev pub decreases-walk_rule : goal.decreases-walk_rule
decreases-walk_rule l = 4 * (MAX_OPEN_FILES - length l.trail.now) + 1

abbrev pub decreases-walk_rules : goal.decreases-walk_rules
decreases-walk_rules l = 4 * (MAX_OPEN_FILES - length l.trail.now) + 2

abbrev pub decreases-walk_found : goal.decreases-walk_found
decreases-walk_found l = 4 * (MAX_OPEN_FILES - length l.trail.now) + 2

abbrev pub decreases-walk_file : goal.decreases-walk_file
decreases-walk_file l = 4 * (MAX_OPEN_FILES - length l.trail.now) + 3

-- the walk so far leads to that of the rules that are left
abbrev pub invariant-walk_rules-loop-rule : goal.invariant-walk_rules-loop-rule
invariant-walk_rules-loop-rule l = record {
  table : HasRules l.self.files.now l.self.kind l.self.read l.progress.table.items;
  leads : Leads (is_some l.self.read) (count_of l.fn.progress) (items_of l.fn.items.items)
      (walk_of l.self.files.now (reads_by l.self.files.now l.self.read) l.self.kind (option_map (λ s. s.now) l.self.service) l.trail l.file l.rules)
      (count_of l.progress) (items_of l.items.items)
      (walk_of l.self.files.now (reads_by l.self.files.now l.self.read) l.self.kind (option_map (λ s. s.now) l.self.service) l.trail l.file
      (drop l.rule-index l.rules));
}

-- likewise that of the rules at the indices that are left
abbrev pub invariant-walk_found-loop-index : goal.invariant-walk_found-loop-index
invariant-walk_found-loop-index l = record {
  table : HasRules l.self.files.now l.self.kind l.self.read l.progress.table.items;
  leads : Leads (is_some l.self.read) (count_of l.fn.progress) (items_of l.fn.items.items)
      (walk_at l.self.files.now (reads_by l.self.files.now l.self.read) l.self.kind (option_map (λ s. s.now) l.self.service) l.trail l.file
      (kind_rules l.self.kind l.found))
      (count_of l.progress) (items_of l.items.items)
      (walk_at l.self.files.now (reads_by l.self.files.now l.self.read) l.self.kind (option_map (λ s. s.now) l.self.service) l.trail l.file
      (picked (map kept_view l.found.rules.items) (drop l.index-index l.index-items)));
}
