use Rattle.std.proofs.Common.{◌≡◌, map, take}
use Rattle.pam_conf.specs.inner.FileRules.{file_text}
use Rattle.pam_conf.specs.inner.FilesRead.{file_view}
use Rattle.pam_conf.proofs.rule_files.RuleFiles.read.Given as goal

-- the files up to the position are read
abbrev pub invariant-loop-position : goal.invariant-loop-position
invariant-loop-position l = map file_view l.read.items ≡ map (file_text l.files.form) (take l.position l.files.entries)
