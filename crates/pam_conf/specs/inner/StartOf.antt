-- For private contracts and proofs alone: the start of a service's rules, as the code stores it: pam.conf(5).
use Rattle.std.specs.Option.{option_map}
use Rattle.pam_conf.specs.Files.{Folder}
use Rattle.pam_conf.specs.inner.Progress.{IsRead}
use Rattle.pam_conf.specs.Resolution.{StartText}
use Rattle.pam_conf.specs.Walk.{rules_at}
use Rattle.pam_conf.specs.declared.resolution.Start.{Start}
use Rattle.pam_conf.specs.declared.rule.Kind.{Kind}

abbrev pub start_text : Start → StartText
start_text s = record { file = s.file; service = option_map (λ b. b.now) s.service }

-- the rules that the start holds, if any, have the walk of its file
abbrev pub IsReadStart : Folder → Kind → Start → Type 0
IsReadStart folder kind s = IsRead folder (rules_at folder) kind (option_map (λ b. b.now) s.service) s.file (option_map (λ r. r.now) s.read)
