use Rattle.std.proofs.Common.{◌≡◌, drop}
use Rattle.pam_conf.specs.Services.{has_text}
use Rattle.pam_conf.proofs.service_names.has_text.Given as goal

abbrev pub invariant-loop-start : goal.invariant-loop-start
invariant-loop-start l = has_text l.text (drop l.start l.name) ≡ has_text l.text l.name
