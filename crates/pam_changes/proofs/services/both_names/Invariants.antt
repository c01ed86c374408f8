use Rattle.std.proofs.Common.{◌≡◌, fold}
use Rattle.pam_conf.specs.Services.{with_name}
use Rattle.pam_changes.proofs.services.both_names.Given as goal

-- the names, and those that are left
abbrev pub invariant-loop-name : goal.invariant-loop-name
invariant-loop-name l = fold with_name l.names l.name-iterator ≡ fold with_name l.present.old l.present.new
