use Rattle.std.proofs.Common.{◌≡◌, ◌++◌, map}
use Rattle.pam_changes.specs.Services.{presence_in, service_text}
use Rattle.pam_changes.proofs.services.services_of.Given as goal

abbrev pub invariant-loop-name : goal.invariant-loop-name
invariant-loop-name l =
    map service_text l.services.items ++ map (presence_in l.present.old l.present.new) l.name-iterator ≡ map (presence_in l.present.old l.present.new) l.names
