use Rattle.std.proofs.Common.{◌++◌, map}
use Rattle.pam_conf.specs.inner.NameList.{HasNames}
use Rattle.pam_conf.proofs.name_list.known_of.Given as goal

-- the known names, and those that are left
abbrev pub invariant-loop-name : goal.invariant-loop-name
invariant-loop-name l = HasNames (map (λ name. name.items) l.known.keys ++ l.name-iterator) l.names
