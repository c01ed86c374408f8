-- How a fault names a word, as text.
use Rattle.pam_render.specs.sentences.Faults as spec
use Rattle.pam_render.specs.declared.sentences.faults.Naming.{Naming}

abbrev pub naming_view : Naming → spec.Naming
naming_view naming = record { before = naming.before.now; after = naming.after.now; mending = naming.mending.now }
