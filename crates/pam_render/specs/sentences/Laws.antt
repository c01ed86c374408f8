-- Laws of the definitions.
use Rattle.std.specs.Prelude.{◌≡◌}
use Rattle.pam_render.specs.declared.sentences.shown.TheConstants.{MAX_SHOWN}

-- of a long word 64 bytes are shown
abbrev pub MostShown : Type 0
MostShown = MAX_SHOWN ≡ 64
