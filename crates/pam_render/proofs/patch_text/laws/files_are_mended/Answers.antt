use Rattle.pam_render.proofs.PatchTextProofs.Among.{files_are_mended}
use Rattle.pam_render.proofs.patch_text.laws.files_are_mended.Goals as goal

pub returns : goal.returns
returns c = λ form path old mendings h. files_are_mended form path old mendings h
