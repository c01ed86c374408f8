-- Lists of bytes: a lemma of `pam_text`, for the proofs that cite it here.
pub use Rattle.pam_text.proofs.TextSteps.{unequal}
