-- How the effects of calls that write combine: the lemmas of `pam_text`.
pub use Rattle.pam_text.proofs.Writing.{fails-taking_none, fails-taking_some, took-none, all-none, took-kept, took-then, took-more, front-at}
pub use Rattle.pam_text.proofs.Writing.{all-then, front-then, front-longer}
pub use Rattle.pam_text.proofs.Writing.{writes-then, err-front, err-then, err-then-more, all-is, front-is, writes-is}
pub use Rattle.pam_text.proofs.Writing.{flushed-kept, flushed-then, flushes-then, flushes-last, err-flushes, flushed-is}
