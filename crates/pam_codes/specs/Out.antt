-- What a counting writer has written and flushed: the definitions of `pam_text`.
pub use Rattle.pam_text.specs.Out.{saturated, bytes_taken, write_failures, flush_failures, flushes_done}
pub use Rattle.pam_text.specs.Out.{Took, TookAll, TookFront, Writes, TookFlushed, WritesAndFlushes}
pub use Rattle.pam_text.specs.declared.out.Out.{Out}
pub use Rattle.pam_text.specs.declared.out.Device.{Device}
