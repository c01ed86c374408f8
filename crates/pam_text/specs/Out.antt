-- What a counting writer has written and flushed, and the effect of a call that writes a text.
use Rattle.std.specs.Prelude.{◌≡◌, ℕ, ◌+◌, ◌-◌, ◌^◌, min, List, ◌++◌, length, Option, Result, Ok, Err, not, ◌==◌, ◌&&◌, if◌then◌else◌}
use Rattle.std.specs.Io.KnownBytes.{Appends}
use Rattle.pam_text.specs.declared.out.Out.{Out}
use Rattle.pam_text.specs.declared.out.Device.{Device}

-- a count, saturated at the greatest `u64`
abbrev pub saturated : ℕ → ℕ
saturated n = min n (2 ^ 64 - 1)

-- the number of bytes that a `write` wrote
abbrev pub bytes_taken : {E : Type 0} → Result ℕ E → ℕ
bytes_taken (Ok n) = n
bytes_taken (Err _) = 0

-- 1 for a `write` that returned an error, or wrote none of one or more bytes
abbrev pub write_failures : {E : Type 0} → Result ℕ E → List ℕ → ℕ
write_failures (Ok n) bytes = if n == 0 && not (length bytes == 0) then 1 else 0
write_failures (Err _) bytes = 1

-- 1 for a `flush` that returned an error
abbrev pub flush_failures : {E : Type 0} → Result (Unit {0}) E → ℕ
flush_failures (Ok _) = 0
flush_failures (Err _) = 1

-- 1 for a `flush` that succeeded
abbrev pub flushes_done : {E : Type 0} → Result (Unit {0}) E → ℕ
flushes_done (Ok _) = 1
flushes_done (Err _) = 0

-- exactly these bytes were written, in order, and counted; no flush succeeded
pub record Took {W : Type 0} (contents : W → Option (List ℕ)) (old new : Out W) (bytes : List ℕ) : Type 0 where
  pub held : Appends (contents old.inner) (contents new.inner) bytes
  pub counted : new.taken ≡ saturated (old.taken + length bytes)
  pub unflushed : new.flushes ≡ old.flushes

-- all of the text was written, and nothing failed
pub record TookAll {W : Type 0} (contents : W → Option (List ℕ)) (old new : Out W) (text : List ℕ) : Type 0 where
  pub took : Took contents old new text
  pub as_before : new.failures ≡ old.failures

-- a prefix of the text was written, and one call of the writer failed
pub record TookFront {W : Type 0} (contents : W → Option (List ℕ)) (old new : Out W) (text : List ℕ) : Type 0 where
  pub front : List ℕ
  pub rest : List ℕ
  pub parts : front ++ rest ≡ text
  pub took : Took contents old new front
  pub failed : new.failures ≡ saturated (old.failures + 1)

-- the effect of a call that writes the text: all of it was written if `Ok`, else a prefix
abbrev pub Writes : {W : Type 0} → (W → Option (List ℕ)) → Out W → Out W → Result (Unit {0}) Device → List ℕ → Type 0
Writes contents old new (Ok _) text = TookAll contents old new text
Writes contents old new (Err _) text = TookFront contents old new text

-- all of the text was written, and then flushed once, and nothing failed
pub record TookFlushed {W : Type 0} (contents : W → Option (List ℕ)) (old new : Out W) (text : List ℕ) : Type 0 where
  pub held : Appends (contents old.inner) (contents new.inner) text
  pub counted : new.taken ≡ saturated (old.taken + length text)
  pub flushed : new.flushes ≡ saturated (old.flushes + 1)
  pub as_before : new.failures ≡ old.failures

-- the effect of a call that writes the text and then flushes: both were done if `Ok`, else a prefix was written, and no
-- flush succeeded
abbrev pub WritesAndFlushes : {W : Type 0} → (W → Option (List ℕ)) → Out W → Out W → Result (Unit {0}) Device → List ℕ → Type 0
WritesAndFlushes contents old new (Ok _) text = TookFlushed contents old new text
WritesAndFlushes contents old new (Err _) text = TookFront contents old new text
