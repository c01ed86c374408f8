-- For private contracts and proofs alone: the lines of a page that are not written yet.
use Rattle.std.specs.Prelude.{◌≡◌, ℕ, List, ◌++◌, Option, Result, Ok, Err}
use Rattle.pam_codes.specs.Out.{Device, Out, TookAll, TookFront}

-- some bytes were written, and with the lines that are kept they are the text
abbrev pub Holds : {W : Type 0} → (W → Option (List ℕ)) → Out W → Out W → List ℕ → List ℕ → Type 0
Holds contents old new kept text = (written : List ℕ) × (TookAll contents old new written × (written ++ kept ≡ text))

-- the effect of a call that adds a text to the lines that are kept: some bytes are written, or a prefix if it fails
abbrev pub Adds : {W : Type 0} → (W → Option (List ℕ)) → Out W → Out W → List ℕ → List ℕ → Result (Unit {0}) Device → List ℕ → Type 0
Adds contents old new before after (Ok _) text = Holds contents old new after (before ++ text)
Adds contents old new before after (Err _) text = TookFront contents old new (before ++ text)
