-- For private contracts and proofs alone: the text that a call writes when it answers.
use Rattle.std.specs.Prelude.{ℕ, List, Option, Result}
use Rattle.pam_codes.specs.Out.{Out}
use Rattle.pam_render.specs.parts.Prints.{PrintsBy}
use Rattle.pam_report.specs.Reply.{Reply}
use Rattle.pam_report.specs.declared.fault.Fault.{Fault}
use Rattle.pam_render.specs.text.Text.{IsText as IsPlainText}

-- what is written for a reply is its text
abbrev pub Prints : {W : Type 0} → (W → Option (List ℕ)) → Out W → Out W → Result (Unit {0}) Fault → Reply → Type 0
Prints contents old new result reply = PrintsBy contents IsPlainText old new result reply
