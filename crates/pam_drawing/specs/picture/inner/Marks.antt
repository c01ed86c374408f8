-- For private contracts and proofs alone: the pieces in which the text of a picture is written.
use Rattle.std.specs.Prelude.{ℕ, List, [], decimal}
use Rattle.std.specs.List.{flat_map}
use Rattle.pam_codes.specs.ControlText.{control_text}
use Rattle.pam_codes.specs.SetText.{name_of, set_text}
use Rattle.pam_drawing.specs.Drawing.{target_text}
use Rattle.pam_drawing.specs.Escaped.{escaped}
use Rattle.pam_drawing.specs.picture.Rows.{rows}
use Rattle.pam_drawing.specs.picture.Labels.{label_text}
use Rattle.pam_drawing.specs.picture.Picture.{asked_words, bend_text}
use Rattle.pam_drawing.specs.declared.picture.mark.Mark.{Mark}
use Rattle.pam_drawing.specs.declared.picture.mark.Mark.TheVariants as mark
use Rattle.pam_drawing.specs.declared.picture.stop.Stop.{Stop}
use Rattle.pam_drawing.specs.declared.picture.stop.Stop.TheVariants.{Asks, Decides, Nowhere}

abbrev pub stop_text : Stop → List ℕ
stop_text (Asks number name state) = asked_words number name.now state
stop_text (Decides decision) = name_of decision
stop_text Nowhere = []

abbrev pub mark_text : Mark → List ℕ
mark_text (mark.Plain text) = text.now
mark_text (mark.Escaped text) = escaped text.now
mark_text (mark.Number number) = decimal number
mark_text (mark.Class class) = set_text class
mark_text (mark.Control control) = control_text control
mark_text (mark.Rows text) = rows text.now
mark_text (mark.Stop stop) = stop_text stop
mark_text (mark.Id target) = target_text target
mark_text (mark.Bend height bend) = bend_text height bend
mark_text (mark.Label forked class note) = label_text forked class note

abbrev pub marks_text : List Mark → List ℕ
marks_text marks = flat_map mark_text marks
