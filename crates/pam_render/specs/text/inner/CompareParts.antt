-- For private contracts and proofs alone: the parts of a line of `compare`.
use Rattle.std.specs.Prelude.{ℕ, List, decimal}
use Rattle.pam_render.specs.parts.ComparedView.{head_view}
use Rattle.pam_report.specs.ReplyViews.{side_files}
use Rattle.pam_render.specs.text.Check.{counted}
use Rattle.pam_render.specs.sentences.Shown.{shown_name}
use Rattle.pam_render.specs.text.Compare.{arguments_text, asked_texts, head_text, module_changes, module_text, only_count, rule_place, side_text}
use Rattle.pam_render.specs.declared.text.compare.parts.Part.{Part}
use Rattle.pam_render.specs.declared.text.compare.parts.Part.TheVariants.{Text, Number, Counted, Only, Name, Head, Module, Place, Arguments, Asked, Changes, Side}

abbrev pub part_text : Part → List ℕ
part_text (Text text) = text.now
part_text (Number number) = decimal number
part_text (Counted count name) = counted count name.now
part_text (Only count place) = only_count count place.now
part_text (Name name) = shown_name name.now
part_text (Head head) = head_text (head_view head)
part_text (Module place stack number) = module_text place.now stack.now number
part_text (Place files stack number) = rule_place (side_files files) stack.now number
part_text (Arguments stack number) = arguments_text stack.now number
part_text (Asked pair asked) = asked_texts pair.now asked.now
part_text (Changes pair) = module_changes pair.now
part_text (Side files fault) = side_text (side_files files) fault.now
