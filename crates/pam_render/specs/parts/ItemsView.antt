-- A line of a stack, as a value.
use Rattle.pam_conf.specs.ItemsOf.{module_text}
use Rattle.pam_render.specs.parts.Items as spec
use Rattle.pam_render.specs.declared.parts.items.line.StackLine.{StackLine}
use Rattle.pam_render.specs.declared.parts.items.line.StackLine.TheVariants as lines

abbrev pub line_view : StackLine → spec.Line
line_view (lines.Head head) = spec.Head head.service.now head.kind head.modules
line_view (lines.Module at module') = spec.Module at.files.now at.level (module_text module'.now)
line_view (lines.Sub at sub) = spec.Sub at.files.now at.level sub.now.text
