-- A line of a comparison, as a value.
use Rattle.pam_report.specs.ReplyViews.{side_files}
use Rattle.pam_render.specs.parts.Compared as spec
use Rattle.pam_render.specs.declared.parts.compared.line.CompareLine.{CompareLine}
use Rattle.pam_render.specs.declared.parts.compared.line.CompareLine.TheVariants as lines
use Rattle.pam_render.specs.declared.parts.compared.line.Head.{Head}
use Rattle.pam_render.specs.declared.parts.compared.line.Side.{Side}
use Rattle.pam_render.specs.declared.parts.compared.line.StackOfOne.{StackOfOne}

abbrev pub head_view : Head → spec.Head
head_view head = record { service = head.service.now; kind = head.kind }

abbrev pub side_view : Side → spec.Side
side_view side = record { files = side_files side.files; fault = side.fault.now }

abbrev pub stack_view : StackOfOne → spec.StackOfOne
stack_view stack = record {
  head = head_view stack.head;
  configuration = stack.configuration;
  files = side_files stack.files;
  items = stack.stack.now;
}

abbrev pub line_view : CompareLine → spec.Line
line_view (lines.OnlyInOld service) = spec.OnlyInOld service.now
line_view (lines.OnlyInNew service) = spec.OnlyInNew service.now
line_view (lines.Refused stack) = spec.Refused (head_view stack.head) (side_view stack.old) (side_view stack.new)
line_view (lines.As head first) = spec.As (head_view head) (head_view first)
line_view (lines.Arguments stack matched) = spec.Arguments (head_view stack.head) stack.pair.now matched
line_view (lines.Change stack change shown) = spec.Change (head_view stack.head) stack.pair.now change.now shown.now
line_view (lines.Same stack) = spec.Same (head_view stack.head) stack.pair.now
line_view (lines.NotKnown head) = spec.NotKnown (head_view head)
line_view (lines.Guard stack guarding) = spec.Guard (stack_view stack) guarding
line_view (lines.Last stacks counts) = spec.Last stacks counts
