-- For private contracts and proofs alone: rows without their layout in memory.
use Rattle.pam_facts.specs.Rows.{Head as HeadText}
use Rattle.pam_facts.specs.Words.{words_of}
use Rattle.pam_facts.specs.declared.head.Head.{Head}
use Rattle.pam_facts.specs.Views.{arguments_view}

abbrev pub head_view : Head → HeadText
head_view head = record { arguments = arguments_view head.arguments; class = head.class; rest = words_of head.rest.now }
