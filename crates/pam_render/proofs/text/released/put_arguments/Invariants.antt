-- the words that are not left are written
use Rattle.std.proofs.Common.{◌≡◌, ◌++◌, ℕ, List}
use Rattle.pam_codes.specs.Out.{TookAll}
use Rattle.pam_render.specs.text.Released.{shown_words}
use Rattle.pam_render.proofs.text.released.put_arguments.Given as goal

abbrev pub invariant-loop-word : goal.invariant-loop-word
invariant-loop-word g l = record {
  front : List ℕ;
  parts : front ++ shown_words l.word-iterator ≡ shown_words l.words;
  took : TookAll g.W.Write.contents l.initial.out l.out front;
}
