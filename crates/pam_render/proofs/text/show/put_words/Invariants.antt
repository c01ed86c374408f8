-- the words that are not left are written
use Rattle.std.proofs.Common.{◌≡◌, ◌++◌, ℕ, List}
use Rattle.pam_codes.specs.Out.{TookAll}
use Rattle.pam_render.specs.text.Show.{words_text}
use Rattle.pam_render.proofs.text.show.put_words.Given as goal

abbrev pub invariant-loop-word : goal.invariant-loop-word
invariant-loop-word g l = record {
  front : List ℕ;
  parts : front ++ words_text l.word-iterator ≡ words_text l.words;
  took : TookAll g.W.Write.contents l.initial.out l.out front;
}
