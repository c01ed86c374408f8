-- the names that are not left are written
use Rattle.std.proofs.Common.{◌≡◌, ◌++◌, ℕ, List, false}
use Rattle.pam_codes.specs.Out.{TookAll}
use Rattle.pam_render.specs.text.Compare.{spaced}
use Rattle.pam_render.proofs.text.compare.modules.put_all_spaced.Given as goal

abbrev pub invariant-loop-name : goal.invariant-loop-name
invariant-loop-name g l = record {
  front : List ℕ;
  parts : front ++ spaced l.more l.name-iterator ≡ spaced false l.names;
  took : TookAll g.W.Write.contents l.initial.out l.out front;
}
