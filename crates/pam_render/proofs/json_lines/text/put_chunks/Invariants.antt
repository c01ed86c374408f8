-- the chunks that are not left are written
use Rattle.std.proofs.Common.{◌≡◌, ◌++◌, ℕ, List}
use Rattle.std.specs.Str.Chunks.{utf8_chunks_rest}
use Rattle.std.specs.Str.Lossy.{utf8_lossy}
use Rattle.json.specs.Print.{escape}
use Rattle.pam_text.specs.Out.{TookAll}
use Rattle.pam_render.proofs.json_lines.text.put_chunks.Given as goal

abbrev pub invariant-loop-chunk : goal.invariant-loop-chunk
invariant-loop-chunk g l = record {
  front : List ℕ;
  parts : front ++ escape (utf8_lossy (utf8_chunks_rest l.chunk-iterator)) ≡ escape (utf8_lossy l.bytes);
  took : TookAll g.W.Write.contents l.initial.out l.out front;
}
