use Rattle.std.proofs.Common.{◌∙◌, ◌++◌, [], ap}
use Rattle.std.specs.Str.Lossy.{utf8_lossy}
use Rattle.json.specs.Print.{escape}
use Rattle.pam_text.proofs.Writing.{all-is, all-none, all-then, err-front, front-is, front-longer, front-then}
use Rattle.pam_render.proofs.JsonLinesProofs.Strings.{chunk-more, chunks-all}
use Rattle.pam_render.specs.json_lines.inner.Text.{invalid_text}
use Rattle.pam_render.proofs.json_lines.text.put_chunks.Goals as goal

pub loop-chunk-init : goal.loop-chunk-init
loop-chunk-init g c = record {
  front = [];
  parts = rw (c.into_iter-chunk-iterator.ensures.into_iter_gives) (ap (λ l. escape (utf8_lossy l)) c.utf8_chunks-chunk-items.ensures.rest);
  took = all-none c.args.out.now;
}

pub returns-in_err-put_chunk : goal.returns-in_err-put_chunk
returns-in_err-put_chunk g c =
    let l = c.loop-chunk.invariant in
    err-front _ c.from_residual.ensures.0
    (front-is (front-longer (escape (utf8_lossy c.next.new.self.rest.now)) (front-then l.took c.in_err-put_chunk.ensures))
    (chunk-more l.front _ _ _ _ _ _ _ (c.as_bytes.ensures.value ∙ c.valid.ensures) c.invalid.ensures c.in-Some.ensures.steps l.parts))

pub loop-chunk-preserved : goal.loop-chunk-preserved
loop-chunk-preserved g c =
    let l = c.loop-chunk.invariant in
    record {
      front = l.front ++ (escape c.as_bytes.result.now ++ invalid_text c.invalid.result.now);
      parts = chunk-more l.front _ _ _ _ _ _ _ (c.as_bytes.ensures.value ∙ c.valid.ensures) c.invalid.ensures c.in-Some.ensures.steps l.parts;
      took = all-then l.took c.in_ok-put_chunk.ensures;
    }

pub returns : goal.returns
returns g c =
    let l = c.loop-chunk.invariant in
    all-is l.took (chunks-all l.front _ _ c.in-None.ensures.steps.0 l.parts)
