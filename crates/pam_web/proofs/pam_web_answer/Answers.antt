use Rattle.std.proofs.Common.{◌≡◌, ◌∙◌, ◌++◌, ap, length, min, sym}
use Rattle.pam_web.specs.Run.{filled}
use Rattle.pam_web.proofs.Filled.{put_twice}
use Rattle.pam_web.proofs.pam_web_answer.Goals as goal

pub returns : goal.returns
returns c =
    let written = c.answer-status.new.out.inner.items in
    let same = ap (λ v. v.items) c.into_inner-output.ensures in
    let output = c.deref.result.now in
    let refusal = c.deref-2.result.now in
    let room = c.put.new.room in
    let here : c.min.result ≡ min (length output) (length room) =
    c.min.ensures ∙ ap (λ n. min n (length room)) (c.len.ensures ∙ c.into_inner-output.result.ok.0 ∙ ap length (sym c.deref.ensures.value)) in
    record {
      before = c.new-out.result;
      out = c.answer-status.new.out;
      refusal = c.into_inner-refusal.result.items;
      fresh = record {
        inner = ap (λ v. v.items) c.new-out.ensures.inner ∙ c.new.ensures.items;
        taken = c.new-out.ensures.taken;
        failures = c.new-out.ensures.failures;
        flushes = c.new-out.ensures.flushes;
      };
      answers = c.answer-status.ensures;
      out_length = c.len-2.ensures ∙ c.into_inner-output.result.ok.0 ∙ ap length same;
      refusal_length = c.len-3.ensures ∙ c.into_inner-refusal.result.ok.0;
      text = put_twice c.min.result output refusal c.args.text.now room c.put-2.new.room c.put.ensures.after c.put.ensures.len here c.put-2.ensures.after
          ∙ ap (λ l. filled l c.args.text.now) (ap (λ l. l ++ refusal) (c.deref.ensures.value ∙ same) ∙ ap (λ l. written ++ l) c.deref-2.ensures.value);
    }
