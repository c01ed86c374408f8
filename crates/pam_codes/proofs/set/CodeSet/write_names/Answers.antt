use Rattle.std.proofs.Common.{◌∙◌, List, ℕ, Some, ap, sym, subst}
use Rattle.pam_codes.proofs.SetNames.{AreWritten, AreWritten-none, AreWritten-all, AreWritten-failed, AreWritten-more, less_codes}
use Rattle.pam_text.proofs.Writing.{err-front}
use Rattle.pam_codes.proofs.set.CodeSet.write_names.Goals as goal

pub loop-code-init : goal.loop-code-init
loop-code-init g c = AreWritten-none _ _ _ _ c.as_slice-separator.ensures

pub returns-in_err-put_line : goal.returns-in_err-put_line
returns-in_err-put_line g c =
    let l = c.loop-code in
    let named = c.name.ensures ∙ ap (λ (name : List ℕ). Some name) (sym c.as_bytes-name.ensures.value) in
    err-front _ c.from_residual.ensures.0
    (AreWritten-failed _ _ _ _ _ _ l.invariant c.in-Some.code _ (sym c.in-Some.ensures.first) named _ c.in_err-put_line.ensures)

pub loop-code-smaller : goal.loop-code-smaller
loop-code-smaller g c = less_codes c.loop-code.remaining _ c.in-Some.code (sym c.in-Some.ensures.first) c.in-Some.ensures.rest

pub loop-code-preserved : goal.loop-code-preserved
loop-code-preserved g c =
    let l = c.loop-code in
    let named = c.name.ensures ∙ ap (λ (name : List ℕ). Some name) (sym c.as_bytes-name.ensures.value) in
    subst (λ (separator : List ℕ). AreWritten g.W.Write.contents c.args.out.now c.put_line.new.self separator c.take_least.new.self c.args.self)
    (sym c.as_slice-separator-in-Some.ensures)
    (AreWritten-more _ _ _ _ _ _ l.invariant c.in-Some.code _ (sym c.in-Some.ensures.first) named _ _ c.in_ok-put_line.ensures c.in-Some.ensures.rest)

pub returns : goal.returns
returns g c = AreWritten-all _ _ _ _ _ _ c.loop-code.invariant (sym c.in_default.ensures.first)
