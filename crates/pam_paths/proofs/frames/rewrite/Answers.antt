use Rattle.std.proofs.Common.{◌≡◌, ◌+◌, ◌-◌, ◌<◌, ◌≤◌, ◌∙◌, ℕ, List, arith, ap, drop, get_or, length, map, subst, sym, take, ◌++◌, length-drop, length-take}
use Rattle.std.specs.Prelude.{slice_set}
use Rattle.std.proofs.lemmas.List.{get_or-drop, get_or-take, length-map, take-append-drop}
use Rattle.std.proofs.Math.Seq.{take-length}
use Rattle.pam_paths.specs.declared.path.PathStep.{PathStep}
use Rattle.pam_paths.specs.Frames.{step_in}
use Rattle.pam_paths.specs.Paths.{StepValue}
use Rattle.pam_paths.specs.Steps.{step_seen}
use Rattle.pam_paths.proofs.BoundedLists.{rewritten-first, rewritten-last}
use Rattle.pam_paths.proofs.frames.rewrite.Goals as goal

pub loop-index-preserved : goal.loop-index-preserved
loop-index-preserved c =
    let frames = c.args.frames.now in
    let steps = c.loop-index.steps.items in
    let i = c.args.shared + c.loop-index.index in
    let is = c.loop-index.invariant in
    let frame = c.index-added-index.result in
    let step = c.step-in-loop-index.result in
    let skipped : length (take (length frames - c.args.shared) (drop c.args.shared frames)) ≡ length frames - c.args.shared =
    omega (arith, length-take (length frames - c.args.shared) (drop c.args.shared frames), length-drop c.args.shared frames) in
    let inside : i < length frames = omega (arith, c.loop-index-test.true, skipped) in
    let long : length frames ≤ length steps = omega (arith, is.long, c.requires.room) in
    let at : frame ≡ get_or frames i frame =
    c.index-added-index.is ∙ get_or-take (length frames - c.args.shared) (drop c.args.shared frames) c.loop-index.index frame
    (omega (arith, c.loop-index-test.true, skipped)) ∙ get_or-drop c.args.shared frames c.loop-index.index frame in
    let next : i + 1 ≡ c.args.shared + (c.loop-index.index + 1) = omega arith in
    let put = c.set-in-loop-index.ensures.items in
    record {
      first = ap (λ (l : List PathStep). take (c.args.shared + (c.loop-index.index + 1)) (map step_seen l)) put
          ∙ subst (λ (n : ℕ). take n (map step_seen (slice_set steps i step)) ≡ take n (map step_in frames)) next
          (rewritten-first steps frames i frame step inside long at c.step-in-loop-index.ensures is.first);
      last = ap (λ (l : List PathStep). drop (length frames) (map step_seen l)) put
          ∙ rewritten-last steps frames i frame step inside long at c.step-in-loop-index.ensures ∙ is.last;
      long = c.set-in-loop-index.ensures.len ∙ is.long;
    }

pub returns-then-frames-shared : goal.returns-then-frames-shared
returns-then-frames-shared c =
    let frames = c.args.frames.now in
    let steps = c.args.steps.now.items in
    let i = c.args.shared in
    let frame = c.index-frames-shared.result in
    let one : length frames ≡ i + 1 = c.if-frames-shared.true in
    let inside : i < length frames = omega (arith, one) in
    let now = map step_seen c.set.new.self.items in
    let first : take (length frames) now ≡ map step_in frames =
    ap (λ (n : ℕ). take n now) one ∙ ap (λ (l : List PathStep). take (i + 1) (map step_seen l)) c.set.ensures.items
    ∙ rewritten-first steps frames i frame c.step.result inside c.requires.room c.index-frames-shared.is c.step.ensures c.requires.same
    ∙ ap (λ (n : ℕ). take n (map step_in frames)) (sym one ∙ sym (length-map frames step_in)) ∙ take-length (map step_in frames) in
    let last : drop (length frames) now ≡ drop (length frames) (map step_seen steps) =
    ap (λ (l : List PathStep). drop (length frames) (map step_seen l)) c.set.ensures.items
    ∙ rewritten-last steps frames i frame c.step.result inside c.requires.room c.index-frames-shared.is c.step.ensures in
    sym (take-append-drop (length frames) now) ∙ ap (λ (l : List StepValue). l ++ drop (length frames) now) first
    ∙ ap (λ (l : List StepValue). map step_in frames ++ l) last
