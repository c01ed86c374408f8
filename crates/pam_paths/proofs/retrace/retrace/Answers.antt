use Rattle.std.proofs.Common.{◌≡◌, ◌+◌, ◌≤◌, ◌++◌, ◌&&◌, ◌∷◌, [], ℕ, Bool, List, cond, drop, length, get_or, lit<, sym, ap, subst, ◌∙◌, arith, Some}
use Rattle.std.proofs.lemmas.List.{drop_all, get_or_default}
use Rattle.pam_dispatch.specs.declared.place.Place.{Place}
use Rattle.pam_dispatch.specs.Flat.{modules_of, rest_of, runs_of}
use Rattle.pam_dispatch.specs.Runs.{AsksRise, Runs}
use Rattle.pam_paths.specs.declared.frames.Frame.{Frame}
use Rattle.pam_paths.specs.inner.Retrace.{further, verdict_of}
use Rattle.pam_paths.specs.declared.direction.Direction.{Direction}
use Rattle.pam_paths.specs.Frames.{ahead}
use Rattle.pam_paths.specs.inner.Frames.{AreFrames, part, under}
use Rattle.pam_paths.proofs.FrameLists.{rise_after, AsksRise-lower}
use Rattle.pam_paths.proofs.Verdicts.{further-more, further-none}
use Rattle.pam_paths.proofs.Retracing.{first_frames, first_part, kept-each, kept-frames, kept-many, left-cons, nothing_left, part-kept, verdict-asked}
use Rattle.pam_paths.proofs.Retracing.{verdict-end, verdict-long, verdict-refused, verdict-short}
use Rattle.pam_paths.proofs.retrace.retrace.Goals as goal

pub loop-index-init : goal.loop-index-init
loop-index-init g c =
    let allows = g.K.Knowledge.allows c.args.scope.now.knowledge.now in
    let program = c.args.scope.now.program.now in
    let codes = c.args.codes.now in
    let none = c.requires.none in
    let whole : runs_of program ≡ rest_of program c.first-place.result = sym c.first-place.ensures.whole in
    let empty : length c.args.frames.now.items ≡ 0 = ap (λ (x : List Frame). length x) none in
    record {
      verdict = ap (λ (r : Runs). verdict_of r codes) whole ∙ further-none _;
      frames = first_frames allows program c.args.frames.now.items none;
      place = c.first-place.ensures.place;
      rise = subst (λ (r : Runs). AsksRise 0 (modules_of program) r) whole c.first-place.ensures.rise;
      many = omega (arith, empty);
      each = λ t. empty;
      within = omega arith;
      paths = λ d. ap (λ (r : Runs). part d allows r codes) whole
          ∙ first_part d allows program c.args.frames.now.items (part d allows (rest_of program c.first-place.result) codes) none;
      work = omega arith;
    }

pub loop-index-preserved : goal.loop-index-preserved
loop-index-preserved g c =
    let allows = g.K.Knowledge.allows c.args.scope.now.knowledge.now in
    let program = c.args.scope.now.program.now in
    let codes = c.args.codes.now in
    let i = c.loop-index.invariant in
    let n = c.loop-index.index in
    let fs = c.loop-index.frames.items in
    let t = c.in-Some-retrace_step.step in
    let e = c.in-Some-retrace_step.ensures in
    let m = c.in-Some.module_number in
    let code = c.code_numbered-code.result in
    let r = rest_of program c.loop-index.place in
    let q = rest_of program t.place in
    let asked = sym (c.in-Some.ensures program i.place) in
    let k = rise_after n (modules_of program) m code r i.rise asked in
    let rise : AsksRise (n + 1) (modules_of program) q =
    subst (λ (x : Runs). AsksRise (n + 1) (modules_of program) x) (sym e.rest) (AsksRise-lower (n + 1) m (modules_of program) _ (omega (arith, k.0)) k.2) in
    let here : r ≡ rest_of program t.frame.place = ap (λ (x : Place). rest_of program x) (sym e.at) in
    let left : drop n codes ≡ code ∷ drop (n + 1) codes =
    left-cons codes n code c.loop-index-test.true (c.code_numbered-code.ensures ∙ get_or_default codes n 0 code c.loop-index-test.true) in
    let kept = c.push_if.ensures in
    let again : Direction → List Frame → Bool → Type 0 = λ d x b.
    part d allows (runs_of program) codes ≡ cond b (under x (part d allows q (drop (n + 1) codes))) [] ++ ahead d allows program x in
    let both : (c.loop-index.offered && t.offered) ≡ c.both-offered.result = sym c.both-offered.ensures in
    record {
      verdict = i.verdict ∙ ap (λ (x : List ℕ). further n (verdict_of r x)) left
          ∙ ap (further n) (verdict-asked r q m code (drop (n + 1) codes) asked e.least e.rest) ∙ further-more n (verdict_of q (drop (n + 1) codes));
      frames = subst (AreFrames allows program 0) (sym kept)
          (kept-frames allows program fs t.frame c.loop-index.offered n i.each i.frames (e.frame n i.rise));
      place = e.place;
      rise = rise;
      many = subst (λ (x : List Frame). length x ≤ n + 1) (sym kept) (kept-many fs t.frame c.loop-index.offered n i.many);
      each = λ h. ap (λ (x : List Frame). length x) kept ∙ kept-each fs t.frame c.loop-index.offered t.offered n i.each (both ∙ h);
      within = omega (arith, k.0, k.1);
      paths = λ d. subst (again d c.push_if.new.self.items) both (subst (λ (x : List Frame). again d x (c.loop-index.offered && t.offered)) (sym kept)
          (part-kept d allows program fs t.frame r q m code (drop (n + 1) codes) asked here e.code e.step e.rest c.loop-index.offered t.offered _ e.offered
          (i.paths d ∙ ap (λ (x : List ℕ). cond c.loop-index.offered (under fs (part d allows r x)) [] ++ ahead d allows program fs) left)));
      work = omega (arith, i.work, c.retrace_step.ensures.work);
    }

pub push_if-requires : goal.push_if-requires
push_if-requires g c =
    let i = c.loop-index.invariant in
    let program = c.args.scope.now.program.now in
    let k = rise_after c.loop-index.index (modules_of program) _ 0 _ i.rise (sym (c.in-Some.ensures program i.place)) in
    (lit< tt, λ h. omega (arith, i.each h, k.0, k.1, c.first-place.ensures.few))

pub returns-in_default-clause-verdict : goal.returns-in_default-clause-verdict
returns-in_default-clause-verdict g c =
    let i = c.loop-index.invariant in
    let program = c.args.scope.now.program.now in
    let codes : List ℕ = c.args.codes.now in
    let n = c.loop-index.index in
    let code : ℕ = get_or codes n 0 in
    let r = rest_of program c.loop-index.place in
    let ended = sym (c.in_default.ensures program i.place) in
    let left : drop n codes ≡ code ∷ drop (n + 1) codes =
    left-cons codes n code c.loop-index-test.true (get_or_default codes n 0 code c.loop-index-test.true) in
    ap Some (sym (i.verdict ∙ ap (λ (x : List ℕ). further n (verdict_of r x)) left ∙ ap (further n) (verdict-long r code (drop (n + 1) codes) ended)))

pub returns-in_default-retrace_step-clause-verdict : goal.returns-in_default-retrace_step-clause-verdict
returns-in_default-retrace_step-clause-verdict g c =
    let i = c.loop-index.invariant in
    let program = c.args.scope.now.program.now in
    let codes : List ℕ = c.args.codes.now in
    let n = c.loop-index.index in
    let code : ℕ = c.code_numbered-code.result in
    let r = rest_of program c.loop-index.place in
    let asked = sym (c.in-Some.ensures program i.place) in
    let left : drop n codes ≡ code ∷ drop (n + 1) codes =
    left-cons codes n code c.loop-index-test.true (c.code_numbered-code.ensures ∙ get_or_default codes n 0 code c.loop-index-test.true) in
    ap Some (sym (i.verdict ∙ ap (λ (x : List ℕ). further n (verdict_of r x)) left
    ∙ ap (further n) (verdict-refused r c.in-Some.module_number code (drop (n + 1) codes) asked c.in_default-retrace_step.ensures.not_least)))

pub returns-in-Some-module-clause-verdict : goal.returns-in-Some-module-clause-verdict
returns-in-Some-module-clause-verdict g c =
    let i = c.loop-index.invariant in
    let program = c.args.scope.now.program.now in
    let r = rest_of program c.loop-index.place in
    let asked = sym (c.in-Some-module.ensures program i.place) in
    ap Some (sym (i.verdict ∙ ap (λ (x : List ℕ). further c.loop-index.index (verdict_of r x))
    (drop_all c.loop-index.index c.args.codes.now c.loop-index-test.false)
    ∙ ap (further c.loop-index.index) (verdict-short r c.in-Some-module.field-0 asked)))

pub returns-in-None-clause-verdict : goal.returns-in-None-clause-verdict
returns-in-None-clause-verdict g c =
    let i = c.loop-index.invariant in
    let program = c.args.scope.now.program.now in
    let r = rest_of program c.loop-index.place in
    let ended = sym (c.in-None.ensures program i.place) in
    i.verdict ∙ ap (λ (x : List ℕ). further c.loop-index.index (verdict_of r x)) (drop_all c.loop-index.index c.args.codes.now c.loop-index-test.false)
    ∙ ap (further c.loop-index.index) (verdict-end r ended)

pub returns-in-None-clause-paths : goal.returns-in-None-clause-paths
returns-in-None-clause-paths g c d =
    let i = c.loop-index.invariant in
    let program = c.args.scope.now.program.now in
    let ended = sym (c.in-None.ensures program i.place) in
    sym (i.paths d
    ∙ nothing_left d (g.K.Knowledge.allows c.args.scope.now.knowledge.now) program c.loop-index.frames.items
    (rest_of program c.loop-index.place) c.loop-index.offered _ ended)

pub retrace_step-requires-clause-first : goal.retrace_step-requires-clause-first
retrace_step-requires-clause-first g c =
    let i = c.loop-index.invariant in
    let program = c.args.scope.now.program.now in
    let k = rise_after c.loop-index.index (modules_of program) _ 0 _ i.rise (sym (c.in-Some.ensures program i.place)) in
    omega (arith, k.0)

pub retrace_step-requires-clause-last : goal.retrace_step-requires-clause-last
retrace_step-requires-clause-last g c =
    let i = c.loop-index.invariant in
    (rise_after c.loop-index.index (modules_of c.args.scope.now.program.now) _ 0 _ i.rise (sym (c.in-Some.ensures c.args.scope.now.program.now i.place))).1
