use Rattle.std.proofs.Common.{◌≡◌, ◌∙◌, ℕ, ◌≤◌, [], ap, arith, length, map, subst, sym}
use Rattle.std.proofs.lemmas.List.{get_or-map, get_or_past, length-map}
use Rattle.pam_conf.specs.Stack.{IsNumbered}
use Rattle.pam_render.proofs.PartsProofs.PathLists.{no-path, path-read, text_of}
use Rattle.pam_report.specs.Decide.{path_at}
use Rattle.pam_render.specs.parts.inner.ModulePaths.{paths_of}
use Rattle.pam_render.proofs.parts.module_paths.ModulePaths.path.Goals as goal

pub returns-in_default : goal.returns-in_default
returns-in_default c =
    let none : c.args.number ≡ 0 = omega (arith, c.in_default.ensures) in
    no-path c.args.self.now (subst IsNumbered c.self.view_is c.self.invariant.1) ∙ ap (λ (n : ℕ). path_at n c.args.self.now) (sym none)

pub returns-in-Some-get : goal.returns-in-Some-get
returns-in-Some-get c =
    let paths = c.as_slice-paths.result.now in
    let path = c.in-Some-get.path.now in
    let index = c.in-Some.index in
    let found = c.in-Some-get.ensures.lookup.3 in
    let texts = ap (map text_of) c.as_slice-paths.ensures.value ∙ c.self.invariant.0 ∙ ap paths_of c.self.view_is in
    let numbered = subst IsNumbered c.self.view_is c.self.invariant.1 in
    ap text_of (found.1 path) ∙ sym (get_or-map text_of paths index path [] found.0)
    ∙ path-read paths c.args.self.now c.args.number index texts numbered (omega (arith, c.in-Some.ensures)) (omega (arith, c.in-Some.ensures))

pub returns-in-None : goal.returns-in-None
returns-in-None c =
    let paths = c.as_slice-paths.result.now in
    let index = c.in-Some.index in
    let past : length (map text_of paths) ≤ index = omega (arith, length-map paths text_of, c.in-None.ensures.lookup.3) in
    let texts = ap (map text_of) c.as_slice-paths.ensures.value ∙ c.self.invariant.0 ∙ ap paths_of c.self.view_is in
    let numbered = subst IsNumbered c.self.view_is c.self.invariant.1 in
    sym (get_or_past (map text_of paths) index [] past)
    ∙ path-read paths c.args.self.now c.args.number index texts numbered (omega (arith, c.in-Some.ensures)) (omega (arith, c.in-Some.ensures))
