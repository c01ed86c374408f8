use Rattle.std.proofs.Common.{◌≡◌, ◌∙◌, ◌∷◌, [], Bor, List, Vec, ℕ, ap, arith, map}
use Rattle.std.proofs.lemmas.List.{map-append}
use Rattle.std.specs.Global.{Global}
use Rattle.pam_findings.proofs.MisspelledProofs.NearestNames.{all_names, one_name, some_name}
use Rattle.pam_findings.proofs.misspelled.right_words.first_names.Goals as goal
use Rattle.pam_findings.proofs.misspelled.right_words.first_names.Goals.{in-Some+in_ok-push, in_default}

abbrev text_of : Bor (List ℕ) → List ℕ
text_of name = name.now

pub loop-position-preserved : goal.loop-position-preserved
loop-position-preserved c =
    let entries = c.args.files.now.entries in
    let position = c.loop-position.position in
    elim c.match-name.branch [
      | in-Some+in_ok-push w ↦
          ap (λ (names : Vec (Bor (List ℕ)) Global). map text_of names.items) w.names-is ∙ ap (map text_of) w.in_ok-push.ensures.items
          ∙ map-append text_of c.loop-position.names.items (w.in-Some.name ∷ [])
          ∙ one_name entries position _ w.in-Some.name.now c.loop-position.invariant w.in-Some.ensures
      | in_default w ↦
          absurd (some_name entries position (omega (arith, c.loop-position-test.true, c.min-position-end.ensures, c.len.ensures))
          w.in_default.ensures)
    ]

pub returns : goal.returns
returns c =
    let done : c.loop-position.position ≡ c.min-position-end.result = omega arith in
    c.loop-position.invariant
    ∙ all_names c.args.files.now.entries c.loop-position.position 1000 (omega (arith, done, c.min-position-end.ensures, c.len.ensures))
