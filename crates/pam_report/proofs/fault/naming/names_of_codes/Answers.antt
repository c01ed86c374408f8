use Rattle.std.proofs.Common.{◌≡◌, ◌∙◌, ◌∷◌, ◌+◌, ◌++◌, [], Bor, List, ℕ, Some, ap, arith, map, refl, rules, slice_get, sym, take}
use Rattle.std.proofs.lemmas.List.{map-append, take_more}
use Rattle.std.proofs.lemmas.Option.{get_or_from_slice_get, slice_get_within}
use Rattle.pam_codes.specs.Code.{code_names}
use Rattle.pam_report.proofs.fault.naming.names_of_codes.Goals as goal

abbrev text_of : Bor (List ℕ) → List ℕ
text_of w = w.now

-- a name after the first ones
one_more : (position : ℕ) (name : List ℕ) → slice_get code_names position ≡ Some name → take position code_names ++ name ∷ [] ≡ take (position + 1) code_names
one_more position name got =
    ap (λ (w : List ℕ). take position code_names ++ w ∷ []) (sym (get_or_from_slice_get code_names position name name got))
    ∙ sym (take_more code_names position name (slice_get_within code_names position name got))

all_names : (position : ℕ) → position ≡ 31 → take position code_names ≡ code_names
unfolding code_names
all_names position many = rw many refl

pub loop-number-preserved : goal.loop-number-preserved
loop-number-preserved c =
    let name = c.as_bytes.result.now in
    let got : slice_get code_names c.loop-number.number ≡ Some name = search (rules, c.name.ensures, c.in-Some.ensures, c.in-Some.is, c.as_bytes.ensures.value) in
    ap (map text_of) c.in_ok-push-in-Some.ensures.items ∙ map-append text_of c.loop-number.names.items (c.as_bytes.result ∷ [])
    ∙ ap (λ (l : List (List ℕ)). l ++ name ∷ []) c.loop-number.invariant ∙ one_more c.loop-number.number name got

pub returns : goal.returns
returns c = c.loop-number.invariant ∙ all_names c.loop-number.number (omega (arith, c.loop-number-test.false, c.loop-number.auto.number-end))
