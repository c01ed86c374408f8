-- The outcomes of some walks, code by code.
use Rattle.std.proofs.Common.{◌≡◌, ℕ, ◌+◌, List, [], ◌∷◌, ◌++◌, ap, arith, refl, sym, ◌∙◌, map}
use Rattle.std.specs.List.{flat_map, range_with_len}
use Rattle.std.proofs.lemmas.List.{flat_map_more, map-id}
use Rattle.std.proofs.lemmas.List.FromFn.{map-range_with_len_more}
use Rattle.pam_codes.specs.Code.{all_codes}
use Rattle.pam_codes.specs.declared.code.TheConstants.{CODES}
use Rattle.pam_conf.specs.Stack.{Items}
use Rattle.pam_conf.specs.declared.rule.Kind.{Kind}
use Rattle.pam_graph.specs.Goals.{meeting}
use Rattle.pam_graph.specs.declared.goal.Goal.TheVariants.{Any}
use Rattle.pam_paths.specs.Paths.{PathValue}
use Rattle.pam_report.specs.Outcomes.{outcome_among, outcomes, outcomes_value}
use Rattle.pam_report.specs.inner.OutcomeViews.{AreOutcomes}
use Rattle.pam_report.specs.Reply.{Outcome, OutcomesValue}
use Rattle.pam_report.specs.ReplyViews.{outcome_view}
use Rattle.pam_report.specs.declared.report.outcomes.Outcomes.{Outcomes}

abbrev value_of : List ℕ → Kind → Items → Outcomes → OutcomesValue
value_of service kind items found = record {
  service = service;
  kind = kind;
  items = items;
  found = map outcome_view found.found.items;
  total = found.total;
}

range-more : (n : ℕ) → range_with_len 0 (n + 1) ≡ range_with_len 0 n ++ n ∷ []
range-more n =
    sym (map-id (range_with_len 0 (n + 1))) ∙ map-range_with_len_more (λ (x : ℕ). x) 0 n n (omega arith)
    ∙ ap (λ (l : List ℕ). l ++ n ∷ []) (map-id (range_with_len 0 n))

-- with the outcomes of one code more
pub outcomes-more : {A : Type 0} (f : ℕ → List A) (n code : ℕ) (found new : List A) → found ≡ flat_map f (range_with_len 0 n) → code ≡ n → new ≡ found ++ f code
    → new ≡ flat_map f (range_with_len 0 (n + 1))
outcomes-more {A} f n code found new e same h =
    h ∙ ap (λ (l : List A). l ++ f code) e ∙ ap (λ (k : ℕ). flat_map f (range_with_len 0 n) ++ f k) same
    ∙ flat_map_more f [] (range_with_len 0 n) n ∙ ap (λ (l : List ℕ). flat_map f l) (sym (range-more n))

pub outcomes-all : (paths : List PathValue) (found : List Outcome) (n : ℕ) → n ≡ CODES → found ≡ flat_map (outcome_among paths) (range_with_len 0 n)
    → found ≡ outcomes paths
unfolding all_codes
outcomes-all paths found n e h = h ∙ ap (λ (k : ℕ). flat_map (outcome_among paths) (range_with_len 0 k)) e

pub all-meet : (paths : List PathValue) → meeting Any paths ≡ paths
all-meet [] = refl
all-meet (path ∷ paths) = ap (λ (l : List PathValue). path ∷ l) (all-meet paths)

-- the value of outcomes that are found
pub outcomes_value-is : (service : List ℕ) (kind : Kind) (items : Items) (found : Outcomes) (paths : List PathValue) → AreOutcomes found paths →
    value_of service kind items found ≡ outcomes_value service kind items paths
outcomes_value-is service kind items found paths h = rw (h.found, h.total) refl
