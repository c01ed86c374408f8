-- The listing under a knowledge, from the full listing.
use Rattle.std.proofs.Common.{◌≡◌, ℕ, ◌+◌, ◌≤◌, Bool, true, false, ◌&&◌, List, [], ◌∷◌, ◌++◌, map, cond, zero, suc, refl, sym, ◌∙◌, ap, arith}
use Rattle.std.specs.Prelude.{filter, ◌==◌}
use Rattle.std.specs.List.{list_any, range_with_len}
use Rattle.std.proofs.lemmas.Bool.{false≢true}
use Rattle.std.proofs.lemmas.List.Elements.{filter-append}
use Rattle.pam_codes.specs.Code.{all_codes}
use Rattle.pam_dispatch.specs.declared.step.Outcome.{Outcome}
use Rattle.pam_dispatch.specs.Runs.{Ask, Runs, asks, ends, outcome_of}
use Rattle.pam_paths.specs.Classes.{class_of, least}
use Rattle.pam_paths.specs.Computed.{after_step}
use Rattle.pam_paths.specs.Paths.{path_of, PathValue, StepValue, step_of}
use Rattle.pam_paths.specs.Computed.{branches, is_offered, listing}
use Rattle.pam_paths.specs.Listing.{Allowance, anything, can_follow}
use Rattle.pam_paths.specs.Laws.{Narrowed}
use Rattle.pam_paths.proofs.Alike.{in_class, list_any_from}
use Rattle.pam_paths.proofs.Listings.{listing-is, one_listing, some_assignment}

map_kept : (f : PathValue → PathValue) (b : Bool) (p : PathValue) (ps : List PathValue) → cond b (f p ∷ map f ps) (map f ps) ≡ map f (cond b (p ∷ ps) ps)
map_kept f true p ps = refl
map_kept f false p ps = refl

-- of paths that begin with a step, those that can be followed
filter_under : (allows : Allowance) (step : StepValue) (b : Bool) (ps : List PathValue) → list_any (allows step.module_number) step.class ≡ b →
    filter (can_follow allows) (map (after_step step) ps) ≡ cond b (map (after_step step) (filter (can_follow allows) ps)) []
filter_under allows step true [] e = refl
filter_under allows step false [] e = refl
filter_under allows step true (p ∷ ps) e =
    let rest = filter (can_follow allows) (map (after_step step) ps) in
    ap (λ (t : Bool). cond (t && can_follow allows p) (after_step step p ∷ rest) rest) e
    ∙ ap (λ (x : List PathValue). cond (can_follow allows p) (after_step step p ∷ x) x) (filter_under allows step true ps e)
    ∙ map_kept (after_step step) (can_follow allows p) p (filter (can_follow allows) ps)
filter_under allows step false (p ∷ ps) e =
    let rest = filter (can_follow allows) (map (after_step step) ps) in
    ap (λ (t : Bool). cond (t && can_follow allows p) (after_step step p ∷ rest) rest) e
    ∙ filter_under allows step false ps e

piece : (test : PathValue → Bool) (f : PathValue → PathValue) (first some all : Bool) (xs ys : List PathValue) → all ≡ true →
    filter test (map f ys) ≡ cond some (map f xs) [] → cond (first && some) (map f xs) [] ≡ filter test (cond (first && all) (map f ys) [])
piece test f true some true xs ys t h = sym h
piece test f true some false xs ys t h = absurd (false≢true t)
piece test f false some all xs ys t h = refl

branches_narrowed : (allows : Allowance) (ask : Ask) (some all : Outcome → List PathValue) (first n : ℕ) → first + n ≤ 31 →
    ((o : Outcome) → some o ≡ filter (can_follow allows) (all o)) →
    branches allows ask some (range_with_len first n) ≡ filter (can_follow allows) (branches anything ask all (range_with_len first n))
unfolding branches is_offered
branches_narrowed allows ask some all first zero low h = refl
branches_narrowed allows ask some all first (suc n) low h =
    let f : PathValue → PathValue = after_step (step_of ask first) in
    let o : Outcome = outcome_of ask first in
    let class : List ℕ = class_of ask first in
    let b : Bool = list_any (allows ask.module_number) class in
    let whole : list_any (anything ask.module_number) class ≡ true =
    list_any_from (anything ask.module_number) class first (in_class ask first first (omega arith) refl) refl in
    let here : cond ((least class == first) && b) (map f (some o)) []
    ≡ filter (can_follow allows) (cond ((least class == first) && list_any (anything ask.module_number) class) (map f (all o)) []) =
    piece (can_follow allows) f (least class == first) b (list_any (anything ask.module_number) class) (some o) (all o) whole
    (filter_under allows (step_of ask first) b (all o) refl ∙ ap (λ (x : List PathValue). cond b (map f x) []) (sym (h o))) in
    ap (λ (x : List PathValue). x ++ branches allows ask some (range_with_len (first + 1) n)) here
    ∙ ap (λ (x : List PathValue). filter (can_follow allows)
    (cond ((least class == first) && list_any (anything ask.module_number) class) (map f (all o)) []) ++ x)
    (branches_narrowed allows ask some all (first + 1) n (omega arith) h)
    ∙ sym (filter-append (can_follow allows) (cond ((least class == first) && list_any (anything ask.module_number) class) (map f (all o)) [])
    (branches anything ask all (range_with_len (first + 1) n)))

pub listing_narrowed : (allows : Allowance) (runs : Runs) → listing allows runs ≡ filter (can_follow allows) (listing anything runs)
unfolding listing all_codes
listing_narrowed allows (ends s) = refl
listing_narrowed allows (asks ask next) =
    branches_narrowed allows ask (λ o. listing allows (next o)) (λ o. listing anything (next o)) 0 31 (omega arith) (λ o. listing_narrowed allows (next o))

pub filter_proof : Narrowed
filter_proof allows n runs some all rise lawful is_some is_all =
    let a = some_assignment allows n lawful in
    let any = some_assignment anything n (λ m first last. (0, omega arith, refl)) in
    one_listing allows n (path_of runs) some (listing allows runs) is_some (listing-is allows n runs rise a.0 a.1)
    ∙ listing_narrowed allows runs
    ∙ ap (filter (can_follow allows)) (one_listing anything n (path_of runs) (listing anything runs) all (listing-is anything n runs rise any.0 any.1) is_all)
