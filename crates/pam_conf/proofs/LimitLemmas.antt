-- What is refused once modules and follows reach their limits.
use Rattle.std.proofs.Common.{◌≡◌, ◌≤◌, ◌+◌, ℕ, List, [], ◌∷◌, ◌++◌, ap, append-nil, arith, eqb, length, refl, sym, ◌∙◌}
use Rattle.std.proofs.lemmas.Bool.{cond_both, eqb-false, ne_eqb}
use Rattle.pam_conf.specs.Laws.{FaultsAreFew, NextFollowIsRefused, NextModuleIsRefused, Unfailed, WithinIsAllowed, follows_made, modules_met}
use Rattle.pam_conf.specs.Survey.{one_too_many, told}
use Rattle.pam_conf.specs.Walk.{Event, Failed, Followed, Met, fault_at, refusal}
use Rattle.pam_conf.specs.declared.error.FaultKind.TheVariants.{TooManyFollowed, TooManyModules}
use Rattle.pam_conf.specs.declared.stack.TheConstants.{MAX_MODULES}
use Rattle.pam_conf.specs.declared.walk.TheConstants.{MAX_FOLLOWS}

-- events that the limits allow after m modules and f follows, and then others
passed : (m f : ℕ) (events after : List Event) → Unfailed events → m + modules_met events ≤ MAX_MODULES → f + follows_made events ≤ MAX_FOLLOWS →
    refusal m f (events ++ after) ≡ refusal (m + modules_met events) (f + follows_made events) after
unfolding refusal
passed m f [] after fine few short =
    let modules : m ≡ m + 0 = omega arith in
    let follows : f ≡ f + 0 = omega arith in
    ap (λ k. refusal k f after) modules ∙ ap (λ k. refusal (m + 0) k after) follows
passed m f (Failed fault ∷ events) after fine few short = absurd fine
passed m f (Met file line ∷ events) after fine few short =
    let next : m + 1 + modules_met events ≡ m + (modules_met events + 1) = omega arith in
    rw (ne_eqb m MAX_MODULES (λ full. omega (arith, full, few)))
    (passed (m + 1) f events after fine (omega (arith, few)) short ∙ ap (λ k. refusal k (f + follows_made events) after) next)
passed m f (Followed file line target ∷ events) after fine few short =
    let next : f + 1 + follows_made events ≡ f + (follows_made events + 1) = omega arith in
    rw (ne_eqb f MAX_FOLLOWS (λ full. omega (arith, full, short)))
    (passed m (f + 1) events after fine few (omega (arith, short)) ∙ ap (λ k. refusal (m + modules_met events) k after) next)

pub within-allowed : WithinIsAllowed
unfolding refusal
within-allowed events within =
    ap (refusal 0 0) (sym (append-nil events)) ∙ passed 0 0 events [] within.0 (omega (arith, within.1)) (omega (arith, within.2))

pub next-module_refused : NextModuleIsRefused
unfolding refusal
next-module_refused before after file line within full =
    let many : 0 + modules_met before ≡ MAX_MODULES = omega (arith, full) in
    passed 0 0 before (Met file line ∷ after) within.0 (omega (arith, within.1)) (omega (arith, within.2)) ∙ rw many refl

pub next-follow_refused : NextFollowIsRefused
unfolding refusal
next-follow_refused before after file line target within full =
    let many : 0 + follows_made before ≡ MAX_FOLLOWS = omega (arith, full) in
    passed 0 0 before (Followed file line target ∷ after) within.0 (omega (arith, within.1)) (omega (arith, within.2)) ∙ rw many refl

-- how many faults are told after f follows
few-told : (m f : ℕ) (events : List Event) → f ≤ MAX_FOLLOWS → f + length (told m f events) ≤ MAX_FOLLOWS + 1
unfolding told
few-told m f [] few = omega (arith, few)
few-told m f (Met file line ∷ events) few =
    cond_both (eqb m MAX_MODULES) (fault_at file line TooManyModules ∷ []) (told (m + 1) f events) (λ l. f + length l ≤ MAX_FOLLOWS + 1)
    (λ full. omega (arith, few)) (λ room. few-told (m + 1) f events few)
few-told m f (Followed file line target ∷ events) few =
    cond_both (eqb f MAX_FOLLOWS) (fault_at file line TooManyFollowed ∷ []) (told m (f + 1) events) (λ l. f + length l ≤ MAX_FOLLOWS + 1)
    (λ full. omega (arith, few))
    (λ room. let other = eqb-false f MAX_FOLLOWS room in omega (arith, few-told m (f + 1) events (omega (arith, few, other))))
few-told m f (Failed fault ∷ events) few =
    cond_both (eqb f MAX_FOLLOWS) (one_too_many fault ∷ []) (fault ∷ told m (f + 1) events) (λ l. f + length l ≤ MAX_FOLLOWS + 1)
    (λ full. omega (arith, few))
    (λ room. let other = eqb-false f MAX_FOLLOWS room in omega (arith, few-told m (f + 1) events (omega (arith, few, other))))

pub faults-few : FaultsAreFew
faults-few events = omega (arith, few-told 0 0 events (omega arith))
