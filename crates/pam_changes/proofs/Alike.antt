-- Of the modules of stacks with the same items the same is known.
use Rattle.std.proofs.Common.{◌≡◌, ◌∙◌, ℕ, ◌≤◌, Bool, true, false, List, [], ◌∷◌, Option, Some, None, ap, refl, cond, not, unwrap_or}
use Rattle.std.proofs.lemmas.Bool.{false≢true}
use Rattle.std.specs.Option.{option_map_or, option_or}
use Rattle.pam_codes.specs.Code.{all_codes, module_unknown}
use Rattle.pam_compare.proofs.Alike.{Shared, same-at, same-value}
use Rattle.pam_compare.specs.Same.{AreSame}
use Rattle.pam_conf.specs.Stack.{End, Items, ModuleText, ThenModule, module_at, module_count}
use Rattle.pam_conf.specs.declared.rule.Kind.{Kind}
use Rattle.pam_facts.specs.Answers.{answers_at, free_answers, is_there, module_answers}
use Rattle.pam_facts.specs.Failing.{always_fails}
use Rattle.pam_facts.specs.Rows.{Row}
use Rattle.pam_facts.specs.known.Answers.{name_of_path}
use Rattle.pam_facts.specs.settings.Settings.{SettingText}
use Rattle.pam_tables.specs.Returns.{ReturnLine}
use Rattle.pam_changes.specs.Changes.{AreEqual}
use Rattle.pam_changes.specs.Known.{AreThereAlike, codes_listed, codes_set, codes_told, is_alike, is_alike_at, known_codes, told_at}
use Rattle.pam_changes.specs.Sides.{SideText, SidesText}

-- what is told of a name
abbrev named : Option (List ReturnLine) → List SettingText → List ℕ → Option (List ℕ)
named returns settings name = option_or (codes_set name settings) (codes_listed returns name)

told-alike : (returns : Option (List ReturnLine)) (settings : List SettingText) (there : Option (List (List ℕ))) (m n : ModuleText) → Shared m n →
    codes_told returns settings there m ≡ codes_told returns settings there n
told-alike returns settings there m n is = ap (λ (p : List ℕ). cond (is_there there p) (named returns settings (name_of_path p)) None) is.path

-- what the facts say of a module with this path and these arguments, which is alone in its stack
abbrev free_of : Kind → List Row → Option (List (List ℕ)) → List ℕ → List (List ℕ) → List ℕ
free_of kind rows there path texts =
    free_answers kind rows there
    (ThenModule (record { number = 1; dashed = false; control = []; path = path; arguments = texts; file = 0; line = 0 }) End) 1

abbrev free_at : Kind → List Row → Option (List (List ℕ)) → ModuleText → List ℕ
free_at kind rows there m = free_of kind rows there m.path m.arguments

answers-alike : (kind : Kind) (rows : List Row) (there : Option (List (List ℕ))) (m n : ModuleText) → Shared m n →
    free_at kind rows there m ≡ free_at kind rows there n
answers-alike kind rows there m n is =
    ap (λ (p : List ℕ). free_of kind rows there p m.arguments) is.path
    ∙ ap (λ (texts : List (List ℕ)). free_of kind rows there n.path texts) is.arguments

pub known-alike : (sides : SidesText) (side : SideText) (kind : Kind) (one other : Items) → AreSame one other → (number : ℕ) →
    known_codes sides side kind one number ≡ known_codes sides side kind other number
unfolding always_fails answers_at known_codes told_at module_answers
known-alike sides side kind one other t number =
    let at = same-at number one other t in
    let told : ModuleText → Option (List ℕ) = codes_told sides.returns sides.settings side.there in
    let free : ModuleText → List ℕ = free_at kind sides.facts side.there in
    ap (λ (l : Option (List ℕ)). unwrap_or l (option_map_or free (module_at number one) all_codes))
    (same-value told None (told-alike sides.returns sides.settings side.there) (module_at number one) (module_at number other) at)
    ∙ ap (λ (codes : List ℕ). unwrap_or (option_map_or told (module_at number other) None) codes)
    (same-value free all_codes (answers-alike kind sides.facts side.there) (module_at number one) (module_at number other) at)

-- a module is there in both configurations, or in neither
both-there : (b c : Bool) → cond b c (not c) ≡ true → b ≡ c
both-there true true h = refl
both-there true false h = absurd (false≢true h)
both-there false true h = absurd (false≢true h)
both-there false false h = refl

told-there : (sides : SidesText) (m : ModuleText) → is_there sides.old.there m.path ≡ is_there sides.new.there m.path →
    codes_told sides.returns sides.settings sides.old.there m ≡ codes_told sides.returns sides.settings sides.new.there m
told-there sides m e = ap (λ (b : Bool). cond b (named sides.returns sides.settings (name_of_path m.path)) None) e

answers-there : (sides : SidesText) (kind : Kind) (m : ModuleText) → is_there sides.old.there m.path ≡ is_there sides.new.there m.path →
    free_at kind sides.facts sides.old.there m ≡ free_at kind sides.facts sides.new.there m
unfolding always_fails answers_at module_answers
answers-there sides kind m e = ap (λ (b : Bool). cond b (free_at kind sides.facts None m) (module_unknown ∷ [])) e

-- what is known of a module on a side
abbrev value-in : SidesText → SideText → Kind → Option ModuleText → List ℕ
value-in sides side kind o =
    unwrap_or (option_map_or (codes_told sides.returns sides.settings side.there) o None) (option_map_or (free_at kind sides.facts side.there) o all_codes)

value-there : (sides : SidesText) (kind : Kind) (o : Option ModuleText) → option_map_or (is_alike sides) o true ≡ true →
    value-in sides sides.old kind o ≡ value-in sides sides.new kind o
value-there sides kind None h = refl
value-there sides kind (Some m) h =
    let e = both-there (is_there sides.old.there m.path) (is_there sides.new.there m.path) h in
    ap (λ (l : Option (List ℕ)). unwrap_or l (free_at kind sides.facts sides.old.there m)) (told-there sides m e)
    ∙ ap (λ (codes : List ℕ). unwrap_or (codes_told sides.returns sides.settings sides.new.there m) codes) (answers-there sides kind m e)

known-there : (sides : SidesText) (kind : Kind) (items : Items) (number : ℕ) → is_alike_at sides items number ≡ true →
    known_codes sides sides.old kind items number ≡ known_codes sides sides.new kind items number
unfolding always_fails answers_at known_codes told_at module_answers
known-there sides kind items number h = value-there sides kind (module_at number items) h

pub equal-alike : (sides : SidesText) (kind : Kind) (old new : Items) → AreEqual sides old new → (number : ℕ) → 1 ≤ number → number ≤ module_count old →
    known_codes sides sides.old kind old number ≡ known_codes sides sides.new kind new number
unfolding AreThereAlike
equal-alike sides kind old new is number low high =
    known-there sides kind old number (is.1 number low high) ∙ known-alike sides sides.new kind old new is.0 number
