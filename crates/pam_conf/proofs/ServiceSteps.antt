-- Services, and files without faults.
use Rattle.std.proofs.Common.{◌≡◌, ℕ, ◌+◌, ◌-◌, ◌<◌, true, false, cond, ◌||◌, List, [], ◌∷◌, ◌++◌, drop, take, get_or, length, length-drop, map}
use Rattle.std.proofs.Common.{◌≤◌, All, filter, refl, subst, sym, ◌∙◌, ap, suc, zero, append_assoc, arith, Option, Some, None, slice_get}
use Rattle.std.specs.Prelude.{unwrap_or}
use Rattle.std.specs.List.{filter_map}
use Rattle.std.specs.Option.{option_map}
use Rattle.std.proofs.lemmas.Bool.{cond_both}
use Rattle.std.proofs.lemmas.List.{drop_more, take_all, take_more}
use Rattle.std.proofs.lemmas.List.Elements.{All-push}
use Rattle.pam_text.specs.Source.{source_fault}
use Rattle.pam_text.specs.Text.{file_bytes, joined, uncommented}
use Rattle.pam_conf.specs.FileRules.{file_results, good_rules, line_results, own_faults}
use Rattle.pam_conf.specs.Files.{Folder, Named, bytes_at}
use Rattle.pam_conf.specs.Lines.{line_rule_of}
use Rattle.pam_conf.specs.Rule.{RuleText, rule_of}
use Rattle.pam_conf.specs.Survey.{faults_at}
use Rattle.pam_conf.specs.Words.{words_in}
use Rattle.pam_conf.specs.declared.rule.Form.{Form}
use Rattle.pam_conf.specs.declared.rule.Form.TheVariants.{Single}
use Rattle.pam_conf.specs.Services.{begins, each_once, has_text, is_service, services_in}

slice-rest : (name : List ℕ) (n : ℕ) → take (length name - n) (drop n name) ≡ drop n name
slice-rest name n = take_all (length name - n) (drop n name) (simp length-drop (omega arith))

-- the value that an optional reference refers to
pub seen-of : {X Y : Type 0} (f : X → Y) (o : Option X) (x : X) (p : Option Y) → option_map f o ≡ p → o ≡ Some x → p ≡ Some (f x)
seen-of f o x p h is = sym h ∙ ap (option_map f) is

pub seen-none : {X Y : Type 0} (f : X → Y) (o : Option X) (p : Option Y) → option_map f o ≡ p → o ≡ None → p ≡ None
seen-none f o p h is = sym h ∙ ap (option_map f) is

-- a text that does not begin here begins later
pub text-later : (text name : List ℕ) (n : ℕ) → n < length name → begins (take (length name - n) (drop n name)) text ≡ false →
    has_text text (drop (n + 1) name) ≡ has_text text (drop n name)
text-later text name n h not_here =
    let front = drop_more name n 0 h in
    let first : begins (get_or name n 0 ∷ drop (n + 1) name) text ≡ false = ap (λ l. begins l text) (sym (slice-rest name n ∙ front)) ∙ not_here in
    sym (ap (has_text text) front ∙ ap (λ b. b || has_text text (drop (n + 1) name)) first)

-- the name of a file, and those after it
pub name-front : (entries : List Named) (n : ℕ) (name : List ℕ) → option_map (λ f. f.0) (slice_get entries n) ≡ Some name →
    map (λ f. f.0) (drop n entries) ≡ name ∷ map (λ f. f.0) (drop (n + 1) entries)
name-front [] n name h = absurd cc
name-front (e ∷ entries) zero name h = let same : e.0 ≡ name = cc in ap (λ x. x ∷ map (λ f. f.0) entries) same
name-front (e ∷ entries) (suc n) name h =
    let next : suc (n + 1) ≡ suc n + 1 = omega arith in
    name-front entries n name h ∙ ap (λ k. name ∷ map (λ f. f.0) (drop k (e ∷ entries))) next

-- an empty file has neither rules nor faults
pub no_rules : (form : Form) → good_rules form [] ≡ []
unfolding file_results line_results source_fault file_bytes uncommented joined line_rule_of words_in rule_of
no_rules form = refl

pub no_faults : (form : Form) → own_faults form [] ≡ []
unfolding file_results line_results source_fault file_bytes uncommented joined line_rule_of words_in rule_of
no_faults form = refl

no_bytes : (form : Form) (o : Option (List ℕ)) → option_map (good_rules form) o ≡ None → good_rules Single (unwrap_or o []) ≡ []
no_bytes form None h = no_rules Single
no_bytes form (Some bytes) h = absurd cc

no_bytes_no_faults : (form : Form) (o : Option (List ℕ)) → option_map (own_faults form) o ≡ None → own_faults form (unwrap_or o []) ≡ []
no_bytes_no_faults form None h = no_faults form
no_bytes_no_faults form (Some bytes) h = absurd cc

pub faultless-none : (folder : Folder) (file : ℕ) → option_map (own_faults folder.form) (bytes_at file folder.entries) ≡ None → faults_at folder file ≡ []
faultless-none folder file none = no_bytes_no_faults folder.form (bytes_at file folder.entries) none

-- the services so far, and one more
pub service-more : (names : List (List ℕ)) (entries : List Named) (n : ℕ) (name : List ℕ) → option_map (λ f. f.0) (slice_get entries n) ≡ Some name →
    (names ++ filter is_service (name ∷ [])) ++ filter is_service (map (λ f. f.0) (drop (n + 1) entries))
    ≡ names ++ filter is_service (map (λ f. f.0) (drop n entries))
service-more names entries n name is =
    let rest = filter is_service (map (λ f. f.0) (drop (n + 1) entries)) in
    append_assoc names (filter is_service (name ∷ [])) rest
    ∙ ap (λ l. names ++ l) (cond_both (is_service name) (name ∷ []) [] (λ l. l ++ rest ≡ filter is_service (name ∷ map (λ f. f.0) (drop (n + 1) entries)))
    (λ t. sym (ap (λ b. cond b (name ∷ rest) rest) t)) (λ f. sym (ap (λ b. cond b (name ∷ rest) rest) f)))
    ∙ ap (λ l. names ++ filter is_service l) (sym (name-front entries n name is))

-- no pam.conf names no services
pub single-none : (folder : Folder) → folder.form ≡ Single → option_map (good_rules folder.form) (bytes_at 0 folder.entries) ≡ None →
    services_in folder.form folder.entries ≡ []
single-none folder single none =
    let absent : (o : Option (List ℕ)) → option_map (good_rules folder.form) o ≡ None → good_rules Single (unwrap_or o []) ≡ [] = no_bytes folder.form in
    ap (λ form. services_in form folder.entries) single
    ∙ ap (λ (rules : List RuleText). each_once (filter_map (λ rule. rule.service) rules)) (absent (bytes_at 0 folder.entries) none)

-- A SOUND SURVEY

pub nothing : {X : Type 0} (xs : List X) → length xs ≡ 0 → xs ≡ []
nothing [] h = refl
nothing (x ∷ xs) h = absurd (omega (arith, h))

pub sound-more : {X : Type 0} (P : X → Type 0) (xs : List X) (n : ℕ) (d : X) → n < length xs → All P (take n xs) → P (get_or xs n d) → All P (take (n + 1) xs)
sound-more P xs n d h so_far one =
    subst (All P) (sym (take_more xs n d h)) (All-push P (take n xs) (get_or xs n d) so_far one)

pub sound-end : {X : Type 0} (P : X → Type 0) (xs : List X) (n : ℕ) → length xs ≤ n → All P (take n xs) → All P xs
sound-end P xs n h all = subst (All P) (take_all n xs h) all
