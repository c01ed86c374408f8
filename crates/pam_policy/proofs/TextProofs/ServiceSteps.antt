-- The tokens of services, and the names of kinds, one after another.
use Rattle.std.proofs.Common.{◌≡◌, ◌∙◌, ◌+◌, ◌<◌, ◌++◌, ◌==◌, ◌&&◌, ◌||◌, ℕ, Bool, true, false, not, List, [], ◌∷◌, Option, Some, None, Ok, Err}
use Rattle.std.proofs.Common.{Bor, ap, append-nil, arith, cond, drop, eqb, filter, get_or, length, map, refl, suc, sym}
use Rattle.std.specs.List.{list_all, list_any}
use Rattle.std.specs.Option.{option_map}
use Rattle.std.proofs.lemmas.List.{drop_all, drop_more, length-append, map-append}
use Rattle.std.proofs.lemmas.List.Folds.{list_all-append, list_all_at}
use Rattle.pam_conf.specs.Rule.{kind_named}
use Rattle.pam_conf.specs.declared.rule.Kind.{Kind}
use Rattle.pam_facts.specs.Kinds.{no_kinds, with_kind}
use Rattle.pam_facts.specs.declared.kinds.Kinds.{Kinds}
use Rattle.pam_facts.proofs.KindSteps.{at_end, both, found_with, no_kind, one_more as one_kind_more}
use Rattle.pam_tables.specs.Lines.{has_bytes}
use Rattle.pam_text.proofs.TextSteps.{unequal}
use Rattle.pam_policy.specs.declared.text.error.PolicyFault.{PolicyFault}
use Rattle.pam_policy.specs.declared.text.error.PolicyFault.TheVariants.{BadServices}
use Rattle.pam_policy.specs.text.Services.{ServicesText, fits, is_name, leaves_out, name_fits, services_of, services_of_tokens, token_name, tokens_in}
use Rattle.pam_policy.specs.text.inner.Services.{and_token, with_token}

-- the byte at which words are split
abbrev pub is_comma : ℕ → Bool
is_comma b = b == 44

abbrev pub is_token : List ℕ → Bool
is_token token = is_name (token_name token)

abbrev pub wants : List ℕ → Bool
wants token = not (leaves_out token)

pub bytes_there : (text : List ℕ) → has_bytes text ≡ not (eqb (length text) 0)
bytes_there [] = refl
bytes_there (b ∷ bs) = ap not (sym (unequal (length (b ∷ bs)) 0 (λ e. absurd (omega (arith, e)))))

-- one of these names fits a service
pub any_of_map : (p : List ℕ → Bool) (names : List (Bor (List ℕ))) → list_any p (map (λ name. name.now) names) ≡ list_any (λ name. p name.now) names
any_of_map p [] = refl
any_of_map p (name ∷ names) = ap (λ (t : Bool). p name.now || t) (any_of_map p names)

pub as_many : (names : List (Bor (List ℕ))) → length (map (λ name. name.now) names) ≡ length names
as_many [] = refl
as_many (name ∷ names) = ap suc (as_many names)

pub fits_by : (wanted unwanted : List (Bor (List ℕ))) (service : List ℕ) (a b : Bool) → a ≡ list_any (λ name. name_fits name.now service) wanted
    → b ≡ list_any (λ name. name_fits name.now service) unwanted
    → (a && not b) ≡ fits record { wanted = map (λ name. name.now) wanted; unwanted = map (λ name. name.now) unwanted } service
unfolding fits
fits_by wanted unwanted service a b h k =
    let p : List ℕ → Bool = λ name. name_fits name service in
    ap (λ (t : Bool). t && not b) (h ∙ sym (any_of_map p wanted))
    ∙ ap (λ (t : Bool). list_any p (map (λ name. name.now) wanted) && not t) (k ∙ sym (any_of_map p unwanted))

-- the services so far are those of the tokens so far
pub record AreOf (services : ServicesText) (tokens : List (List ℕ)) : Type 0 where
  pub wanted : services.wanted ≡ filter wants tokens
  pub unwanted : services.unwanted ≡ map (drop 1) (filter leaves_out tokens)
  pub named : list_all is_token tokens ≡ true

filter-append : (p : List ℕ → Bool) (xs : List (List ℕ)) (x : List ℕ) → filter p (xs ++ x ∷ []) ≡ filter p xs ++ cond (p x) (x ∷ []) []
filter-append p [] x = elim (p x) as (λ (t : Bool). cond t (x ∷ []) [] ≡ cond t (x ∷ []) []) [ true ↦ refl | false ↦ refl ]
filter-append p (y ∷ ys) x =
    elim (p y) as (λ (t : Bool). cond t (y ∷ filter p (ys ++ x ∷ [])) (filter p (ys ++ x ∷ []))
    ≡ cond t (y ∷ filter p ys) (filter p ys) ++ cond (p x) (x ∷ []) []) [
      | true ↦ ap (λ (zs : List (List ℕ)). y ∷ zs) (filter-append p ys x)
      | false ↦ filter-append p ys x
    ]

record IsAdded (services new : ServicesText) (token : List ℕ) : Type 0 where
  is : is_token token ≡ true
  put : new ≡ and_token services token

added : (services new : ServicesText) (token : List ℕ) → with_token services token ≡ Ok new → IsAdded services new token
unfolding with_token
added services new token h = by_name (is_token token) refl h
  where
    by_name : (t : Bool) → is_token token ≡ t → cond t (Ok (and_token services token)) (Err BadServices) ≡ Ok new → IsAdded services new token
    by_name true e g = record { is = e; put = cc }
    by_name false e g = absurd (cc)

kept : (services : ServicesText) (tokens : List (List ℕ)) (token : List ℕ) (t : Bool) → leaves_out token ≡ t → AreOf services tokens
    → list_all is_token (tokens ++ token ∷ []) ≡ true
    → AreOf (cond t (record services { unwanted = services.unwanted ++ drop 1 token ∷ [] }) (record services { wanted = services.wanted ++ token ∷ [] }))
    (tokens ++ token ∷ [])
kept services tokens token true e before all = record {
  wanted = before.wanted ∙ sym (append-nil (filter wants tokens))
      ∙ ap (λ (t : Bool). filter wants tokens ++ cond (not t) (token ∷ []) []) (sym e)
      ∙ sym (filter-append wants tokens token);
  unwanted = ap (λ (ts : List (List ℕ)). ts ++ drop 1 token ∷ []) before.unwanted
      ∙ sym (map-append (drop 1) (filter leaves_out tokens) (token ∷ []))
      ∙ ap (λ (t : Bool). map (drop 1) (filter leaves_out tokens ++ cond t (token ∷ []) [])) (sym e)
      ∙ ap (map (drop 1)) (sym (filter-append leaves_out tokens token));
  named = all;
}
kept services tokens token false e before all = record {
  wanted = ap (λ (ts : List (List ℕ)). ts ++ token ∷ []) before.wanted
      ∙ ap (λ (t : Bool). filter wants tokens ++ cond (not t) (token ∷ []) []) (sym e)
      ∙ sym (filter-append wants tokens token);
  unwanted = before.unwanted ∙ ap (map (drop 1)) (sym (append-nil (filter leaves_out tokens))
      ∙ ap (λ (t : Bool). filter leaves_out tokens ++ cond t (token ∷ []) []) (sym e)
      ∙ sym (filter-append leaves_out tokens token));
  named = all;
}

pub one_token_more : (services new : ServicesText) (tokens : List (List ℕ)) (token : List ℕ) → AreOf services tokens → with_token services token ≡ Ok new
    → AreOf new (tokens ++ token ∷ [])
one_token_more services new tokens token before h =
    let this = added services new token h in
    let all : list_all is_token (tokens ++ token ∷ []) ≡ true =
    list_all-append is_token tokens (token ∷ []) ∙ ap (λ (t : Bool). t && (is_token token && true)) before.named ∙ ap (λ (t : Bool). t && true) this.is in
    rw this.put (kept services tokens token (leaves_out token) refl before all)

bad : (services : ServicesText) (token : List ℕ) (fault : PolicyFault) → with_token services token ≡ Err fault
    → (is_token token ≡ false) × (fault ≡ BadServices)
unfolding with_token
bad services token fault h = by_name (is_token token) refl h
  where
    by_name : (t : Bool) → is_token token ≡ t → cond t (Ok (and_token services token)) (Err BadServices) ≡ Err fault
        → (is_token token ≡ false) × (fault ≡ BadServices)
    by_name true e g = absurd (cc)
    by_name false e g = (e, cc)

pub bad_token : (services : ServicesText) (word : List ℕ) (i : ℕ) (token : List ℕ) (fault : PolicyFault) → i < length (tokens_in word)
    → token ≡ get_or (tokens_in word) i token → with_token services token ≡ Err fault → services_of word ≡ Err fault
unfolding services_of
bad_token services word i token fault inside is h =
    let all = tokens_in word in
    let this = bad services token fault h in
    let here : is_token (get_or all i token) ≡ false = ap is_token (sym is) ∙ this.0 in
    let none : list_all is_token all ≡ false = list_all_at is_token all i token inside here in
    rw none (ap Err (sym this.1))

-- whether some token is wanted
some_wanted : (tokens : List (List ℕ)) → list_any wants tokens ≡ not (eqb (length (filter wants tokens)) 0)
some_wanted [] = refl
some_wanted (token ∷ tokens) =
    elim (wants token) as (λ (t : Bool). (t || list_any wants tokens)
    ≡ not (eqb (length (cond t (token ∷ filter wants tokens) (filter wants tokens))) 0)) [
      | true ↦ ap not (sym (unequal (length (token ∷ filter wants tokens)) 0 (λ e. absurd (omega (arith, e)))))
      | false ↦ some_wanted tokens
    ]

module _ (services : ServicesText) (word : List ℕ) (tokens : List (List ℕ)) (are : AreOf services tokens) (whole : tokens ≡ tokens_in word) where
  wanted_there : (t : Bool) → eqb (length services.wanted) 0 ≡ t → list_any wants tokens ≡ not t
  wanted_there t e = some_wanted tokens ∙ ap not (ap (λ (ts : List (List ℕ)). eqb (length ts) 0) (sym are.wanted) ∙ e)

  pub services_read : eqb (length services.wanted) 0 ≡ false → services_of word ≡ Ok services
  unfolding services_of
  services_read e =
      ap services_of_tokens (sym whole)
      ∙ ap (λ (t : Bool). cond (t && list_any wants tokens)
      (Ok record { wanted = filter wants tokens; unwanted = map (drop 1) (filter leaves_out tokens) }) (Err BadServices)) are.named
      ∙ ap (λ (t : Bool). cond t (Ok record { wanted = filter wants tokens; unwanted = map (drop 1) (filter leaves_out tokens) }) (Err BadServices))
      (wanted_there false e)
      ∙ ap (λ (ts : List (List ℕ)). Ok record { wanted = ts; unwanted = map (drop 1) (filter leaves_out tokens) }) (sym are.wanted)
      ∙ ap (λ (ts : List (List ℕ)). Ok record { wanted = services.wanted; unwanted = ts }) (sym are.unwanted)

  pub none_wanted : eqb (length services.wanted) 0 ≡ true → services_of word ≡ Err BadServices
  unfolding services_of
  none_wanted e =
      ap services_of_tokens (sym whole)
      ∙ ap (λ (t : Bool). cond (t && list_any wants tokens)
      (Ok record { wanted = filter wants tokens; unwanted = map (drop 1) (filter leaves_out tokens) }) (Err BadServices)) are.named
      ∙ ap (λ (t : Bool). cond t (Ok record { wanted = filter wants tokens; unwanted = map (drop 1) (filter leaves_out tokens) }) (Err BadServices))
      (wanted_there true e)

pub none_yet : (services : ServicesText) → services.wanted ≡ [] → services.unwanted ≡ [] → AreOf services []
none_yet services wanted unwanted = record { wanted = wanted; unwanted = unwanted; named = refl }

-- ---- kinds

pub kinds_begin : (o : Option Kinds) → option_map (both no_kinds) o ≡ o
kinds_begin None = refl
kinds_begin (Some kinds) = refl

-- the names that are seen, and the one that comes next
module _ (names : List (List ℕ)) (seen : List (Bor (List ℕ))) (name : Bor (List ℕ)) (kinds : Kinds) (all : Option Kinds)
    (within : length seen < length names) (is : name.now ≡ get_or names (length seen) name.now)
    (same : found_with kinds (drop (length seen) names) ≡ all) where
  next : drop (length seen) names ≡ name.now ∷ drop (length (seen ++ name ∷ [])) names
  next = drop_more names (length seen) name.now within
      ∙ ap (λ (n : List ℕ). n ∷ drop (length seen + 1) names) (sym is)
      ∙ ap (λ (n : ℕ). name.now ∷ drop n names) (sym (length-append seen (name ∷ [])))

  pub kind_read : (kind : Kind) → Some kind ≡ kind_named name.now → found_with (with_kind kind kinds) (drop (length (seen ++ name ∷ [])) names) ≡ all
  kind_read kind named = one_kind_more kind kinds _ _ name.now next named ∙ same

  pub no_kind_read : None ≡ kind_named name.now → None ≡ all
  no_kind_read none = no_kind kinds _ _ name.now next none ∙ same

pub kinds_end : (names : List (List ℕ)) (n : ℕ) (kinds : Kinds) (all : Option Kinds) → n ≡ length names → found_with kinds (drop n names) ≡ all
    → Some kinds ≡ all
kinds_end names n kinds all whole same = at_end kinds _ (drop_all n names (omega (arith, whole))) ∙ same
