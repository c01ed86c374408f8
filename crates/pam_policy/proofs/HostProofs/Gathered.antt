-- The places of a host, one after another.
use Rattle.std.proofs.Common.{◌≡◌, ◌∙◌, ◌++◌, ◌+◌, ℕ, zero, suc, List, [], ◌∷◌, Option, Some, None, ap, arith, length, map, refl, slice_get, subst, sym}
use Rattle.std.proofs.Common.{◌<◌, Bor, append-nil, append_assoc, get_or, unwrap_or}
use Rattle.std.proofs.lemmas.List.{length-map, map-append}
use Rattle.std.proofs.lemmas.List.Elements.{All-nil, All-weaker}
use Rattle.std.specs.Prelude.{All, IfErr, Result, Ok, Err}
use Rattle.pam_conf.specs.Files.{Folder}
use Rattle.pam_conf.specs.Laws.{IsSound, StackIsSoundSurvey}
use Rattle.pam_conf.specs.Resolution.{resolved}
use Rattle.pam_conf.specs.Stack.{Items, module_count}
use Rattle.pam_conf.specs.Survey.{SurveyText, surveyed}
use Rattle.pam_conf.specs.declared.conf_error.ConfError.{ConfError}
use Rattle.pam_conf.specs.declared.rule.Kind.{Kind}
use Rattle.pam_facts.specs.known.Knowledge.{Agree, Knows, allows_codes}
use Rattle.pam_paths.specs.Known.{may_answer}
use Rattle.pam_policy.specs.declared.host.classes.Answered.{Answered}
use Rattle.pam_policy.specs.declared.host.error.StacksError.{StacksError}
use Rattle.pam_policy.specs.declared.host.error.StacksError.TheVariants as errors
use Rattle.pam_policy.specs.declared.host.finding_stacks.Found.{Found}
use Rattle.pam_policy.specs.declared.host.stacks.ClassStack.{ClassStack}
use Rattle.pam_policy.specs.declared.host.stacks.ClassStack.TheVariants as classes
use Rattle.pam_policy.specs.declared.host.stacks.HostPlace.{HostPlace}
use Rattle.pam_policy.specs.declared.host.stacks.StackClass.{StackClass}
use Rattle.pam_policy.specs.host.Answers.{answers_of}
use Rattle.pam_policy.specs.host.HostStacks.{HasClass, IsClassAt, IsClassOf, IsErrorAmong, IsErrorAt, IsOfAnswers, IsStackOf, WhyNoStacks}
use Rattle.pam_policy.specs.host.HostStacks.{place_of, places_from, service_places}
use Rattle.pam_policy.specs.host.Sources.{SourcesText}
use Rattle.pam_policy.specs.host.inner.Classes.{Adds, AreFound, Holds, HoldsAt, HoldsIn, IsGathered, Keeps, Refuses, RefusesAt}
use Rattle.pam_policy.proofs.HostProofs.Answered.{agree-trans}
use Rattle.pam_policy.proofs.HostProofs.Found.{all-pushed}

-- THE STACK OF A SURVEY without a fault

pub sound-stack : StackIsSoundSurvey → (rules folder : Folder) → rules ≡ folder →
    (name : List ℕ) (kind : Kind) (s : SurveyText) → s ≡ surveyed rules name kind →
    (items : Items) → s.items ≡ Some items → IsSound rules s → Ok items ≡ resolved folder name kind
sound-stack law rules folder same name kind s is items there sound =
    subst (λ (f : Folder). Ok items ≡ resolved f name kind) same
    (sym ((law rules name kind items).1 (subst (λ (t : SurveyText). (t.items ≡ Some items) × IsSound rules t) is (there, sound))))

-- THE CLASS OF A STACK

module _ (sources : SourcesText) (name : List ℕ) (kind : Kind) where
  of-answers : (answered : Answered) (codes : ℕ → List ℕ) → Agree (module_count answered.stack) (may_answer answered.known) (allows_codes codes) →
      (stack : ClassStack) → HoldsIn answered stack → IsOfAnswers answered.stack codes stack
  of-answers answered codes agree (classes.Refused fault) h = h
  of-answers answered codes agree classes.TooLarge h = record {
    stack = h.other.stack;
    program = h.large.program;
    allows = may_answer h.other.known;
    same = h.same;
    runs = h.large.runs;
    agree = agree-trans (module_count answered.stack) (may_answer h.other.known) (may_answer answered.known) (allows_codes codes) h.agree agree;
    more = h.large.more;
  }
  of-answers answered codes agree (classes.Known known) h = record {
    same = h.same;
    agree = agree-trans (module_count answered.stack) (may_answer known.known) (may_answer answered.known) (allows_codes codes) h.agree agree;
    graph = h.graph;
  }

  pub accepted : (answered : Answered) → answered.kind ≡ kind → resolved sources.folder name kind ≡ Ok answered.stack →
      Knows (module_count answered.stack) (Ok answered.known) (answers_of sources name kind answered.stack) →
      (class : StackClass) → Holds answered class → IsClassOf sources name kind class
  accepted answered same is known class holds = record {
    kind_is = holds.kind_is ∙ same;
    stack = subst (λ (r : Result Items ConfError). IsStackOf sources name kind r class.stack) (sym is) (record {
      answers = known.0;
      are_answers = known.1;
      is_of = of-answers answered known.0 known.2 class.stack holds.stack;
    });
  }

  pub accepted-at : (answered : Answered) → answered.kind ≡ kind → resolved sources.folder name kind ≡ Ok answered.stack →
      Knows (module_count answered.stack) (Ok answered.known) (answers_of sources name kind answered.stack) →
      (class : Option StackClass) → HoldsAt answered class → IsClassAt sources name kind class
  accepted-at answered same is known None h = h
  accepted-at answered same is known (Some class) h = accepted answered same is known class h

  pub refused : (fault : ConfError) → resolved sources.folder name kind ≡ Err fault → (class : StackClass) → Refuses kind fault class →
      IsClassOf sources name kind class
  refused fault is class refuses = record {
    kind_is = refuses.kind_is;
    stack = subst (λ (r : Result Items ConfError). IsStackOf sources name kind r class.stack) (sym is)
        (subst (IsStackOf sources name kind (Err fault)) (sym refuses.stack) refl);
  }

  pub refused-at : (fault : ConfError) → resolved sources.folder name kind ≡ Err fault → (class : Option StackClass) → RefusesAt kind fault class →
      IsClassAt sources name kind class
  refused-at fault is None h = h
  refused-at fault is (Some class) h = refused fault is class h

-- PLACES

class-kept : (sources : SourcesText) (name : List ℕ) (kind : Kind) (before after : Option StackClass) →
    ((class : StackClass) → before ≡ Some class → after ≡ Some class) → IsClassAt sources name kind before → IsClassAt sources name kind after
class-kept sources name kind None after keeps h = absurd h
class-kept sources name kind (Some class) after keeps h = subst (IsClassAt sources name kind) (sym (keeps class refl)) h

place-kept : (sources : SourcesText) (names : List (List ℕ)) (before after : List StackClass) → Keeps before after → (place : HostPlace) →
    HasClass sources names before place → HasClass sources names after place
unfolding Keeps
place-kept sources names before after keeps place h =
    class-kept sources (unwrap_or (slice_get names place.service) []) place.kind (slice_get before place.class) (slice_get after place.class)
    (keeps place.class) h

-- one more place
pub gathered-more : (sources : SourcesText) (names : List (List ℕ)) (asked : List (ℕ × Kind)) (before after : Found) (place : HostPlace) (name : List ℕ) →
    slice_get names place.service ≡ Some name → Adds before.classes after.classes →
    (AreFound before.classes → IsClassAt sources name place.kind (slice_get after.classes.classes.items place.class)) →
    after.places.items ≡ before.places.items ++ place ∷ [] → IsGathered sources names asked before →
    IsGathered sources names (asked ++ place_of place ∷ []) after
gathered-more sources names asked before after place name there adds class pushed so =
    let P : HostPlace → Type 0 = HasClass sources names after.classes.classes.items in
    let named : unwrap_or (slice_get names place.service) [] ≡ name = ap (λ (o : Option (List ℕ)). unwrap_or o []) there in
    let this : P place =
    subst (λ (n : List ℕ). IsClassAt sources n place.kind (slice_get after.classes.classes.items place.class)) (sym named) (class so.are_found) in
    let earlier : All P before.places.items =
    All-weaker (HasClass sources names before.classes.classes.items) P
    (place-kept sources names before.classes.classes.items after.classes.classes.items adds.keeps) before.places.items so.places in
    record {
      order = ap (map place_of) pushed
          ∙ map-append place_of before.places.items (place ∷ [])
          ∙ ap (λ (l : List (ℕ × Kind)). l ++ place_of place ∷ []) so.order;
      places = all-pushed P before.places.items after.places.items place pushed earlier this;
      are_found = adds.found so.are_found;
    }

pub four-more : {X : Type 0} (xs : List X) (a b c d : X) → (((xs ++ a ∷ []) ++ b ∷ []) ++ c ∷ []) ++ d ∷ [] ≡ xs ++ a ∷ b ∷ c ∷ d ∷ []
four-more [] a b c d = refl
four-more (x ∷ xs) a b c d = ap (λ l. x ∷ l) (four-more xs a b c d)

pub gathered-none : (sources : SourcesText) (names : List (List ℕ)) (found : Found) → found.places.items ≡ [] → AreFound found.classes →
    IsGathered sources names (places_from 0 0) found
unfolding places_from
gathered-none sources names found none so = record {
  order = ap (map place_of) none;
  places = subst (All (HasClass sources names found.classes.classes.items)) (sym none) (All-nil (HasClass sources names found.classes.classes.items));
  are_found = so;
}

from-more : (first n : ℕ) → places_from first n ++ service_places (first + n) ≡ places_from first (suc n)
unfolding places_from
from-more first zero =
    let same : first + 0 ≡ first = omega arith in
    ap service_places same ∙ sym (append-nil (service_places first))
from-more first (suc n) =
    let same : first + suc n ≡ (first + 1) + n = omega arith in
    append_assoc (service_places first) (places_from (first + 1) n) (service_places (first + suc n))
    ∙ ap (λ (m : ℕ). service_places first ++ (places_from (first + 1) n ++ service_places m)) same
    ∙ ap (λ (l : List (ℕ × Kind)). service_places first ++ l) (from-more (first + 1) n)

-- the places so far, and those of one more service
pub places-more : (n : ℕ) → places_from 0 n ++ service_places n ≡ places_from 0 (n + 1)
places-more n =
    let same : n ≡ 0 + n = omega arith in
    let next : suc n ≡ n + 1 = omega arith in
    ap (λ (m : ℕ). places_from 0 n ++ service_places m) same ∙ from-more 0 n ∙ ap (places_from 0) next

-- an error at a service is one among all
pub among : (sources : SourcesText) (names : List (List ℕ)) (service : ℕ) (name : List ℕ) (kind : Kind) (error : StacksError) →
    slice_get names service ≡ Some name → IsErrorAt sources name kind error → IsErrorAmong sources names error
among sources names service name kind error there is = record { service = service; name = name; kind = kind; there = there; is_error = is }

pub among-if : {T : Type 0} (sources : SourcesText) (names : List (List ℕ)) (service : ℕ) (name : List ℕ) (kind : Kind) (result : Result T StacksError) →
    slice_get names service ≡ Some name → IfErr result (IsErrorAt sources name kind) → IfErr result (IsErrorAmong sources names)
among-if sources names service name kind (Ok x) there is = tt
among-if sources names service name kind (Err error) there is = among sources names service name kind error there is

-- the service at a position
pub got-named : {X Y : Type 0} (f : X → Y) (xs : List X) (i : ℕ) (d : X) → i < length xs → slice_get (map f xs) i ≡ Some (f (get_or xs i d))
got-named f [] i d within = absurd (omega (arith, within))
got-named f (x ∷ xs) zero d within = refl
got-named f (x ∷ xs) (suc i) d within = got-named f xs i d (omega (arith, within))

-- what is found of all services
pub of-all : (sources : SourcesText) (names : List (Bor (List ℕ))) (services : List (List ℕ)) (found : Found) → map (λ name. name.now) names ≡ services →
    IsGathered sources (map (λ name. name.now) names) (places_from 0 (length names)) found →
    IsGathered sources services (places_from 0 (length services)) found
of-all sources names services found same so =
    let count : length names ≡ length services =
    sym (length-map names (λ (name : Bor (List ℕ)). name.now)) ∙ ap (λ (l : List (List ℕ)). length l) same in
    subst (λ (n : ℕ). IsGathered sources services (places_from 0 n) found) count
    (subst (λ (l : List (List ℕ)). IsGathered sources l (places_from 0 (length names)) found) same so)

-- why there are no stacks
pub why-none : (sources : SourcesText) (services : List (List ℕ)) (error : StacksError) → IsErrorAmong sources services error →
    WhyNoStacks sources services error
why-none sources services (errors.Known fault) is = is
why-none sources services errors.Memory is = tt
