-- Stacks that are compared, one after another.
use Rattle.std.proofs.Common.{◌≡◌, ◌∙◌, ℕ, ◌+◌, List, [], ◌∷◌, ◌++◌, length, map, subst, false, true, inl, inr, sym, ap, refl, suc, zero}
use Rattle.std.proofs.Common.{Option, Some, None, slice_get}
use Rattle.std.proofs.Common.{append-nil, append_assoc, arith}
use Rattle.std.proofs.lemmas.Bool.{cases_Bool, eqb-true}
use Rattle.std.proofs.lemmas.List.{length-map, map-append}
use Rattle.std.proofs.lemmas.List.Elements.{All-append, All-from_recursion, All-nil, All-weaker}
use Rattle.std.specs.List.{All}
use Rattle.std.specs.Prelude.{◌==◌, Result, Ok, Err, unwrap_or}
use Rattle.pam_conf.specs.Files.{Folder}
use Rattle.pam_conf.specs.Laws.{IsSound, StackIsSoundSurvey}
use Rattle.pam_conf.specs.Resolution.{resolved}
use Rattle.pam_conf.specs.Stack.{Items}
use Rattle.pam_conf.specs.Survey.{SurveyText, surveyed}
use Rattle.pam_conf.specs.declared.conf_error.ConfError.{ConfError}
use Rattle.pam_conf.specs.declared.rule.Kind.{Kind}
use Rattle.pam_changes.specs.Changes.{AreChanges, AreEqual, AreToldFirst, IsChange, IsOfPair, IsStack, fault_in, is_of_pair, kinds_asked, stacks_asked}
use Rattle.pam_changes.specs.inner.Finding.{AddsPairs, HasItemsAt, IsFound, KeepsPairs, TellsNew, asked_of}
use Rattle.pam_changes.specs.Pairs.{IsPair}
use Rattle.pam_compare.specs.Same.{same_items}
use Rattle.pam_changes.specs.Services.{ServiceText, compared_names, compared_services, presence_in, service_text, services_of}
use Rattle.pam_changes.specs.Sides.{SidesText}
use Rattle.pam_changes.specs.declared.changes.HostChanges.{HostChanges}
use Rattle.pam_changes.specs.declared.services.ComparedService.{ComparedService}
use Rattle.pam_changes.specs.declared.pair.StackPair.{StackPair}
use Rattle.pam_changes.specs.declared.stacks.ComparedStack.{ComparedStack}
use Rattle.pam_changes.specs.declared.stacks.Found.{Found}
use Rattle.pam_changes.specs.declared.stacks.StackChange.{StackChange}
use Rattle.pam_changes.specs.declared.stacks.StackChange.TheVariants as changes
use Rattle.pam_compare.proofs.SameItems.{same-self}
use Rattle.pam_changes.proofs.Told.{none-is, some-is, told-more, told-nothing}

-- THE STACK OF A SURVEY without a fault
pub sound-stack : StackIsSoundSurvey → (rules folder : Folder) → rules ≡ folder →
    (name : List ℕ) (kind : Kind) (s : SurveyText) → s ≡ surveyed rules name kind →
    (items : Items) → s.items ≡ Some items → IsSound rules s → Ok items ≡ resolved folder name kind
sound-stack law rules folder same name kind s is items there sound =
    subst (λ (f : Folder). Ok items ≡ resolved f name kind) same
    (sym ((law rules name kind items).1 (subst (λ (t : SurveyText). (t.items ≡ Some items) × IsSound rules t) is (there, sound))))

-- FAULTS

pub fault-is : (fault : ConfError) (r : Result Items ConfError) → Some fault ≡ fault_in r → r ≡ Err fault
fault-is fault (Ok items) e = absurd (none-is fault (sym e))
fault-is fault (Err other) e = ap (λ (f : ConfError). Err f) (sym (some-is fault other e))

-- PAIRS

pub keeps-more : (pairs : List StackPair) (pair : StackPair) → KeepsPairs pairs (pairs ++ pair ∷ [])
unfolding KeepsPairs
keeps-more [] pair k p at = absurd (none-is p at)
keeps-more (q ∷ pairs) pair zero p at = at
keeps-more (q ∷ pairs) pair (suc k) p at = keeps-more pairs pair k p at

last-there : (pairs : List StackPair) (pair : StackPair) → slice_get (pairs ++ pair ∷ []) (length pairs) ≡ Some pair
last-there [] pair = refl
last-there (q ∷ pairs) pair = last-there pairs pair

pub last-at : (before after : List StackPair) (pair : StackPair) (k : ℕ) → after ≡ before ++ pair ∷ [] → k ≡ length before →
    slice_get after k ≡ Some pair
last-at before after pair k pushed end =
    ap (λ (l : List StackPair). slice_get l k) pushed
    ∙ ap (slice_get (before ++ pair ∷ [])) end
    ∙ last-there before pair

pub adds-none : (sides : SidesText) (found : Found) → AddsPairs sides found found
unfolding KeepsPairs
adds-none sides found = record { keeps = λ k p at. at; stacks = refl; pairs = λ all. all }

pub adds-one : (sides : SidesText) (before after : Found) (pair : StackPair) → after.pairs.items ≡ before.pairs.items ++ pair ∷ [] →
    after.stacks.items ≡ before.stacks.items → IsPair sides pair → AddsPairs sides before after
adds-one sides before after pair pushed same is = record {
  keeps = subst (KeepsPairs before.pairs.items) (sym pushed) (keeps-more before.pairs.items pair);
  stacks = same;
  pairs = λ all. subst (All (IsPair sides)) (sym pushed)
      (All-append (IsPair sides) before.pairs.items (pair ∷ []) all (All-from_recursion (IsPair sides) (pair ∷ []) (is, tt)));
}

pub has-items : (kind : Kind) (old new : Items) (pair : StackPair) (at : Option StackPair) → at ≡ Some pair → pair.kind ≡ kind → pair.old ≡ old →
    pair.new ≡ new → HasItemsAt kind old new at
has-items kind old new pair at is k o n =
    subst (HasItemsAt kind old new) (sym is) (record {
      kind_is = k;
      old_same = subst (λ (x : Items). same_items pair.old x ≡ true) o (same-self pair.old);
      new_same = subst (λ (x : Items). same_items pair.new x ≡ true) n (same-self pair.new);
    })

-- CHANGES

pub differs : (sides : SidesText) (pairs : List StackPair) (kind : Kind) (old new : Items) (k : ℕ) → (AreEqual sides old new → ⊥) →
    HasItemsAt kind old new (slice_get pairs k) → IsChange sides pairs kind (Ok old) (Ok new) (changes.Differs k)
differs sides pairs kind old new k other has = record { old = old; new = new; old_is = refl; new_is = refl; holds = at (slice_get pairs k) has }
  where
    at : (o : Option StackPair) → HasItemsAt kind old new o → IsOfPair sides kind o old new
    at None h = h
    at (Some pair) h = (other, h)

kept-at : (sides : SidesText) (kind : Kind) (before after : Option StackPair) (old new : Items) → ((p : StackPair) → before ≡ Some p → after ≡ Some p) →
    IsOfPair sides kind before old new → IsOfPair sides kind after old new
kept-at sides kind None after old new keeps h = absurd h
kept-at sides kind (Some p) after old new keeps h = subst (λ (o : Option StackPair). IsOfPair sides kind o old new) (sym (keeps p refl)) h

kept-change : (sides : SidesText) (before after : List StackPair) → KeepsPairs before after → (kind : Kind) (one other : Result Items ConfError)
    (change : StackChange) → IsChange sides before kind one other change → IsChange sides after kind one other change
unfolding KeepsPairs
kept-change sides before after keeps kind one other changes.NoStack h = h
kept-change sides before after keeps kind one other (changes.Refused old new) h = h
kept-change sides before after keeps kind one other changes.Same h = h
kept-change sides before after keeps kind one other (changes.Differs k) h = record {
  old = h.old;
  new = h.new;
  old_is = h.old_is;
  new_is = h.new_is;
  holds = kept-at sides kind (slice_get before k) (slice_get after k) h.old h.new (keeps k) h.holds;
}

pub kept-stack : (sides : SidesText) (names : List (List ℕ)) (before after : List StackPair) → KeepsPairs before after → (s : ComparedStack) →
    IsStack sides names before s → IsStack sides names after s
kept-stack sides names before after keeps s h =
    let name = unwrap_or (slice_get names s.service) [] in
    kept-change sides before after keeps s.kind (resolved sides.old.folder name s.kind) (resolved sides.new.folder name s.kind) s.change h

-- no stack is of a pair that is not there
not-of-pair : (sides : SidesText) (pairs : List StackPair) (k : ℕ) → slice_get pairs k ≡ None → (kind : Kind) (one other : Result Items ConfError)
    (change : StackChange) → IsChange sides pairs kind one other change → is_of_pair k change ≡ false
not-of-pair sides pairs k gone kind one other changes.NoStack h = refl
not-of-pair sides pairs k gone kind one other (changes.Refused old new) h = refl
not-of-pair sides pairs k gone kind one other changes.Same h = refl
not-of-pair sides pairs k gone kind one other (changes.Differs j) h = elim (cases_Bool (j == k)) [
  | inl t ↦
      absurd (subst (λ (o : Option StackPair). IsOfPair sides kind o h.old h.new) (ap (slice_get pairs) (eqb-true j k t) ∙ gone) h.holds)
  | inr f ↦ f
]

none-of-pair : (sides : SidesText) (names : List (List ℕ)) (pairs : List StackPair) (stacks : List ComparedStack) →
    All (IsStack sides names pairs) stacks → (k : ℕ) → slice_get pairs k ≡ None → All (λ s. is_of_pair k s.change ≡ false) stacks
none-of-pair sides names pairs stacks all k gone =
    All-weaker (IsStack sides names pairs) (λ s. is_of_pair k s.change ≡ false)
    (λ s h.
    let name = unwrap_or (slice_get names s.service) [] in
    not-of-pair sides pairs k gone s.kind (resolved sides.old.folder name s.kind) (resolved sides.new.folder name s.kind) s.change h)
    stacks all

-- one more stack
pub found-more : (sides : SidesText) (names : List (List ℕ)) (asked : List (ℕ × Kind)) (before middle after : Found) (s : ComparedStack) (name : List ℕ) →
    slice_get names s.service ≡ Some name → AddsPairs sides before middle →
    IsChange sides middle.pairs.items s.kind (resolved sides.old.folder name s.kind) (resolved sides.new.folder name s.kind) s.change →
    TellsNew before.pairs.items s.service s.change middle.pairs.items → after.pairs.items ≡ middle.pairs.items →
    after.stacks.items ≡ middle.stacks.items ++ s ∷ [] → IsFound sides names asked before →
    IsFound sides names (asked ++ asked_of s ∷ []) after
found-more sides names asked before middle after s name there adds is tells pairs pushed found =
    let stacks : after.stacks.items ≡ before.stacks.items ++ s ∷ [] = pushed ∙ ap (λ (l : List ComparedStack). l ++ s ∷ []) adds.stacks in
    let this : IsStack sides names middle.pairs.items s =
    subst (λ (n : List ℕ). IsChange sides middle.pairs.items s.kind (resolved sides.old.folder n s.kind) (resolved sides.new.folder n s.kind) s.change)
    (sym (ap (λ (o : Option (List ℕ)). unwrap_or o []) there)) is in
    let P : ComparedStack → Type 0 = IsStack sides names middle.pairs.items in
    let all : All P (before.stacks.items ++ s ∷ []) =
    All-append P before.stacks.items (s ∷ [])
    (All-weaker (IsStack sides names before.pairs.items) P
    (kept-stack sides names before.pairs.items middle.pairs.items adds.keeps) before.stacks.items found.stacks)
    (All-from_recursion P (s ∷ []) (this, tt)) in
    record {
      order = ap (map asked_of) stacks ∙ map-append asked_of before.stacks.items (s ∷ []) ∙ ap (λ (l : List (ℕ × Kind)). l ++ asked_of s ∷ []) found.order;
      stacks = subst (λ (l : List StackPair). All (IsStack sides names l) after.stacks.items) (sym pairs) (subst (All P) (sym stacks) all);
      pairs = subst (All (IsPair sides)) (sym pairs) (adds.pairs found.pairs);
      told = subst (λ (l : List ComparedStack). AreToldFirst l after.pairs.items) (sym stacks)
          (subst (AreToldFirst (before.stacks.items ++ s ∷ [])) (sym pairs)
          (told-more before.stacks.items before.pairs.items middle.pairs.items s
          (none-of-pair sides names before.pairs.items before.stacks.items found.stacks) found.told tells));
    }

pub four-more : (xs : List (ℕ × Kind)) (a b c d : ℕ × Kind) → (((xs ++ a ∷ []) ++ b ∷ []) ++ c ∷ []) ++ d ∷ [] ≡ xs ++ a ∷ b ∷ c ∷ d ∷ []
four-more [] a b c d = refl
four-more (x ∷ xs) a b c d = ap (λ (l : List (ℕ × Kind)). x ∷ l) (four-more xs a b c d)

pub found-none : (sides : SidesText) (names : List (List ℕ)) (kind : Option Kind) (found : Found) → found.stacks.items ≡ [] → found.pairs.items ≡ [] →
    IsFound sides names (stacks_asked 0 0 kind) found
unfolding stacks_asked
found-none sides names kind found none no-pairs = record {
  order = ap (map asked_of) none;
  stacks = subst (All (IsStack sides names found.pairs.items)) (sym none) (All-nil (IsStack sides names found.pairs.items));
  pairs = subst (All (IsPair sides)) (sym no-pairs) (All-nil (IsPair sides));
  told = told-nothing found.stacks.items found.pairs.items no-pairs;
}

asked-more : (kind : Option Kind) (first n : ℕ) →
    stacks_asked first n kind ++ map (λ k. (first + n, k)) (kinds_asked kind) ≡ stacks_asked first (suc n) kind
unfolding stacks_asked
asked-more kind first zero =
    let same : first + 0 ≡ first = omega arith in
    ap (λ (m : ℕ). map (λ k. (m, k)) (kinds_asked kind)) same ∙ sym (append-nil (map (λ k. (first, k)) (kinds_asked kind)))
asked-more kind first (suc n) =
    let here : List (ℕ × Kind) = map (λ k. (first, k)) (kinds_asked kind) in
    let same : first + suc n ≡ (first + 1) + n = omega arith in
    append_assoc here (stacks_asked (first + 1) n kind) (map (λ k. (first + suc n, k)) (kinds_asked kind))
    ∙ ap (λ (m : ℕ). here ++ (stacks_asked (first + 1) n kind ++ map (λ k. (m, k)) (kinds_asked kind))) same
    ∙ ap (λ (l : List (ℕ × Kind)). here ++ l) (asked-more kind (first + 1) n)

-- the services so far, and one more
pub stacks-more : (kind : Option Kind) (n : ℕ) → stacks_asked 0 n kind ++ map (λ k. (n, k)) (kinds_asked kind) ≡ stacks_asked 0 (n + 1) kind
stacks-more kind n =
    let same : n ≡ 0 + n = omega arith in
    let next : suc n ≡ n + 1 = omega arith in
    ap (λ (m : ℕ). stacks_asked 0 n kind ++ map (λ k. (m, k)) (kinds_asked kind)) same
    ∙ asked-more kind 0 n
    ∙ ap (λ (m : ℕ). stacks_asked 0 m kind) next

-- ALL CHANGES

names-of : (services : List ComparedService) → map (λ (t : ServiceText). t.name) (map service_text services) ≡ map (λ s. (service_text s).name) services
names-of [] = refl
names-of (s ∷ services) = ap (λ (l : List (List ℕ)). s.name.items ∷ l) (names-of services)

names-in : (olds news names : List (List ℕ)) → map (λ (t : ServiceText). t.name) (map (presence_in olds news) names) ≡ names
names-in olds news [] = refl
names-in olds news (n ∷ names) = ap (λ (l : List (List ℕ)). n ∷ l) (names-in olds news names)

pub names-are : (olds news names : List (List ℕ)) (services : List ComparedService) → map service_text services ≡ map (presence_in olds news) names →
    map (λ s. (service_text s).name) services ≡ names
names-are olds news names services e = sym (names-of services) ∙ ap (map (λ (t : ServiceText). t.name)) e ∙ names-in olds news names

pub are-changes : (sides : SidesText) (named : List (List ℕ)) (kind : Option Kind) (services : List ComparedService) (found : Found) (changes : HostChanges) →
    map service_text services ≡ compared_services sides named →
    IsFound sides (map (λ s. (service_text s).name) services) (stacks_asked 0 (length services) kind) found →
    changes.services.items ≡ services → changes.stacks.items ≡ found.stacks.items → changes.pairs.items ≡ found.pairs.items →
    AreChanges sides named kind changes
are-changes sides named kind services found changes e is s t p =
    let names : map (λ (x : ComparedService). (service_text x).name) services ≡ compared_names sides named =
    names-are (services_of sides.old) (services_of sides.new) (compared_names sides named) services e in
    let count : length services ≡ length (compared_names sides named) =
    sym (length-map services (λ (x : ComparedService). (service_text x).name)) ∙ ap (λ (l : List (List ℕ)). length l) names in
    record {
      services = ap (map service_text) s ∙ e;
      order = ap (map asked_of) t ∙ is.order ∙ ap (λ (n : ℕ). stacks_asked 0 n kind) count;
      stacks = subst (λ (l : List ComparedStack). All (IsStack sides (compared_names sides named) changes.pairs.items) l) (sym t)
          (subst (λ (l : List StackPair). All (IsStack sides (compared_names sides named) l) found.stacks.items) (sym p)
          (subst (λ (l : List (List ℕ)). All (IsStack sides l found.pairs.items) found.stacks.items) names is.stacks));
      pairs = subst (All (IsPair sides)) (sym p) is.pairs;
      told = subst (λ (l : List ComparedStack). AreToldFirst l changes.pairs.items) (sym t)
          (subst (AreToldFirst found.stacks.items) (sym p) is.told);
    }
