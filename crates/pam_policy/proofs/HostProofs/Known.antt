-- What is known of classes.
use Rattle.std.proofs.Common.{◌≡◌, ◌∙◌, ℕ, ◌≤◌, Bor, List, [], ◌∷◌, Option, Some, None, zero, suc, ap, arith, get_or, inl, inr, length, map, refl, subst, sym}
use Rattle.std.proofs.lemmas.List.{get_or_past, length-map}
use Rattle.std.proofs.lemmas.Option.{same_Some, slice_get-map, unwrap_or-slice_get}
use Rattle.std.specs.List.{slice_get}
use Rattle.std.specs.Option.{IfSome, option_copied, option_map, unwrap_or}
use Rattle.std.specs.Prelude.{All}
use Rattle.pam_conf.specs.Stack.{IsNumbered}
use Rattle.pam_paths.proofs.Listings.{Member-map_back}
use Rattle.pam_text.specs.Members.{Member}
use Rattle.pam_policy.specs.declared.host.place.Stacks.{Stacks}
use Rattle.pam_policy.specs.declared.rules.site.Site.{Site}
use Rattle.pam_policy.specs.host.Stacks.{HaveGraphs, KnownSite, known_site, site_of, stacks_view}

-- what is so of each element is so of a member
pub all-at : {X : Type 0} (P : X → Type 0) (xs : List X) (x : X) → All P xs → Member x xs → P x
unfolding Member
all-at P [] x all h = absurd h
all-at P (y ∷ xs) x all (inl e) = subst P (sym e) (all 0 y (omega arith))
all-at P (y ∷ xs) x all (inr i) = all-at P xs x (λ k d l. all (suc k) d (omega (arith, l))) i

-- a class of which something is known has a site
pub site-at : (classes : List (Option Site)) (class : ℕ) (known : KnownSite) → get_or (map (option_map known_site) classes) class None ≡ Some known →
    (site : Site) × Member (Some site) classes × (known_site site ≡ known)
unfolding Member
site-at [] class known is = absurd cc
site-at (None ∷ classes) zero known is = absurd cc
site-at (Some site ∷ classes) zero known is = (site, inl refl, same_Some (known_site site) known is)
site-at (one ∷ classes) (suc class) known is = let later = site-at classes class known is in (later.0, inr later.1, later.2)

-- the modules of known stacks are numbered
pub numbered-sites : (stacks : Stacks) (classes : List ℕ) → HaveGraphs stacks.classes.now → (known : KnownSite) →
    Member (Some known) (map (site_of (stacks_view stacks)) classes) → IsNumbered known.site.items
numbered-sites stacks classes graphs known member =
    let of = Member-map_back (site_of (stacks_view stacks)) (Some known) classes member in
    let at = site-at stacks.classes.now of.0 known (sym of.2) in
    subst (λ (k : KnownSite). IsNumbered k.site.items) at.2 (graphs at.0 at.1).numbered

-- WHAT IS LENT of a class

slice-member : {X : Type 0} (xs : List X) (i : ℕ) (x : X) → slice_get xs i ≡ Some x → Member x xs
unfolding Member
slice-member [] i x is = absurd cc
slice-member (y ∷ xs) zero x is = inl (sym (same_Some y x is))
slice-member (y ∷ xs) (suc i) x is = inr (slice-member xs i x is)

copied-known : (found : Option (Bor Site)) → option_map (λ site. known_site site.now) found ≡ option_map known_site (option_copied found)
copied-known None = refl
copied-known (Some site) = refl

-- what is known of a class that is listed
pub lent-known : (classes : List (Option Site)) (class : ℕ) (one : Option Site) (found : Option (Bor Site)) → slice_get classes class ≡ Some one →
    option_copied found ≡ one → option_map (λ site. known_site site.now) found ≡ get_or (map (option_map known_site) classes) class None
lent-known classes class one found at is =
    let known : Option Site → Option KnownSite = option_map known_site in
    copied-known found ∙ ap known is
    ∙ sym (ap (λ (o : Option (Option KnownSite)). unwrap_or o None) (slice_get-map known classes class ∙ ap (option_map known) at))
    ∙ unwrap_or-slice_get (map known classes) class None

pub lent-there : (classes : List (Option Site)) (class : ℕ) (one : Option Site) (found : Option (Bor Site)) → slice_get classes class ≡ Some one →
    option_copied found ≡ one → IfSome found (λ site. Member (Some site.now) classes)
lent-there classes class one None at is = tt
lent-there classes class one (Some site) at is = slice-member classes class (Some site.now) (at ∙ ap (λ (o : Option Site). Some o) (sym is))

-- of a class that is not listed nothing is known
pub none-known : (classes : List (Option Site)) (class : ℕ) → length classes ≤ class → None ≡ get_or (map (option_map known_site) classes) class None
none-known classes class past =
    sym (get_or_past (map (option_map known_site) classes) class None (omega (arith, length-map classes (option_map known_site))))
