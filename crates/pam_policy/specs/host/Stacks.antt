-- The stacks of a host, and what is known of each class of them.
use Rattle.std.specs.Prelude.{ℕ, List, map, Option, Some, None, slice_index_or}
use Rattle.std.specs.Option.{option_map}
use Rattle.pam_paths.specs.Known.{may_answer}
use Rattle.pam_paths.specs.Listing.{Allowance}
use Rattle.pam_text.specs.Members.{Member}
use Rattle.pam_policy.specs.declared.host.place.Stacks.{Stacks}
use Rattle.pam_policy.specs.declared.rules.site.Site.{Site}
use Rattle.pam_policy.specs.host.Places.{PlaceText, place_view, spoken_classes}
use Rattle.pam_policy.specs.rules.Site.{SiteText, site_view}
use Rattle.pam_policy.specs.search.Witness.{IsGraphOf}
use Rattle.pam_policy.specs.text.Rules.{RuleText}

-- WHAT IS KNOWN OF A CLASS: its stack, and which answers its modules may give
pub record KnownSite : Type 0 where
  pub site : SiteText
  pub allows : Allowance

abbrev pub known_site : Site → KnownSite
known_site site = record { site = site_view site; allows = may_answer site.known.now }

-- THE STACKS of a host: the places, and what is known of each class, if anything is
pub record StacksText : Type 0 where
  pub places : List PlaceText
  pub classes : List (Option KnownSite)

abbrev pub stacks_view : Stacks → StacksText
stacks_view stacks = record { places = map place_view stacks.places.now; classes = map (option_map known_site) stacks.classes.now }

-- what is known of a class, if anything is. Of one that is not listed nothing is
abbrev pub site_of : StacksText → ℕ → Option KnownSite
site_of stacks class = slice_index_or stacks.classes class None

-- what is known of each class of the places of which a rule speaks
abbrev pub spoken_sites : StacksText → RuleText → List (Option KnownSite)
spoken_sites stacks rule = map (site_of stacks) (spoken_classes rule stacks.places)

-- each graph is that of the runs of its stack, as far as its knowledge allows them
abbrev pub HaveGraphs : List (Option Site) → Type 0
HaveGraphs classes = (site : Site) → Member (Some site) classes → IsGraphOf (may_answer site.known.now) site.stack.now site.graph.now
