-- The graph of a stack that is found.
use Rattle.std.proofs.Common.{◌≡◌, ℕ, Bool, true, false, if◌then◌else◌, List, Ok, Err, ap, sym}
use Rattle.pam_conf.specs.Stack.{Items, module_count}
use Rattle.pam_graph.specs.Walks.{GraphValue}
use Rattle.pam_facts.proofs.KnownProofs.Listings.{same_listing}
use Rattle.pam_facts.specs.known.Knowledge.{Agree}
use Rattle.pam_paths.specs.Known.{may_answer}
use Rattle.pam_paths.specs.Listing.{Allowance}
use Rattle.pam_paths.specs.Paths.{path_through}
use Rattle.pam_paths.specs.declared.knowledge.Known.{Known}
use Rattle.pam_report.specs.Graph.{IsGraphOf, drawn_in, has_too_many}
use Rattle.pam_report.specs.inner.GraphViews.{FindsGraph}
use Rattle.pam_report.specs.Reply.{Answer, Drawing}
use Rattle.pam_report.specs.declared.fault.Fault.TheVariants as faults
use Rattle.pam_conf.specs.declared.rule.Kind.{Kind}
use Rattle.pam_words.specs.declared.wanted.GraphFormat.{GraphFormat}

-- a graph that is found for known codes, for the codes that they are
pub graph-is : (items : Items) (known : Known) (allows : Allowance) (graph : GraphValue) → Agree (module_count items) (may_answer known) allows
    → FindsGraph (may_answer known) items (Ok graph) → IsGraphOf items allows graph
graph-is items known allows graph agree found = record {
  listing = same_listing (module_count items) (may_answer known) allows (path_through items) _ agree found.0;
  edges = (found.1.0, may_answer known, found.1.1, agree, found.1.2);
}

module _ (format : GraphFormat) (service : List ℕ) (kind : Kind) (items : Items) (graph : GraphValue) where
  reply : Answer
  reply = Ok (Drawing record { service = service; kind = kind; items = items; format = format; graph = graph })

  -- a graph with too many nodes for a format
  pub refused-is : has_too_many format graph ≡ true → Err faults.TooManyStates ≡ drawn_in format service kind items graph
  unfolding reply
  refused-is e = sym (ap (λ (t : Bool). if t then Err faults.TooManyStates else reply) e)

  -- one that can be drawn
  pub drawn-is : has_too_many format graph ≡ false
      → Ok (Drawing record { service = service; kind = kind; items = items; format = format; graph = graph }) ≡ drawn_in format service kind items graph
  unfolding reply
  drawn-is e = sym (ap (λ (t : Bool). if t then Err faults.TooManyStates else reply) e)
