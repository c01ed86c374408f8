-- For private contracts and proofs alone: which module is asked after which, by the nodes of a graph.
use Rattle.std.specs.Prelude.{◌≡◌, ℕ, Bool, true, false, ◌&&◌, ◌||◌, List, [], slice_index_or}
use Rattle.std.specs.List.{list_any}
use Rattle.pam_codes.specs.Code.{all_codes}
use Rattle.pam_codes.specs.Set.{codes_where, is_in}
use Rattle.pam_conf.specs.Stack.{Items}
use Rattle.pam_graph.specs.Walks.{table}
use Rattle.pam_graph.specs.declared.node.Edge.{Edge}
use Rattle.pam_graph.specs.declared.node.Node.{Node}
use Rattle.pam_graph.specs.declared.node.Target.{Target}
use Rattle.pam_graph.specs.declared.node.Target.TheVariants.{At, End}
use Rattle.pam_paths.specs.Listing.{Allowance}
use Rattle.pam_findings.specs.declared.stack.leading.Onward.{Onward}
use Rattle.pam_findings.specs.stack.Leading.{Leads}
use Rattle.pam_findings.specs.stack.inner.Marks.{mark_of}

-- one of these codes is one of the others
abbrev pub have_common : List ℕ → List ℕ → Bool
have_common one other = list_any (λ code. is_in code one && is_in code other) all_codes

-- the codes that a module may answer, of these
abbrev pub codes_of : Allowance → List ℕ → ℕ → List ℕ
codes_of allows codes number = codes_where (λ code. is_in code codes && is_in code (codes_where (allows number)))

abbrev pub nowhere : Onward
nowhere = record { goes_on = false; asks = false; leads = false }

-- what the walks from a target on come to; `known` says it of those from each node on
abbrev pub onward_at : List Onward → Target → Onward
onward_at known (At index) = slice_index_or known index nowhere
onward_at known (End decision) = record { goes_on = true; asks = false; leads = false }

abbrev pub edge_goes_on : List Onward → Edge → Bool
edge_goes_on known edge = (onward_at known edge.target).goes_on

-- a walk by an edge asks a later module: that of the node, or one further on
abbrev pub edge_asks : List Onward → Bool → Edge → Bool
edge_asks known is_later edge = (is_later && (onward_at known edge.target).goes_on) || (onward_at known edge.target).asks

-- a walk by an edge asks a first module, which gives one of these codes, and then a later one
abbrev pub edge_leads : List Onward → Bool → List ℕ → Edge → Bool
edge_leads known is_first codes edge =
    (is_first && (have_common edge.class codes && (onward_at known edge.target).asks)) || (onward_at known edge.target).leads

module _ (allows : Allowance) (first : List Bool) (codes : List ℕ) (later : List Bool) where
  abbrev pub node_onward : List Onward → Node → Onward
  node_onward known node = record {
    goes_on = list_any (edge_goes_on known) node.edges.items;
    asks = list_any (edge_asks known (mark_of later node.module_number)) node.edges.items;
    leads = list_any (edge_leads known (mark_of first node.module_number) (codes_of allows codes node.module_number)) node.edges.items;
  }

  -- what the walks from each node on come to
  abbrev pub onwards : List Node → List Onward
  onwards nodes = table node_onward [] nodes

-- whether some run is one that is sought
abbrev pub SaysLeads : Allowance → Items → List Bool → List ℕ → List Bool → Bool → Type 0
SaysLeads allows items first codes later true =
    (one : ℕ) × (other : ℕ) × (mark_of first one ≡ true) × (mark_of later other ≡ true) × Leads allows items codes one other
SaysLeads allows items first codes later false =
    (one other : ℕ) → mark_of first one ≡ true → mark_of later other ≡ true → Leads allows items codes one other → ⊥
