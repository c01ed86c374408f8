-- Why nothing is said of a stack.
use Rattle.std.proofs.Common.{◌≡◌, List, inl, inr}
use Rattle.pam_conf.specs.Stack.{Items}
use Rattle.pam_dispatch.specs.declared.flat_item.FlatItem.{FlatItem}
use Rattle.pam_dispatch.specs.Flat.{runs_of}
use Rattle.pam_dispatch.specs.Tree.{runs_of_stack}
use Rattle.pam_graph.specs.declared.error.GraphError.{GraphError}
use Rattle.pam_graph.specs.declared.error.GraphError.TheVariants.{Memory, TooManyNodes}
use Rattle.pam_graph.specs.declared.graph.TheConstants.{MAX_NODES}
use Rattle.pam_graph.specs.Reached.{IsReason}
use Rattle.pam_paths.specs.Listing.{Allowance}
use Rattle.pam_findings.specs.stack.Soundness.{IsReasonFor}

module _ (free failing : Allowance) (program : List FlatItem) (items : Items) (of : runs_of program ≡ runs_of_stack items) where
  pub free-reason : (error : GraphError) → IsReason MAX_NODES free program error → IsReasonFor free failing items error
  free-reason Memory h = tt
  free-reason TooManyNodes h = inl (program, of, h)

  pub failing-reason : (error : GraphError) → IsReason MAX_NODES failing program error → IsReasonFor free failing items error
  failing-reason Memory h = tt
  failing-reason TooManyNodes h = inr (program, of, h)

-- memory is no reason that says something
pub memory-reason : (free failing : Allowance) (items : Items) (error : GraphError) → error ≡ Memory → IsReasonFor free failing items error
memory-reason free failing items Memory e = tt
memory-reason free failing items TooManyNodes e = absurd (let k : ⊥ = cc in k)

-- nor in a graph
pub memory-graph : (allows : Allowance) (program : List FlatItem) (error : GraphError) → error ≡ Memory → IsReason MAX_NODES allows program error
memory-graph allows program Memory e = tt
memory-graph allows program TooManyNodes e = absurd (let k : ⊥ = cc in k)
