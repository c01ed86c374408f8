-- The numbers of the walks from each node on.
use Rattle.std.specs.Prelude.{Bool, ◌||◌, List, filter}
use Rattle.pam_graph.specs.declared.goal.Goal.{Goal}
use Rattle.pam_graph.specs.Goals.{meets}
use Rattle.pam_paths.specs.Paths.{PathValue}

-- a walk is wanted if the goal was met before it, or it meets the goal
abbrev pub wanted : Goal → Bool → PathValue → Bool
wanted goal is_met walk = is_met || meets goal walk

abbrev pub wanted_of : Goal → Bool → List PathValue → List PathValue
wanted_of goal is_met walks = filter (wanted goal is_met) walks
