-- For private contracts and proofs alone: the value of a logic list, item by item.
use Rattle.std.specs.Prelude.{ℕ, ◌&&◌, ◌||◌, Bool, false, List, Result, Ok, Err}
use Rattle.pam_tables.specs.declared.times.error.TimeFault.{TimeFault}
use Rattle.pam_tables.specs.declared.times.logic.Joint.{Joint}
use Rattle.pam_tables.specs.declared.times.logic.Joint.TheVariants.{And}
use Rattle.pam_tables.specs.times.Logic.{ItemOf, is_true}

-- the value up to an item, from the value before it and that of the item
abbrev pub join : Joint → Bool → Bool → Bool
join And before value = before && value
join _ before value = before || value

-- the value of a text, which is false if the text is no list
abbrev pub list_value : (List ℕ → Bool) → Result (List (ItemOf (List ℕ))) TimeFault → Bool
list_value f (Ok items) = is_true f items
list_value f (Err fault) = false
