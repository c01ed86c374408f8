-- Lists with EXCEPT: access.conf(5).
use Rattle.std.specs.Prelude.{◌%◌, ◌==◌, Bool, true, false, List}
use Rattle.std.specs.List.{list_any, slice_split, prefix_len}
use Rattle.pam_tables.specs.declared.lists.Mark.{Mark}
use Rattle.pam_tables.specs.declared.lists.Mark.TheVariants.{Except, Match, Miss}

abbrev pub is_except : Mark → Bool
is_except Except = true
is_except _ = false

abbrev pub is_match : Mark → Bool
is_match Match = true
is_match _ = false

-- a part of a list, between EXCEPTs, holds if a token of it matches
abbrev pub part_holds : List Mark → Bool
part_holds part = list_any is_match part

-- a list matches if the number of parts before the first that does not hold is odd
unfoldable pub list_matches : List Mark → Bool
list_matches marks = prefix_len part_holds (slice_split is_except marks) % 2 == 1

abbrev pub mark_of : Bool → Mark
mark_of true = Match
mark_of false = Miss
