-- What check says of the links of a folder.
use Rattle.std.specs.Prelude.{List, [], ◌∷◌, map}
use Rattle.pam_explain.specs.Explanation.{Explanation}
use Rattle.pam_explain.specs.Views.{row_view}
use Rattle.pam_explain.specs.declared.links.TheConstants.{LINK_OUTSIDE}

-- THE ROWS, in the order of their numbers
abbrev pub of_links : List Explanation
of_links = map row_view (LINK_OUTSIDE ∷ [])
