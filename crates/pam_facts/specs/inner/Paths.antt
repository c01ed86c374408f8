-- For private contracts and proofs alone: a folder of which the first names and the depth are known.
use Rattle.std.specs.Prelude.{◌≡◌, ℕ, List, length, map, take}
use Rattle.pam_facts.specs.declared.folder.Folder.{Folder}

-- these names lead to it
pub record Is (folder : Folder) (names : List (List ℕ)) : Type 0 where
  pub first : map (λ n. n.now) folder.names.items ≡ take 4 names
  pub depth : folder.depth ≡ length names
