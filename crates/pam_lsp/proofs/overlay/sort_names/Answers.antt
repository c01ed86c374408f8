use Rattle.std.proofs.Common.{rules}
use Rattle.std.proofs.lemmas.List.Sorted.{IsPermutation-map}
use Rattle.pam_lsp.proofs.overlay.sort_names.Goals as goal

pub returns-clause-same : goal.returns-clause-same
returns-clause-same c = let same = IsPermutation-map (λ n. n.items) _ _ c.sort.ensures.permutation in search rules
