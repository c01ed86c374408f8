use Rattle.std.proofs.Common.{◌∙◌, ◌-◌, ℕ, List, map, take, Bor, ap, arith, length-take}
use Rattle.pam_facts.proofs.FolderSteps.{fewer_names}
use Rattle.pam_facts.proofs.folder.Folder.leave.Goals as goal

pub returns-then-self-gt0-clause-names : goal.returns-then-self-gt0-clause-names
returns-then-self-gt0-clause-names c names is =
    record {
      first =
          ap (map (λ (n : Bor (List ℕ)). n.now)) c.truncate.ensures.items ∙ fewer_names _ names _ is.first
          ∙ ap (λ (k : ℕ). take 4 (take (k - 1) names)) is.depth;
      depth = grind (arith, length-take, is.depth);
    }
