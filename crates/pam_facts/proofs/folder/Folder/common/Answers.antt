use Rattle.pam_facts.proofs.folder.Folder.common.Goals as goal

pub returns-clause-names : goal.returns-clause-names
returns-clause-names c = c.enter-2.ensures.names _ (c.enter.ensures.names _ c.root-folder.ensures.names)
