-- For private contracts and proofs alone: what is read of a file, as the code stores it: pam.conf(5), on comments, continued lines
-- and rules.
use Rattle.std.specs.Prelude.{◌≡◌, List, map}
use Rattle.pam_conf.specs.inner.ByKind.{Indices, indices_for, indices_of, picked}
use Rattle.pam_conf.specs.inner.FileRules.{FileText}
use Rattle.pam_conf.specs.inner.Kept.{kept_view}
use Rattle.pam_conf.specs.Rule.{RuleText}
use Rattle.pam_conf.specs.declared.by_kind.ByKind.{ByKind}
use Rattle.pam_conf.specs.declared.rule.Kind.{Kind}
use Rattle.pam_conf.specs.declared.rule_files.FileRules.{FileRules}

abbrev pub by_kind_view : ByKind → Indices
by_kind_view b = record { auth = b.auth.items; account = b.account.items; password = b.password.items; session = b.session.items }

abbrev pub file_view : FileRules → FileText
file_view f = record { rules = map kept_view f.rules.items; faults = f.faults.items; by_kind = by_kind_view f.by_kind }

-- the indices that it stores are those of its rules
abbrev pub IsIndexed : FileRules → Type 0
IsIndexed f = by_kind_view f.by_kind ≡ indices_of (map kept_view f.rules.items)

-- the rules at the indices for a kind
abbrev pub kind_rules : Kind → FileRules → List RuleText
kind_rules kind f = picked (map kept_view f.rules.items) (indices_for kind (by_kind_view f.by_kind))
