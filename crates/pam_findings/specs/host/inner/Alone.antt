-- For private contracts and proofs alone: what is known of files by themselves, and the causes that are found.
use Rattle.std.specs.Prelude.{◌≡◌, ℕ, Bool, true, false, List, IsSome, slice_index_or, Option, Some, None}
use Rattle.pam_conf.specs.Files.{Folder}
use Rattle.pam_conf.specs.Stack.{Items}
use Rattle.pam_conf.specs.declared.rule.Kind.{Kind}
use Rattle.pam_conf.specs.declared.rule.Kind.TheVariants.{Auth}
use Rattle.pam_findings.specs.declared.stack.soundness.Soundness.{Soundness}
use Rattle.pam_findings.specs.host.Causes.{IsCause}
use Rattle.pam_findings.specs.host.Modules.{Modules}
use Rattle.pam_findings.specs.host.Verdicts.{HasAlone, IsOpen, IsOwnStack, LacksAlone}
use Rattle.pam_findings.specs.declared.host.alone.Alone.{Alone}
use Rattle.pam_findings.specs.declared.host.alone.Whole.{Whole}
use Rattle.pam_findings.specs.declared.host.alone.Whole.TheVariants.{Anybody, Nobody}
use Rattle.pam_findings.specs.declared.host.causes.Causes.{Causes}

abbrev pub has : Whole → Alone → Bool
has Nobody alone = alone.lets_nobody_in
has Anybody alone = alone.lets_anybody_in

-- the stack for a kind of a file that has rules of its own for it
abbrev pub SaysOwnStack : Folder → Kind → ℕ → Option Items → Type 0
SaysOwnStack folder kind file None = (items : Items) → IsOwnStack folder kind file items → ⊥
SaysOwnStack folder kind file (Some items) = IsOwnStack folder kind file items

abbrev pub Says : Folder → Modules → Kind → Whole → ℕ → Bool → Type 0
Says folder modules kind whole file true = HasAlone folder modules kind whole file
Says folder modules kind whole file false = LacksAlone folder modules kind whole file

-- what is said of a file by itself is right
abbrev pub IsAlone : Folder → Modules → Alone → Type 0
IsAlone folder modules alone = (whole : Whole) → Says folder modules alone.kind whole alone.file (has whole alone)

-- all that is known is right
abbrev pub AreKnown : Folder → Modules → List (Option Alone) → Type 0
AreKnown folder modules table = (slot : ℕ) (alone : Alone) → slice_index_or table slot None ≡ Some alone → IsAlone folder modules alone

-- the causes of what is said of a stack whose walk reached these files
pub record AreCauses (folder : Folder) (modules : Modules) (reached : List ℕ) (kind : Kind) (items : Items) (s : Soundness) (causes : Causes) : Type 0 where
  pub nobody : s.lets_nobody_in ≡ true → IsOpen kind items →
      IsCause (HasAlone folder modules kind Nobody) (LacksAlone folder modules kind Nobody) folder.form reached causes.nobody
  pub anybody : kind ≡ Auth → IsSome s.lets_anybody_in →
      IsCause (HasAlone folder modules kind Anybody) (LacksAlone folder modules kind Anybody) folder.form reached causes.anybody
