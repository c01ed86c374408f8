-- THE CAUSE of what is said of a whole stack: of the files that its walk reaches the last one of whose own stack the same is said.
use Rattle.std.specs.Prelude.{◌≡◌, ◌⊎◌, ℕ, ◌++◌, List, ◌∷◌, slice_get, Option, Some}
use Rattle.pam_conf.specs.declared.rule.Form.{Form}
use Rattle.pam_conf.specs.declared.rule.Form.TheVariants.{Dir, Single}
use Rattle.pam_text.specs.Members.{Member}

module _ (Has Lacks : ℕ → Type 0) where
  -- of these files the last one that has it, as those after it lack it
  pub record IsLast (files : List ℕ) (file : ℕ) : Type 0 where
    pub before : List ℕ
    pub after : List ℕ
    pub split : files ≡ before ++ file ∷ after
    pub has : Has file
    pub later : (other : ℕ) → Member other after → Lacks other

  -- that file; or this one, where all lack it
  abbrev pub IsLastOr : Option ℕ → List ℕ → Option ℕ → Type 0
  IsLastOr home files cause =
      (((file : ℕ) → Member file files → Lacks file) × (cause ≡ home))
      ⊎ ((file : ℕ) × (cause ≡ Some file) × IsLast files file)

  -- THE CAUSE, by the files that the walk reaches: in pam.conf, which is one file, it is that of the service
  abbrev pub IsCause : Form → List ℕ → Option ℕ → Type 0
  IsCause Dir reached cause = IsLastOr (slice_get reached 0) reached cause
  IsCause Single reached cause = cause ≡ slice_get reached 0
