-- An answer to words over files in memory: the status, and what is left of the answer.
use Rattle.std.specs.Prelude.{◌≡◌, ◌⊎◌, ℕ, List, [], ◌∷◌, ◌++◌, Option, Some, Vec, length, zip}
use Rattle.std.specs.Global.{Global}
use Rattle.std.specs.List.{AllByRecursion}
use Rattle.std.specs.Str.{IsUtf8}
use Rattle.clap.specs.Words.{Text}
use Rattle.pam_codes.specs.Out.{Out}
use Rattle.pam_text.specs.Texts.{cut_lengths}
use Rattle.pam_report.specs.Fault.{status_of_usage}
use Rattle.pam_words.specs.declared.wanted.Usage.{Usage}
use Rattle.pam_words.specs.declared.wanted.Usage.TheVariants as usage
use Rattle.pam_cli.specs.Run.{Runs}
use Rattle.pam_web.specs.Files.{told_of}
use Rattle.pam_web.specs.declared.Answered.{Answered}
use Rattle.pam_web.specs.declared.answering.Passed.{Passed}

module _ (files : List (Text × Text)) {W : Type 0} (contents : W → Option (List ℕ)) (old new : Out W) (status : ℕ) where
  -- the words are refused, and nothing is written to standard output
  abbrev pub IsRefused : Usage → Type 0
  IsRefused refusal = (new ≡ old) × (status ≡ status_of_usage refusal)

  -- the run of the program over these files, where the words are UTF-8
  abbrev pub EndsRead : List Text → Type 0
  EndsRead words =
      (AllByRecursion IsUtf8 words × Runs (told_of files) contents old new status words) ⊎ (¬ (AllByRecursion IsUtf8 words) × IsRefused usage.NotUtf8)

  -- the same, or there is no memory for the words and the files
  abbrev pub Answers : List Text → Type 0
  Answers words = EndsRead words ⊎ IsRefused usage.Memory

-- a text put over the beginning of an old one, as far as that has room
abbrev pub filled : Text → Text → Text
filled text [] = []
filled [] (byte ∷ old) = byte ∷ old
filled (byte ∷ text) (other ∷ old) = byte ∷ filled text old

-- nothing is written yet
pub record IsFresh (out : Out (Vec ℕ Global)) : Type 0 where
  pub inner : out.inner.items ≡ []
  pub taken : out.taken ≡ 0
  pub failures : out.failures ≡ 0
  pub flushes : out.flushes ≡ 0

-- WHAT IS LEFT: what was written to standard output, and after it what was written to standard error, with their lengths and the status
pub record IsAnswered (words : List Text) (files : List (Text × Text)) (old new : Text) (answered : Answered) : Type 0 where
  pub before : Out (Vec ℕ Global)
  pub out : Out (Vec ℕ Global)
  pub refusal : Text
  pub fresh : IsFresh before
  pub answers : Answers files (λ (v : Vec ℕ Global). Some v.items) before out answered.status words
  pub out_length : answered.length ≡ length out.inner.items
  pub refusal_length : answered.refusal_length ≡ length refusal
  pub text : new ≡ filled (out.inner.items ++ refusal) old

-- the words and the files that are passed
abbrev pub words_passed : Passed → List Text
words_passed passed = cut_lengths passed.words.lengths.now passed.words.bytes.now

abbrev pub files_passed : Passed → List (Text × Text)
files_passed passed =
    zip (cut_lengths passed.paths.lengths.now passed.paths.bytes.now) (cut_lengths passed.contents.lengths.now passed.contents.bytes.now)
