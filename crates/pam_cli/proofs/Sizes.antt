-- A path for the whole configuration, and one for each of its files.
use Rattle.std.proofs.Common.{◌≡◌, ◌∙◌, ℕ, List, [], ◌∷◌, None, Option, Some, ap, arith, inl, inr, length, length-append, map, refl, suc, sym}
use Rattle.std.proofs.lemmas.List.{length-map}
use Rattle.clap.specs.Words.{Text}
use Rattle.pam_conf.specs.Files.{Folder, Named}
use Rattle.pam_words.specs.declared.wanted.ConfSource.{ConfSource}
use Rattle.pam_words.specs.declared.wanted.ConfSource.TheVariants.{Dir, Over, Conf, Root}
use Rattle.pam_cli.specs.Sources.{AreFilesOf, IsOfCandidates, IsOfFolder, IsOfSystem, IsOneFile, IsOver, IsRead, IsRootFile, IsThen, firsts_of}
use Rattle.pam_cli.specs.System.{PlaceText, Told, entry_at, shown}
use Rattle.pam_cli.specs.declared.system.Found.{Found}
use Rattle.pam_cli.specs.declared.system.Found.TheVariants as there

-- a path more than files
abbrev Fits : Folder → List Text → Type 0
Fits files paths = length paths ≡ suc (length files.entries)

candidate_sizes : (told : Told) (cs : List (Text × Text)) (files : List Named) → AreFilesOf told cs files → length cs ≡ length files
candidate_sizes told [] [] h = refl
candidate_sizes told (c ∷ cs) (f ∷ fs) h = ap suc (candidate_sizes told cs fs h.2)
candidate_sizes told [] (f ∷ fs) h = absurd h
candidate_sizes told (c ∷ cs) [] h = absurd h

candidates_fit : (told : Told) (cs : List (Text × Text)) (folder : Text) (files : Folder) (paths : List Text) → IsOfCandidates told cs folder files paths
    → Fits files paths
candidates_fit told cs folder files paths h =
    ap length h.paths ∙ ap suc (length-map (firsts_of cs) (λ c. c.1) ∙ candidate_sizes told (firsts_of cs) files.entries h.files)

then_fit : (told : Told) (above : Option PlaceText) (folder : PlaceText) (first : Folder) (first_paths : List Text) (files : Folder) (paths : List Text)
    → Fits first first_paths → IsThen told above folder first first_paths files paths → Fits files paths
then_fit told above folder first first_paths files paths fits h =
    let more = h.added.more in
    let place : Named → Text = λ f. shown (entry_at folder f.0) in
    let all = ap length h.added.paths ∙ length-append first_paths (map place more) in
    let placed = length-map more place in
    let entries = ap length h.added.entries ∙ length-append first.entries more in
    omega (arith, all, placed, entries, fits)

folder_fit : (told : Told) (cs : List (Text × Text)) (folder : PlaceText) (files : Folder) (paths : List Text) → IsOfFolder told cs folder files paths
    → Fits files paths
folder_fit told cs folder files paths h =
    then_fit told None folder h.0 h.1 files paths (candidates_fit told cs (shown folder) h.0 h.1 h.2) h.3

over_fit : (told : Told) (cs : List (Text × Text)) (folder vendor : PlaceText) (files : Folder) (paths : List Text) (start : ℕ)
    → IsOver told cs folder vendor files paths start → Fits files paths
over_fit told cs folder vendor files paths start h =
    then_fit told (Some folder) vendor h.0 h.1 files paths (folder_fit told cs folder h.0 h.1 h.2) h.3

one_fits : (path bytes : Text) (files : Folder) (paths : List Text) → IsOneFile path bytes files paths → Fits files paths
one_fits path bytes files paths h = ap length h.1 ∙ sym (ap (λ (f : Folder). suc (length f.entries)) h.0)

root_fits : (told : Told) (place : PlaceText) (files : Folder) (paths : List Text) → IsRootFile told place files paths → Fits files paths
root_fits told place files paths (inl none) = ap length none.2 ∙ sym (ap (λ (f : Folder). suc (length f.entries)) none.1)
root_fits told place files paths (inr one) = one_fits _ one.0 files paths one.2

module _ (told : Told) (cs : List (Text × Text)) (root : Text) (files : Folder) (paths : List Text) (start : ℕ) where
  system_fits : (first second : Found) → IsOfSystem told cs root first second files paths start → Fits files paths
  system_fits there.Folder there.Nothing h = folder_fit told cs _ files paths h.0
  system_fits there.Folder there.Folder h = over_fit told cs _ _ files paths start h
  system_fits there.Folder there.File h = over_fit told cs _ _ files paths start h
  system_fits there.Folder there.Other h = over_fit told cs _ _ files paths start h
  system_fits there.Nothing there.Folder h = folder_fit told cs _ files paths h.0
  system_fits there.File there.Folder h = folder_fit told cs _ files paths h.0
  system_fits there.Other there.Folder h = folder_fit told cs _ files paths h.0
  system_fits there.Nothing there.Nothing h = root_fits told _ files paths h.0.1
  system_fits there.Nothing there.File h = root_fits told _ files paths h.0.1
  system_fits there.Nothing there.Other h = root_fits told _ files paths h.0.1
  system_fits there.File there.Nothing h = root_fits told _ files paths h.0.1
  system_fits there.File there.File h = root_fits told _ files paths h.0.1
  system_fits there.File there.Other h = root_fits told _ files paths h.0.1
  system_fits there.Other there.Nothing h = root_fits told _ files paths h.0.1
  system_fits there.Other there.File h = root_fits told _ files paths h.0.1
  system_fits there.Other there.Other h = root_fits told _ files paths h.0.1

-- what is read has a path more than files
pub read_fits : (told : Told) (cs : List (Text × Text)) (source : ConfSource) (files : Folder) (paths : List Text) (start : ℕ)
    → IsRead told cs source files paths start → Fits files paths
read_fits told cs (Dir folder) files paths start h = folder_fit told cs _ files paths h.0
read_fits told cs (Over folder vendor) files paths start h = over_fit told cs _ _ files paths start h
read_fits told cs (Conf name) files paths start h = one_fits name.now h.0.0 files paths h.0.2
read_fits told cs (Root root) files paths start h = system_fits told cs root.now files paths start h.0 h.1 h.4
