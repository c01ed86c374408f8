-- The files of a configuration, one after another: whether a rule calls a module.
use Rattle.std.proofs.Common.{◌≡◌, ◌∙◌, ◌+◌, ◌<◌, ◌||◌, ℕ, Bool, true, false, List, [], ◌∷◌, Option, None, Some, add-one, ap, drop, drop-cons}
use Rattle.std.proofs.Common.{get_or, length, sym}
use Rattle.std.proofs.lemmas.Option.{slice_get-get_or}
use Rattle.std.specs.List.{list_any}
use Rattle.std.specs.Option.{option_map}
use Rattle.pam_conf.specs.FileRules.{good_rules}
use Rattle.pam_conf.specs.Files.{Folder, Named, bytes_at}
use Rattle.pam_conf.specs.Rule.{RuleText}
use Rattle.pam_report.specs.ComparedKeys.{calls, has_module}

module _ (folder : Folder) (name : List ℕ) (position : ℕ) (within : position < length folder.entries) where
  abbrev test : Named → Bool
  test f = list_any (calls name) (good_rules folder.form f.1)

  -- the file at the position
  abbrev here : Named
  here = get_or folder.entries position ([], [])

  cut : drop position folder.entries ≡ here ∷ drop (position + 1) folder.entries
  cut = rw add-one (drop-cons folder.entries position ([], []) within)

  bytes : bytes_at position folder.entries ≡ Some here.1
  bytes = ap (option_map (λ (f : Named). f.1)) (slice_get-get_or folder.entries position ([], []) within)

  -- the rules that are read of it are its rules
  read : (found : Option (List RuleText)) (rules : List RuleText) → found ≡ Some rules
      → found ≡ option_map (good_rules folder.form) (bytes_at position folder.entries) → rules ≡ good_rules folder.form here.1
  read found rules e f =
      let same : Some rules ≡ Some (good_rules folder.form here.1) = sym e ∙ f ∙ ap (option_map (good_rules folder.form)) bytes in
      cc

  none : (found : Option (List RuleText)) → found ≡ None → found ≡ option_map (good_rules folder.form) (bytes_at position folder.entries) → ⊥
  none found e f =
      let same : None ≡ Some (good_rules folder.form here.1) = sym e ∙ f ∙ ap (option_map (good_rules folder.form)) bytes in
      cc

  module _ (left : list_any test (drop position folder.entries) ≡ has_module folder name) where
    split : (test here || list_any test (drop (position + 1) folder.entries)) ≡ has_module folder name
    split = sym (ap (list_any test) cut) ∙ left

    -- a rule of the file calls the module
    pub it_calls : (found : Option (List RuleText)) (rules : List RuleText) → found ≡ Some rules
        → found ≡ option_map (good_rules folder.form) (bytes_at position folder.entries) → list_any (calls name) rules ≡ true → true ≡ has_module folder name
    it_calls found rules e f called =
        let t : test here ≡ true = sym (ap (list_any (calls name)) (read found rules e f)) ∙ called in
        sym (ap (λ (b : Bool). b || list_any test (drop (position + 1) folder.entries)) t) ∙ split

    -- none does
    pub it_passes : (found : Option (List RuleText)) (rules : List RuleText) → found ≡ Some rules
        → found ≡ option_map (good_rules folder.form) (bytes_at position folder.entries) → list_any (calls name) rules ≡ false
        → list_any test (drop (position + 1) folder.entries) ≡ has_module folder name
    it_passes found rules e f not_called =
        let t : test here ≡ false = sym (ap (list_any (calls name)) (read found rules e f)) ∙ not_called in
        sym (ap (λ (b : Bool). b || list_any test (drop (position + 1) folder.entries)) t) ∙ split

    -- each position has a file
    pub is_there : (found : Option (List RuleText)) → found ≡ None
        → found ≡ option_map (good_rules folder.form) (bytes_at position folder.entries)
        → list_any test (drop (position + 1) folder.entries) ≡ has_module folder name
    is_there found e f = absurd (none found e f)
