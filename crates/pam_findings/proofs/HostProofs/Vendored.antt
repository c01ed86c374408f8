-- Rules that include a file which only the vendor folder has.
use Rattle.std.proofs.Common.{◌≡◌, ◌∙◌, ◌++◌, ◌<◌, ◌≤◌, ℕ, false, if◌then◌else◌, nat_le, []}
use Rattle.std.proofs.Common.{◌∷◌, List, Option, Some, None, ap, append-nil, arith, refl, sym}
use Rattle.std.proofs.Common.{length, map}
use Rattle.std.specs.List.{flat_map}
use Rattle.std.specs.Option.{option_map, option_map_or}
use Rattle.std.proofs.lemmas.Bool.{lt-leb}
use Rattle.std.proofs.lemmas.List.Folds.{flat_map-map}
use Rattle.pam_conf.proofs.WalkLemmas.{position-within}
use Rattle.pam_conf.specs.FileRules.{good_rules}
use Rattle.pam_conf.specs.Files.{Folder, bytes_at, position_of}
use Rattle.pam_conf.specs.Rule.{RuleBody, RuleText, Include, Module, Sub, rule_view}
use Rattle.pam_conf.specs.declared.rule.Rule.{Rule}
use Rattle.pam_findings.specs.host.FileProblems.{includes_vendor, is_of_vendor}
use Rattle.pam_findings.specs.host.inner.Own.{vendor_spot, vendor_spots, vendor_spots_in}
use Rattle.pam_findings.specs.declared.host.problem.Spot.{Spot}

-- WITHOUT A VENDOR FOLDER

before-start : (start : ℕ) (o : Option ℕ) → ((p : ℕ) → o ≡ Some p → p < start) → option_map_or (nat_le start) o false ≡ false
before-start start None h = refl
before-start start (Some p) h = lt-leb start p (h p refl)

module _ (folder : Folder) (start : ℕ) (past : length folder.entries ≤ start) where
  no-file : (name : List ℕ) → is_of_vendor folder start name ≡ false
  no-file name =
      before-start start (position_of name folder.entries)
      (λ p at. let within = position-within name folder p at in omega (arith, within, past))

  no-target : (body : RuleBody) → includes_vendor folder start body ≡ false
  no-target (Module control path arguments) = refl
  no-target (Include target) = no-file target
  no-target (Sub target) = no-file target

  no-spots : (file : ℕ) (rules : List RuleText) → flat_map (vendor_spots folder start file) rules ≡ []
  no-spots file [] = refl
  no-spots file (rule ∷ rules) =
      ap (λ b. (if b then vendor_spot file rule ∷ [] else []) ++ flat_map (vendor_spots folder start file) rules) (no-target rule.body)
      ∙ no-spots file rules

  in-bytes : (file : ℕ) (o : Option (List ℕ)) →
      option_map_or (λ bytes. flat_map (vendor_spots folder start file) (good_rules folder.form bytes)) o [] ≡ []
  in-bytes file None = refl
  in-bytes file (Some bytes) = no-spots file (good_rules folder.form bytes)

  pub none-of-vendor : (file : ℕ) (spots : List Spot) → spots ≡ spots ++ vendor_spots_in folder start file
  none-of-vendor file spots =
      sym (append-nil spots) ∙ ap (λ l. spots ++ l) (sym (in-bytes file (bytes_at file folder.entries)))

-- BY THE RULES OF A FILE

module _ (folder : Folder) (start file : ℕ) where
  gone : (o : Option (List ℕ)) → None ≡ option_map (good_rules folder.form) o →
      [] ≡ option_map_or (λ bytes. flat_map (vendor_spots folder start file) (good_rules folder.form bytes)) o []
  gone None h = refl
  gone (Some bytes) h = absurd cc

  there : (o : Option (List ℕ)) (rules : List RuleText) → Some rules ≡ option_map (good_rules folder.form) o →
      flat_map (vendor_spots folder start file) rules
      ≡ option_map_or (λ bytes. flat_map (vendor_spots folder start file) (good_rules folder.form bytes)) o []
  there None rules h = absurd cc
  there (Some bytes) rules h =
      let same : rules ≡ good_rules folder.form bytes = cc in
      ap (flat_map (vendor_spots folder start file)) same

  pub none-there : (spots : List Spot) → None ≡ option_map (good_rules folder.form) (bytes_at file folder.entries) →
      spots ≡ spots ++ vendor_spots_in folder start file
  none-there spots h = sym (append-nil spots) ∙ ap (λ l. spots ++ l) (gone (bytes_at file folder.entries) h)

  pub some-there : (old new : List Spot) (rules : List Rule) →
      Some (map rule_view rules) ≡ option_map (good_rules folder.form) (bytes_at file folder.entries) →
      new ≡ old ++ flat_map (λ rule. vendor_spots folder start file (rule_view rule)) rules → new ≡ old ++ vendor_spots_in folder start file
  some-there old new rules h is =
      is ∙ ap (λ l. old ++ l)
      (sym (flat_map-map (vendor_spots folder start file) rule_view rules) ∙ there (bytes_at file folder.entries) (map rule_view rules) h)
