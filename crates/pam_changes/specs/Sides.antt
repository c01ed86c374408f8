-- The two configurations that are compared, and what is known of the answers of their modules.
use Rattle.std.specs.Prelude.{ℕ, List, Option, map}
use Rattle.std.specs.Option.{option_map}
use Rattle.pam_conf.specs.Files.{Folder}
use Rattle.pam_facts.specs.Rows.{Row}
use Rattle.pam_facts.specs.settings.Settings.{SettingText, setting_view}
use Rattle.pam_tables.specs.Returns.{ReturnLine}
use Rattle.pam_changes.specs.declared.sides.Side.{Side}
use Rattle.pam_changes.specs.declared.sides.Sides.{Sides}

-- a configuration, and the paths at which a module is there, as its rules write them; none if that is not known
pub record SideText : Type 0 where
  pub folder : Folder
  pub there : Option (List (List ℕ))

-- two configurations, the facts of modules, the lines of a returns file, if one is given, and the codes that are set for modules
pub record SidesText : Type 0 where
  pub old : SideText
  pub new : SideText
  pub facts : List Row
  pub returns : Option (List ReturnLine)
  pub settings : List SettingText

abbrev pub side_view : Side → SideText
side_view s = record { folder = s.files.now; there = option_map (λ t. t.now) s.there }

abbrev pub sides_view : Sides → SidesText
sides_view s = record {
  old = side_view s.old;
  new = side_view s.new;
  facts = s.facts.now;
  returns = option_map (λ t. t.now) s.returns;
  settings = map setting_view s.settings.now;
}
