-- What the stacks of a host are found from: pam.conf(5), access.conf(5), time.conf(5).
use Rattle.std.specs.Prelude.{ℕ, List, map}
use Rattle.pam_conf.specs.Files.{Folder}
use Rattle.pam_facts.specs.known.Tables.{TablesText, tables_view}
use Rattle.pam_facts.specs.settings.Settings.{SettingText, setting_view}
use Rattle.pam_tables.specs.Login.{LoginText}
use Rattle.pam_policy.specs.declared.host.stacks.HostSources.{HostSources}
use Rattle.pam_policy.specs.declared.host.stacks.Visitor.{Visitor}

-- whose login the tables are asked about
pub record VisitorText : Type 0 where
  pub user : List ℕ
  pub rhost : List ℕ
  pub tty : List ℕ

abbrev pub visitor_view : Visitor → VisitorText
visitor_view v = record { user = v.user.now; rhost = v.rhost.now; tty = v.tty.now }

-- THE SOURCES: the configuration, whose login it is, what gives the answers of modules, and the codes that are set for them
pub record SourcesText : Type 0 where
  pub folder : Folder
  pub visitor : VisitorText
  pub tables : TablesText
  pub settings : List SettingText

abbrev pub sources_view : HostSources → SourcesText
sources_view s = record {
  folder = s.files.now;
  visitor = visitor_view s.visitor;
  tables = tables_view s.tables.now;
  settings = map setting_view s.settings.now;
}

-- the login to a service
abbrev pub login_to : VisitorText → List ℕ → LoginText
login_to visitor name = record { user = visitor.user; service = name; tty = visitor.tty; rhost = visitor.rhost }
