-- A stack at which rules are judged: pam.conf(5).
use Rattle.std.specs.Prelude.{List}
use Rattle.pam_conf.specs.declared.rule.Kind.{Kind}
use Rattle.pam_conf.specs.Stack.{Items}
use Rattle.pam_facts.specs.Rows.{Row}
use Rattle.pam_policy.specs.declared.rules.site.Site.{Site}

-- A STACK of a kind, and the facts of its modules
pub record SiteText : Type 0 where
  pub kind : Kind
  pub items : Items
  pub rows : List Row

abbrev pub site_view : Site → SiteText
site_view site = record { kind = site.kind; items = site.stack.now; rows = site.facts.now }
