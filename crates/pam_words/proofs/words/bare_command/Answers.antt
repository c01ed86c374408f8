use Rattle.std.proofs.Common.{◌≡◌, ◌∙◌, ap, true}
use Rattle.clap.specs.Simple.{app_of_fields}
use Rattle.clap.specs.Words.{App, app_of}
use Rattle.pam_words.specs.Words.{bare_app}
use Rattle.pam_words.proofs.words.bare_command.Goals as goal

with-version : App → App
with-version app = record app { top = record app.top { has_version = true } }

with-required : App → App
with-required app = record app { top = record app.top { subcommand_required = true } }

pub returns-clause-app : goal.returns-clause-app
unfolding bare_app with-version with-required
returns-clause-app c =
    let named : app_of c.about.result ≡ app_of c.new.result = ap app_of_fields c.about.ensures in
    let helped : app_of c.after_help.result ≡ app_of c.about.result = ap app_of_fields c.after_help.ensures in
    let versioned : app_of c.version-2.result ≡ with-version (app_of c.after_help.result) = ap app_of_fields c.version-2.ensures in
    let required : app_of c.subcommand_required.result ≡ with-required (app_of c.version-2.result) =
    ap app_of_fields c.subcommand_required.ensures in
    required ∙ ap with-required (versioned ∙ ap with-version (helped ∙ (named ∙ c.new.ensures.app)))
