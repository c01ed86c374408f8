-- What is written part by part.
use Rattle.std.specs.Prelude.{map}
use Rattle.std.specs.Option.{option_copied}
use Rattle.pam_render.specs.sarif.Location.{uri_of}
use Rattle.serde_json.specs.Data.{Data, string}
use Rattle.pam_lsp.specs.Findings.{finding_view}
use Rattle.pam_lsp.specs.Messages.{id_view}
use Rattle.pam_lsp.specs.Publications.{diagnostics_array}
use Rattle.pam_lsp.specs.Replies.{error_object, welcome_object}
use Rattle.pam_lsp.specs.declared.publication.PublishedValue.{PublishedValue}
use Rattle.pam_lsp.specs.declared.publication.PublishedValue.TheVariants as published
use Rattle.pam_lsp.specs.declared.reply.ReplyValue.{ReplyValue}
use Rattle.pam_lsp.specs.declared.reply.ReplyValue.TheVariants as replies

abbrev pub reply_value : ReplyValue → Data
reply_value (replies.Id id) = id_view id.now
reply_value (replies.Welcome encoding) = welcome_object encoding
reply_value (replies.Error refusal) = error_object refusal

abbrev pub published_value : PublishedValue → Data
published_value (published.Uri uri) = string uri.now
published_value (published.Path path) = string (uri_of path.now)
published_value (published.Diagnostics diagnostics findings) =
    diagnostics_array diagnostics.encoding (option_copied diagnostics.text) (map finding_view findings.now)
