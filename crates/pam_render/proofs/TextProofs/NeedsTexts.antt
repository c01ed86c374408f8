-- The text of `needs`, from what is read of its stack.
use Rattle.std.proofs.Common.{◌≡◌, ◌++◌, ℕ, codes, refl}
use Rattle.pam_conf.specs.Stack.{module_count}
use Rattle.pam_report.specs.Reply.{NeedsValue}
use Rattle.pam_render.specs.text.Header.{header_text}
use Rattle.pam_render.specs.text.Needs.{needs_text, rules_text}

pub needs-are : (value : NeedsValue) (modules : ℕ) → modules ≡ module_count value.items
    → (codes "# " ++ header_text value.service value.kind modules) ++ rules_text value value.rules ≡ needs_text value
needs-are value modules e = rw e refl
