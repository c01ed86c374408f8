use Rattle.std.proofs.Common.{◌≡◌, ◌∙◌, ◌++◌, ◌≤◌, List, None, Option, Some, ap, map, subst, sym, ℕ}
use Rattle.std.proofs.lemmas.Result.{on_ok_weaker}
use Rattle.std.specs.Option.{option_map}
use Rattle.pam_conf.proofs.ServiceSteps.{seen-none, seen-of}
use Rattle.pam_conf.specs.FileRules.{good_rules}
use Rattle.pam_conf.specs.Files.{Folder, bytes_at}
use Rattle.pam_conf.specs.Rule.{RuleText, rule_view}
use Rattle.pam_conf.specs.declared.rule.Rule.{Rule}
use Rattle.pam_findings.specs.host.inner.Own.{vendor_spots}
use Rattle.pam_findings.specs.declared.host.problem.Spot.{Spot}
use Rattle.std.specs.List.{flat_map}
use Rattle.pam_findings.proofs.HostProofs.Vendored.{none-of-vendor, none-there, some-there}
use Rattle.pam_findings.proofs.host.vendor.push_from_vendor.Goals as goal

-- the rules of a file, by the files
of-files : (folder rules : Folder) (file : ℕ) (found : Option (List RuleText)) → rules ≡ folder →
    found ≡ option_map (good_rules rules.form) (bytes_at file rules.entries) → found ≡ option_map (good_rules folder.form) (bytes_at file folder.entries)
of-files folder rules file found same h =
    subst (λ (r : Folder). found ≡ option_map (good_rules r.form) (bytes_at file r.entries)) same h

pub returns-then-len-checker : goal.returns-then-len-checker
returns-then-len-checker c =
    let checker = c.args.checker.now in
    none-of-vendor checker.files.now checker.vendor_start (subst (λ (n : ℕ). n ≤ checker.vendor_start) c.len.ensures c.if-len-checker.true)
    c.args.file c.args.spots.now.items

pub returns-in_default : goal.returns-in_default
returns-in_default c =
    let checker = c.args.checker.now in
    none-there checker.files.now checker.vendor_start c.args.file c.args.spots.now.items
    (of-files checker.files.now checker.rules.now c.args.file None checker.same
    (sym (seen-none _ c.in_ok-rules.field-0 _ c.in_ok-rules.ensures c.in_default.is)))

pub returns : goal.returns
returns c =
    let checker = c.args.checker.now in
    let files = checker.files.now in
    let start = checker.vendor_start in
    let old = c.args.spots.now.items in
    let rules = c.in-Some.rules.items in
    let added : List Rule → List Spot = λ l. old ++ flat_map (λ rule. vendor_spots files start c.args.file (rule_view rule)) l in
    let read = of-files files checker.rules.now c.args.file (Some (map rule_view rules)) checker.same
    (sym (seen-of _ c.in_ok-rules.field-0 c.in-Some.rules _ c.in_ok-rules.ensures c.in-Some.is)) in
    on_ok_weaker c.push_rules.result
    (λ is. some-there files start c.args.file old c.push_rules.new.spots.items rules read (is ∙ ap added c.deref.ensures.value))
    c.push_rules.ensures
