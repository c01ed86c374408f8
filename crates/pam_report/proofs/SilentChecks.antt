-- A check that lists only notes.
use Rattle.std.proofs.Common.{◌≡◌, ◌<◌, ℕ, All, Bool, List, length, subst, Option}
use Rattle.std.specs.BTreeMap.{BTreeMap}
use Rattle.pam_conf.specs.Files.{Folder}
use Rattle.pam_conf.specs.declared.rule.Kind.{Kind}
use Rattle.pam_facts.specs.Rows.{Row}
use Rattle.pam_findings.specs.host.Laws.{IsSoundStack, LinksAreNotes, SilentHostIsSound}
use Rattle.pam_findings.specs.host.Levels.{level_of}
use Rattle.pam_findings.specs.host.Links.{WithLinks}
use Rattle.pam_findings.specs.host.Report.{IsReport, host_of}
use Rattle.pam_conf.specs.Services.{checked_services}
use Rattle.pam_explain.specs.declared.explanation.Level.TheVariants.{Note}
use Rattle.pam_findings.specs.declared.host.problem.Place.{Place}
use Rattle.pam_findings.specs.declared.host.report.Finding.{Finding}
use Rattle.pam_findings.specs.declared.host.way_in.WayIn.{WayIn}

pub silent-check : SilentHostIsSound → LinksAreNotes → (files : Folder) (vendor_start : ℕ) (named : List (List ℕ)) (facts : List Row)
    (there : Option (List (List ℕ))) (arguments : Option (List (List ℕ))) (plain : BTreeMap Place Finding) (ways : List (Option WayIn)) →
    IsReport files vendor_start named facts there arguments plain ways →
    (outside : List Bool) (all : BTreeMap Place Finding) → WithLinks outside plain all →
    (services : List (List ℕ)) → services ≡ checked_services files named → (found : List (Place × Finding)) → found ≡ all.entries →
    All (λ entry. level_of entry.1.problem ≡ Note) found →
    (service : ℕ) (kind : Kind) → service < length services → IsSoundStack (host_of files vendor_start named facts there arguments) service kind
silent-check law notes_law files vendor_start named facts there arguments plain ways report outside all links services are found every notes service kind within =
    let host = host_of files vendor_start named facts there arguments in
    let silent = notes_law host named plain ways report outside all links (subst (All (λ entry. level_of entry.1.problem ≡ Note)) every notes) in
    law host named plain ways report silent service kind
    (subst (λ (l : List (List ℕ)). service < length l) are within)
