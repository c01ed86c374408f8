-- What is read of `other`.
use Rattle.std.proofs.Common.{◌≡◌, ◌∙◌, ℕ, Bool, true, false, List, [], ◌∷◌, codes, ap, refl, sym}
use Rattle.std.specs.Prelude.{if◌then◌else◌}
use Rattle.pam_conf.specs.Files.{Folder}
use Rattle.pam_conf.specs.Survey.{SurveyText, surveyed}
use Rattle.pam_conf.specs.declared.rule.Kind.{Kind}
use Rattle.pam_conf.specs.declared.rule.Kind.TheVariants.{Auth, Account, Password, Session}
use Rattle.pam_findings.specs.host.Beside.{beside, if_begun, names_other, nothing_read}

pub by-kind : (P : Kind → Type 0) → P Auth → P Account → P Password → P Session → (kind : Kind) → P kind
by-kind P auth account password session Auth = auth
by-kind P auth account password session Account = account
by-kind P auth account password session Password = password
by-kind P auth account password session Session = session

pub beside-named : (folder : Folder) (services : List (List ℕ)) (kind : Kind) → names_other services ≡ true → nothing_read ≡ beside folder services kind
unfolding beside
beside-named folder services kind named =
    sym (ap (λ (b : Bool). if b then nothing_read
    else if_begun (surveyed folder (codes "other") kind) (surveyed folder (codes "other") kind).reached) named)

pub beside-begun : (folder : Folder) (services : List (List ℕ)) (kind : Kind) → names_other services ≡ false →
    (survey : SurveyText) → survey ≡ surveyed folder (codes "other") kind → if_begun survey survey.reached ≡ beside folder services kind
unfolding beside
beside-begun folder services kind unnamed survey is =
    ap (λ (s : SurveyText). if_begun s s.reached) is
    ∙ sym (ap (λ (b : Bool). if b then nothing_read
    else if_begun (surveyed folder (codes "other") kind) (surveyed folder (codes "other") kind).reached) unnamed)

pub begun-nowhere : (survey : SurveyText) → survey.reached ≡ [] → nothing_read ≡ if_begun survey survey.reached
begun-nowhere survey none = sym (ap (if_begun survey) none)

pub begun-somewhere : (survey : SurveyText) (reached : List ℕ) → (reached ≡ [] → ⊥) → survey ≡ if_begun survey reached
begun-somewhere survey [] some = absurd (some refl)
begun-somewhere survey (file ∷ files) some = refl
