use Rattle.std.proofs.Common.{◌∙◌, ◌≡◌, ◌++◌, ◌∷◌, [], List, ap, append-nil, append_assoc, codes, refl, ℕ, Option}
use Rattle.std.specs.List.{concat}
use Rattle.pam_codes.proofs.Writing.{err-front, front-is, front-longer, writes-is, writes-then}
use Rattle.pam_conf.specs.Files.{Folder}
use Rattle.pam_conf.specs.declared.conf_error.ConfError.{ConfError}
use Rattle.pam_findings.specs.declared.host.problem.Problem.TheVariants.{Fault}
use Rattle.pam_findings.specs.host.Rows.{row_of}
use Rattle.pam_report.specs.Fault.{file_at}
use Rattle.pam_report.specs.ReplyViews.{side_files}
use Rattle.pam_render.specs.text.Compare.{fault_text, place_text}
use Rattle.pam_render.proofs.text.compare.parts.put_fault.Goals as goal

parts : (number name place : List ℕ) → concat (number ∷ codes " " ∷ name ∷ []) ++ place ≡ number ++ codes " " ++ name ++ place
parts number name place = simp (append_assoc, append-nil)

fault-is : (files : Folder) (fault : ConfError) (number name : List ℕ) → number ≡ (row_of (Fault fault.kind)).number
    → name ≡ (row_of (Fault fault.kind)).name
    → concat (number ∷ codes " " ∷ name ∷ []) ++ place_text (file_at files fault.at) fault.line ≡ fault_text files fault
unfolding fault_text
fault-is files fault number name e f = parts number name (place_text (file_at files fault.at) fault.line) ∙ rw (e, f) refl

pub returns-in_err-put_line : goal.returns-in_err-put_line
returns-in_err-put_line g c =
    let files = side_files c.args.files in
    let fault = c.args.fault.now in
    err-front _ c.from_residual.ensures.0
    (front-is (front-longer (place_text (file_at files fault.at) fault.line) c.in_err-put_line.ensures)
    (fault-is files fault _ _ (c.as_bytes.ensures.value ∙ c.number.ensures) (c.as_bytes-2.ensures.value ∙ c.name.ensures)))

pub returns : goal.returns
returns g c =
    let files = side_files c.args.files in
    let fault = c.args.fault.now in
    writes-is _ _ _ _ _ _ (writes-then _ _ _ c.in_ok-put_line.ensures c.put_place.ensures)
    (ap (λ (file : Option (List ℕ)). concat (c.as_bytes.result.now ∷ codes " " ∷ c.as_bytes-2.result.now ∷ []) ++ place_text file fault.line) c.file_of.ensures
    ∙ fault-is files fault _ _ (c.as_bytes.ensures.value ∙ c.number.ensures) (c.as_bytes-2.ensures.value ∙ c.name.ensures))
