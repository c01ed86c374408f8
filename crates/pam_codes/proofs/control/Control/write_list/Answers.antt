use Rattle.std.proofs.Common.{List, ℕ, ◌++◌, ap, codes}
use Rattle.pam_codes.specs.Code.{code_names}
use Rattle.pam_codes.specs.ControlText.{mentions}
use Rattle.pam_codes.proofs.Mentions.{end_text, list_text-parts}
use Rattle.pam_text.proofs.Writing.{err-front, front-then, front-longer, front-is, all-then, writes-then, writes-is}
use Rattle.pam_codes.proofs.control.Control.write_list.Goals as goal

pub returns-in_err-put : goal.returns-in_err-put
returns-in_err-put g c =
    let default = c.default_action-default.result in
    err-front _ c.from_residual.ensures.0
    (front-is (front-longer (end_text default) (front-longer (mentions default code_names c.args.self.now) c.in_err-put.ensures))
    (list_text-parts default c.args.self.now c.default_action-default.ensures.value))

pub returns-in_err-write_mentions : goal.returns-in_err-write_mentions
returns-in_err-write_mentions g c =
    let default = c.default_action-default.result in
    err-front _ c.from_residual-in_err-write_mentions.ensures.0
    (front-is (front-longer (end_text default) (front-then c.in_ok-put.ensures c.in_err-write_mentions.ensures))
    (list_text-parts default c.args.self.now c.default_action-default.ensures.value))

pub returns : goal.returns
returns g c =
    let default = c.default_action-default.result in
    let ended = writes-is _ _ _ _ _ _ c.put_line.ensures (ap (λ (word : List ℕ). codes "default=" ++ (word ++ codes "]")) c.piece.ensures) in
    writes-is _ _ _ _ _ _ (writes-then _ (end_text default) _ (all-then c.in_ok-put.ensures c.in_ok-write_mentions.ensures) ended)
    (list_text-parts default c.args.self.now c.default_action-default.ensures.value)
