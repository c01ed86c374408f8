use Rattle.std.proofs.Common.{◌≡◌, ◌||◌, refl}
use Rattle.pam_codes.proofs.Writing.{all-then, err-front, front-is, front-longer, front-then, writes-is, writes-then}
use Rattle.pam_render.proofs.TextProofs.CheckMet.{kinds-are, or-else, or-then}
use Rattle.pam_render.proofs.text.check.met.put_kinds.Goals as goal
use Rattle.pam_render.proofs.text.check.met.put_kinds.Goals.{then-kinds, else-kinds, then-kinds-2, else-kinds-2, then-kinds-3, else-kinds-3}

pub returns-in_err-put_if_kind-2 : goal.returns-in_err-put_if_kind-2
returns-in_err-put_if_kind-2 g c =
    let k = c.args.kinds in
    err-front _ c.from_residual-in_err-put_if_kind-2.ensures.0
    (front-is (front-longer _ (front-longer _ (front-then c.in_ok-put_if_kind.ensures c.in_err-put_if_kind-2.ensures)))
    (kinds-are k (k.auth || k.account) (k.auth || k.account || k.password) refl refl))

pub returns-in_err-put_if_kind-3 : goal.returns-in_err-put_if_kind-3
returns-in_err-put_if_kind-3 g c =
    let k = c.args.kinds in
    let two : c.if-kinds.put_if_kind ≡ (k.auth || k.account) = elim c.if-kinds.branch [
      | then-kinds w ↦ or-then k.account w.if-kinds.true w.put_if_kind-is
      | else-kinds w ↦ or-else w.if-kinds.false w.put_if_kind-is
    ] in
    err-front _ c.from_residual-in_err-put_if_kind-3.ensures.0
    (front-is (front-longer _ (front-then (all-then c.in_ok-put_if_kind.ensures c.in_ok-put_if_kind-2.ensures) c.in_err-put_if_kind-3.ensures))
    (kinds-are k _ (k.auth || k.account || k.password) two refl))

pub returns : goal.returns
returns g c =
    let k = c.args.kinds in
    let two : c.if-kinds.put_if_kind ≡ (k.auth || k.account) = elim c.if-kinds.branch [
      | then-kinds w ↦ or-then k.account w.if-kinds.true w.put_if_kind-is
      | else-kinds w ↦ or-else w.if-kinds.false w.put_if_kind-is
    ] in
    let again : c.if-kinds-2.value ≡ (k.auth || k.account) = elim c.if-kinds-2.branch [
      | then-kinds-2 w ↦ or-then k.account w.if-kinds-2.true w.value-is
      | else-kinds-2 w ↦ or-else w.if-kinds-2.false w.value-is
    ] in
    let three : c.if-kinds-3.more ≡ (c.if-kinds-2.value || k.password) = elim c.if-kinds-3.branch [
      | then-kinds-3 w ↦ or-then k.password w.if-kinds-3.true w.more-is
      | else-kinds-3 w ↦ or-else w.if-kinds-3.false w.more-is
    ] in
    writes-is _ _ _ _ _ _
    (writes-then _ _ _ (all-then (all-then c.in_ok-put_if_kind.ensures c.in_ok-put_if_kind-2.ensures) c.in_ok-put_if_kind-3.ensures) c.put_if_kind-4.ensures)
    (kinds-are k _ _ two (rw again at three))
