use Rattle.std.proofs.Common.{◌||◌, ℕ, List, ap, arith}
use Rattle.std.specs.List.{list_any}
use Rattle.std.specs.Str.{bytes_eq}
use Rattle.pam_conf.specs.Targets.{is_target}
use Rattle.pam_findings.proofs.HostProofs.Targets.{files-all, files-more}
use Rattle.pam_findings.proofs.host.targets.target_names.Goals as goal

pub loop-position-init : goal.loop-position-init
loop-position-init c = λ name.
    ap (λ (names : List (List ℕ)). list_any (bytes_eq name) names || is_target c.args.rules.now name) c.new-names.ensures

pub loop-position-preserved : goal.loop-position-preserved
loop-position-preserved c = λ name.
    files-more c.args.rules.now name c.loop-position.position c.loop-position.names c.add_file.new.names
    c.in_ok-add_file.ensures (c.loop-position.invariant name)

pub returns : goal.returns
returns c = λ name.
    files-all c.args.rules.now name c.loop-position.position c.loop-position.names
    (omega (arith, c.len-position-end.ensures, c.loop-position-test.false)) (c.loop-position.invariant name)
