use Rattle.std.proofs.Common.{◌+◌, subst, sym}
use Rattle.pam_findings.specs.host.inner.Own.{IsRead, read_by}
use Rattle.pam_findings.specs.host.inner.Table.{Puts}
use Rattle.pam_findings.proofs.HostProofs.Owned.{reads-more, reads-none, reads-skip}
use Rattle.pam_findings.proofs.host.own.put_files.Goals.{in-Some+in_ok-put_file-in-Some, in-None}
use Rattle.pam_findings.proofs.host.own.put_files.Goals as goal

pub loop-file-init : goal.loop-file-init
loop-file-init c = reads-none c.args.checker.now.files.now c.args.checker.now.vendor_start c.args.readers.now c.args.table.now

pub loop-file-preserved : goal.loop-file-preserved
loop-file-preserved c =
    let files = c.args.checker.now.files.now in
    let start = c.args.checker.now.vendor_start in
    let readers = c.args.readers.now in
    let n = c.loop-file.file in
    let old = c.args.table.now in
    elim c.match-readers-file.branch [
      | in-Some+in_ok-put_file-in-Some w ↦
          let k = reads-more files start readers n w.in-Some.met old c.loop-file.table w.put_file.new.table w.in-Some.is c.loop-file.invariant
          w.in_ok-put_file-in-Some.ensures in
          subst (λ t. Puts (IsRead files start readers (n + 1)) (read_by readers) old t) (sym w.table-is) k
      | in-None w ↦
          let k = reads-skip files start readers n old c.loop-file.table w.in-None.is c.loop-file.invariant in
          subst (λ t. Puts (IsRead files start readers (n + 1)) (read_by readers) old t) (sym w.table-is) k
    ]
