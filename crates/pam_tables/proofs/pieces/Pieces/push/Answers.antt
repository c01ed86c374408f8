use Rattle.std.proofs.Common.{arith}
use Rattle.pam_tables.proofs.Digits.{piece_fits}
use Rattle.pam_tables.proofs.pieces.Pieces.push.Goals as goal

pub overflow_mul-result : goal.overflow_mul-result
overflow_mul-result c = omega (arith, piece_fits c.args.self.number c.args.piece c.args.self.count c.args.self.fits c.requires.room c.requires.fits)

pub overflow_add-result : goal.overflow_add-result
overflow_add-result c = omega (arith, piece_fits c.args.self.number c.args.piece c.args.self.count c.args.self.fits c.requires.room c.requires.fits)
