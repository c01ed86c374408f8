use Rattle.pam_render.proofs.JsonLinesProofs.Bytes.{no-control-byte}
use Rattle.pam_render.proofs.json_lines.laws.no_string_ends_a_line.Goals as goal

pub returns : goal.returns
returns c = no-control-byte
