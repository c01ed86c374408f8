use Rattle.pam_drawing.proofs.PictureProofs.Labels.{all-codes-plain, few-codes, more-codes, most-codes, one-else}
use Rattle.pam_drawing.proofs.picture.laws.labels.Goals as goal

pub returns : goal.returns
returns c = record {
  few = few-codes;
  more = more-codes;
  most = most-codes;
  all = all-codes-plain;
  once = one-else;
}
