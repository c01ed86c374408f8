-- For private contracts and proofs alone: a frame at which a branch is followed.
use Rattle.pam_paths.specs.declared.frames.Branch.{Branch}
use Rattle.pam_paths.specs.declared.frames.Frame.{Frame}

abbrev pub followed : Frame → Branch → Frame
followed frame branch = record {
  place = frame.place;
  module_number = frame.module_number;
  code = branch.code;
  class = branch.class;
  classes = frame.classes;
}
