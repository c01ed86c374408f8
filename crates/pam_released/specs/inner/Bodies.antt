-- For private contracts and proofs alone: what the words after a kind make, as the code keeps it.
use Rattle.pam_conf.specs.Rule.{body_view}
use Rattle.pam_released.specs.Rules.{Body, BodyRead, Missing, Refused}
use Rattle.pam_released.specs.declared.reading.BodyReading.{BodyReading}
use Rattle.pam_released.specs.declared.reading.BodyReading.TheVariants as kept

abbrev pub body_reading_view : BodyReading → BodyRead
body_reading_view (kept.Body body) = Body (body_view body)
body_reading_view (kept.Missing control) = Missing control
body_reading_view kept.Refused = Refused
