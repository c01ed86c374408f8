-- The rows of the findings of policies, and how grave they are.
use Rattle.pam_explain.specs.declared.explanation.Level.{Level}
use Rattle.pam_explain.specs.declared.policies.TheConstants as of_policies
use Rattle.pam_explain.specs.Explanation.{Explanation}
use Rattle.pam_explain.specs.Views.{row_view}
use Rattle.pam_policy.specs.host.Findings.{FindingText, Broken, Impossible, Misnamed, SaysNothing, NotKnown}
use Rattle.pam_policy.specs.names.Words.{MisnamedText, FitsNone, NoArgument, NoModule, NoService}

abbrev pub row_of_word : MisnamedText → Explanation
row_of_word (NoService word) = row_view of_policies.NO_SERVICE_FITS
row_of_word FitsNone = row_view of_policies.NO_SERVICE_FITS
row_of_word (NoModule word) = row_view of_policies.NO_MODULE_FITS
row_of_word (NoArgument argument) = row_view of_policies.NO_ARGUMENT

-- THE ROW of a finding
abbrev pub policy_row : FindingText → Explanation
policy_row (Broken class run) = row_view of_policies.BROKEN
policy_row (Impossible class) = row_view of_policies.IMPOSSIBLE
policy_row (Misnamed word) = row_of_word word
policy_row (SaysNothing idle) = row_view of_policies.IDLE
policy_row (NotKnown class) = row_view of_policies.NOT_KNOWN

abbrev pub level_of_word : MisnamedText → Level
level_of_word word = (row_of_word word).level

-- HOW GRAVE A FINDING IS: as its row says
abbrev pub policy_level : FindingText → Level
policy_level finding = (policy_row finding).level
