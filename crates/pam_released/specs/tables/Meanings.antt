-- What each difference means, and how it is mended: texts for people.
use Rattle.std.specs.Prelude.{ℕ, List, codes}
use Rattle.pam_released.specs.declared.tables.difference.TableDifference.{TableDifference}
use Rattle.pam_released.specs.declared.tables.difference.TableDifference.TheVariants.{ZeroMask, AccessNoLineFeed, LeadingBlank, BlankInToken, EmptySeparator}
use Rattle.pam_released.specs.declared.tables.difference.TableDifference.TheVariants.{MaskDigits, Loopback, TimeNoLineFeed, OddBytes, LongField, FinishMinute}

-- the number and the name
unfoldable pub name_of : TableDifference → List ℕ
name_of ZeroMask = codes "A1 ZeroMask"
name_of AccessNoLineFeed = codes "A2 NoLineFeed"
name_of LeadingBlank = codes "A3 LeadingBlank"
name_of BlankInToken = codes "A4 BlankInToken"
name_of EmptySeparator = codes "A5 EmptySeparator"
name_of MaskDigits = codes "A6 MaskDigits"
name_of Loopback = codes "A7 Loopback"
name_of TimeNoLineFeed = codes "T1 NoLineFeed"
name_of OddBytes = codes "T2 OddBytes"
name_of LongField = codes "T3 LongField"
name_of FinishMinute = codes "T4 FinishMinute"

-- which releases read it otherwise, and how
unfoldable pub meaning_of : TableDifference → List ℕ
meaning_of ZeroMask = codes "Linux-PAM 1.5.2 to 1.7.0 takes a mask of 0 bits for no mask, so the token matches that address alone"
meaning_of AccessNoLineFeed = codes "Linux-PAM 1.5.2 to 1.7.0 skips a last line that no line feed ends"
meaning_of LeadingBlank = codes "Linux-PAM 1.5.2 to 1.7.0 skips a rule that begins with a blank"
meaning_of BlankInToken = codes "Linux-PAM 1.5.2 to 1.7.0 takes a blank that listsep= lacks as a part of the token"
meaning_of EmptySeparator = codes "Linux-PAM 1.5.2 to 1.7.0 then skips every line, or takes each list for one token"
meaning_of MaskDigits = codes "Linux-PAM 1.5.2 to 1.7.0 reads a mask that begins with 0 as an octal number, or as none"
meaning_of Loopback = codes "Linux-PAM 1.7.0 takes 127.0.0.1 and ::1 for the same address"
meaning_of TimeNoLineFeed = codes "Linux-PAM 1.5.2 to 1.7.0 reads no times in a last line that no line feed ends, so that its rule denies at all times"
meaning_of OddBytes = codes "Linux-PAM 1.5.2 to 1.7.0 cuts a token at a byte other than letters, digits, *, _, -, ., / and :"
meaning_of LongField = codes "Linux-PAM 1.5.2 to 1.7.0 has no room for 1,000 bytes: it skips the rule, or denies at all times where these are so long"
meaning_of FinishMinute = codes "Linux-PAM 1.5.2 to 1.7.0 counts the finish minute of a range past midnight too"

-- what to do
unfoldable pub mending_of : TableDifference → List ℕ
mending_of ZeroMask = codes "write ALL, or each address"
mending_of AccessNoLineFeed = codes "end the line with a line feed"
mending_of LeadingBlank = codes "remove the blanks before the rule"
mending_of BlankInToken = codes "remove the blanks around the token, or add them to listsep="
mending_of EmptySeparator = codes "give the argument a value, or remove it"
mending_of MaskDigits = codes "write the mask without zeros before it"
mending_of Loopback = codes "write both addresses"
mending_of TimeNoLineFeed = codes "end the line with a line feed"
mending_of OddBytes = codes "write * for the part of the name with other bytes"
mending_of LongField = codes "shorten the field, or write several rules"
mending_of FinishMinute = codes "write two ranges, the first of which ends at 2400"
