-- What each difference means, and how it is mended: texts for people.
use Rattle.std.specs.Prelude.{ℕ, List, codes}
use Rattle.pam_released.specs.declared.difference.Difference.{Difference}
use Rattle.pam_released.specs.declared.difference.Difference.TheVariants.{CarriageReturn, ContinuedOverBlank, BackslashBlank, BackslashComment}
use Rattle.pam_released.specs.declared.difference.Difference.TheVariants.{EndsInContinuation, CapitalInBrackets, LongLine, EmptyModuleName, DroppedBlank}

-- the number and the name
unfoldable pub name_of : Difference → List ℕ
name_of CarriageReturn = codes "L1 CarriageReturn"
name_of ContinuedOverBlank = codes "L2 ContinuedOverBlank"
name_of BackslashBlank = codes "L3 BackslashBlank"
name_of BackslashComment = codes "L4 BackslashComment"
name_of EndsInContinuation = codes "L5 EndsInContinuation"
name_of CapitalInBrackets = codes "L6 CapitalInBrackets"
name_of LongLine = codes "L7 LongLine"
name_of EmptyModuleName = codes "L8 EmptyModuleName"
name_of DroppedBlank = codes "L9 DroppedBlank"

-- which releases read it otherwise, and how
unfoldable pub meaning_of : Difference → List ℕ
meaning_of CarriageReturn =
    codes "Linux-PAM 1.5.2 to 1.7.0 takes a carriage return as a part of the word before it"
meaning_of ContinuedOverBlank =
    codes "Linux-PAM 1.5.2 goes on over blank lines and comments, so the next rule becomes arguments of this one"
meaning_of BackslashBlank =
    codes "Linux-PAM 1.5.2 to 1.7.0 goes on with the next line, although blanks follow the backslash"
meaning_of BackslashComment =
    codes "Linux-PAM 1.5.2 to 1.7.0 does not go on with the next line, since a comment follows the backslash"
meaning_of EndsInContinuation =
    codes "Linux-PAM 1.5.2 to 1.7.0 refuses a file that ends with a line that goes on; 1.5.2 also before blank lines and comments"
meaning_of CapitalInBrackets =
    codes "Linux-PAM 1.5.2 to 1.7.0 compares what is in brackets with case, and makes all actions bad where a name is unknown"
meaning_of LongLine =
    codes "Linux-PAM 1.5.2 cuts a logical line after 1,023 bytes, and takes the rest as a rule that fails, or reads for ever"
meaning_of EmptyModuleName =
    codes "Linux-PAM 1.5.2 to 1.7.0 refuses the whole configuration where a module or a substack has no name"
meaning_of DroppedBlank =
    codes "Linux-PAM 1.7.0 drops the blanks that this line begins with, although a word in brackets goes on"

-- what to do
unfoldable pub mending_of : Difference → List ℕ
mending_of CarriageReturn = codes "end each line with a line feed alone"
mending_of ContinuedOverBlank = codes "remove the backslash, or the blank lines and comments after it"
mending_of BackslashBlank = codes "remove the blanks after the backslash, or the backslash"
mending_of BackslashComment = codes "remove the comment, or the backslash"
mending_of EndsInContinuation = codes "remove the backslash"
mending_of CapitalInBrackets = codes "write what is in brackets in lower case"
mending_of LongLine = codes "shorten the rule"
mending_of EmptyModuleName = codes "give its file a name, also before the last dot"
mending_of DroppedBlank = codes "write the word in brackets on one line"
