-- The numbers of the replies, and of what an octet is.
use Rattle.std.specs.Prelude.{ℕ}
use Rattle.wire.specs.declared.Reply.{Reply}
use Rattle.wire.specs.declared.Reply.TheVariants.{Far, NoRoom, Truncated, Other, Misplaced, NotAllowed, LeftOver}
use Rattle.wire.specs.declared.rules.Form.{Form}
use Rattle.wire.specs.declared.rules.Form.TheVariants.{Plain, Choice, Cause, IdEnd}

abbrev pub number_of : Reply → ℕ
number_of Far = 11
number_of NoRoom = 15
number_of Truncated = 17
number_of Other = 18
number_of Misplaced = 19
number_of NotAllowed = 20
number_of LeftOver = 21

abbrev pub form_number : Form → ℕ
form_number Plain = 0
form_number Choice = 1
form_number Cause = 2
form_number IdEnd = 3
