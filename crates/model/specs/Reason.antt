-- Why a call is refused, as the code names it, and the number of document 01 or of the requests for each; and what the
-- answers in the code say.
use Rattle.std.specs.Prelude.{ℕ, Result, Ok, Err}
use Rattle.model.specs.declared.Reason.{Reason}
use Rattle.model.specs.declared.Refused.{Refused}

abbrev pub number_of : Reason → ℕ
number_of Reason.Size = 1
number_of Reason.Radius = 2
number_of Reason.Reach = 3
number_of Reason.Kind = 4
number_of Reason.Length = 5
number_of Reason.Sum = 6
number_of Reason.Dot = 7
number_of Reason.Cell = 8
number_of Reason.Pair = 9
number_of Reason.Byte = 10
number_of Reason.Field = 11
number_of Reason.Room = 12
number_of Reason.Input = 13
number_of Reason.Layout = 14
number_of Reason.Maximum = 15
number_of Reason.Contradiction = 16
number_of Reason.Pfm = 17
number_of Reason.Sample = 18
number_of Reason.Table = 20
number_of Reason.Ledger = 21
number_of Reason.Like = 22
number_of Reason.Locked = 23

-- a refusal without a place
abbrev pub unplaced : Reason → Refused
unplaced r = record { reason = r; at = 0 }

-- the number that a judge draws, 0 where it draws none
abbrev pub drawn : Result (Unit {0}) Reason → ℕ
drawn (Ok u) = 0
drawn (Err r) = number_of r
