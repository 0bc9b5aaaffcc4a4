-- What the code answers of what follows line 2, as the definitions have it.
use Rattle.std.specs.Prelude.{Result, Ok, Err}
use Rattle.model.specs.declared.After.{After}
use Rattle.model.specs.declared.FiledFigures.{FiledFigures}
use Rattle.model.specs.Reason.{number_of}
use Rattle.invariants.specs.Reading.{FiledEnd}
use Rattle.sheet_read.specs.declared.Unread.{Unread}

-- the figures and the place after them, or a refusal with the figures before it
abbrev pub end_in : Result (After FiledFigures) (Unread FiledFigures) → FiledEnd
end_in (Ok a) = record { refusal = 0; at = a.at; figures = a.value }
end_in (Err u) = record { refusal = number_of u.refused.reason; at = u.refused.at; figures = u.so_far }
