-- What the code answers of lines 1 and 2, as the definitions have it.
use Rattle.std.specs.Prelude.{Result, Ok, Err}
use Rattle.model.specs.declared.After.{After}
use Rattle.model.specs.declared.Measures.{Measures}
use Rattle.model.specs.Format.{Head}
use Rattle.model.specs.Reason.{number_of}
use Rattle.sheet_read.specs.declared.Unread.{Unread}

-- the measures of what was read and the place after it, or a refusal with the measures before it
abbrev pub head_in : {A : Type 0} → Result (After A) (Unread Measures) → (A → Measures) → Head
head_in (Ok a) measured = record { refusal = 0; at = a.at; measures = measured a.value }
head_in (Err u) measured = record { refusal = number_of u.refused.reason; at = u.refused.at; measures = u.so_far }
