-- Each public call as a function from what it is handed to its answer and to what it leaves in what it was lent.
use Rattle.std.specs.Prelude.{List, [], ◌∷◌, ◌≡◌, ℕ, zero, suc, ℤ, length, Result, Ok, Err}
use Rattle.model.specs.declared.Reason.{Reason}
use Rattle.model.specs.declared.Refused.{Refused}
use Rattle.model.specs.Reason.{number_of}
use Rattle.model.specs.declared.Measures.{Measures}
use Rattle.model.specs.declared.Stats.{Stats}
use Rattle.model.specs.declared.Attempt.{Attempt}
use Rattle.model.specs.declared.ScanResult.{ScanResult}
use Rattle.model.specs.declared.ConvergeResult.{ConvergeResult}
use Rattle.model.specs.Psf.{autocorrelations}
use Rattle.model.specs.Error.{Target, target_of, target_for, cell_at, filtered_errors, squared_error}
use Rattle.model.specs.Refusal.{autocorrelation_refusal, halftone_refusal, start_refusal}
use Rattle.model.specs.Screen.{start_dots}
use Rattle.model.specs.State.{later_refusal, toggle_refusal, swap_refusal}
use Rattle.model.specs.Reference.{Reference, reference}
use Rattle.model.specs.Reference.{Tried, accepted, declined, Performed, attempt}
use Rattle.model.specs.Scan.{toggles, swaps, scan, converge}
use Rattle.model.specs.Change.{toggle, swap}
use Rattle.model.specs.Ledger.{fresh_stats}

-- what an answer says: a result, or document 01's number with a byte offset, 0 where there is no place
pub data Reply (A : Type 0) : Type 0 where
  result : A → Reply A
  refused : (number at : ℕ) → Reply A

-- the number and the values of each case of an answer in the code
abbrev pub reply_of : {A : Type 0} → Result A Reason → Reply A
reply_of (Ok a) = result a
reply_of (Err r) = refused (number_of r) 0

-- of one with a byte offset
abbrev pub placed_reply : {A : Type 0} → Result A Refused → Reply A
placed_reply (Ok a) = result a
placed_reply (Err r) = refused (number_of r.reason) r.at

-- of an attempt
abbrev pub attempted : Attempt → Reply Tried
attempted (Attempt.Accepted s d) = result (accepted s d)
attempted (Attempt.Declined d) = result (declined d)
attempted (Attempt.Refused r) = refused (number_of r) 0

-- ---- a call: its answer, and what it leaves in the buffers that it is lent
pub record Outcome (A B : Type 0) : Type 0 where
  pub reply : Reply A
  pub left : B

-- a function ends as a call does: it answers its reply and leaves what it leaves
pub record Ends {A B : Type 0} (o : Outcome A B) (reply : Reply A) (left : B) : Type 0 where
  pub reply_is : reply ≡ o.reply
  pub left_is : left ≡ o.left

-- refused with that number, all as it was, unless it is 0
abbrev pub unless : {A B : Type 0} → ℕ → B → Outcome A B → Outcome A B
unless zero b o = o
unless (suc n) b o = record { reply = refused (suc n) 0; left = b }

unfoldable pub autocorrelation_call : (radius : ℕ) (psf : List ℕ) (out : List ℤ) → Outcome (Unit {0}) (List ℤ)
autocorrelation_call radius psf out =
    unless (autocorrelation_refusal radius psf (length out)) out
    (record { reply = result tt; left = autocorrelations radius psf })

module _ (width height radius : ℕ) (psf gray dots : List ℕ) where
  unfoldable pub filtered_error_call : (table : List ℤ) → Outcome (Unit {0}) (List ℤ)
  filtered_error_call table =
      unless (halftone_refusal width height radius psf gray dots (length table ∷ [])) table
      (record { reply = result tt; left = filtered_errors (target_of width height radius psf gray) dots })

  -- it is lent no buffer
  unfoldable pub squared_error_call : Outcome ℤ (Unit {0})
  squared_error_call =
      unless (halftone_refusal width height radius psf gray dots []) tt
      (record { reply = result (squared_error (target_of width height radius psf gray) dots); left = tt })

-- the buffers (01: lent slices) of a start and of the later calls, as they are handed in and left: dots and table
pub record Buffers : Type 0 where
  pub dots : List ℕ
  pub table : List ℤ

abbrev pub buffers : List ℕ → List ℤ → Buffers
buffers dots table = record { dots = dots; table = table }

-- dots with their table
abbrev pub with_table : Target → List ℕ → Buffers
with_table t dots = buffers dots (filtered_errors t dots)

unfoldable pub start_call : Measures → (psf gray dots : List ℕ) (table : List ℤ) → Outcome Stats Buffers
start_call m psf gray dots table =
    let t = target_for m psf gray in
    let begun = start_dots m gray dots in
    unless (start_refusal m psf gray dots (length table)) (buffers dots table)
    (record { reply = result (fresh_stats t begun); left = with_table t begun })

-- ---- the later calls
-- what the reference does, where it is not refused
module _ (m : Measures) (psf gray : List ℕ) (p : Reference) where
  -- a toggle of the cell at (row, col)
  abbrev pub toggled : (row col : ℕ) → Performed Tried
  toggled row col = attempt (target_for m psf gray) p (toggle p.dots (cell_at m.width row col))

  -- a swap of the cells at (row, col) and (row', col')
  abbrev pub swapped : (row col row' col' : ℕ) → Performed Tried
  swapped row col row' col' =
      attempt (target_for m psf gray) p (swap p.dots (cell_at m.width row col) (cell_at m.width row' col'))

  -- a toggle scan
  abbrev pub toggle_scanned : Performed ScanResult
  toggle_scanned = let t = target_for m psf gray in scan t (toggles t) p

  -- a swap scan
  abbrev pub swap_scanned : Performed ScanResult
  swap_scanned = let t = target_for m psf gray in scan t (swaps t m.reach) p

  -- a settling
  abbrev pub at_rest : Performed ConvergeResult
  at_rest = converge (target_for m psf gray) m.reach p

-- unless refused with that number, the reference's answer, and its dots with their table
unfoldable pub later_call : {A : Type 0} → ℕ → Target → (dots : List ℕ) (table : List ℤ) → Performed A
    → Outcome A Buffers
later_call number t dots table done =
    unless number (buffers dots table)
    (record { reply = result done.answer; left = with_table t done.after.dots })

-- each with the reference that has these dots and the figures of this ledger
module _ (m : Measures) (psf gray dots : List ℕ) (table : List ℤ) (s : Stats) where
  unfoldable pub toggle_call : (row col : ℕ) → Outcome Tried Buffers
  toggle_call row col =
      later_call (toggle_refusal m psf gray dots table s row col) (target_for m psf gray) dots table
      (toggled m psf gray (reference dots s) row col)

  unfoldable pub swap_call : (row col row' col' : ℕ) → Outcome Tried Buffers
  swap_call row col row' col' =
      later_call (swap_refusal m psf gray dots table s row col row' col') (target_for m psf gray) dots table
      (swapped m psf gray (reference dots s) row col row' col')

  unfoldable pub toggle_scan_call : Outcome ScanResult Buffers
  toggle_scan_call =
      later_call (later_refusal m psf gray dots table s) (target_for m psf gray) dots table
      (toggle_scanned m psf gray (reference dots s))

  unfoldable pub swap_scan_call : Outcome ScanResult Buffers
  swap_scan_call =
      later_call (later_refusal m psf gray dots table s) (target_for m psf gray) dots table
      (swap_scanned m psf gray (reference dots s))

  unfoldable pub converge_call : Outcome ConvergeResult Buffers
  converge_call =
      later_call (later_refusal m psf gray dots table s) (target_for m psf gray) dots table
      (at_rest m psf gray (reference dots s))
