-- The check of a filed sheet: does the filed figure belong to the filed dots, does the ledger fit them, are they at
-- rest? The call as a function from what it is handed to its answer and to what its buffers hold at exit.
use Rattle.std.specs.Prelude.{Bool, ◌&&◌, not, List, [], ◌∷◌, ℕ, zero, suc, eqb, ℤ, pos, ◌+ℤ◌, ◌-ℤ◌, length, Result, Ok, Err}
use Rattle.std.proofs.lemmas.List.Edits.{sets}
use Rattle.model.specs.declared.Verdict as Found
use Rattle.model.specs.declared.Measures.{Measures}
use Rattle.model.specs.declared.Reason.{Reason}
use Rattle.model.specs.declared.Refused.{Refused}
use Rattle.model.specs.declared.FiledFigures.{FiledFigures}
use Rattle.model.specs.declared.Stats.{Stats}
use Rattle.model.specs.Basic.{pick}
use Rattle.model.specs.Reason.{number_of}
use Rattle.model.specs.Error.{Target, filtered_errors, squared_error}
use Rattle.model.specs.Ledger.{count_of, dot_total, unequal}
use Rattle.model.specs.Scan.{toggles, swaps, sweep}
use Rattle.model.specs.Refusal.{first_of, bad_sum, start_refusal}
use Rattle.model.specs.State.{bad_stats}
use Rattle.model.specs.Calls.{Reply, result, refused, Outcome, unless}
use Rattle.model.specs.Lists.{begin}
use Rattle.model.specs.Sheet.{Sheet, cells_of}
use Rattle.model.specs.Program.{sheet_target}
use Rattle.model.specs.Grammar.{Taken}
use Rattle.model.specs.Filed.{filed_sheet, filed_figures, read_filed}

-- ---- the verdicts
-- whether a filed plate is at rest: no toggle and no swap within reach lowers its squared error, one does, or a start
-- would refuse the sheet with that number
pub data Resting : Type 0 where
  Rests : Resting
  Lowers : Resting
  Unstarted : ℕ → Resting

-- what the check of a filed sheet finds: the squared error as filed and by the sum over the filed dots, whether they
-- agree, whether the ledger fits the dots, and whether they are at rest
pub record Verdict : Type 0 where
  pub measures : Measures
  pub filed : ℤ
  pub squared : ℤ
  pub figure : Bool
  pub ledger : Bool
  pub rest : Resting

-- the number and the values of each case of the answer in the code
abbrev pub resting_in : Result Bool Reason → Resting
resting_in (Ok b) = pick b Rests Lowers
resting_in (Err r) = Unstarted (number_of r)

abbrev pub verdict_in : Found.Verdict → Verdict
verdict_in v =
    record {
      measures = v.measures;
      filed = v.filed;
      squared = v.squared;
      figure = v.figure;
      ledger = v.ledger;
      rest = resting_in v.rest;
    }

abbrev pub checked_of : Result Found.Verdict Refused → Reply Verdict
checked_of (Ok v) = result (verdict_in v)
checked_of (Err r) = refused (number_of r.reason) r.at

-- the ledger as filed, the dots at the start being the dots on the plate - on + off; below 0 there was no such start,
-- and the number that stands for it draws 21
abbrev pub filed_stats : List ℕ → FiledFigures → Stats
filed_stats dots f =
    record {
      error = pos f.after;
      figures =
          record {
            start_error = pos f.before;
            start_dots = count_of (pos (dot_total dots) -ℤ pos f.on +ℤ pos f.off);
            on = f.on;
            off = f.off;
            swaps = f.swaps;
          };
    }

-- 21 would not be drawn
unfoldable pub ledger_fits : Target → List ℕ → Stats → Bool
ledger_fits t dots s = eqb (first_of (bad_stats t dots s ∷ [])) 0

-- at rest: a toggle scan accepts nothing, and a swap scan accepts nothing (that this is rest is promised:
-- `rests_exactly`)
unfoldable pub rests : Target → (reach : ℕ) → List ℕ → Bool
rests t reach dots =
    let p = begin t dots in
    eqb (sweep t (toggles t) p).changes 0 && eqb (sweep t (swaps t reach) p).changes 0

-- unless a start would refuse it with that number
abbrev pub resting_of : (number : ℕ) → Bool → Resting
resting_of zero b = pick b Rests Lowers
resting_of (suc n) b = Unstarted (suc n)

-- what is found of a filed sheet; the figure and the ledger are judged whatever a start would say
unfoldable pub verdict_of : Sheet → FiledFigures → Verdict
verdict_of s f =
    let m = s.measures in
    let t = sheet_target s in
    record {
      measures = m;
      filed = pos f.after;
      squared = squared_error t s.dots;
      figure = not (unequal (pos f.after) (squared_error t s.dots));
      ledger = ledger_fits t s.dots (filed_stats s.dots f);
      rest = resting_of (start_refusal m s.psf s.gray s.dots (cells_of m)) (rests t m.reach s.dots);
    }

-- ---- the call
pub record CheckBuffers : Type 0 where
  pub psf : List ℕ
  pub gray : List ℕ
  pub dots : List ℕ
  pub table : List ℤ

abbrev pub check_buffers : (psf gray dots : List ℕ) → List ℤ → CheckBuffers
check_buffers psf gray dots table = record { psf = psf; gray = gray; dots = dots; table = table }

-- the sheet with the table of its dots, at the front of the buffers; what lies past them remains
abbrev pub laid : Sheet → CheckBuffers → CheckBuffers
laid s b =
    check_buffers (sets b.psf 0 s.psf) (sets b.gray 0 s.gray) (sets b.dots 0 s.dots)
    (sets b.table 0 (filtered_errors (sheet_target s) s.dots))

-- 6 first, since document 01 has no squared error with such a psf
unfoldable pub check_sheet : Sheet → FiledFigures → CheckBuffers → Outcome Verdict CheckBuffers
check_sheet s f b =
    unless (first_of (bad_sum s.psf ∷ [])) b (record { reply = result (verdict_of s f); left = laid s b })

-- by what was read
abbrev pub check_taken : Taken → CheckBuffers → Outcome Verdict CheckBuffers
check_taken r b =
    let m = r.measures in
    pick (eqb r.refusal 0) (check_sheet (filed_sheet m r.values) (filed_figures m r.values) b)
    (record { reply = refused r.refusal r.at; left = b })

unfoldable pub check_call : (bytes psf gray dots : List ℕ) (table : List ℤ) → Outcome Verdict CheckBuffers
check_call bytes psf gray dots table =
    check_taken (read_filed bytes (length psf) (length gray) (length dots) (length table))
    (check_buffers psf gray dots table)
