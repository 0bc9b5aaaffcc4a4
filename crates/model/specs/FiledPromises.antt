-- The promises of the check of a filed sheet. That they hold is `filed_promises` of proofs/Main.antt.
use Rattle.std.specs.Prelude.{true, List, ◌⊎◌, ◌≡◌, ℕ, ◌≤◌, ◌<◌, ℤ, pos, length}
use Rattle.model.specs.declared.FiledFigures.{FiledFigures}
use Rattle.model.specs.declared.Measures.{Measures}
use Rattle.model.specs.FiledCalls.{Rests, Lowers, Unstarted}
use Rattle.model.specs.FiledCalls.{Verdict}
use Rattle.model.specs.Basic.{Exactly}
use Rattle.model.specs.Psf.{total}
use Rattle.model.specs.Error.{Target, filtered_errors, squared_error}
use Rattle.model.specs.Lock.{LocksHold}
use Rattle.model.specs.Refusal.{start_refusal}
use Rattle.model.specs.State.{StateFits}
use Rattle.model.specs.Calls.{result, refused, Outcome}
use Rattle.model.specs.Lists.{Rest}
use Rattle.model.specs.Sheet.{Sheet, cells_of, Shaped}
use Rattle.model.specs.SheetRefusal.{Leftmost}
use Rattle.model.specs.Program.{sheet_target, output}
use Rattle.model.specs.Grammar.{IsText, DrawsText}
use Rattle.model.specs.Filed.{filed_text, IsFiled, filed_grammar, filed_room}
use Rattle.model.specs.FiledExamples.{FiledExamples}
use Rattle.model.specs.FiledCalls.{filed_stats, verdict_of, CheckBuffers, laid, check_call}
use Rattle.model.specs.Interface.{longest_filed}
use Rattle.model.specs.ProgramPromises.{Unrefused}

-- ---- when it is refused and when it answers: of any bytes, with any buffers
module _ (bytes psf gray dots : List ℕ) (table : List ℤ) where
  abbrev pub has_room : Measures → Type 0
  has_room m = filed_room (length psf) (length gray) (length dots) (length table) m ≡ true

  abbrev pub handed_in : CheckBuffers
  handed_in = record { psf = psf; gray = gray; dots = dots; table = table }

  abbrev pub check : Outcome Verdict CheckBuffers
  check = check_call bytes psf gray dots table

  -- 10, 11 and 12
  abbrev pub DrawsFiled : (n o : ℕ) → Type 0
  DrawsFiled = DrawsText filed_grammar (filed_room (length psf) (length gray) (length dots) (length table)) bytes

  pub data CheckRefuses : (n o : ℕ) → Type 0 where
    -- of these, the leftmost
    unfiled : {n o : ℕ} → Leftmost DrawsFiled n o → CheckRefuses n o
    -- 6 the sum of the psf of the filed sheet is 0 or above 1,024
    unmeasured : {s : Sheet} {f : FiledFigures} → IsFiled bytes s f → has_room s.measures
        → (total s.psf ≡ 0) ⊎ (1024 < total s.psf) → CheckRefuses 6 0

  -- the bytes are this sheet with these figures, the buffers have room, and the psf is none that draws 6
  pub record Checkable (s : Sheet) (f : FiledFigures) : Type 0 where
    pub is_filed : IsFiled bytes s f
    pub room : has_room s.measures
    pub sum_low : 1 ≤ total s.psf
    pub sum_high : total s.psf ≤ 1024

  pub record CheckPromises : Type 0 where
    -- refused exactly when a refusal is due, with its number and its place, and then nothing changes
    pub check_refuses_exactly : (n o : ℕ) → Exactly (check.reply ≡ refused n o) (CheckRefuses n o)
    pub refused_leaves_all : (n o : ℕ) → check.reply ≡ refused n o → check.left ≡ handed_in
    -- the place lies within the bytes, and a filed sheet with room for it draws none of 10, 11 and 12 anywhere
    pub refused_is_within : (n o : ℕ) → check.reply ≡ refused n o → o ≤ length bytes
    pub filed_draws_nothing : (s : Sheet) (f : FiledFigures) → IsFiled bytes s f → has_room s.measures
        → (n o : ℕ) → DrawsFiled n o → ⊥
    -- else it answers the verdicts of the sheet and the figures that were filed, and no others; the buffers hold the
    -- sheet with the table of its dots
    pub check_answers_exactly : (v : Verdict)
        → Exactly (check.reply ≡ result v) ((s : Sheet) × (f : FiledFigures) × Checkable s f × (v ≡ verdict_of s f))
    pub answered_holds_sheet : (s : Sheet) (f : FiledFigures) → Checkable s f → check.left ≡ laid s handed_in

-- ---- what the verdicts say: of any filed sheet that it answers
module _ (s : Sheet) (f : FiledFigures) where
  abbrev target : Target
  target = sheet_target s

  -- with which a start would refuse it, 0 where none does
  abbrev start_number : ℕ
  start_number = start_refusal s.measures s.psf s.gray s.dots (cells_of s.measures)

  abbrev IsAtRest : Type 0
  IsAtRest = Rest target s.measures.reach s.dots (filtered_errors target s.dots)

  pub record VerdictPromises : Type 0 where
    -- the figure agrees exactly when the filed number is the squared error of the filed dots
    pub figure_agrees_exactly : Exactly ((verdict_of s f).figure ≡ true) (pos f.after ≡ squared_error target s.dots)
    -- the ledger fits exactly when 21 is not drawn, each of whose conditions is a field of `StateFits`
    pub ledger_fits_exactly : Exactly ((verdict_of s f).ledger ≡ true)
        (StateFits target s.dots (filtered_errors target s.dots) (filed_stats s.dots f))
    -- at rest exactly when no toggle and no swap within reach of unlocked cells lowers the squared error; else one
    -- does; unless a start would refuse the sheet
    pub rests_exactly : Exactly ((verdict_of s f).rest ≡ Rests) ((start_number ≡ 0) × IsAtRest)
    pub lowers_exactly : Exactly ((verdict_of s f).rest ≡ Lowers) ((start_number ≡ 0) × (IsAtRest → ⊥))
    pub unstarted_exactly : (n : ℕ)
        → Exactly ((verdict_of s f).rest ≡ Unstarted n) ((start_number ≡ n) × (n ≡ 0 → ⊥))
    -- which it does exactly where the filed dots contradict a locked cell, with 16
    pub start_takes_it : Exactly (start_number ≡ 0) (LocksHold target s.dots)
    pub else_16_is_drawn : Exactly (start_number ≡ 16) (LocksHold target s.dots → ⊥)

-- ---- all of them
pub record FiledPromises : Type 0 where
  pub check_promises : (bytes psf gray dots : List ℕ) (table : List ℤ) → CheckPromises bytes psf gray dots table
  pub verdict_promises : (bytes psf gray dots : List ℕ) (table : List ℤ) (s : Sheet) (f : FiledFigures)
      → Checkable bytes psf gray dots table s f → VerdictPromises s f
  -- the texts of the grammar, by which 10 and 11 are drawn, are those of filed sheets, their numbers of any size from a
  -- width of 1 on
  pub grammar_is_of_filed_sheets : (b : List ℕ)
      → Exactly ((t : IsText filed_grammar b) × (1 ≤ t.measures.width))
      ((s : Sheet) × (f : FiledFigures) × Shaped s × (1 ≤ s.measures.width) × (b ≡ filed_text s f))
  -- no text is filed in two ways
  pub one_text_one_filing : (bytes : List ℕ) (s s' : Sheet) (f f' : FiledFigures)
      → IsFiled bytes s f → IsFiled bytes s' f' → (s ≡ s') × (f ≡ f')
  -- so many bytes suffice for every filed sheet
  pub filed_sheets_are_short : (bytes : List ℕ) (s : Sheet) (f : FiledFigures) → IsFiled bytes s f
      → length bytes ≤ longest_filed
  -- of every input for which `settle` prints a plate, what it prints checks: the figure agrees, the ledger fits, the
  -- plate is at rest
  pub settle_prints_what_checks : (input : List ℕ) → Unrefused input
      → (psf gray dots : List ℕ) (table : List ℤ)
      → 49 ≤ length psf → 4096 ≤ length gray → 4096 ≤ length dots → 4096 ≤ length table
      → (v : Verdict)
      × ((check_call (output input) psf gray dots table).reply ≡ result v)
      × (v.figure ≡ true)
      × (v.ledger ≡ true)
      × (v.rest ≡ Rests)
  -- of two filings of one sheet at most one figure agrees
  pub no_other_figure_checks : (s : Sheet) (f f' : FiledFigures) (psf gray dots : List ℕ) (table : List ℤ)
      (v v' : Verdict)
      → (check_call (filed_text s f) psf gray dots table).reply ≡ result v
      → (check_call (filed_text s f') psf gray dots table).reply ≡ result v'
      → v.figure ≡ true → v'.figure ≡ true → f.after ≡ f'.after
  -- small filed sheets that show the verdicts
  pub filed_examples_hold : FiledExamples
