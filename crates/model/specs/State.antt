-- Document 01's refusals because of the state, 20 to 22, with 23 (02) among them, and the whole lists of the later
-- calls, those that are handed a table and a ledger (`Stats`).
use Rattle.std.specs.Prelude.{◌||◌, List, [], ◌∷◌, ◌++◌, ◌≡◌, ℕ, ◌≤◌, eqb, ℤ, pos, ◌*ℤ◌, ◌≤ℤ◌, length, get_or}
use Rattle.model.specs.declared.Measures.{Measures}
use Rattle.model.specs.declared.Stats.{Stats}
use Rattle.model.specs.Error.{Target, target_for, cell_at, most_squared, cells}
use Rattle.model.specs.Error.{filtered_errors, filtered_error, squared_error}
use Rattle.model.specs.Lock.{locked, LocksHold}
use Rattle.model.specs.Refusal.{Refusal, ◌when◌, first_of, bad_cell, bad_cells, bad_pair, input_refusals}
use Rattle.model.specs.Refusal.{PlateFits}
use Rattle.model.specs.Ledger.{most_count, changes, ledger_dots, fall_of, dot_total, unequal, wrong_stats}
use Rattle.model.specs.Basic.{some_below}

module _ (t : Target) (dots : List ℕ) where
  -- 20 a table entry differs from T
  unfoldable pub bad_table : List ℤ → Refusal
  bad_table table = 20 when some_below (cells t) (λ m. unequal (get_or table m (pos 0)) (filtered_error t dots m))

  -- 21 the ledger, against the dots
  abbrev pub bad_stats : Stats → Refusal
  bad_stats s = wrong_stats (cells t) t.step (squared_error t dots) (dot_total dots) s

-- 23 an attempt naming a locked cell (02), straight before 22
abbrev pub bad_locked : (gray : List ℕ) → ℕ → Refusal
bad_locked gray m = 23 when locked gray m

-- 23 of a swap, which names two cells: either will do
abbrev pub bad_locked_pair : (gray : List ℕ) → ℕ → ℕ → Refusal
bad_locked_pair gray m n = 23 when (locked gray m || locked gray n)

-- 22 swap attempt on equal dots
abbrev pub bad_like : List ℕ → ℕ → ℕ → Refusal
bad_like dots m n = 22 when eqb (get_or dots m 0) (get_or dots n 0)

-- ---- the later calls
-- what one asks of the cells that it names, by place: before 20 whether they can be named (8, 9), after 21 whether
-- their dots can be changed (23, 22)
pub record Asked : Type 0 where
  pub named : List Refusal
  pub last : List Refusal

-- both, one after the other
abbrev pub asks : Asked → List Refusal
asks a = a.named ++ a.last

-- scans and settling name no cell
abbrev pub no_cell : Asked
no_cell = record { named = []; last = [] }

module _ (m : Measures) where
  abbrev pub toggle_asked : (gray : List ℕ) (row col : ℕ) → Asked
  toggle_asked gray row col = record {
    named = bad_cell m.width m.height row col ∷ [];
    last = bad_locked gray (cell_at m.width row col) ∷ [];
  }

  abbrev pub swap_asked : (gray dots : List ℕ) (row col row' col' : ℕ) → Asked
  swap_asked gray dots row col row' col' =
      let a = cell_at m.width row col in
      let b = cell_at m.width row' col' in
      record {
        named = bad_cells m.width m.height row col row' col' ∷ bad_pair m.reach row col row' col' ∷ [];
        last = bad_locked_pair gray a b ∷ bad_like dots a b ∷ [];
      }

module _ (m : Measures) (psf gray dots : List ℕ) (table : List ℤ) (s : Stats) where
  -- 20 and 21
  abbrev pub state_refusals : List Refusal
  state_refusals = bad_table (target_for m psf gray) dots table ∷ bad_stats (target_for m psf gray) dots s ∷ []

  -- the whole list
  abbrev pub later_refusals : Asked → List Refusal
  later_refusals a = input_refusals m psf gray dots (length table) ++ (a.named ++ (state_refusals ++ a.last))

  -- and the number that it draws
  unfoldable pub later_refusal : ℕ
  later_refusal = first_of (later_refusals no_cell)

  unfoldable pub toggle_refusal : (row col : ℕ) → ℕ
  toggle_refusal row col = first_of (later_refusals (toggle_asked m gray row col))

  unfoldable pub swap_refusal : (row col row' col' : ℕ) → ℕ
  swap_refusal row col row' col' = first_of (later_refusals (swap_asked m gray dots row col row' col'))

-- the state that neither 20 nor 21 refuses
pub record StateFits (t : Target) (dots : List ℕ) (table : List ℤ) (s : Stats) : Type 0 where
  pub table_is : table ≡ filtered_errors t dots
  pub error_is : s.error ≡ squared_error t dots
  pub start_low : pos 0 ≤ℤ s.figures.start_error
  pub start_high : s.figures.start_error ≤ℤ pos most_squared
  pub on_few : s.figures.on ≤ most_count
  pub off_few : s.figures.off ≤ most_count
  pub swaps_few : s.figures.swaps ≤ most_count
  pub dots_fit : s.figures.start_dots ≤ cells t
  pub total_is : pos (dot_total dots) ≡ ledger_dots s.figures
  pub fall : (pos t.step *ℤ pos (changes s.figures)) ≤ℤ fall_of s

-- what a later call was handed that none of 1 to 7, 16, 20 and 21 refused
pub record LaterFits (m : Measures) (psf gray dots : List ℕ) (table : List ℤ) (s : Stats) : Type 0 where
  pub plate : PlateFits m psf gray dots (length table)
  pub locks : LocksHold (target_for m psf gray) dots
  pub state : StateFits (target_for m psf gray) dots table s
