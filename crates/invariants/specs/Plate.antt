-- A judged plate in the buffers that inner functions are handed, and what they leave in them where the reference (01: the
-- plain plate) has done the same.
use Rattle.std.specs.Prelude.{List, ◌≡◌, ℕ, ◌+◌, ◌*◌, ◌^◌, ◌≤◌, ◌<◌, ℤ, nat_abs, length, get_or}
use Rattle.model.specs.declared.Cell.{Cell}
use Rattle.model.specs.declared.Measures.{Measures}
use Rattle.model.specs.declared.Setting.{Setting}
use Rattle.model.specs.declared.Stats.{Stats}
use Rattle.model.specs.Basic.{AtMost}
use Rattle.model.specs.Error.{Target, target_for, cell_at, filtered_errors, most_squared}
use Rattle.model.specs.Refusal.{PlateFits}
use Rattle.model.specs.State.{LaterFits}
use Rattle.model.specs.Ledger.{most_count}
use Rattle.model.specs.Change.{Move, toggle, swap, change}
use Rattle.model.specs.Reference.{Reference, Performed, accept, stats_of}
use Rattle.model.specs.Calls.{Reply, result}
use Rattle.invariants.specs.Window.{HoldsKernel}

-- ---- what is handed in
module _ (m : Measures) (psf gray : List ℕ) (c : List ℤ) (dots : List ℕ) (table : List ℤ) where
  -- nothing refuses it, its table is that of its dots, c is its kernel, and its gray is made of bytes
  pub record Judged : Type 0 where
    pub plate : PlateFits m psf gray dots (length table)
    pub table_is : table ≡ filtered_errors (target_for m psf gray) dots
    pub kernel : HoldsKernel m.radius psf c
    pub bytes : AtMost 255 gray

  -- the same with its ledger
  pub record Ready (s : Stats) : Type 0 where
    pub later : LaterFits m psf gray dots table s
    pub kernel : HoldsKernel m.radius psf c
    pub bytes : AtMost 255 gray

-- the same of what a plate is made for, as the code hands it on
module _ (s : Setting) (c : List ℤ) (dots : List ℕ) (table : List ℤ) where
  abbrev pub JudgedIn : Type 0
  JudgedIn = Judged s.measures s.psf.now s.gray.now c dots table

  abbrev pub ReadyIn : Stats → Type 0
  ReadyIn = Ready s.measures s.psf.now s.gray.now c dots table

-- a cell of the plate, or the first below it: where a scan under way stands
pub record OnWay (m : Measures) (at : Cell) : Type 0 where
  pub column : at.col < m.width
  pub so_far : at.row * m.width + at.col ≤ m.height * m.width

-- a cell of the plate, and its number
pub record OnPlate (m : Measures) (at : Cell) : Type 0 where
  pub row_below : at.row < m.height
  pub col_below : at.col < m.width

abbrev pub cell_of : (width : ℕ) → Cell → ℕ
cell_of width at = cell_at width at.row at.col

-- the changes of such cells
module _ (m : Measures) (dots : List ℕ) where
  abbrev pub cell_toggle : Cell → Move
  cell_toggle at = toggle dots (cell_of m.width at)

  abbrev pub cell_swap : (at to : Cell) → Move
  cell_swap at to = swap dots (cell_of m.width at) (cell_of m.width to)

  -- two cells whose dots differ
  abbrev pub Unlike : (at to : Cell) → Type 0
  Unlike at to = get_or dots (cell_of m.width at) 0 ≡ get_or dots (cell_of m.width to) 0 → ⊥

-- ---- what is answered
-- the largest size of a change: far from the ends of 64 bits
abbrev pub most_change : ℕ
most_change = 2 ^ 50

-- what a change does to E
pub record Weighs (t : Target) (dots : List ℕ) (v : Move) (delta : ℤ) : Type 0 where
  pub delta_is : delta ≡ change t dots v
  pub small : nat_abs delta ≤ most_change

-- a ledger in which such a change can be counted
pub record Countable (s : Stats) (delta : ℤ) : Type 0 where
  pub error_small : nat_abs s.error ≤ most_squared
  pub change_small : nat_abs delta ≤ most_change
  pub on_few : s.figures.on ≤ most_count
  pub off_few : s.figures.off ≤ most_count
  pub swaps_few : s.figures.swaps ≤ most_count

-- ---- what is left
-- what the reference has done: its answer, its dots, and their table
pub record Leaves {A : Type 0} (t : Target) (done : Performed A) (answer : A) (dots : List ℕ) (table : List ℤ)
    : Type 0 where
  pub answer_is : answer ≡ done.answer
  pub dots_are : dots ≡ done.after.dots
  pub table_is : table ≡ filtered_errors t done.after.dots

-- that change, accepted: it answers the new ledger
abbrev pub accepting : Target → Reference → Move → Performed Stats
accepting t p v = record { answer = stats_of t (accept p v); after = accept p v }

-- the same as the reply of a call
abbrev pub as_reply : {A : Type 0} → Performed A → Performed (Reply A)
as_reply done = record { answer = result done.answer; after = done.after }
