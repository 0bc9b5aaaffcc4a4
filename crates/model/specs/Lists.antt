-- Lists of calls (01: Lists of calls): each later call handed what the last one left, and beside it the reference (01:
-- the plain plate), which is fed the kind of each call and the cells that it names. And what it is to be at rest.
use mathlib.Core.List.{List, [], ◌∷◌, Memᴰ as In}
use Rattle.std.specs.Prelude.{◌≡◌, ℕ, ◌/◌, ◌%◌, ◌≤◌, ◌<◌, ℤ, pos, neg_ℤ, ◌*ℤ◌, ◌≤ℤ◌, get_or}
use Rattle.model.specs.declared.Measures.{Measures}
use Rattle.model.specs.declared.Stats.{Stats}
use Rattle.model.specs.declared.ScanResult.{ScanResult}
use Rattle.model.specs.declared.ConvergeResult.{ConvergeResult}
use Rattle.model.specs.Psf.{peak}
use Rattle.model.specs.Error.{Target, cells}
use Rattle.model.specs.Lock.{Free}
use Rattle.model.specs.Refusal.{first_of, gap}
use Rattle.model.specs.State.{Asked, asks, no_cell, toggle_asked, swap_asked}
use Rattle.model.specs.Reference.{Reference, Performed, Tried, accepted, declined}
use Rattle.model.specs.Calls.{Reply, result, refused, Outcome, unless, Buffers}
use Rattle.model.specs.Calls.{toggled, swapped, toggle_scanned, swap_scanned, at_rest}
use Rattle.model.specs.Calls.{toggle_call, swap_call, toggle_scan_call, swap_scan_call, converge_call}
use Rattle.model.specs.Change.{toggle, swap, change}
use Rattle.model.specs.Ledger.{fresh_figures}

-- a later call: its kind and the cells that it names
pub data Call : Type 0 where
  toggle_at : (row col : ℕ) → Call
  swap_at : (row col row' col' : ℕ) → Call
  toggle_scan : Call
  swap_scan : Call
  convergence : Call

-- what one that is not refused answers
pub data Result : Type 0 where
  tried : Tried → Result
  swept : ScanResult → Result
  rested : ConvergeResult → Result

-- a list of calls of any kind, each handed what the last one left: every answer in order, and what is left
unfoldable pub run_by : {C R S : Type 0} → (S → C → Outcome R S) → S → List C → List (Reply R) × S
run_by make s [] = ([], s)
run_by make s (c ∷ l) =
    let o = make s c in
    let r = run_by make o.left l in
    (o.reply ∷ r.0, r.1)

-- ---- the calls
-- what a call is handed: the dots and the table as the last one left them, and the last ledger answered
pub record Held : Type 0 where
  pub dots : List ℕ
  pub table : List ℤ
  pub stats : Stats

-- the last ledger answered: a declined or refused call answers none, and the ledger handed to it stays in use
abbrev pub latest : Stats → Reply Result → Stats
latest s (result (tried (accepted s' d))) = s'
latest s (result (tried (declined d))) = s
latest s (result (swept r)) = r.stats
latest s (result (rested r)) = r.stats
latest s (refused n o) = s

-- the same answer as a result of any call
abbrev pub answering : {A : Type 0} → (A → Result) → Reply A → Reply Result
answering f (result a) = result (f a)
answering f (refused n o) = refused n o

abbrev pub outcome : {A : Type 0} → (A → Result) → Outcome A Buffers → Outcome Result Buffers
outcome f o = record { reply = answering f o.reply; left = o.left }

abbrev pub hand_on : Held → Outcome Result Buffers → Held
hand_on h o =
    record { dots = o.left.dots; table = o.left.table; stats = latest h.stats o.reply }

module _ (m : Measures) (psf gray : List ℕ) where
  -- one call: the functions are those that the contracts of the public calls cite
  abbrev pub call : Held → Call → Outcome Result Buffers
  call h (toggle_at row col) = outcome tried (toggle_call m psf gray h.dots h.table h.stats row col)
  call h (swap_at row col row' col') =
      outcome tried (swap_call m psf gray h.dots h.table h.stats row col row' col')
  call h toggle_scan = outcome swept (toggle_scan_call m psf gray h.dots h.table h.stats)
  call h swap_scan = outcome swept (swap_scan_call m psf gray h.dots h.table h.stats)
  call h convergence = outcome rested (converge_call m psf gray h.dots h.table h.stats)

  -- with what the next one is handed
  abbrev pub call_next : Held → Call → Outcome Result Held
  call_next h c = let o = call h c in record { reply = o.reply; left = hand_on h o }

  abbrev pub run : Held → List Call → List (Reply Result) × Held
  run = run_by call_next

-- ---- the reference
-- at a start: the dots of the rule for starts, and fresh figures
unfoldable pub begin : Target → List ℕ → Reference
begin t dots = record { dots = dots; figures = fresh_figures t dots }

abbrev pub replied : {A : Type 0} → (A → Result) → Performed A → Outcome Result Reference
replied f done = record { reply = result (f done.answer); left = done.after }

-- what a call asks of the cells that it names, by this gray and these dots
abbrev pub asked : Measures → (gray dots : List ℕ) → Call → Asked
asked m gray dots (toggle_at row col) = toggle_asked m gray row col
asked m gray dots (swap_at row col row' col') = swap_asked m gray dots row col row' col'
asked m gray dots toggle_scan = no_cell
asked m gray dots swap_scan = no_cell
asked m gray dots convergence = no_cell

module _ (m : Measures) (psf gray : List ℕ) where
  -- a call that is not refused
  abbrev pub does : Reference → Call → Outcome Result Reference
  does p (toggle_at row col) = replied tried (toggled m psf gray p row col)
  does p (swap_at row col row' col') = replied tried (swapped m psf gray p row col row' col')
  does p toggle_scan = replied swept (toggle_scanned m psf gray p)
  does p swap_scan = replied swept (swap_scanned m psf gray p)
  does p convergence = replied rested (at_rest m psf gray p)

  -- a refused call changes nothing and answers its number: 8, 9, 23 or 22, the last two by its gray and its own dots
  abbrev pub reference_call : Reference → Call → Outcome Result Reference
  reference_call p c = unless (first_of (asks (asked m gray p.dots c))) p (does p c)

  abbrev pub reference_run : Reference → List Call → List (Reply Result) × Reference
  reference_run = run_by reference_call

-- what may be answered in a list that a start begins: of the refusals, 8, 9, 23 and 22
abbrev pub expected : List ℕ
expected = 8 ∷ 9 ∷ 23 ∷ 22 ∷ []

abbrev pub Expected : Reply Result → Type 0
Expected (result r) = Unit {0}
Expected (refused n o) = In n expected

-- ---- rest: of the cells that are not locked, no toggle, no swap within reach lowers E; the two half-peak bounds
pub record Rest (t : Target) (reach : ℕ) (dots : List ℕ) (table : List ℤ) : Type 0 where
  pub no_toggle_lowers : (m : ℕ) → m < cells t → Free t m → pos 0 ≤ℤ change t dots (toggle dots m)
  -- within reach: two cells, their dots unlike, that differ by at most the reach in row and in column
  pub no_swap_lowers : (m n : ℕ) → m < cells t → n < cells t → Free t m → Free t n
      → gap (m / t.width) (n / t.width) ≤ reach → gap (m % t.width) (n % t.width) ≤ reach
      → (get_or dots m 0 ≡ get_or dots n 0 → ⊥)
      → pos 0 ≤ℤ change t dots (swap dots m n)
  -- twice the table is at most step × P under every dot that is not locked
  pub under_dots : (m : ℕ) → m < cells t → Free t m → get_or dots m 0 ≡ 1
      → (pos 2 *ℤ get_or table m (pos 0)) ≤ℤ (pos t.step *ℤ peak t.radius t.psf)
  -- and at least -step × P under every such blank
  pub under_blanks : (m : ℕ) → m < cells t → Free t m → get_or dots m 0 ≡ 0
      → neg_ℤ (pos t.step *ℤ peak t.radius t.psf) ≤ℤ (pos 2 *ℤ get_or table m (pos 0))
