-- Laws of a judged plate, of the changes weighed and made on it, and of what is left.
--   slice_bytes                       a slice of bytes holds numbers up to 255
--   ready_judged                      a plate with its ledger is a judged one
--   place_fits, on_plate              what a cell's place asks for, and that the cell is one of the plate's
--   way_on, way_next, way_ahead, way_end  where a scan stands: on the plate, one cell on, some in the row, past the last
--   kernel_square, judged_small       the numbers of kernel and table are small
--   toggle_weighs, swap_weighs        document 01's formulas over table and kernel are what a toggle and a swap add
--   store_window, stored_judged       a byte is stored: by a window the table follows, and it is a judged plate again
--   countable                         a change can be counted
--   attempt_declined, attempt_accepted  what an attempt answers and leaves, its change being weighed
--   as_reply_lem, leaves_ends             a call that is not refused ends as the reference does
use mathlib.Core.Bool.{true, false}
use mathlib.Core.List.{List, [], ◌∷◌}
use mathlib.Core.Path.{◌≡◌, refl, sym, ◌∙◌, ap, ap₂, subst}
use Prim.Native.Nat.{ℕ, suc, ◌+◌, ◌*◌, ◌≤◌, ◌<◌}
use native.Mathlib.Nat.{mul-le-mul_right}
use native.Mathlib.Omega.{arith}
use lib.IntN.{ℤ, pos, nat_abs, ◌-ℤ◌, ◌*ℤ◌}
use lib.ListN.{length, get_or, set}
use lib.Signed.{lt_z, ◌≤ℤ◌, ◌<ℤ◌, clash_ℤ}
use mir.Syntax.{w8}
use mir.Val.{Fits}
use Rattle.algebra.proofs.Grid.{cell_row, cell_column, cell<, rows_apart}
use Rattle.algebra.proofs.Order.{nat_abs_below}
use Rattle.model.specs.declared.Cell.{Cell}
use Rattle.model.specs.declared.Measures.{Measures}
use Rattle.model.specs.declared.Stats.{Stats}
use Rattle.model.specs.Basic.{AtMost, square_at}
use Rattle.model.specs.Psf.{peak}
use Rattle.model.specs.Error.{Target, target_for, cells, kernel, filtered_error, filtered_errors, most_squared, most_filtered}
use Rattle.model.specs.Refusal.{HalftoneFits}
use Rattle.model.specs.Change.{Move, sign, toggle_sum, swap_sum, toggle, made, change}
use Rattle.model.specs.Reference.{accepted, declined, reference, Performed, attempt}
use Rattle.model.specs.Calls.{Reply, result, Ends, buffers, later_call}
use Rattle.model.proofs.Basic.{get_d_tabulate}
use Rattle.model.proofs.Error.{filtered_long}
use Rattle.model.proofs.Halftone.{squared_least, squared_most}
use Rattle.model.proofs.State.{at_least, below}
use Rattle.model.proofs.Change.{toggle_change_lem, swap_change_lem}
use Rattle.model.proofs.Reference.{halftone_made}
use Rattle.model.proofs.Attempts.{attempt_cases}
use Rattle.model.proofs.Calls.{ends_done}
use Rattle.invariants.specs.Window.{Small, HoldsSquare, add_window, most_kernel}
use Rattle.invariants.specs.Plate.{Judged, Ready, OnPlate, OnWay, cell_of, cell_swap, Unlike}
use Rattle.invariants.specs.Plate.{most_change, Weighs, Countable, Leaves, accepting, as_reply}
use Rattle.invariants.proofs.Window.{square_small, store_table, table_small}

-- what a slice of bytes is known to hold
pub slice_bytes : {l : List ℕ} → ((i : ℕ) → Fits w8 (get_or l i 0)) → AtMost 255 l
slice_bytes h = record { each = λ i. omega (arith, h i) }

-- ---- where a scan stands
module _ {m : Measures} {at : Cell} where
  -- above the bottom of the plate on a cell of it
  pub way_on : OnWay m at → at.row < m.height → OnPlate m at
  way_on w h = record { row_below = h; col_below = w.column }

  -- below it past the last
  pub way_end : OnWay m at → m.height ≤ at.row → cell_of m.width at ≡ m.height * m.width
  way_end w h = omega (arith, w.so_far, mul-le-mul_right m.width h)

  -- from a cell to the next, and some cells on in the row
  module _ (on : OnPlate m at) {to : Cell} (column : to.col < m.width) where
    pub way_next : cell_of m.width to ≡ suc (cell_of m.width at) → OnWay m to
    way_next e = record { column = column; so_far = omega (arith, e, cell< on.row_below on.col_below) }

    pub way_ahead : (k : ℕ) → cell_of m.width to ≡ cell_of m.width at + k → at.col + k ≤ m.width → OnWay m to
    way_ahead k e short =
        record { column = column; so_far = omega (arith, e, short, rows_apart m.width on.row_below) }

-- ---- a judged plate
module _ {m : Measures} {psf gray : List ℕ} {c : List ℤ} {dots : List ℕ} {table : List ℤ} where
  pub ready_judged : {s : Stats} → Ready m psf gray c dots table s → Judged m psf gray c dots table
  ready_judged r =
      record {
        plate = r.later.plate;
        table_is = r.later.state.table_is;
        kernel = r.kernel;
        bytes = r.bytes;
      }

  module _ (j : Judged m psf gray c dots table) where
    -- the numbers of kernel and table are small
    pub kernel_square : HoldsSquare m.radius c
    kernel_square =
        record { near = j.plate.halftone.psf_fits.near; long = j.kernel.long; small = j.kernel.small }

    pub judged_small : Small most_filtered table
    judged_small = table_small j.plate.halftone j.bytes j.table_is

    -- a cell
    module _ {at : Cell} (on : OnPlate m at) where
      -- what its place asks for
      pub place_fits : (at.row < 256) × (at.col < m.width) × (m.width ≤ 256)
      place_fits =
          let f = j.plate.halftone in (omega (arith, on.row_below, f.high.1), on.col_below, f.wide.1)

      -- it is one of the plate's
      pub on_plate : cell_of m.width at < cells (target_for m psf gray)
      on_plate = cell< on.row_below on.col_below

      pub on_dots : cell_of m.width at < length dots
      on_dots = rw j.plate.halftone.dots_length on_plate

      pub on_gray : cell_of m.width at < length gray
      on_gray = rw j.plate.halftone.gray_length on_plate

      pub on_table : cell_of m.width at < length table
      on_table = rw j.plate.halftone.table_length on_plate

      -- a byte is stored there: by a window the table follows
      pub store_window : (byte : ℕ)
          → add_window m.width (2 * m.radius) c
          (pos 255 *ℤ (pos byte -ℤ pos (get_or dots (cell_of m.width at) 0))) at.row at.col table
          ≡ filtered_errors (target_for m psf gray) (set dots (cell_of m.width at) byte)
      store_window byte =
          let t = target_for m psf gray in
          ap (add_window m.width (2 * m.radius) c amount at.row at.col) j.table_is
          ∙ ap₂ (λ y x. add_window m.width (2 * m.radius) c amount y x (filtered_errors t dots))
          (sym (cell_row on.col_below)) (sym (cell_column at.row on.col_below))
          ∙ sym (store_table t c j.kernel dots j.plate.halftone.dots_length (cell_of m.width at) byte on_plate)
        where
          amount : ℤ
          amount = pos 255 *ℤ (pos byte -ℤ pos (get_or dots (cell_of m.width at) 0))

      -- and it is a judged plate again
      module _ {byte : ℕ} (low : byte ≤ 1) {dots' : List ℕ} {table' : List ℤ}
          (d : dots' ≡ set dots (cell_of m.width at) byte)
          (e : table' ≡ filtered_errors (target_for m psf gray) dots') where
        pub stored_judged : Judged m psf gray c dots' table'
        unfolding made
        stored_judged =
            record {
              plate =
                  record {
                    reach_near = j.plate.reach_near;
                    kind_known = j.plate.kind_known;
                    halftone = fits;
                  };
              table_is = e;
              kernel = j.kernel;
              bytes = j.bytes;
            }
          where
            t : Target
            t = target_for m psf gray

            fits : HalftoneFits t dots' (length table')
            fits =
                subst (HalftoneFits t dots')
                (j.plate.halftone.table_length ∙ sym (ap length e ∙ filtered_long t dots'))
                (subst (λ (l : List ℕ). HalftoneFits t l (length table)) (sym d)
                (halftone_made dots (record { cell = cell_of m.width at; byte = byte } ∷ [])
                j.plate.halftone (on_plate, tt) (low, tt)))

-- ---- what a change adds, by document 01's formulas over table and kernel
module _ {m : Measures} {psf gray : List ℕ} {c : List ℤ} {dots : List ℕ} {table : List ℤ}
    (j : Judged m psf gray c dots table) where
  abbrev t : Target
  t = target_for m psf gray

  entry : (q : ℕ) → q < cells t → get_or table q (pos 0) ≡ filtered_error t dots q
  unfolding filtered_errors
  entry q l = ap (λ d. get_or d q (pos 0)) j.table_is ∙ get_d_tabulate (cells t) (filtered_error t dots) q (pos 0) l

  -- the numbers of the kernel are small
  pub kernel_small : (dy dx : ℤ) → nat_abs (square_at (pos 0) (2 * m.radius) c dy dx) ≤ most_kernel
  kernel_small dy dx = square_small (2 * m.radius) c dy dx j.kernel.small

  -- a toggle of the cell q
  pub toggle_weighs : (q : ℕ) → q < cells (target_for m psf gray)
      → toggle_sum 255 (square_at (pos 0) (2 * m.radius) c (pos 0) (pos 0)) (sign dots q) (get_or table q (pos 0))
      ≡ change (target_for m psf gray) dots (toggle dots q)
  toggle_weighs q l =
      ap₂ (λ P T. toggle_sum 255 P (sign dots q) T) (j.kernel.at (pos 0) (pos 0)) (entry q l)
      ∙ sym (toggle_change_lem t dots j.plate.halftone.bits j.plate.halftone.dots_length q l)

  -- a swap of unlike dots
  module _ {at to : Cell} (one : OnPlate m at) (other : OnPlate m to) where
    abbrev q : ℕ
    q = cell_of m.width at

    abbrev o : ℕ
    o = cell_of m.width to

    -- c between the two
    between_is : square_at (pos 0) (2 * m.radius) c (pos at.row -ℤ pos to.row) (pos at.col -ℤ pos to.col)
        ≡ kernel t q o
    unfolding kernel
    between_is =
        j.kernel.at _ _
        ∙ rw (
          cell_row {y = at.row} one.col_below,
          cell_column at.row one.col_below,
          cell_row {y = to.row} other.col_below,
          cell_column to.row other.col_below,
        ) refl

    pub swap_weighs : Unlike m dots at to
        → swap_sum 255 (square_at (pos 0) (2 * m.radius) c (pos 0) (pos 0))
        (square_at (pos 0) (2 * m.radius) c (pos at.row -ℤ pos to.row) (pos at.col -ℤ pos to.col))
        (sign dots (cell_of m.width at)) (get_or table (cell_of m.width at) (pos 0))
        (get_or table (cell_of m.width to) (pos 0))
        ≡ change (target_for m psf gray) dots (cell_swap m dots at to)
    swap_weighs unlike =
        ap₂ (λ P z. swap_sum 255 P z (sign dots q) (get_or table q (pos 0)) (get_or table o (pos 0)))
        (j.kernel.at (pos 0) (pos 0)) between_is
        ∙ ap₂ (λ S T. swap_sum 255 (peak m.radius psf) (kernel t q o) (sign dots q) S T)
        (entry q (on_plate j one)) (entry o (on_plate j other))
        ∙ sym (swap_change_lem t dots j.plate.halftone.bits j.plate.halftone.dots_length q o
        (on_plate j one) (on_plate j other) unlike)

-- a change that was weighed can be counted in the plate's ledger
pub countable : {m : Measures} {psf gray : List ℕ} {c : List ℤ} {dots : List ℕ} {table : List ℤ} {s : Stats}
    {delta : ℤ} → Ready m psf gray c dots table s → nat_abs delta ≤ most_change → Countable s delta
countable {s} r small =
    let f = r.later.plate.halftone in
    record {
      error_small =
          subst (λ (z : ℤ). nat_abs z ≤ most_squared) (sym r.later.state.error_is)
          (nat_abs_below _ most_squared (squared_least f) (squared_most f r.bytes));
      change_small = small;
      on_few = r.later.state.on_few;
      off_few = r.later.state.off_few;
      swaps_few = r.later.state.swaps_few;
    }

-- ---- an attempt whose change is weighed
module _ {t : Target} {dots : List ℕ} {v : Move} {delta : ℤ} (w : Weighs t dots v delta) (s : Stats) where
  -- nothing changes
  pub attempt_declined : {table : List ℤ} → table ≡ filtered_errors t dots → lt_z delta (pos 0) ≡ false
      → Leaves t (as_reply (attempt t (reference dots s) v)) (result (declined delta)) dots table
  attempt_declined {table} f high =
      attempt_cases t (reference dots s) v (λ done. Leaves t (as_reply done) (result (declined delta)) dots table)
      (λ l. clash_ℤ l (subst (λ z. pos 0 ≤ℤ z) w.delta_is (at_least delta (pos 0) high)))
      (λ l. record { answer_is = ap (λ z. result (declined z)) w.delta_is; dots_are = refl; table_is = f })

  -- the copy with its table and its ledger
  pub attempt_accepted : {s' : Stats} {dots' : List ℕ} {table' : List ℤ} → lt_z delta (pos 0) ≡ true
      → Leaves t (accepting t (reference dots s) v) s' dots' table'
      → Leaves t (as_reply (attempt t (reference dots s) v)) (result (accepted s' delta)) dots' table'
  attempt_accepted {s'} {dots'} {table'} low left =
      attempt_cases t (reference dots s) v (λ done. Leaves t (as_reply done) (result (accepted s' delta)) dots' table')
      (λ _. record {
        answer_is = ap₂ (λ a b. result (accepted a b)) left.answer_is w.delta_is;
        dots_are = left.dots_are;
        table_is = left.table_is;
      })
      (λ n. clash_ℤ (subst (λ z. z <ℤ pos 0) w.delta_is (below low)) n)

-- ---- a call that is not refused ends as the reference does
-- its answer as a reply
pub as_reply_lem : {A : Type 0} {t : Target} {done : Performed A} {answer : A} {dots : List ℕ} {table : List ℤ}
    → Leaves t done answer dots table → Leaves t (as_reply done) (result answer) dots table
as_reply_lem left =
    record { answer_is = ap result left.answer_is; dots_are = left.dots_are; table_is = left.table_is }

pub leaves_ends : {A : Type 0} {t : Target} {done : Performed A} {reply : Reply A} {dots : List ℕ} {table : List ℤ}
    {number : ℕ} (dots₀ : List ℕ) (table₀ : List ℤ) → number ≡ 0 → Leaves t (as_reply done) reply dots table
    → Ends (later_call number t dots₀ table₀ done) reply (buffers dots table)
unfolding later_call
leaves_ends {number} dots₀ table₀ taken left =
    ends_done _ _ number taken
    (record { reply_is = left.answer_is; left_is = λ i. buffers (left.dots_are i) (left.table_is i) })
