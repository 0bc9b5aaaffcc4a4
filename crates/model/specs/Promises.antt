-- The promises of document 01: a record for each of its parts, a field for each sentence; those of the requests of
-- document 02 stand in files of their own and are among them. That they hold is `promises` of proofs/Main.antt. That
-- the public calls answer and leave just what is said here stands in their contracts, which cite the same definitions.
use Rattle.std.specs.Prelude.{◌≡◌, true, not, ◌&&◌, ◌⊎◌, ℕ, ◌+◌, ◌*◌, ◌-◌, ◌/◌, ◌%◌, ◌≤◌, ◌<◌, ℤ, pos, neg_ℤ, nat_abs, ◌+ℤ◌, ◌-ℤ◌, ◌*ℤ◌, ◌≤ℤ◌, ◌<ℤ◌, length, get_or, take, drop}
use mathlib.Core.List.{List, [], ◌∷◌, ◌++◌, filter}
use Rattle.std.proofs.Math.Decide.{ℕ_discrete}
use Rattle.std.proofs.lemmas.List.Edits.{sets}
use Rattle.algebra.specs.Sum.{sum_from}
use Rattle.model.specs.declared.Measures.{Measures}
use Rattle.model.specs.declared.Size.{Size}
use Rattle.model.specs.declared.Stats.{Stats}
use Rattle.model.specs.declared.ConvergeResult.{ConvergeResult}
use Rattle.model.specs.declared.Item.TheVariants.{Number, Other}
use Rattle.model.specs.Basic.{Exactly, AtMost, All, one_if, tabulate}
use Rattle.model.specs.Psf.{total, autocorrelation, peak}
use Rattle.model.specs.Error.{Target, target_of, target_for, cell_at, cells, kernel, Halftone}
use Rattle.model.specs.Error.{filtered_error, filtered_errors, squared_error, perceived_squares}
use Rattle.model.specs.Lock.{locked, LocksHold}
use Rattle.model.specs.Refusal.{first_of, bad_measures, bad_locks, halftone_refusal, write_refusal}
use Rattle.model.specs.Ledger.{changes, ledger_dots, fall_of, dot_total, counted}
use Rattle.model.specs.State.{bad_table, bad_stats, StateFits, later_refusal}
use Rattle.model.specs.Change.{sign, Move, Placed, made, toggle, swap, change, look}
use Rattle.model.specs.Reference.{Reference, reference, stats_of}
use Rattle.model.specs.Reference.{Tried, accepted, declined, attempt}
use Rattle.model.specs.Partners.{Ordered, near_by}
use Rattle.model.specs.Scan.{Convergence, turn, converge_from, toggles, exchangeable, swaps, scan}
use Rattle.model.specs.Screen.{start_dots}
use Rattle.model.specs.Calls.{Reply, result, refused, Outcome, Buffers, start_call, toggle_call, swap_call}
use Rattle.model.specs.Lists.{Call, convergence, Result, tried, rested, Held, latest, hand_on, call, run}
use Rattle.model.specs.Lists.{begin, reference_call, reference_run, Expected, Rest}
use Rattle.model.specs.Text.{is_digit, digits, capped, NoDigit, step, step_at}
use Rattle.model.specs.Sheet.{Sheet, room_for, sheet_text, Valid, values_of}
use Rattle.model.specs.SheetRefusal.{Draws, Leftmost}
use Rattle.model.specs.Format.{read_sheet}
use Rattle.model.specs.SheetCalls.{with_given, written_sheet, read_call, write_call}
use Rattle.model.specs.ProgramPromises.{ProgramPromises}
use Rattle.model.specs.PicturePromises.{PicturePromises}
use Rattle.model.specs.PfmPromises.{PfmPromises}
use Rattle.model.specs.BalancePromises.{BalancePromises}
use Rattle.model.specs.FiledPromises.{FiledPromises}
use Rattle.model.specs.Interface.{measures_size, measures_in, stats_size, stats_numbers, stats_in, slice_refusal}
use Rattle.model.specs.Interface.{start_over, toggle_over, swap_over, read_over, write_over, Told, longest_sheet}
use Rattle.model.specs.Interface.{Slices, slices_of, held_in, call_over, run_over}
use Rattle.model.specs.Examples.{Examples, OneSided, OfUnlocked, ScanExamples, BalanceExamples}

-- ---- Plate, spread and peak: of any psf
module _ (r : ℕ) (psf : List ℕ) where
  -- a coordinate passes 2r
  abbrev pub Passes : ℤ → Type 0
  Passes d = (d <ℤ neg_ℤ (pos (2 * r))) ⊎ (pos (2 * r) <ℤ d)

  pub record AutocorrelationPromises : Type 0 where
    -- c(d) = c(-d) always
    pub c_is_even : (dy dx : ℤ) → autocorrelation r psf dy dx ≡ autocorrelation r psf (neg_ℤ dy) (neg_ℤ dx)
    -- c is 0 where a coordinate of d passes 2r
    pub c_ends_at_2r : (dy dx : ℤ) → Passes dy ⊎ Passes dx → autocorrelation r psf dy dx ≡ pos 0
    -- c ≥ 0
    pub c_is_not_negative : (dy dx : ℤ) → pos 0 ≤ℤ autocorrelation r psf dy dx
    -- the sum of all c is the square of the psf's sum
    pub c_sums_to_square : length psf ≡ (2 * r + 1) * (2 * r + 1)
        → sum_from (neg_ℤ (pos (2 * r))) (4 * r + 1) (λ dy.
        sum_from (neg_ℤ (pos (2 * r))) (4 * r + 1) (autocorrelation r psf dy))
        ≡ pos (total psf) *ℤ pos (total psf)

-- ---- Table and squared error: of every input that is not refused
module _ (w h r : ℕ) (psf gray dots : List ℕ) where
  abbrev target : Target
  target = target_of w h r psf gray

  pub record ErrorPromises : Type 0 where
    -- E equals the sum, over the cells of the plate widened by r on each side, of the squares of the spread-out error
    pub squared_error_is_perceived : halftone_refusal w h r psf gray dots [] ≡ 0
        → squared_error target dots ≡ perceived_squares target dots
    -- so E ≥ 0
    pub squared_error_is_not_negative : halftone_refusal w h r psf gray dots [] ≡ 0 → pos 0 ≤ℤ squared_error target dots
    -- |T| is at most 267,386,880, gray being made of bytes
    pub table_is_bounded : (table m : ℕ) → halftone_refusal w h r psf gray dots (table ∷ []) ≡ 0 → AtMost 255 gray
        → nat_abs (filtered_error target dots m) ≤ 267386880
    -- E is at most 4,468,483,974,758,400
    pub squared_error_is_bounded : halftone_refusal w h r psf gray dots [] ≡ 0 → AtMost 255 gray
        → squared_error target dots ≤ℤ pos 4468483974758400

-- ---- Locked cells (02, C-12): of any target and dots
module _ (t : Target) (dots : List ℕ) where
  pub record LockPromises : Type 0 where
    -- a cell is locked exactly where its gray is 0 or 255
    pub locked_exactly : (n : ℕ)
        → Exactly (locked t.gray n ≡ true) ((get_or t.gray n 0 ≡ 0) ⊎ (get_or t.gray n 0 ≡ 255))
    -- every locked cell holds its byte: paper is blank, lettering is solid
    pub paper_is_blank : LocksHold t dots → (n : ℕ) → n < cells t → get_or t.gray n 0 ≡ 0 → get_or dots n 0 ≡ 0
    pub lettering_is_solid : LocksHold t dots → (n : ℕ) → n < cells t → get_or t.gray n 0 ≡ 255
        → get_or dots n 0 ≡ t.top
    -- and exactly where one does not, 16 is drawn
    pub undrawn_16_holds : Exactly (first_of (bad_locks t dots ∷ []) ≡ 0) (LocksHold t dots)
    pub drawn_16_contradicts : Exactly (first_of (bad_locks t dots ∷ []) ≡ 16) (LocksHold t dots → ⊥)

-- ---- One change: of any target and step, and dots for its cells
module _ (t : Target) (dots : List ℕ) where
  pub record ChangePromises : Type 0 where
    -- a toggle at m changes E by step × (2 × s(m) × T(m) + step × P)
    pub toggle_changes_by : AtMost 1 dots → (m : ℕ) → m < cells t
        → squared_error t (made dots (toggle dots m).sets) -ℤ squared_error t dots
        ≡ pos t.step
        *ℤ (pos 2 *ℤ sign dots m *ℤ filtered_error t dots m +ℤ pos t.step *ℤ peak t.radius t.psf)
    -- a swap of m and n, whose dots differ, by 2 × step × (s(m) × (T(m) - T(n)) + step × (P - c(m - n)))
    pub swap_changes_by : AtMost 1 dots → (m n : ℕ) → m < cells t → n < cells t → (get_or dots m 0 ≡ get_or dots n 0 → ⊥)
        → squared_error t (made dots (swap dots m n).sets) -ℤ squared_error t dots
        ≡ pos (2 * t.step)
        *ℤ (sign dots m *ℤ (filtered_error t dots m -ℤ filtered_error t dots n)
        +ℤ pos t.step *ℤ (peak t.radius t.psf -ℤ kernel t m n))
    -- each T(q) gains step × s(m) × c(q - m), and for a swap also step × s(n) × c(q - n)
    pub toggle_moves_table : AtMost 1 dots → (m q : ℕ) → m < cells t
        → filtered_error t (made dots (toggle dots m).sets) q
        ≡ filtered_error t dots q +ℤ pos t.step *ℤ sign dots m *ℤ kernel t q m
    pub swap_moves_table : AtMost 1 dots → (m n q : ℕ) → m < cells t → n < cells t
        → (get_or dots m 0 ≡ get_or dots n 0 → ⊥)
        → filtered_error t (made dots (swap dots m n).sets) q
        ≡ filtered_error t dots q
        +ℤ pos t.step *ℤ sign dots m *ℤ kernel t q m
        +ℤ pos t.step *ℤ sign dots n *ℤ kernel t q n
    -- any change below 0, of cells on the plate, is at most -step
    pub change_below_0_is_a_step : (v : Move) → Placed (cells t) v.sets
        → change t dots v <ℤ pos 0 → change t dots v ≤ℤ neg_ℤ (pos t.step)

-- attempts: what one that is not refused was handed, answers and leaves
module _ (m : Measures) (psf gray dots : List ℕ) (table : List ℤ) (s : Stats) where
  -- accepted exactly when the change is below 0, and then by 255 at least; declined, nothing changes
  abbrev pub Weighed : Move → Buffers → Tried → Type 0
  Weighed v left (accepted s' d) =
      (d ≡ change (target_for m psf gray) dots v)
      × (d ≤ℤ neg_ℤ (pos 255))
      × (s' ≡ counted s d v.raises)
      × (left.dots ≡ made dots v.sets)
  Weighed v left (declined d) =
      (d ≡ change (target_for m psf gray) dots v) × (pos 0 ≤ℤ d) × (left.dots ≡ dots) × (left.table ≡ table)

  pub record Tries (v : Move) (answer : Tried) (left : Buffers) : Type 0 where
    -- before, the table is T and E now is the sum over the dots
    pub table_was_fresh : table ≡ filtered_errors (target_for m psf gray) dots
    pub error_was_sum : s.error ≡ squared_error (target_for m psf gray) dots
    -- so they are after it, over the dots left
    pub table_is_fresh : left.table ≡ filtered_errors (target_for m psf gray) left.dots
    pub error_is_sum : (latest s (result (tried answer))).error ≡ squared_error (target_for m psf gray) left.dots
    -- the answer and the dots are those of the reference, which has no table
    pub answer_is_reference : answer ≡ (attempt (target_for m psf gray) (reference dots s) v).answer
    pub dots_are_reference : left.dots ≡ (attempt (target_for m psf gray) (reference dots s) v).after.dots
    pub weighed : Weighed v left answer
    -- no later call refuses what is left: neither 1 to 7 nor 16, 20 or 21 is drawn
    pub is_accepted : later_refusal m psf gray left.dots left.table (latest s (result (tried answer))) ≡ 0

  pub record AttemptPromises : Type 0 where
    pub toggle_tries : (row col : ℕ) (answer : Tried)
        → (toggle_call m psf gray dots table s row col).reply ≡ result answer
        → Tries (toggle dots (cell_at m.width row col)) answer (toggle_call m psf gray dots table s row col).left
    pub swap_tries : (row col row' col' : ℕ) (answer : Tried)
        → (swap_call m psf gray dots table s row col row' col').reply ≡ result answer
        → Tries (swap dots (cell_at m.width row col) (cell_at m.width row' col')) answer
        (swap_call m psf gray dots table s row col row' col').left

-- ---- Starts: what one that is not refused answers and leaves
module _ (m : Measures) (psf gray : List ℕ) where
  pub record Begun (left : Buffers) (s : Stats) : Type 0 where
    -- E at the start and E now are the sum, over the dots left
    pub start_error_is_sum : s.figures.start_error ≡ squared_error (target_for m psf gray) left.dots
    pub error_is_sum : s.error ≡ squared_error (target_for m psf gray) left.dots
    -- E at the start is within 0 to 4,468,483,974,758,400
    pub start_error_is_not_negative : pos 0 ≤ℤ s.figures.start_error
    pub start_error_is_bounded : s.figures.start_error ≤ℤ pos 4468483974758400
    -- the dots at the start are the number of dot bytes that are 1
    pub start_dots_are_counted : s.figures.start_dots ≡ length (filter (λ d. ℕ_discrete d 1) left.dots)
    -- the counts are 0
    pub counts_are_0 : (s.figures.on ≡ 0) × (s.figures.off ≡ 0) × (s.figures.swaps ≡ 0)
    -- the table is that of the dots left
    pub table_is_fresh : left.table ≡ filtered_errors (target_for m psf gray) left.dots
    -- every locked cell holds its byte
    pub locked_cells_are_set : LocksHold (target_for m psf gray) left.dots
    -- what is left is what later calls accept: neither 1 to 7 nor 16, 20 or 21 is drawn
    pub is_accepted : later_refusal m psf gray left.dots left.table s ≡ 0

  pub record StartPromises : Type 0 where
    pub start_begins : (dots : List ℕ) (table : List ℤ) (s : Stats) → AtMost 255 gray
        → (start_call m psf gray dots table).reply ≡ result s
        → Begun (start_call m psf gray dots table).left s
    -- kind 1 sets the locked cells by the thresholds alone, whatever the gray
    pub ordered_start_respects_locks : (dots : List ℕ) → m.start ≡ 1
        → LocksHold (target_for m psf gray) (start_dots m gray dots)

-- ---- Scans and settling, of any target and step
pub record ScanPromises : Type 0 where
  -- the partners of a swap scan: exactly the offsets within reach save (0,0), each once, in document 01's order
  pub partners_are_ordered : (reach : ℕ) → reach ≤ 6 → Ordered reach
  -- settling keeps to its rule: toggle scans until one accepts nothing, then one swap scan; if that accepted something,
  -- again
  pub convergence_keeps_to_rule : (t : Target) (reach : ℕ) → 0 < t.width → (p : Reference) (n : ℕ)
      → converge_from t reach p n ≡ turn t reach (converge_from t reach) p n
  -- and nothing else does, where a dot byte is 0 or 1
  pub nothing_else_keeps_to_rule : (t : Target) (reach : ℕ) → 0 < t.width → t.top ≡ 1
      → (f : Reference → ℕ → Convergence)
      → ((p : Reference) (n : ℕ) → Halftone t p.dots → f p n ≡ turn t reach f p n)
      → (p : Reference) (n : ℕ) → Halftone t p.dots
      → f p n ≡ converge_from t reach p n
  -- ---- trials (02, C-14): the changes weighed at each cell
  -- where no change that is attempted there lowers E, all are weighed; else those up to and with the first that does
  pub all_are_weighed : (t : Target) (dots : List ℕ) (l : List Move) → All (λ v. pos 0 ≤ℤ change t dots v) l
      → (look t dots l).weighed ≡ l
  pub weighed_up_to_accepted : (t : Target) (dots : List ℕ) (before : List Move) (v : Move) (others : List Move)
      → All (λ v. pos 0 ≤ℤ change t dots v) before → change t dots v <ℤ pos 0
      → (look t dots (before ++ (v ∷ others))).weighed ≡ before ++ (v ∷ [])
  -- a toggle scan makes one for each unlocked cell, whatever the dots
  pub toggle_trials_are_unlocked_cells : (t : Target) (p : Reference)
      → (scan t (toggles t) p).answer.trials ≡ total (tabulate (cells t) (λ n. one_if (not (locked t.gray n))))
  -- a swap scan that accepts nothing makes one for each cell and each other within reach, both unlocked, dots unlike
  pub quiet_swap_trials_are_pairs : (t : Target) (reach : ℕ) (p : Reference)
      → (scan t (swaps t reach) p).answer.changes ≡ 0
      → (scan t (swaps t reach) p).answer.trials
      ≡ total (tabulate (cells t) (λ m. total (tabulate (cells t) (λ n.
      one_if (near_by t.width reach m n && exchangeable t p.dots m n)))))
  -- at most width × height, and width × height × ((2 × reach + 1)² - 1) for swaps
  pub toggle_trials_are_few : (t : Target) (p : Reference) → (scan t (toggles t) p).answer.trials ≤ t.width * t.height
  pub swap_trials_are_few : (t : Target) (reach : ℕ) (p : Reference)
      → (scan t (swaps t reach) p).answer.trials ≤ t.width * t.height * ((2 * reach + 1) * (2 * reach + 1) - 1)

-- ---- Lists of calls: demand 3
module _ (m : Measures) (psf gray : List ℕ) where
  -- what a settling answers and leaves, the reference before it being this
  pub record ComesToRest (before : Reference) (o : Outcome Result Buffers) : Type 0 where
    -- it is not refused
    pub answer : ConvergeResult
    pub is_answered : o.reply ≡ result (rested answer)
    -- it ends at rest: of the cells that are not locked, no toggle lowers E, no swap within reach lowers E, twice the
    -- table is at most 255 × P under every dot and at least -255 × P under every blank
    pub is_at_rest : Rest (target_for m psf gray) m.reach o.left.dots o.left.table
    -- its scans are at most 2 × its accepted changes + 2
    pub scans_are_few : (let after = (reference_call m psf gray before convergence).left in
        answer.scans ≤ 2 * (changes after.figures - changes before.figures) + 2)

  -- what holds after a list of calls, from the dots, table and ledger of a start whose dots are `first`
  module _ (first : List ℕ) (begun : Held) (l : List Call) where
    abbrev answers : List (Reply Result)
    answers = (run m psf gray begun l).0

    abbrev left : Held
    left = (run m psf gray begun l).1

    -- the plain plate's answers, and what it holds
    abbrev reference_answers : List (Reply Result)
    reference_answers = (reference_run m psf gray (begin (target_for m psf gray) first) l).0

    abbrev reached : Reference
    reached = (reference_run m psf gray (begin (target_for m psf gray) first) l).1

    pub record Demand3 : Type 0 where
      -- table and E now are as worked out afresh
      pub table_is_fresh : left.table ≡ filtered_errors (target_for m psf gray) left.dots
      pub error_is_fresh : left.stats.error ≡ squared_error (target_for m psf gray) left.dots
      -- a dot byte for each cell, 0 or 1
      pub dots_are_bits : (length left.dots ≡ m.height * m.width) × AtMost 1 left.dots
      -- every locked cell holds its byte
      pub locked_cells_are_untouched : LocksHold (target_for m psf gray) left.dots
      -- E at the start and the dots at the start stay those of the first dots
      pub start_error_is_kept : left.stats.figures.start_error ≡ squared_error (target_for m psf gray) first
      pub start_dots_are_kept : left.stats.figures.start_dots ≡ dot_total first
      -- dots, ledger and every answer are those of the plain plate, which has no table
      pub dots_are_reference : left.dots ≡ reached.dots
      pub stats_are_reference : left.stats ≡ stats_of (target_for m psf gray) reached
      pub answers_are_reference : answers ≡ reference_answers
      -- the only refusals are 8, 9, 23 and 22
      pub refusals_are_expected : All Expected answers
      -- dot total = first + on - off
      pub dots_are_balanced : pos (dot_total left.dots) ≡ ledger_dots left.stats.figures
      -- the fall is at least 255 × accepted changes
      pub fall_is_enough : (pos 255 *ℤ pos (changes reached.figures)) ≤ℤ fall_of left.stats
      -- every settling in it ends at rest, within 2 × accepted + 2 scans
      pub convergences_end_at_rest : (before rest : List Call) → l ≡ before ++ (convergence ∷ rest)
          → ComesToRest (reference_run m psf gray (begin (target_for m psf gray) first) before).1
          (call m psf gray (run m psf gray begun before).1 convergence)

  pub record ListPromises : Type 0 where
    -- for every list of calls from every start that was not refused
    pub demand_3 : (dots : List ℕ) (table : List ℤ) (s : Stats) → AtMost 255 gray
        → (start_call m psf gray dots table).reply ≡ result s
        → (l : List Call)
        → (let begun = (start_call m psf gray dots table).left in
        Demand3 (start_dots m gray dots) (record { dots = begun.dots; table = begun.table; stats = s }) l)
    -- handed on as left, nothing draws 20 or 21, nor 1 to 7 or 16: from whatever a later call accepts, and whatever the
    -- call
    pub left_is_accepted : (h : Held) (c : Call) → later_refusal m psf gray h.dots h.table h.stats ≡ 0
        → (let h' = hand_on h (call m psf gray h c) in later_refusal m psf gray h'.dots h'.table h'.stats ≡ 0)

-- ---- Refused because of the state, of any target and step: 20 and 21 are drawn exactly where it does not fit
module _ (t : Target) (dots : List ℕ) (table : List ℤ) (s : Stats) where
  pub record StatePromises : Type 0 where
    pub fitting_state_is_accepted : StateFits t dots table s
        → first_of (bad_table t dots table ∷ bad_stats t dots s ∷ []) ≡ 0
    pub accepted_state_fits : length table ≡ cells t
        → first_of (bad_table t dots table ∷ bad_stats t dots s ∷ []) ≡ 0
        → StateFits t dots table s

-- ---- Sheet
-- its numbers, at a place of a text
pub record NumberPromises : Type 0 where
  -- a number is written by its higher digits first, by the same rule, then its last digit
  pub one_digit : (n : ℕ) → n < 10 → digits n ≡ (48 + n) ∷ []
  pub higher_digits_first : (n : ℕ) → 10 ≤ n → digits n ≡ digits (n / 10) ++ ((48 + n % 10) ∷ [])
  -- it is yielded for its whole run of digits
  pub number_is_yielded : (s : List ℕ) (at n : ℕ) (rest : List ℕ) → drop at s ≡ digits n ++ rest → NoDigit rest
      → n ≤ 256 → step_at s at ≡ step (Number n) at (at + length (digits n))
  -- above 256 as 257
  pub above_256_is_257 : (s : List ℕ) (at n : ℕ) (rest : List ℕ) → drop at s ≡ digits n ++ rest → NoDigit rest
      → 256 < n → step_at s at ≡ step (Number 257) at (at + length (digits n))
  -- and nothing else is yielded as a number
  pub yielded_is_a_number : (s : List ℕ) (at v : ℕ) → (step_at s at).item ≡ Number v
      → (n : ℕ) × (rest : List ℕ) × (drop at s ≡ digits n ++ rest) × NoDigit rest × (v ≡ capped n)
  -- in a longer run that begins 0 the second digit cannot be there
  pub no_digit_after_0 : (s : List ℕ) (at x : ℕ) (rest : List ℕ) → drop at s ≡ 48 ∷ x ∷ rest → is_digit x ≡ true
      → step_at s at ≡ step Other (at + 1) (at + 1)
  -- and past the end there is nothing
  pub nothing_past_the_end : (s : List ℕ) (at : ℕ) → length s ≤ at → step_at s at ≡ step Other at at

-- reading these bytes, with buffers of these lengths for psf, gray and dots
module _ (b : List ℕ) (p g d : ℕ) where
  pub record ReadingPromises : Type 0 where
    -- a sheet is read exactly when the bytes are its text, each number is in its field, and it fits the buffers
    pub read_sheet_is_text : (s : Sheet) → ((read_sheet b p g d).refusal ≡ 0) × ((read_sheet b p g d).sheet ≡ s)
        → (b ≡ sheet_text s) × Valid s × (room_for s.measures p g d ≡ true)
    pub text_is_read : (s : Sheet) → (b ≡ sheet_text s) × Valid s × (room_for s.measures p g d ≡ true)
        → ((read_sheet b p g d).refusal ≡ 0) × ((read_sheet b p g d).sheet ≡ s)
    -- it is refused with n at o exactly when n is drawn there by its own words, nothing is drawn to the left, and 12
    -- comes first at an equal place
    pub refused_is_leftmost : (n o : ℕ)
        → ((read_sheet b p g d).refusal ≡ n) × (n ≡ 0 → ⊥) × ((read_sheet b p g d).at ≡ o)
        → Leftmost (Draws b p g d) n o
    pub leftmost_is_refused : (n o : ℕ) → Leftmost (Draws b p g d) n o
        → ((read_sheet b p g d).refusal ≡ n) × (n ≡ 0 → ⊥) × ((read_sheet b p g d).at ≡ o)
    -- a sheet that is read draws nothing anywhere
    pub read_sheet_draws_nothing : (read_sheet b p g d).refusal ≡ 0 → (n o : ℕ) → Draws b p g d n o → ⊥
    -- every place lies within the input
    pub offset_is_within : (read_sheet b p g d).at ≤ length b

-- a sheet that was written into an output
module _ (m : Measures) (psf gray dots out : List ℕ) (k : ℕ) where
  pub record WritingPromises : Type 0 where
    -- is the text of what was handed in, with start 2, each number in its field
    pub written_sheet_is_text : let s = written_sheet m psf gray dots in
        (k ≡ length (sheet_text s)) × (take k (write_call m psf gray dots out).left ≡ sheet_text s) × Valid s
    -- and reads back as just that, into any buffers that it fits
    pub written_sheet_reads_back : (p g d : List ℕ) → room_for (with_given m) (length p) (length g) (length d) ≡ true
        → let r = read_call (take k (write_call m psf gray dots out).left) p g d in
        (r.reply ≡ result (with_given m))
        × (r.left.psf ≡ sets p 0 psf)
        × (r.left.gray ≡ sets g 0 gray)
        × (r.left.dots ≡ sets d 0 dots)

-- ---- the C interface
module _ (measures psf gray : List ℕ) where
  pub record InterfacePromises : Type 0 where
    -- measures and a ledger that were stored are read back as they were
    pub stored_measures_read_back : (m : Measures) → measures_in (values_of m) ≡ m
    pub stored_stats_read_back : (s : Stats) → stats_in (stats_numbers s) ≡ s
    -- over a slice of five measures, and one of six numbers, a start, each later call and the reading and writing of a
    -- sheet is that of document 01, refused alike
    pub start_takes_its_slices : (dots : List ℕ) (table stats : List ℤ) → length measures ≡ measures_size
        → length stats ≡ stats_size
        → start_over measures psf gray dots table stats ≡ start_call (measures_in measures) psf gray dots table
    pub calls_take_their_slices : (h : Slices) (c : Call) → length measures ≡ measures_size
        → length h.stats ≡ stats_size
        → call_over measures psf gray h c ≡ call (measures_in measures) psf gray (held_in h) c
    pub reading_takes_its_slice : (bytes dots : List ℕ) → length measures ≡ measures_size
        → read_over bytes psf gray dots measures ≡ read_call bytes psf gray dots
    pub writing_takes_its_slice : (dots out : List ℕ) → length measures ≡ measures_size
        → write_over measures psf gray dots out ≡ write_call (measures_in measures) psf gray dots out
    -- over another number of measures it is refused with 5, whatever else it is handed; over five by 1 to 4, and over
    -- five that these pass with 5 where the ledger's slice has not six numbers
    pub start_wants_all_measures : (dots : List ℕ) (table stats : List ℤ) → (length measures ≡ measures_size → ⊥)
        → start_over measures psf gray dots table stats
        ≡ record { reply = refused 5 0; left = record { dots = dots; table = table } }
    pub calls_want_all_measures : (h : Slices) (c : Call) → (length measures ≡ measures_size → ⊥)
        → call_over measures psf gray h c
        ≡ record { reply = refused 5 0; left = record { dots = h.dots; table = h.table } }
    pub measures_are_judged_next : (stats : List ℤ) → length measures ≡ measures_size
        → (first_of (bad_measures (measures_in measures)) ≡ 0 → ⊥)
        → slice_refusal measures stats ≡ first_of (bad_measures (measures_in measures))
    pub ledger_is_counted_last : (stats : List ℤ) → length measures ≡ measures_size
        → first_of (bad_measures (measures_in measures)) ≡ 0 → (length stats ≡ stats_size → ⊥)
        → slice_refusal measures stats ≡ 5
    pub reading_wants_all_measures : (bytes dots : List ℕ) → (length measures ≡ measures_size → ⊥)
        → read_over bytes psf gray dots measures
        ≡ record { reply = refused 5 0; left = record { psf = psf; gray = gray; dots = dots } }
    pub writing_wants_all_measures : (dots out : List ℕ) → (length measures ≡ measures_size → ⊥)
        → write_over measures psf gray dots out ≡ record { reply = refused 5 0; left = out }
    -- an attempt that is not refused was accepted exactly when its change is below 0
    pub toggle_is_told : (dots : List ℕ) (table stats : List ℤ) (row col : ℕ) (a : Tried)
        → (let o = toggle_over measures psf gray dots table stats row col in
        o.reply ≡ result a → Told dots table stats a o.left)
    pub swap_is_told : (dots : List ℕ) (table stats : List ℤ) (row col row' col' : ℕ) (a : Tried)
        → (let o = swap_over measures psf gray dots table stats row col row' col' in
        o.reply ≡ result a → Told dots table stats a o.left)
    -- so a list of its calls answers and leaves what the list of calls does, and demand 3 holds of it
    pub interface_lists_are_lists : (h : Held) (l : List Call) → length measures ≡ measures_size
        → (let r = run (measures_in measures) psf gray h l in
        run_over measures psf gray (slices_of h) l ≡ (r.0, slices_of r.1))

-- ---- all of them
pub record Promises : Type 0 where
  pub autocorrelation_promises : (r : ℕ) (psf : List ℕ) → AutocorrelationPromises r psf
  pub error_promises : (w h r : ℕ) (psf gray dots : List ℕ) → ErrorPromises w h r psf gray dots
  pub lock_promises : (t : Target) (dots : List ℕ) → LockPromises t dots
  pub change_promises : (t : Target) (dots : List ℕ) → length dots ≡ cells t → ChangePromises t dots
  pub attempt_promises : (m : Measures) (psf gray dots : List ℕ) (table : List ℤ) (s : Stats)
      → AttemptPromises m psf gray dots table s
  pub start_promises : (m : Measures) (psf gray : List ℕ) → StartPromises m psf gray
  pub scan_promises : ScanPromises
  pub list_promises : (m : Measures) (psf gray : List ℕ) → ListPromises m psf gray
  pub state_promises : (t : Target) (dots : List ℕ) (table : List ℤ) (s : Stats) → StatePromises t dots table s
  pub number_promises : NumberPromises
  pub reading_promises : (b : List ℕ) (p g d : ℕ) → ReadingPromises b p g d
  -- no two sheets have the same text
  pub one_text_one_sheet : (s s' : Sheet) → Valid s → Valid s' → sheet_text s ≡ sheet_text s' → s ≡ s'
  pub writing_promises : (m : Measures) (psf gray dots out : List ℕ) (k : ℕ)
      → (write_call m psf gray dots out).reply ≡ result k → AtMost 255 psf → AtMost 255 gray
      → WritingPromises m psf gray dots out k
  pub program_promises : (input : List ℕ) → ProgramPromises input
  pub picture_promises : PicturePromises
  pub pfm_promises : PfmPromises
  pub balance_promises : (z : Size) (gray dots : List ℕ) → BalancePromises z gray dots
  pub filed_promises : FiledPromises
  -- so many bytes suffice for every sheet: what is refused for nothing else is written
  pub sheets_are_short : (s : Sheet) → Valid s → length (sheet_text s) ≤ longest_sheet
  pub so_many_bytes_suffice : (m : Measures) (psf gray dots out : List ℕ) → write_refusal m psf gray dots ≡ 0
      → AtMost 255 psf → AtMost 255 gray → longest_sheet ≤ length out
      → (write_call m psf gray dots out).reply ≡ result (length (sheet_text (written_sheet m psf gray dots)))
  pub interface_promises : (measures psf gray : List ℕ) → InterfacePromises measures psf gray
  -- the starred examples of document 01, and its worked example as the program prints it
  pub examples_hold : Examples
  -- the half-peak bound is one-sided: plates at rest, at every reach, break its other side
  pub half_peak_is_one_sided : OneSided
  -- rest is of unlocked cells: plates at rest, at every reach, where at bare paper a toggle lowers E, a swap does, and the
  -- bound of blanks is broken
  pub rest_is_of_unlocked_cells : OfUnlocked
  -- the trials of scans, one of them where the dots at the start of the scan would give another number
  pub scan_examples_hold : ScanExamples
  -- tone balances, that of document 02 among them
  pub balance_examples_hold : BalanceExamples
