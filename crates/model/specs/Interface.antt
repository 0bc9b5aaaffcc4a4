-- The C interface (include/platemaker.h), whose functions answer in numbers. Each makes one call of document 01. Here
-- is how an answer is laid out behind the pointers, how a ledger (`Stats`) and measures stand in a slice of numbers,
-- and that such a slice is judged like every other: 5 where its length is wrong.
use Rattle.std.specs.Prelude.{not, List, [], ◌∷◌, ◌++◌, ◌≡◌, ℕ, ◌+◌, ◌*◌, eqb, Float, ℤ, pos, ◌-ℤ◌, ◌≤ℤ◌, ◌<ℤ◌, length, get_or}
use Rattle.model.specs.declared.Measures.{Measures}
use Rattle.model.specs.declared.Size.{Size}
use Rattle.model.specs.declared.Stats.{Stats}
use Rattle.model.specs.declared.ScanResult.{ScanResult}
use Rattle.model.specs.declared.ConvergeResult.{ConvergeResult}
use Rattle.model.specs.declared.ToneBalance.{ToneBalance}
use Rattle.model.specs.declared.PfmHeader.{PfmHeader}
use Rattle.model.specs.FiledCalls.{Resting}
use Rattle.model.specs.FiledCalls.{Rests, Lowers, Unstarted}
use Rattle.model.specs.FiledCalls.{Verdict}
use Rattle.model.specs.Basic.{pick}
use Rattle.model.specs.Ledger.{count_of}
use Rattle.model.specs.Refusal.{Refusal, ◌when◌, first_of, bad_measures}
use Rattle.model.specs.Reference.{Tried, accepted, declined}
use Rattle.model.specs.Calls.{Reply, result, refused, Outcome, unless, Buffers, buffers}
use Rattle.model.specs.Calls.{start_call, toggle_call, swap_call, toggle_scan_call, swap_scan_call, converge_call}
use Rattle.model.specs.Lists.{Call, toggle_at, swap_at, toggle_scan, swap_scan, convergence}
use Rattle.model.specs.Lists.{Result, tried, swept, rested, run_by, Held, outcome}
use Rattle.model.specs.Sheet.{cells_of, values_of}
use Rattle.model.specs.SheetCalls.{SheetBuffers, sheet_buffers, read_call, write_call}
use Rattle.model.specs.FiledCalls.{CheckBuffers, check_buffers, check_call}

-- ---- an answer in numbers
-- the status: 0, or document 01's refusal number
abbrev pub status : {A : Type 0} → Reply A → ℕ
status (result a) = 0
status (refused n o) = n

-- what stands behind a pointer at exit: what the result puts there, or what stood there
abbrev pub after : {A B : Type 0} → (A → B) → B → Reply A → B
after f b (result a) = f a
after f b (refused n o) = b

-- an answer laid out: its status is answered, and behind the pointers stands what a rule makes of it and of what stood
-- there
pub record Lays {A B : Type 0} (reply : Reply A) (rule : Reply A → B → B) (before : B) (number : ℕ) (behind : B)
    : Type 0 where
  pub status_is : number ≡ status reply
  pub behind_is : behind ≡ rule reply before

-- a call made: its answer is laid out, and the buffers are as it leaves them
pub record Makes {A B C : Type 0} (o : Outcome A B) (rule : Reply A → C → C) (before : C) (number : ℕ) (left : B)
    (behind : C) : Type 0 where
  pub laid : Lays o.reply rule before number behind
  pub left_is : left ≡ o.left

-- the same where nothing but the status is answered
pub record Fills {A B : Type 0} (o : Outcome A B) (number : ℕ) (left : B) : Type 0 where
  pub status_is : number ≡ status o.reply
  pub left_is : left ≡ o.left

-- a value behind one pointer
abbrev pub value_behind : {A : Type 0} → Reply A → A → A
value_behind r a = after (λ v. v) a r

-- ---- a slice that is to hold so many numbers
-- 5 where there are not so many
abbrev pub bad_count : {A : Type 0} → ℕ → List A → List Refusal
bad_count n l = 5 when not (eqb (length l) n) ∷ []

-- unless it is refused, that call
unfoldable pub over_count : {A B C : Type 0} → ℕ → List C → B → Outcome A B → Outcome A B
over_count n l kept o = unless (first_of (bad_count n l)) kept o

-- ---- measures in a slice, as `values_of` lists them
-- how many numbers they take
abbrev pub measures_size : ℕ
measures_size = 5

-- the measures in such a slice
unfoldable pub measures_in : List ℕ → Measures
measures_in l =
    record {
      width = get_or l 0 0;
      height = get_or l 1 0;
      radius = get_or l 2 0;
      reach = get_or l 3 0;
      start = get_or l 4 0;
    }

-- ---- a ledger in a slice
-- how many numbers it takes
abbrev pub stats_size : ℕ
stats_size = 6

abbrev pub stats_numbers : Stats → List ℤ
stats_numbers s =
    let f = s.figures in
    f.start_error
    ∷ s.error
    ∷ pos f.start_dots
    ∷ pos f.on
    ∷ pos f.off
    ∷ pos f.swaps
    ∷ []

-- the ledger in such a slice
unfoldable pub stats_in : List ℤ → Stats
stats_in l =
    record {
      error = get_or l 1 (pos 0);
      figures =
          record {
            start_error = get_or l 0 (pos 0);
            start_dots = count_of (get_or l 2 (pos 0));
            on = count_of (get_or l 3 (pos 0));
            off = count_of (get_or l 4 (pos 0));
            swaps = count_of (get_or l 5 (pos 0));
          };
    }

-- both slices: 5 by the number of measures, before all else, since nothing else can then be judged; 1 to 4 by these;
-- and 5 in its place, by the ledger's
unfoldable pub slice_refusal : List ℕ → List ℤ → ℕ
slice_refusal measures stats =
    first_of (bad_count measures_size measures ++ bad_measures (measures_in measures) ++ bad_count stats_size stats)

-- ---- starts and later calls, with measures and ledger in slices
module _ (measures psf gray dots : List ℕ) (table stats : List ℤ) where
  abbrev m : Measures
  m = measures_in measures

  abbrev s : Stats
  s = stats_in stats

  -- unless one of the two is refused, that call
  unfoldable pub over_slices : {A : Type 0} → Outcome A Buffers → Outcome A Buffers
  over_slices o = unless (slice_refusal measures stats) (buffers dots table) o

  abbrev pub start_over : Outcome Stats Buffers
  start_over = over_slices (start_call m psf gray dots table)

  abbrev pub toggle_over : (row col : ℕ) → Outcome Tried Buffers
  toggle_over row col = over_slices (toggle_call m psf gray dots table s row col)

  abbrev pub swap_over : (row col row' col' : ℕ) → Outcome Tried Buffers
  swap_over row col row' col' = over_slices (swap_call m psf gray dots table s row col row' col')

  abbrev pub toggle_scan_over : Outcome ScanResult Buffers
  toggle_scan_over = over_slices (toggle_scan_call m psf gray dots table s)

  abbrev pub swap_scan_over : Outcome ScanResult Buffers
  swap_scan_over = over_slices (swap_scan_call m psf gray dots table s)

  abbrev pub converge_over : Outcome ConvergeResult Buffers
  converge_over = over_slices (converge_call m psf gray dots table s)

-- behind the pointers: a fresh ledger in its slice
abbrev pub stats_behind : Reply Stats → List ℤ → List ℤ
stats_behind r l = after stats_numbers l r

-- the change of an attempt
abbrev pub change_of : Tried → ℤ
change_of (accepted s d) = d
change_of (declined d) = d

-- the ledger that an attempt leaves in its slice: the new one, or, declined, the one that stood there
abbrev pub tried_numbers : List ℤ → Tried → List ℤ
tried_numbers l (accepted s d) = stats_numbers s
tried_numbers l (declined d) = l

-- behind the pointers: the ledger and the change
abbrev pub tried_behind : Reply Tried → List ℤ × ℤ → List ℤ × ℤ
tried_behind r (l, d) = (after (tried_numbers l) l r, after change_of d r)

-- an attempt that was accepted
abbrev pub IsAccepted : Tried → Type 0
IsAccepted (accepted s d) = Unit {0}
IsAccepted (declined d) = ⊥

-- its change tells: below 0 it was accepted, and only then; else dots, table and the slice of the ledger are as they
-- were (that every attempt tells so is promised: `toggle_is_told`, `swap_is_told`)
pub record Told (dots : List ℕ) (table stats : List ℤ) (a : Tried) (left : Buffers) : Type 0 where
  pub below_is_accepted : change_of a <ℤ pos 0 → IsAccepted a
  pub accepted_is_below : IsAccepted a → change_of a <ℤ pos 0
  pub else_kept : pos 0 ≤ℤ change_of a
      → (left.dots ≡ dots) × (left.table ≡ table) × (tried_numbers stats a ≡ stats)

-- a scan: the ledger, and behind the pointers with it the changes accepted and the trials
abbrev pub scan_numbers : ScanResult → List ℤ
scan_numbers r = stats_numbers r.stats

abbrev pub scan_behind : Reply ScanResult → List ℤ × ℕ × ℕ → List ℤ × ℕ × ℕ
scan_behind r (l, n, k) = (after scan_numbers l r, after (λ done. done.changes) n r, after (λ done. done.trials) k r)

-- a settling: the ledger, and with it the scans
abbrev pub converge_numbers : ConvergeResult → List ℤ
converge_numbers r = stats_numbers r.stats

abbrev pub converge_behind : Reply ConvergeResult → List ℤ × ℕ → List ℤ × ℕ
converge_behind r (l, n) = (after converge_numbers l r, after (λ done. done.scans) n r)

-- ---- lists of its later calls: each handed what the last one left behind the pointers
pub record Slices : Type 0 where
  pub dots : List ℕ
  pub table : List ℤ
  pub stats : List ℤ

-- what later calls are handed, in slices, and what stands in slices for them
abbrev pub slices_of : Held → Slices
slices_of h = record { dots = h.dots; table = h.table; stats = stats_numbers h.stats }

abbrev pub held_in : Slices → Held
held_in h = record { dots = h.dots; table = h.table; stats = stats_in h.stats }

-- the ledger's slice after a call
abbrev pub stats_after : List ℤ → Reply Result → List ℤ
stats_after l (result (tried t)) = tried_numbers l t
stats_after l (result (swept r)) = scan_numbers r
stats_after l (result (rested r)) = converge_numbers r
stats_after l (refused n o) = l

abbrev pub leave : Slices → Outcome Result Buffers → Slices
leave h o =
    record { dots = o.left.dots; table = o.left.table; stats = stats_after h.stats o.reply }

module _ (measures psf gray : List ℕ) where
  abbrev pub call_over : Slices → Call → Outcome Result Buffers
  call_over h (toggle_at row col) = outcome tried (toggle_over measures psf gray h.dots h.table h.stats row col)
  call_over h (swap_at row col row' col') =
      outcome tried (swap_over measures psf gray h.dots h.table h.stats row col row' col')
  call_over h toggle_scan = outcome swept (toggle_scan_over measures psf gray h.dots h.table h.stats)
  call_over h swap_scan = outcome swept (swap_scan_over measures psf gray h.dots h.table h.stats)
  call_over h convergence = outcome rested (converge_over measures psf gray h.dots h.table h.stats)

  -- every answer in order, and what is left
  abbrev pub run_over : Slices → List Call → List (Reply Result) × Slices
  run_over = run_by (λ h c. let o = call_over h c in record { reply = o.reply; left = leave h o })

-- ---- sheets
-- what stands behind the pointer to the byte offset at exit: it is written on a refusal only
abbrev pub offset_after : {A : Type 0} → ℕ → Reply A → ℕ
offset_after at (result a) = at
offset_after at (refused n o) = o

-- behind the pointers: the measures or the length, and the byte offset
abbrev pub read_behind : Reply Measures → List ℕ × ℕ → List ℕ × ℕ
read_behind r (l, at) = (after values_of l r, offset_after at r)

abbrev pub write_behind : Reply ℕ → ℕ × ℕ → ℕ × ℕ
write_behind r (n, at) = (value_behind r n, offset_after at r)

-- reading into a slice of measures
abbrev pub read_over : (bytes psf gray dots measures : List ℕ) → Outcome Measures SheetBuffers
read_over bytes psf gray dots measures =
    over_count measures_size measures (sheet_buffers psf gray dots) (read_call bytes psf gray dots)

-- writing from one
abbrev pub write_over : (measures psf gray dots out : List ℕ) → Outcome ℕ (List ℕ)
write_over measures psf gray dots out =
    over_count measures_size measures out (write_call (measures_in measures) psf gray dots out)

-- how many bytes always suffice for a sheet, and for a filed one (PM_MAX_SHEET, PM_MAX_FILED)
abbrev pub longest_sheet : ℕ
longest_sheet = 393472

abbrev pub longest_filed : ℕ
longest_filed = 393624

-- ---- the check of a filed sheet
-- its verdict in numbers: the figure as filed, E by the sum, whether they agree, whether the ledger fits, whether it is
-- at rest (1 or 0, or the number of a start's refusal negated), and the cells
abbrev pub verdict_size : ℕ
verdict_size = 6

abbrev pub rest_number : Resting → ℤ
rest_number Rests = pos 1
rest_number Lowers = pos 0
rest_number (Unstarted n) = pos 0 -ℤ pos n

abbrev pub verdict_numbers : Verdict → List ℤ
verdict_numbers v =
    v.filed
    ∷ v.squared
    ∷ pick v.figure (pos 1) (pos 0)
    ∷ pick v.ledger (pos 1) (pos 0)
    ∷ rest_number v.rest
    ∷ pos (cells_of v.measures)
    ∷ []

-- behind the pointers: the verdict and the byte offset
abbrev pub check_behind : Reply Verdict → List ℤ × ℕ → List ℤ × ℕ
check_behind r (l, at) = (after verdict_numbers l r, offset_after at r)

-- checking into a slice of numbers
abbrev pub check_over : (bytes psf gray dots : List ℕ) (table verdict : List ℤ) → Outcome Verdict CheckBuffers
check_over bytes psf gray dots table verdict =
    over_count verdict_size verdict (check_buffers psf gray dots table) (check_call bytes psf gray dots table)

-- ---- pictures, by width and height
abbrev pub sized : (width height : ℕ) → Size
sized w h = record { width = w; height = h }

-- behind the pointers: the same
abbrev pub picture_behind : Reply Size → ℕ × ℕ → ℕ × ℕ
picture_behind r (w, h) = (after (λ z. z.width) w r, after (λ z. z.height) h r)

-- ---- a PFM: behind the pointers width, height and scale, and the byte offset, which is written with 18 only
abbrev pub sample_offset : {A : Type 0} → ℕ → Reply A → ℕ
sample_offset at (result a) = at
sample_offset at (refused n o) = pick (eqb n 18) o at

abbrev pub pfm_behind : Reply PfmHeader → ℕ × ℕ × Float × ℕ → ℕ × ℕ × Float × ℕ
pfm_behind r (w, h, v, at) =
    (after (λ p. p.width) w r, after (λ p. p.height) h r, after (λ p. p.scale) v r, sample_offset at r)

-- how many bytes always suffice for one (PM_MAX_PFM)
abbrev pub longest_pfm : ℕ
longest_pfm = 262160

-- ---- the tone balance: behind the pointers its quotient and its remainder
abbrev pub balance_behind : Reply ToneBalance → ℤ × ℕ → ℤ × ℕ
balance_behind r (q, k) = (after (λ b. b.quotient) q r, after (λ b. b.remainder) k r)

-- ---- the version of the library: 1,000,000 × major + 1,000 × minor + patch
abbrev pub version : ℕ
version = 1000000 * 3 + 1000 * 1 + 0
