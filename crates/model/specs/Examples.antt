-- The starred examples of document 01, as one table: a field for each figure. And plates that show what would be a
-- mistake; the trials of some scans; and some tone balances. `examples`, `one_sided`, `of_unlocked`, `scan_examples` and
-- `balance_examples` of proofs/Examples.antt fill the tables by computing the sums.
use Rattle.std.specs.Prelude.{◌≡◌, List, [], ◌∷◌, ◌++◌, ℕ, ℤ, pos, negsuc, neg_ℤ, ◌*ℤ◌, get_or, ◌≤ℤ◌}
use Rattle.model.specs.declared.Measures.{Measures}
use Rattle.model.specs.declared.Stats.{Stats}
use Rattle.model.specs.declared.ToneBalance.{ToneBalance}
use Rattle.model.specs.Psf.{autocorrelation, peak}
use Rattle.model.specs.Error.{Target, target_of, filtered_errors, squared_error}
use Rattle.model.specs.Screen.{threshold_at, start_dots}
use Rattle.model.specs.Change.{toggle, swap, change}
use Rattle.model.specs.Reference.{Tried, accepted, declined}
use Rattle.model.specs.Calls.{Reply, result, refused, Outcome, Buffers}
use Rattle.model.specs.Calls.{start_call, toggle_call, swap_call, toggle_scan_call, swap_scan_call, converge_call}
use Rattle.model.specs.Lists.{Rest}
use Rattle.model.specs.Text.{bytes}
use Rattle.model.specs.Program.{output}
use Rattle.model.specs.Balance.{balance_call}
use Rattle.model.specs.Interface.{sized}

-- 1 by 1, r 0, p 1
abbrev pub single : ℕ → Target
single gray = target_of 1 1 0 (1 ∷ []) (gray ∷ [])

-- p rows `0 0 0`, `1 2 1`, `0 0 0`
abbrev pub even : List ℕ
even = 0 ∷ 0 ∷ 0 ∷ 1 ∷ 2 ∷ 1 ∷ 0 ∷ 0 ∷ 0 ∷ []

-- p rows `0 0 0`, `0 1 2`, `0 0 0`
abbrev pub lopsided : List ℕ
lopsided = 0 ∷ 0 ∷ 0 ∷ 0 ∷ 1 ∷ 2 ∷ 0 ∷ 0 ∷ 0 ∷ []

-- 2 by 1, r 1, with the even psf
abbrev pub pair : ℕ → ℕ → Target
pair a b = target_of 2 1 1 even (a ∷ b ∷ [])

-- 2 by 1, start kind 1
abbrev pub ordered_pair : Measures
ordered_pair = record { width = 2; height = 1; radius = 1; reach = 1; start = 1 }

-- 1 by 1, r 0; and 2 by 1, r 1, reach 1
abbrev pub single_measures : Measures
single_measures = record { width = 1; height = 1; radius = 0; reach = 0; start = 0 }

abbrev pub pair_measures : Measures
pair_measures = record { width = 2; height = 1; radius = 1; reach = 1; start = 0 }

-- a ledger: E at the start and now, dots at the start, toggles on, toggles off, swaps
abbrev pub stats : (before now : ℤ) (dots on off swaps : ℕ) → Stats
stats before now dots on off swaps =
    record {
      error = now;
      figures = record { start_error = before; start_dots = dots; on = on; off = off; swaps = swaps };
    }

-- what a call answers, with the dots and the table that it leaves
abbrev pub outcome : {A : Type 0} → A → List ℕ → List ℤ → Outcome A Buffers
outcome answer dots table = record { reply = result answer; left = record { dots = dots; table = table } }

-- a toggle of the one cell, blank and fresh
abbrev pub toggle_single : (gray : ℕ) (table error : ℤ) → Outcome Tried Buffers
toggle_single gray table error =
    toggle_call single_measures (1 ∷ []) (gray ∷ []) (0 ∷ []) (table ∷ []) (stats error error 0 0 0 0) 0 0

-- the worked sheet, and what the program prints of it
unfoldable pub worked_input : List ℕ
worked_input =
    bytes "width height radius reach start\n2 1 1 1 0\n" ++
    (bytes "psf\n0 0 0\n1 2 1\n0 0 0\n" ++ bytes "gray\n100 100\n")

unfoldable pub worked_output : List ℕ
worked_output =
    bytes "width height radius reach start\n2 1 1 1 2\n" ++
    (bytes "psf\n0 0 0\n1 2 1\n0 0 0\n" ++
    (bytes "gray\n100 100\n" ++
    (bytes "dots\n1 0\n" ++ bytes "before after on off swaps scans\n200000 80150 1 0 0 3\n")))

pub record Examples : Type 0 where
  -- 1 by 1, r 0, p 1, gray 255, blank: E 65025
  pub black_blank : squared_error (single 255) (0 ∷ []) ≡ pos 65025
  -- toggle -65025
  pub black_change : change (single 255) (0 ∷ []) (toggle (0 ∷ []) 0) ≡ negsuc 65024
  -- now it starts with its dot and E 0 (02); a blank there contradicts, and its dot is not toggled
  pub black_start : start_call single_measures (1 ∷ []) (255 ∷ []) (0 ∷ []) (pos 7 ∷ [])
      ≡ outcome (stats (pos 0) (pos 0) 1 0 0 0) (1 ∷ []) (pos 0 ∷ [])
  pub black_blank_is_refused : (toggle_single 255 (negsuc 254) (pos 65025)).reply ≡ refused 16 0
  pub black_dot_is_refused : (toggle_call single_measures (1 ∷ []) (255 ∷ []) (1 ∷ []) (pos 0 ∷ [])
      (stats (pos 0) (pos 0) 1 0 0 0) 0 0).reply ≡ refused 23 0
  -- same, gray 128: toggle -255, accepted, E 16384 to 16129
  pub over_half_toggle : toggle_single 128 (negsuc 127) (pos 16384)
      ≡ outcome (accepted (stats (pos 16384) (pos 16129) 0 1 0 0) (negsuc 254)) (1 ∷ []) (pos 127 ∷ [])
  -- same, gray 127: +255, declined
  pub under_half_toggle : toggle_single 127 (negsuc 126) (pos 16129)
      ≡ outcome (declined (pos 255)) (0 ∷ []) (negsuc 126 ∷ [])
  -- p rows `0 0 0`, `1 2 1`, `0 0 0`: c along the row 6, 4, 1 at 0, 1, 2
  pub even_at_0 : autocorrelation 1 even (pos 0) (pos 0) ≡ pos 6
  pub even_at_1 : autocorrelation 1 even (pos 0) (pos 1) ≡ pos 4
  pub even_at_2 : autocorrelation 1 even (pos 0) (pos 2) ≡ pos 1
  -- gray 100 100, blank: T -1000 -1000, E 200000
  pub pair_blank_table : filtered_errors (pair 100 100) (0 ∷ 0 ∷ []) ≡ negsuc 999 ∷ negsuc 999 ∷ []
  pub pair_blank_error : squared_error (pair 100 100) (0 ∷ 0 ∷ []) ≡ pos 200000
  -- toggle first: -119850, T 530 20, E 80150
  pub pair_toggle : toggle_call pair_measures even (100 ∷ 100 ∷ []) (0 ∷ 0 ∷ []) (negsuc 999 ∷ negsuc 999 ∷ [])
      (stats (pos 200000) (pos 200000) 0 0 0 0) 0 0
      ≡ outcome (accepted (stats (pos 200000) (pos 80150) 0 1 0 0) (negsuc 119849))
      (1 ∷ 0 ∷ []) (pos 530 ∷ pos 20 ∷ [])
  -- then swap: change 0, declined
  pub pair_tie : swap_call pair_measures even (100 ∷ 100 ∷ []) (1 ∷ 0 ∷ []) (pos 530 ∷ pos 20 ∷ [])
      (stats (pos 200000) (pos 80150) 0 1 0 0) 0 0 0 1
      ≡ outcome (declined (pos 0)) (1 ∷ 0 ∷ []) (pos 530 ∷ pos 20 ∷ [])
  -- gray 100 130, dots 1 0: T 410 -160, E 84350
  pub pair_dot_table : filtered_errors (pair 100 130) (1 ∷ 0 ∷ []) ≡ pos 410 ∷ negsuc 159 ∷ []
  pub pair_dot_error : squared_error (pair 100 130) (1 ∷ 0 ∷ []) ≡ pos 84350
  -- swap -30600, T -100 350, E 53750
  pub pair_swap : swap_call pair_measures even (100 ∷ 130 ∷ []) (1 ∷ 0 ∷ []) (pos 410 ∷ negsuc 159 ∷ [])
      (stats (pos 84350) (pos 84350) 1 0 0 0) 0 0 0 1
      ≡ outcome (accepted (stats (pos 84350) (pos 53750) 1 0 0 1) (negsuc 30599))
      (0 ∷ 1 ∷ []) (negsuc 99 ∷ pos 350 ∷ [])
  -- settling it takes 4 scans
  pub pair_converges : converge_call pair_measures even (100 ∷ 130 ∷ []) (1 ∷ 0 ∷ []) (pos 410 ∷ negsuc 159 ∷ [])
      (stats (pos 84350) (pos 84350) 1 0 0 0)
      ≡ outcome (record { stats = stats (pos 84350) (pos 53750) 1 0 0 1; scans = 4 })
      (0 ∷ 1 ∷ []) (negsuc 99 ∷ pos 350 ∷ [])
  -- p rows `0 0 0`, `0 1 2`, `0 0 0`: c 5, and 2 at one step either way
  pub lopsided_at_0 : autocorrelation 1 lopsided (pos 0) (pos 0) ≡ pos 5
  pub lopsided_right : autocorrelation 1 lopsided (pos 0) (pos 1) ≡ pos 2
  pub lopsided_left : autocorrelation 1 lopsided (pos 0) (negsuc 0) ≡ pos 2
  -- thresholds (0,0) 0, (0,1) 128, (1,0) 192, (1,1) 64
  pub threshold_0_0 : threshold_at 0 0 ≡ 0
  pub threshold_0_1 : threshold_at 0 1 ≡ 128
  pub threshold_1_0 : threshold_at 1 0 ≡ 192
  pub threshold_1_1 : threshold_at 1 1 ≡ 64
  -- kind 1, 2 by 1: gray 127 127 gives 1 0; 128 128 gives 1 1
  pub ordered_127 : start_dots ordered_pair (127 ∷ 127 ∷ []) (0 ∷ 0 ∷ []) ≡ 1 ∷ 0 ∷ []
  pub ordered_128 : start_dots ordered_pair (128 ∷ 128 ∷ []) (0 ∷ 0 ∷ []) ≡ 1 ∷ 1 ∷ []
  -- the worked sheet, gray 100 100 from a start of kind 0: dots 1 0; 200000 80150 1 0 0 3
  pub worked_start : start_call pair_measures even (100 ∷ 100 ∷ []) (0 ∷ 0 ∷ []) (pos 0 ∷ pos 0 ∷ [])
      ≡ outcome (stats (pos 200000) (pos 200000) 0 0 0 0) (0 ∷ 0 ∷ []) (negsuc 999 ∷ negsuc 999 ∷ [])
  pub worked_converges : converge_call pair_measures even (100 ∷ 100 ∷ []) (0 ∷ 0 ∷ []) (negsuc 999 ∷ negsuc 999 ∷ [])
      (stats (pos 200000) (pos 200000) 0 0 0 0)
      ≡ outcome (record { stats = stats (pos 200000) (pos 80150) 0 1 0 0; scans = 3 })
      (1 ∷ 0 ∷ []) (pos 530 ∷ pos 20 ∷ [])
  -- the same as texts: what the program prints of that sheet
  pub worked_output_lem : output worked_input ≡ worked_output

-- ---- document 01, mistakes to rule out: claiming |T| within half the peak on both sides
-- rows of 3 and of 4 cells with the even psf, whose 255 × P is 1530
abbrev pub dark : Target
dark = target_of 3 1 1 even (100 ∷ 254 ∷ 100 ∷ [])

abbrev pub dark_dots : List ℕ
dark_dots = 0 ∷ 1 ∷ 0 ∷ []

abbrev pub light : Target
light = target_of 4 1 1 even (64 ∷ 64 ∷ 60 ∷ 140 ∷ [])

abbrev pub light_dots : List ℕ
light_dots = 0 ∷ 1 ∷ 0 ∷ 1 ∷ []

pub record OneSided : Type 0 where
  -- dots 0 1 0: T -696 -794 -696
  pub dark_table : filtered_errors dark dark_dots ≡ negsuc 695 ∷ negsuc 793 ∷ negsuc 695 ∷ []
  -- at rest at every reach
  pub dark_rests : (reach : ℕ) → Rest dark reach dark_dots (filtered_errors dark dark_dots)
  -- yet twice the table is not at least -255 × P under the dot
  pub below_under_dot : neg_ℤ (pos 255 *ℤ peak 1 even) ≤ℤ (pos 2 *ℤ get_or (filtered_errors dark dark_dots) 1 (pos 0)) → ⊥
  -- dots 0 1 0 1: T 320 765 800 641
  pub light_table : filtered_errors light light_dots ≡ pos 320 ∷ pos 765 ∷ pos 800 ∷ pos 641 ∷ []
  pub light_rests : (reach : ℕ) → Rest light reach light_dots (filtered_errors light light_dots)
  -- yet twice the table is not at most 255 × P under the third cell, a blank
  pub above_under_blank : (pos 2 *ℤ get_or (filtered_errors light light_dots) 2 (pos 0)) ≤ℤ (pos 255 *ℤ peak 1 even) → ⊥

-- ---- request C-12: rest is of unlocked cells
-- a ring of eight cells of one gray round bare paper, p nine 1s: 255 × P is 2295
abbrev pub ring : ℕ → Target
ring g = target_of 3 3 1 (1 ∷ 1 ∷ 1 ∷ 1 ∷ 1 ∷ 1 ∷ 1 ∷ 1 ∷ 1 ∷ []) (g ∷ g ∷ g ∷ g ∷ 0 ∷ g ∷ g ∷ g ∷ g ∷ [])

-- blank, and with a dot above the paper, which is cell 4
abbrev pub ring_blank : List ℕ
ring_blank = 0 ∷ 0 ∷ 0 ∷ 0 ∷ 0 ∷ 0 ∷ 0 ∷ 0 ∷ 0 ∷ []

abbrev pub ring_dot : List ℕ
ring_dot = 0 ∷ 1 ∷ 0 ∷ 0 ∷ 0 ∷ 0 ∷ 0 ∷ 0 ∷ 0 ∷ []

pub record OfUnlocked : Type 0 where
  -- of gray 31 and blank it is at rest at every reach
  pub blank_ring_rests : (reach : ℕ) → Rest (ring 31) reach ring_blank (filtered_errors (ring 31) ring_blank)
  -- yet a dot on the paper would lower E by 47175
  pub paper_toggle_lowers : change (ring 31) ring_blank (toggle ring_blank 4) ≡ negsuc 47174
  -- and twice the table there, which is -1240, is not at least -255 × P
  pub paper_table : get_or (filtered_errors (ring 31) ring_blank) 4 (pos 0) ≡ negsuc 1239
  pub below_under_paper : neg_ℤ (pos 255 *ℤ peak 1 (ring 31).psf)
      ≤ℤ (pos 2 *ℤ get_or (filtered_errors (ring 31) ring_blank) 4 (pos 0)) → ⊥
  -- of gray 32 and with the dot it is at rest at every reach
  pub dot_ring_rests : (reach : ℕ) → Rest (ring 32) reach ring_dot (filtered_errors (ring 32) ring_dot)
  -- yet the swap of the dot with the paper would lower E by 65280
  pub paper_swap_lowers : change (ring 32) ring_dot (swap ring_dot 1 4) ≡ negsuc 65279

-- ---- request C-14: the trials of scans
-- 4 by 1, r 0, reach 3
abbrev pub row_measures : Measures
row_measures = record { width = 4; height = 1; radius = 0; reach = 3; start = 2 }

pub record ScanExamples : Type 0 where
  -- gray 100 130, dots 1 0: a toggle scan accepts nothing in 2 trials
  pub pair_toggle_scan : toggle_scan_call pair_measures even (100 ∷ 130 ∷ []) (1 ∷ 0 ∷ []) (pos 410 ∷ negsuc 159 ∷ [])
      (stats (pos 84350) (pos 84350) 1 0 0 0)
      ≡ outcome (record { stats = stats (pos 84350) (pos 84350) 1 0 0 0; changes = 0; trials = 2 })
      (1 ∷ 0 ∷ []) (pos 410 ∷ negsuc 159 ∷ [])
  -- a swap scan accepts a swap at the first cell, and weighs it once more from the second
  pub pair_swap_scan : swap_scan_call pair_measures even (100 ∷ 130 ∷ []) (1 ∷ 0 ∷ []) (pos 410 ∷ negsuc 159 ∷ [])
      (stats (pos 84350) (pos 84350) 1 0 0 0)
      ≡ outcome (record { stats = stats (pos 84350) (pos 53750) 1 0 0 1; changes = 1; trials = 2 })
      (0 ∷ 1 ∷ []) (negsuc 99 ∷ pos 350 ∷ [])
  -- p 1, gray 200 10 10 10, dots 0 1 1 1: the blank goes to the farthest, so the cells after it have 1, 1 and 3 trials by
  -- the dots that are left, where by the first dots they would have 1 each
  pub row_swap_scan : swap_scan_call row_measures (1 ∷ []) (200 ∷ 10 ∷ 10 ∷ 10 ∷ []) (0 ∷ 1 ∷ 1 ∷ 1 ∷ [])
      (negsuc 199 ∷ pos 245 ∷ pos 245 ∷ pos 245 ∷ []) (stats (pos 220075) (pos 220075) 3 0 0 0)
      ≡ outcome (record { stats = stats (pos 220075) (pos 123175) 3 0 0 1; changes = 1; trials = 6 })
      (1 ∷ 1 ∷ 1 ∷ 0 ∷ []) (pos 55 ∷ pos 245 ∷ pos 245 ∷ negsuc 9 ∷ [])

-- ---- request C-15: tone balances
-- of 2 by 2 cells with a dot in the first
abbrev pub square_balance : (gray : List ℕ) → Reply ToneBalance
square_balance gray = (balance_call (sized 2 2) gray (1 ∷ 0 ∷ 0 ∷ 0 ∷ [])).reply

pub record BalanceExamples : Type 0 where
  -- D = -1 and N = 4: -1 and 3
  pub one_below : square_balance (255 ∷ 1 ∷ 0 ∷ 0 ∷ []) ≡ result (record { quotient = negsuc 0; remainder = 3 })
  -- D = -4: -1 and 0; D = -5: -2 and 3
  pub four_below : square_balance (255 ∷ 4 ∷ 0 ∷ 0 ∷ []) ≡ result (record { quotient = negsuc 0; remainder = 0 })
  pub five_below : square_balance (255 ∷ 5 ∷ 0 ∷ 0 ∷ []) ≡ result (record { quotient = negsuc 1; remainder = 3 })
  -- D = 0: 0 and 0; D = 5: 1 and 1
  pub none_apart : square_balance (255 ∷ 0 ∷ 0 ∷ 0 ∷ []) ≡ result (record { quotient = pos 0; remainder = 0 })
  pub five_above : square_balance (250 ∷ 0 ∷ 0 ∷ 0 ∷ []) ≡ result (record { quotient = pos 1; remainder = 1 })
