-- 20: a table compared with one that is worked out afresh.
--   table_drawn, table_passed  20 where they differ; else what 21 draws
use mathlib.Core.Bool.{Bool, false}
use mathlib.Core.List.{List, [], ◌∷◌}
use mathlib.Core.Path.{◌≡◌, ◌∙◌, ap}
use Prim.Native.Nat.{ℕ}
use lib.IntN.{ℤ, pos}
use lib.ListN.{length, get_or}
use Rattle.std.proofs.lemmas.Bool.{true_from_ne_false}
use Rattle.model.specs.Basic.{some_below}
use Rattle.model.specs.Error.{Target, cells, filtered_error, filtered_errors}
use Rattle.model.specs.Ledger.{unequal}
use Rattle.model.specs.Refusal.{first_of}
use Rattle.model.specs.State.{bad_table, bad_stats}
use Rattle.model.specs.declared.Stats.{Stats}
use Rattle.model.proofs.Basic.{none_below, all_below, get_d_tabulate, tabulate-by}
use Rattle.model.proofs.State.{same, equal}

module _ (t : Target) (dots : List ℕ) (table : List ℤ) (s : Stats) where
  abbrev differing : Bool
  differing = some_below (cells t) (λ m. unequal (get_or table m (pos 0)) (filtered_error t dots m))

  same_table : length table ≡ cells t → differing ≡ false → table ≡ filtered_errors t dots
  unfolding filtered_errors
  same_table long e =
      tabulate-by (pos 0) (cells t) (filtered_error t dots) table long (λ i h. equal _ _ (all_below (cells t) _ e i h))

  none_differs : table ≡ filtered_errors t dots → differing ≡ false
  unfolding filtered_errors
  none_differs e =
      none_below (cells t) _ (λ i h.
      same (ap (λ l. get_or l i (pos 0)) e ∙ get_d_tabulate (cells t) (filtered_error t dots) i (pos 0) h))

  pub table_drawn : length table ≡ cells t → (table ≡ filtered_errors t dots → ⊥)
      → 20 ≡ first_of (bad_table t dots table ∷ bad_stats t dots s ∷ [])
  unfolding bad_table
  table_drawn long h = rw (true_from_ne_false differing (λ e. h (same_table long e)))

  pub table_passed : table ≡ filtered_errors t dots → {n : ℕ} → n ≡ first_of (bad_stats t dots s ∷ [])
      → n ≡ first_of (bad_table t dots table ∷ bad_stats t dots s ∷ [])
  unfolding bad_table
  table_passed e f = rw (none_differs e) f
