-- What a start answers and leaves.
--   start_refused, start_done  refused, all as it was; else the dots of its kind, their table and a fresh ledger
--   start_later                later calls accept what is left
--   start_begins               the promise of a start
use mathlib.Core.List.{List}
use mathlib.Core.Path.{◌≡◌, refl, sym, ◌∙◌, ap, subst}
use Prim.Native.Nat.{ℕ}
use lib.IntN.{ℤ}
use lib.ListN.{length}
use Rattle.model.specs.declared.Measures.{Measures}
use Rattle.model.specs.declared.Stats.{Stats}
use Rattle.model.specs.Basic.{AtMost}
use Rattle.model.specs.Error.{Target, target_for, filtered_errors}
use Rattle.model.specs.Screen.{start_dots}
use Rattle.model.specs.Refusal.{start_refusal, PlateFits}
use Rattle.model.specs.State.{StateFits, LaterFits}
use Rattle.model.specs.Promises.{Begun}
use Rattle.model.specs.Calls.{result, refused, Ends, buffers, start_call, with_table}
use Rattle.model.specs.Ledger.{fresh_stats}
use Rattle.model.proofs.Error.{filtered_long}
use Rattle.model.proofs.Calls.{ends_refused, ends_done, was_done}
use Rattle.model.proofs.Refusal.{start_plate, start_hold}
use Rattle.model.proofs.Halftone.{squared_least, squared_most}
use Rattle.model.proofs.State.{fresh_fits, dots_counted}
use Rattle.model.proofs.Later.{fits_later}

-- ---- the answer and the buffers
module _ (m : Measures) (psf gray dots : List ℕ) (table : List ℤ) where
  pub start_refused : {x : ℕ} → x ≡ start_refusal m psf gray dots (length table) → (x ≡ 0 → ⊥)
      → Ends (start_call m psf gray dots table) (refused x 0) (buffers dots table)
  unfolding start_call
  start_refused e h = ends_refused _ _ _ e h

  -- where the dots are those of the kind, and the table and the ledger are fresh
  pub start_done : start_refusal m psf gray dots (length table) ≡ 0 → {d : List ℕ} {t : List ℤ} {s : Stats}
      → d ≡ start_dots m gray dots
      → t ≡ filtered_errors (target_for m psf gray) d
      → s ≡ fresh_stats (target_for m psf gray) d
      → Ends (start_call m psf gray dots table) (result s) (buffers d t)
  unfolding start_call
  start_done taken e f g =
      ends_done _ _ _ taken
      (record {
        reply_is = ap result (g ∙ ap (fresh_stats (target_for m psf gray)) e);
        left_is = λ i. buffers (e i) ((f ∙ ap (filtered_errors (target_for m psf gray)) e) i);
      })

-- ---- what is left
module _ (m : Measures) (psf gray dots : List ℕ) (table : ℕ) (bytes : AtMost 255 gray)
    (taken : start_refusal m psf gray dots table ≡ 0) where
  abbrev t : Target
  t = target_for m psf gray

  abbrev begun : List ℕ
  begun = start_dots m gray dots

  pub start_fits : PlateFits m psf gray begun (length (filtered_errors t begun))
  start_fits =
      let f = start_plate m psf gray dots table taken in
      subst (PlateFits m psf gray begun) (f.halftone.table_length ∙ sym (filtered_long t begun)) f

  pub start_state : StateFits t begun (filtered_errors t begun) (fresh_stats t begun)
  start_state =
      let f = start_fits.halftone in
      fresh_fits t begun f.bits f.dots_length
      (squared_least f) (squared_most f bytes)

  -- what is left is what later calls accept
  pub start_later : LaterFits m psf gray begun (filtered_errors t begun) (fresh_stats t begun)
  start_later =
      record { plate = start_fits; locks = start_hold m psf gray dots table taken; state = start_state }

-- ---- what a start that is not refused answers and leaves
module _ (m : Measures) (psf gray : List ℕ) where
  start_begun : (dots : List ℕ) (table : ℕ) → AtMost 255 gray → start_refusal m psf gray dots table ≡ 0
      → Begun m psf gray (with_table (target_for m psf gray) (start_dots m gray dots))
      (fresh_stats (target_for m psf gray) (start_dots m gray dots))
  unfolding fresh_stats
  start_begun dots table bytes e =
      let f = start_state m psf gray dots table bytes e in
      record {
        start_error_is_sum = refl;
        error_is_sum = refl;
        start_error_is_not_negative = f.start_low;
        start_error_is_bounded = f.start_high;
        start_dots_are_counted =
            dots_counted (start_dots m gray dots) (start_plate m psf gray dots table e).halftone.bits;
        counts_are_0 = (refl, refl, refl);
        table_is_fresh = refl;
        locked_cells_are_set = start_hold m psf gray dots table e;
        is_accepted = fits_later m psf gray _ _ _ (start_later m psf gray dots table bytes e);
      }

  pub start_begins : (dots : List ℕ) (table : List ℤ) (s : Stats) → AtMost 255 gray
      → (start_call m psf gray dots table).reply ≡ result s
      → Begun m psf gray (start_call m psf gray dots table).left s
  unfolding start_call
  start_begins dots table s bytes e =
      let (taken, value, same) = was_done _ _ (start_refusal m psf gray dots (length table)) refl e in
      subst (λ o. Begun m psf gray o.left s) same
      (subst (Begun m psf gray (with_table (target_for m psf gray) (start_dots m gray dots))) value
      (start_begun dots (length table) bytes taken))
