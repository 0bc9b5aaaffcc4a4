-- How an answer is laid out: a call's outcome against what the functions answer and leave.
--   makes, fills                         a call that ends so, its answer laid out
--   to_lay                               what laying out an answer requires of it
--   slices_refused, slices_taken         a start or a later call, one of these slices refused, or both taken
--   count_refused, count_taken           a sheet, with a slice of not so many numbers, or of so many
--   check_in_range                       what the check answers has measures in their fields
use mathlib.Core.List.{List, ◌++◌}
use mathlib.Core.Path.{◌≡◌, refl, sym, ◌∙◌, ap, subst}
use Prim.Native.Nat.{ℕ}
use borrow.Author.Tests.{eqb-true, not-false}
use lib.Dec.{eqb}
use lib.IntN.{ℤ}
use lib.ListN.{length}
use Rattle.model.specs.declared.Measures.{Measures}
use Rattle.model.specs.declared.Reason.{Reason}
use Rattle.model.specs.declared.Stats.{Stats}
use Rattle.model.specs.FiledCalls.{Verdict}
use Rattle.model.specs.Reason.{number_of}
use Rattle.model.specs.Calls.{Reply, result, refused, Outcome, Ends, Buffers, buffers}
use Rattle.model.specs.Interface.{status, Lays, Makes, Fills, measures_size, measures_in, stats_size, stats_in}
use Rattle.model.specs.Interface.{bad_count, over_count, slice_refusal, over_slices}
use Rattle.model.specs.Sheet.{InRange}
use Rattle.model.specs.FiledCalls.{verdict_of, check_call}
use Rattle.model.specs.Refusal.{bad_measures}
use Rattle.judge_parts.proofs.Drawn.{some_number}
use Rattle.platemaker_numbers.specs.Storable.{Holds}
use Rattle.model.proofs.Refusal.{none}
use Rattle.model.proofs.Calls.{ends_refused, ends_done, ends_as}
use Rattle.model.proofs.Interface.{counted, not_counted}
use Rattle.model.proofs.FiledCheck.{checking}

-- a call that ends so, its answer laid out
module _ {A B : Type 0} {o : Outcome A B} {reply : Reply A} {left : B} (e : Ends o reply left) where
  pub makes : {C : Type 0} {rule : Reply A → C → C} {before behind : C} {n : ℕ} → Lays reply rule before n behind
      → Makes o rule before n left behind
  makes {rule} {before} l = record {
    laid =
        record {
          status_is = l.status_is ∙ ap status e.reply_is;
          behind_is = l.behind_is ∙ ap (λ r. rule r before) e.reply_is;
        };
    left_is = e.left_is;
  }

  pub fills : {n : ℕ} → n ≡ status reply → Fills o n left
  fills s = record { status_is = s ∙ ap status e.reply_is; left_is = e.left_is }

-- what laying out an answer requires of it
pub to_lay : {A : Type 0} (P : A → Type 0) {r answer : Reply A} → r ≡ answer → Holds P answer → Holds P r
to_lay P k h = subst (Holds P) (sym k) h

-- ---- a start or a later call, with measures and ledger in slices
-- a slice is refused
pub slices_refused : {A C : Type 0} (measures psf gray dots : List ℕ) (table stats : List ℤ) (made : Outcome A Buffers)
    (rule : Reply A → C → C) (before : C) (r : Reason) {n : ℕ} → number_of r ≡ slice_refusal measures stats
    → n ≡ number_of r
    → Makes (over_slices measures psf gray dots table stats made) rule before n (buffers dots table)
    (rule (refused n 0) before)
unfolding over_slices
slices_refused measures psf gray dots table stats made rule before r e f =
    makes
    (ends_refused (buffers dots table) made (slice_refusal measures stats) (f ∙ e) (λ z. some_number r (sym f ∙ z)))
    (record { status_is = refl; behind_is = refl })

-- both are taken, the call is made with what they hold, and its answer laid out
pub slices_taken : {A C : Type 0}
    (call : Measures → (psf gray dots : List ℕ) → (table : List ℤ) → Stats → Outcome A Buffers)
    (measures psf gray dots : List ℕ) (table stats : List ℤ) → 0 ≡ slice_refusal measures stats
    → {m : Measures} {s : Stats} → m ≡ measures_in measures → s ≡ stats_in stats
    → {reply : Reply A} {left : Buffers} → Ends (call m psf gray dots table s) reply left
    → {rule : Reply A → C → C} {before behind : C} {r : ℕ} → Lays reply rule before r behind
    → Makes (over_slices measures psf gray dots table stats (call (measures_in measures) psf gray dots table (stats_in stats)))
    rule before r left behind
unfolding over_slices
slices_taken call measures psf gray dots table stats e em es ends laid =
    makes
    (ends_done (buffers dots table) (call (measures_in measures) psf gray dots table (stats_in stats))
    (slice_refusal measures stats) (sym e) (rw (em, es) at ends))
    laid

-- ---- a sheet, with a slice of so many numbers
module _ {A B C D : Type 0} (n : ℕ) (l : List D) (kept : B) (o : Outcome A B) (rule : Reply A → C → C) (before : C) where
  pub count_refused : (length l ≡ n → ⊥) → {k : ℕ} {behind : C} → Lays (refused 5 0) rule before k behind
      → Makes (over_count n l kept o) rule before k kept behind
  count_refused h laid = makes (ends_as (not_counted n l kept o h)) laid

  pub count_taken : length l ≡ n → {reply : Reply A} {left : B} → Ends o reply left
      → {behind : C} {r : ℕ} → Lays reply rule before r behind → Makes (over_count n l kept o) rule before r left behind
  count_taken e ends laid = rw (counted n l kept o e) (makes ends laid)

-- ---- a filed sheet, checked
-- what it answers has measures in their fields
pub check_in_range : (bytes psf gray dots : List ℕ) (table : List ℤ) (reply : Reply Verdict)
    → reply ≡ (check_call bytes psf gray dots table).reply → Holds (λ v. InRange v.measures) reply
unfolding verdict_of
check_in_range bytes psf gray dots table (result v) k =
    let (s, f, c, e) = ((checking bytes psf gray dots table).check_answers_exactly v).0 (sym k) in
    subst (λ w. InRange w.measures) (sym e) c.is_filed.is_valid.in_range
check_in_range bytes psf gray dots table (refused n o) k = tt
