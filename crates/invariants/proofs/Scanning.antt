-- What holds while a scan is under way, by whatever rule.
--   visit_none                         nothing is accepted at a cell, and all stays
--   toggle_locked, toggle_declined     a toggle scan at a cell that is locked, or where a toggle does not lower E
--   toggle_accepted                    and where it does
--   attempt_advances                   what an attempt answers advances a scan that attempts just that
--   Scanning                           the cells before this one done, what is there is the reference's
--   scanning_start, scanning-ready     it starts from what a later call is handed, and later calls accept what is there
--   scanning_few                       its accepted changes are few
--   scanning_next                      one cell more
--   scanning_span, scanning_ahead      on to another cell; a run of cells more: where nothing is accepted at any
--   trials_here, trials_ahead          the trials at a cell, and at cells where nothing is accepted
--   scanning_end, scan_leaves          every cell done, and what the scan answers then
use mathlib.Core.Bool.{true, false}
use mathlib.Core.List.{List, [], ◌∷◌}
use mathlib.Core.Path.{◌≡◌, refl, sym, ◌∙◌, ap, ap₂, subst}
use Prim.Native.Nat.{ℕ, zero, suc, ◌+◌, ◌*◌, ◌^◌, ◌≤◌, ◌<◌}
use native.Mathlib.Numerals.{add-one}
use native.Mathlib.Omega.{arith}
use lib.IntN.{ℤ}
use lib.ListN.{length}
use Rattle.model.specs.declared.Cell.{Cell}
use Rattle.model.specs.declared.Measures.{Measures}
use Rattle.model.specs.declared.Stats.{Stats}
use Rattle.model.specs.declared.Progress.{Progress}
use Rattle.model.specs.declared.ScanResult.{ScanResult}
use Rattle.model.specs.Basic.{pick, tabulate}
use Rattle.model.specs.Error.{Target, target_for, cells, filtered_errors}
use Rattle.model.specs.Lock.{locked, Free}
use Rattle.model.specs.Change.{Move, toggle, lowers, look}
use Rattle.model.specs.Psf.{total}
use Rattle.model.specs.Calls.{Reply}
use Rattle.model.specs.Reference.{Reference, reference, accept, stats_of, Tried, attempt}
use Rattle.model.specs.State.{LaterFits}
use Rattle.model.specs.Scan.{Rule, toggles, Sweep, try_each, sweep_to, sweep, progress_of, result_of, scan}
use Rattle.model.specs.Scan.{trials_at, trials_to}
use Rattle.model.proofs.Basic.{pick_cases}
use Rattle.model.proofs.Attempts.{Sound, entry_stats, attempt_by}
use Rattle.model.proofs.Scan.{Lawful, more, try_none, try_step, sweep_later, sweep_counts}
use Rattle.model.proofs.Tables.{total_tabulate}
use Rattle.model.proofs.Trials.{trials_next}
use Rattle.invariants.specs.Plate.{OnPlate, OnWay, cell_of, Leaves, as_reply}
use Rattle.invariants.proofs.Plate.{way_on, way_next, way_ahead, way_end}
use Rattle.invariants.specs.Trials.{advanced, sweep_of, performed, visit}

-- ---- at one cell
-- nothing is accepted
pub visit_none : {m : Measures} {psf gray : List ℕ} {dots : List ℕ} {table : List ℤ} {r : Progress}
    → LaterFits m psf gray dots table r.stats → {s : Sweep} → s ≡ sweep_of dots r
    → Leaves (target_for m psf gray) (performed (target_for m psf gray) s) r dots table
unfolding progress_of
visit_none {m} {psf} {gray} {dots} {table} {r} f e =
    rw e
    (record {
      answer_is = λ i. record { stats = entry_stats m psf gray dots table r.stats f i; changes = r.changes };
      dots_are = refl;
      table_is = f.state.table_is;
    })

-- a toggle scan
module _ (t : Target) (dots : List ℕ) (r : Progress) (n : ℕ) where
  -- a cell that is not locked is tried
  tried : Free t n → toggles t dots n ≡ toggle dots n ∷ []
  unfolding toggles
  tried free = ap (λ b. pick b [] (toggle dots n ∷ [])) free

  pub toggle_locked : locked t.gray n ≡ true → visit t (toggles t) dots r n ≡ sweep_of dots r
  unfolding toggles
  toggle_locked e =
      ap (λ b. try_each t (sweep_of dots r) (pick b [] (toggle dots n ∷ []))) e ∙ try_none t (sweep_of dots r)

  pub toggle_declined : lowers t dots (toggle dots n) ≡ false → visit t (toggles t) dots r n ≡ sweep_of dots r
  unfolding toggles
  toggle_declined e =
      pick_cases (λ l. try_each t (sweep_of dots r) l ≡ sweep_of dots r) (locked t.gray n)
      (λ b. try_none t (sweep_of dots r))
      (λ b.
      try_step t (sweep_of dots r) (toggle dots n) []
      ∙ ap₂ (λ b s. pick b (more (sweep_of dots r) (toggle dots n)) s) e (try_none t (sweep_of dots r)))

  pub toggle_accepted : Free t n → lowers t dots (toggle dots n) ≡ true
      → visit t (toggles t) dots r n ≡ more (sweep_of dots r) (toggle dots n)
  toggle_accepted free e =
      ap (try_each t (sweep_of dots r)) (tried free)
      ∙ try_step t (sweep_of dots r) (toggle dots n) []
      ∙ ap (λ b. pick b (more (sweep_of dots r) (toggle dots n)) (try_each t (sweep_of dots r) [])) e

-- what an attempt answers advances a scan that attempts just that
module _ (t : Target) (dots : List ℕ) (r : Progress) (v : Move) {s : Sweep} (dots' : List ℕ) (table' : List ℤ)
    (entry : r.stats ≡ stats_of t (reference dots r.stats))
    (taken : lowers t dots v ≡ true → s ≡ more (sweep_of dots r) v)
    (passed : lowers t dots v ≡ false → s ≡ sweep_of dots r) where
  pub attempt_advances : (reply : Reply Tried) {r' : Progress} → r' ≡ advanced r reply
      → Leaves t (as_reply (attempt t (reference dots r.stats) v)) reply dots' table'
      → Leaves t (performed t s) r' dots' table'
  unfolding progress_of
  attempt_advances reply {r'} is =
      attempt_by t (reference dots r.stats) v
      (λ done. Leaves t (as_reply done) reply dots' table' → Leaves t (performed t s) r' dots' table')
      (λ e left.
      subst (λ (x : Sweep). Leaves t (performed t x) r' dots' table') (sym (taken e))
      (record {
        answer_is =
            is
            ∙ ap (advanced r) left.answer_is
            ∙ (λ i. record { stats = stats_of t (accept (reference dots r.stats) v); changes = add-one r.changes i });
        dots_are = left.dots_are;
        table_is = left.table_is;
      }))
      (λ e left.
      subst (λ (x : Sweep). Leaves t (performed t x) r' dots' table') (sym (passed e))
      (record {
        answer_is = is ∙ ap (advanced r) left.answer_is ∙ (λ i. record { stats = entry i; changes = r.changes });
        dots_are = left.dots_are;
        table_is = left.table_is;
      }))

-- ---- under way: the cells before this one are done
pub record Scanning (m : Measures) (psf gray : List ℕ) (rule : Rule) (p : Reference) (at : Cell)
    (dots : List ℕ) (table : List ℤ) (r : Progress) : Type 0 where
  -- what is there is the reference's
  pub left : (let t = target_for m psf gray in
      Leaves t (performed t (sweep_to t rule p (cell_of m.width at))) r dots table)
  pub on_way : OnWay m at

-- the same by the number of cells done
record Done (m : Measures) (psf gray : List ℕ) (rule : Rule) (p : Reference) (n : ℕ)
    (dots : List ℕ) (table : List ℤ) (r : Progress) : Type 0 where
  left : (let t = target_for m psf gray in Leaves t (performed t (sweep_to t rule p n)) r dots table)

module _ {m : Measures} {psf gray : List ℕ} {rule : Rule} {p : Reference} {n : ℕ}
    {dots : List ℕ} {table : List ℤ} {r : Progress} (u : Done m psf gray rule p n dots table r) where
  abbrev t : Target
  t = target_for m psf gray

  abbrev done : Sweep
  done = sweep_to t rule p n

  stats_are : r.stats ≡ stats_of t done.after
  unfolding progress_of
  stats_are = ap (λ (x : Progress). x.stats) u.left.answer_is

  changes_are : r.changes ≡ done.changes
  unfolding progress_of
  changes_are = ap (λ (x : Progress). x.changes) u.left.answer_is

  -- the reference under way is the one with these dots and the figures of this progress
  sweep_is : sweep_of dots r ≡ done
  unfolding progress_of stats_of
  sweep_is =
      λ i. record {
        after = reference (u.left.dots_are i) (u.left.answer_is i).stats;
        changes = (u.left.answer_is i).changes;
      }

  -- the number of cells done told in another way
  done_at : {k : ℕ} → n ≡ k → Done m psf gray rule p k dots table r
  done_at e = subst (λ k. Done m psf gray rule p k dots table r) e u

  -- later calls accept what is there
  done_fits : Lawful t rule → Sound m psf gray p → n ≤ cells t → LaterFits m psf gray dots table r.stats
  done_fits lawful f h =
      subst (LaterFits m psf gray dots table) (sym stats_are)
      (subst (λ T. LaterFits m psf gray dots T (stats_of t done.after)) (sym u.left.table_is)
      (subst
      (λ d. LaterFits m psf gray d (filtered_errors t done.after.dots) (stats_of t done.after))
      (sym u.left.dots_are) (sweep_later m psf gray rule lawful p f n h)))

  -- its accepted changes are few
  done_few : Lawful t rule → Sound m psf gray p → n ≤ cells t → r.changes < 2 ^ 63
  unfolding stats_of
  done_few lawful f h =
      let g = (sweep_later m psf gray rule lawful p f n h).state in
      omega (arith, changes_are, sweep_counts t rule p n, g.on_few, g.off_few, g.swaps_few)

  -- one cell more
  done_next : {dots' : List ℕ} {table' : List ℤ} {r' : Progress}
      → Leaves t (performed t (visit t rule dots r n)) r' dots' table'
      → Done m psf gray rule p (suc n) dots' table' r'
  unfolding sweep_to
  done_next {dots'} {table'} {r'} left =
      record { left = subst (λ (s : Sweep). Leaves t (performed t s) r' dots' table') next left }
    where
      next : visit t rule dots r n ≡ sweep_to t rule p (suc n)
      next = ap (λ (s : Sweep). try_each t s (rule s.after.dots n)) sweep_is

-- k cells more, where nothing is accepted at any of them
done_skip : {m : Measures} {psf gray : List ℕ} {rule : Rule} {p : Reference} {dots : List ℕ} {table : List ℤ}
    {r : Progress} (n k : ℕ) → Done m psf gray rule p n dots table r → LaterFits m psf gray dots table r.stats
    → ((j : ℕ) → j < k → visit (target_for m psf gray) rule dots r (n + j) ≡ sweep_of dots r)
    → Done m psf gray rule p (n + k) dots table r
done_skip n zero u f still = done_at u (omega arith)
done_skip n (suc k) u f still =
    let before = done_skip n k u f (λ j h. still j (omega arith)) in
    done_at (done_next before (visit_none f (still k (omega arith)))) (omega arith)

-- their trials, where all that the rule attempts is weighed
trials_at_lem : {m : Measures} {psf gray : List ℕ} {rule : Rule} {p : Reference} {n : ℕ} {dots : List ℕ} {table : List ℤ}
    {r : Progress} → Done m psf gray rule p n dots table r
    → (let t = target_for m psf gray in trials_at t rule p n ≡ length (look t dots (rule dots n)).weighed)
unfolding trials_at
trials_at_lem {m} {psf} {gray} {rule} {n = n} u =
    ap (λ d. length (look (target_for m psf gray) d (rule d n)).weighed) (sym u.left.dots_are)

trials_skip : {m : Measures} {psf gray : List ℕ} {rule : Rule} {p : Reference} {dots : List ℕ} {table : List ℤ}
    {r : Progress} (n k : ℕ) → Done m psf gray rule p n dots table r → LaterFits m psf gray dots table r.stats
    → ((j : ℕ) → j < k → visit (target_for m psf gray) rule dots r (n + j) ≡ sweep_of dots r)
    → ((j : ℕ) → j < k → (look (target_for m psf gray) dots (rule dots (n + j))).weighed ≡ rule dots (n + j))
    → (let t = target_for m psf gray in
    let attempts : ℕ → ℕ = λ n. total (tabulate n (λ i. length (rule dots i))) in
    trials_to t rule p (n + k) + attempts n ≡ trials_to t rule p n + attempts (n + k))
trials_skip {m} {psf} {gray} {rule} {p} {dots} n zero u f still weighed =
    let t = target_for m psf gray in
    let none : n + 0 ≡ n = omega arith in
    ap (λ k. trials_to t rule p k + total (tabulate n (λ i. length (rule dots i)))) none
    ∙ ap (λ k. trials_to t rule p n + total (tabulate k (λ i. length (rule dots i)))) (sym none)
trials_skip {m} {psf} {gray} {rule} {p} {dots} n (suc k) u f still weighed =
    let t = target_for m psf gray in
    let next : n + suc k ≡ suc (n + k) = omega arith in
    let before = done_skip n k u f (λ j h. still j (omega arith)) in
    omega (
      arith,
      trials_skip n k u f (λ j h. still j (omega arith)) (λ j h. weighed j (omega arith)),
      ap (trials_to t rule p) next,
      trials_next t rule p (n + k),
      trials_at_lem before ∙ ap length (weighed k (omega arith)),
      ap (λ k. total (tabulate k (λ i. length (rule dots i)))) next,
      total_tabulate (n + k) (λ i. length (rule dots i)),
    )

-- it starts from what a later call is handed
pub scanning_start : (m : Measures) (psf gray : List ℕ) (rule : Rule) {dots : List ℕ} {table : List ℤ} {s : Stats}
    → LaterFits m psf gray dots table s
    → Scanning m psf gray rule (reference dots s) (record { row = 0; col = 0 }) dots table
    (record { stats = s; changes = 0 })
unfolding sweep_to progress_of
scanning_start m psf gray rule {dots} {table} {s} f =
    let none : Done m psf gray rule (reference dots s) 0 dots table (record { stats = s; changes = 0 }) =
    record {
      left = record {
        answer_is = λ i. record { stats = entry_stats m psf gray dots table s f i; changes = 0 };
        dots_are = refl;
        table_is = f.state.table_is;
      };
    } in
    let at : 0 ≡ 0 * m.width + 0 = omega arith in
    record {
      left = (done_at none at).left;
      on_way = record { column = f.plate.halftone.wide.0; so_far = omega arith };
    }

module _ {m : Measures} {psf gray : List ℕ} {rule : Rule} {p : Reference} {at : Cell}
    {dots : List ℕ} {table : List ℤ} {r : Progress} (u : Scanning m psf gray rule p at dots table r)
    (lawful : Lawful (target_for m psf gray) rule) (sound : Sound m psf gray p) where
  abbrev so : Done m psf gray rule p (cell_of m.width at) dots table r
  so = record { left = u.left }

  -- later calls accept what is there
  pub scanning_fits : LaterFits m psf gray dots table r.stats
  scanning_fits = done_fits so lawful sound u.on_way.so_far

  -- its accepted changes are few
  pub scanning_few : r.changes < 2 ^ 63
  scanning_few = done_few so lawful sound u.on_way.so_far

  -- above the bottom of the plate the cell is one of it
  pub scanning_here : at.row < m.height → OnPlate m at
  scanning_here = way_on u.on_way

  -- one cell more
  module _ (on : OnPlate m at) {to : Cell} (column : to.col < m.width) where
    pub scanning_next : cell_of m.width to ≡ suc (cell_of m.width at)
        → {s : Sweep} → s ≡ visit (target_for m psf gray) rule dots r (cell_of m.width at)
        → {dots' : List ℕ} {table' : List ℤ} {r' : Progress}
        → Leaves (target_for m psf gray) (performed (target_for m psf gray) s) r' dots' table'
        → Scanning m psf gray rule p to dots' table' r'
    scanning_next e here {dots'} {table'} {r'} left =
        let t = target_for m psf gray in
        let visited = subst (λ (s : Sweep). Leaves t (performed t s) r' dots' table') here left in
        record {
          left = (done_at (done_next so visited) (sym e)).left;
          on_way = way_next on column e;
        }

  -- nothing is accepted at any of the next k cells
  abbrev pub Still : ℕ → Type 0
  Still k =
      (j : ℕ) → j < k → visit (target_for m psf gray) rule dots r (cell_of m.width at + j) ≡ sweep_of dots r

  -- on to the cell after them
  pub scanning_span : {to : Cell} {k : ℕ} → OnWay m to → cell_of m.width to ≡ cell_of m.width at + k → Still k
      → Scanning m psf gray rule p to dots table r
  scanning_span {to} {k} way e still =
      record {
        left = (done_at (done_skip (cell_of m.width at) k so scanning_fits still) (sym e)).left;
        on_way = way;
      }

  -- in the row
  pub scanning_ahead : OnPlate m at → {to : Cell} → to.col < m.width → {k : ℕ}
      → cell_of m.width to ≡ cell_of m.width at + k → at.col + k ≤ m.width → Still k
      → Scanning m psf gray rule p to dots table r
  scanning_ahead on column {k} e short still = scanning_span (way_ahead on column k e short) e still

  -- the trials at the cell
  pub trials_here : (let t = target_for m psf gray in
      trials_at t rule p (cell_of m.width at) ≡ length (look t dots (rule dots (cell_of m.width at))).weighed)
  trials_here = trials_at_lem so

  -- at the next k cells, where all that the rule attempts is weighed: those of the cells before, and theirs
  pub trials_ahead : (k : ℕ) → Still k
      → ((j : ℕ) → j < k → (let n = cell_of m.width at + j in
      (look (target_for m psf gray) dots (rule dots n)).weighed ≡ rule dots n))
      → (let t = target_for m psf gray in
      let n = cell_of m.width at in
      let attempts : ℕ → ℕ = λ n. total (tabulate n (λ i. length (rule dots i))) in
      trials_to t rule p (n + k) + attempts n ≡ trials_to t rule p n + attempts (n + k))
  trials_ahead k still weighed = trials_skip (cell_of m.width at) k so scanning_fits still weighed

  -- every cell done
  pub scanning_end : m.height ≤ at.row
      → (let t = target_for m psf gray in Leaves t (performed t (sweep t rule p)) r dots table)
  scanning_end below = (done_at so (way_end u.on_way below)).left

-- and what it answers then
pub scan_leaves : {t : Target} (rule : Rule) (p : Reference) {r : Progress} {n : ℕ} {answer : ScanResult} {dots : List ℕ}
    {table : List ℤ} → answer ≡ result_of r n → n ≡ trials_to t rule p (cells t)
    → Leaves t (performed t (sweep t rule p)) r dots table
    → Leaves t (scan t rule p) answer dots table
unfolding scan
scan_leaves rule p e counted left =
    record {
      answer_is = e ∙ ap₂ result_of left.answer_is counted;
      dots_are = left.dots_are;
      table_is = left.table_is;
    }
