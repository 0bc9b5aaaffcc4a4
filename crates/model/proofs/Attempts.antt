-- An attempt that is not refused: what it answers and leaves, and that later calls accept what it leaves.
--   toggle_ready, swap_ready            what it was handed fits, and its change is legal
--   attempt_by, attempt_cases           its change lowers E and it is accepted, or it is declined
--   Sound, entry_sound, accept_sound    later calls accept what there is: at an entry, after an accepted change
--   toggle_tries, swap_tries            the promise of an attempt
use mathlib.Core.Bool.{true, false}
use mathlib.Core.List.{List, [], ◌∷◌}
use mathlib.Core.Path.{◌≡◌, refl, sym, ◌∙◌, ap₂, subst}
use Prim.Native.Nat.{ℕ}
use lib.Dec.{lit≤}
use lib.IntN.{ℤ, pos, ◌+ℤ◌, ◌-ℤ◌}
use lib.Signed.{◌≤ℤ◌, ◌<ℤ◌}
use lib.ListN.{length}
use Rattle.algebra.proofs.Solver.{ring!, reify}
use Rattle.algebra.proofs.Grid.{cell<}
use Rattle.model.specs.declared.Measures.{Measures}
use Rattle.model.specs.declared.Stats.{Stats}
use Rattle.model.specs.Error.{Target, target_for, cell_at, filtered_errors, squared_error, cells}
use Rattle.model.specs.Refusal.{PlateFits}
use Rattle.model.specs.State.{toggle_refusal, swap_refusal, LaterFits}
use Rattle.model.specs.Ledger.{raised, counted}
use Rattle.model.specs.Change.{Move, made, toggle, swap, Legal, change, lowers, Look, look_from}
use Rattle.model.specs.Reference.{Reference, reference, accept}
use Rattle.model.specs.Reference.{Tried, accepted, declined, Performed}
use Rattle.model.specs.Reference.{stats_of, attempt, decided}
use Rattle.model.specs.Calls.{result, Buffers, with_table, later_call, toggle_call, swap_call}
use Rattle.model.specs.Lists.{tried, latest}
use Rattle.model.specs.Promises.{Weighed, Tries}
use Rattle.model.proofs.Basic.{pick_cases}
use Rattle.model.proofs.Error.{filtered_long}
use Rattle.model.proofs.Lock.{locks_made}
use Rattle.model.proofs.State.{below, at_least}
use Rattle.model.proofs.Reference.{halftone_made, fits_halftone, toggle_legal, swap_legal, accept_fits}
use Rattle.model.proofs.Later.{toggle_enters, swap_enters, fits_later}
use Rattle.model.proofs.Calls.{was_done}
use Rattle.model.proofs.Change.{change_least}

-- ---- an attempt that is not refused is legal
module _ (m : Measures) (psf gray dots : List ℕ) (table : List ℤ) (s : Stats) where
  pub toggle_ready : (row col : ℕ) → toggle_refusal m psf gray dots table s row col ≡ 0
      → LaterFits m psf gray dots table s × Legal (target_for m psf gray) dots (toggle dots (cell_at m.width row col))
  toggle_ready row col taken =
      let (fits, (r, c), free) = toggle_enters m psf gray dots table s row col taken in
      (fits, toggle_legal (target_for m psf gray) dots (fits_halftone fits.plate.halftone) refl _ (cell< r c) free)

  pub swap_ready : (row col row' col' : ℕ) → swap_refusal m psf gray dots table s row col row' col' ≡ 0
      → LaterFits m psf gray dots table s
      × Legal (target_for m psf gray) dots (swap dots (cell_at m.width row col) (cell_at m.width row' col'))
  swap_ready row col row' col' taken =
      let (fits, (r, c), (r', c'), (free, free'), unlike) = swap_enters m psf gray dots table s row col row' col' taken in
      let halftone = fits_halftone fits.plate.halftone in
      (fits, swap_legal (target_for m psf gray) dots halftone _ _ (cell< r c) (cell< r' c') free free' unlike)

-- ---- the two cases
module _ (t : Target) (p : Reference) (v : Move) where
  abbrev when_accepted : Performed Tried
  when_accepted = record { answer = accepted (stats_of t (accept p v)) (change t p.dots v); after = accept p v }

  abbrev when_declined : Performed Tried
  when_declined = record { answer = declined (change t p.dots v); after = p }

  -- its change lowers E, and it is accepted; or it does not, and it is declined
  pub attempt_by : (Q : Performed Tried → Type 0)
      → (lowers t p.dots v ≡ true → Q when_accepted) → (lowers t p.dots v ≡ false → Q when_declined)
      → Q (attempt t p v)
  unfolding attempt look_from
  attempt_by Q = pick_cases (λ (k : Look). Q (decided t p k.taken k.last)) (lowers t p.dots v)

  -- the same by the change
  pub attempt_cases : (Q : Performed Tried → Type 0)
      → (change t p.dots v <ℤ pos 0 → Q when_accepted) → (pos 0 ≤ℤ change t p.dots v → Q when_declined)
      → Q (attempt t p v)
  attempt_cases Q lower higher =
      attempt_by Q (λ e. lower (below e)) (λ e. higher (at_least (change t p.dots v) (pos 0) e))

-- E now gains the change, and the one matching count rises by 1: the ledger is the reference's
pub counted_is : (t : Target) (dots : List ℕ) (s : Stats) (v : Move) {d : ℤ}
    → s.error ≡ squared_error t dots → d ≡ change t dots v
    → counted s d v.raises ≡ stats_of t (accept (reference dots s) v)
unfolding counted stats_of accept change
counted_is t dots s v {d} e f = λ i. record { error = moved i; figures = raised v.raises s.figures }
  where
    back : (a b : ℤ) → a +ℤ (b -ℤ a) ≡ b
    back a b = ring! (a ∷ b ∷ []) (search reify depth 40) refl

    moved : s.error +ℤ d ≡ squared_error t (made dots v.sets)
    moved = ap₂ (λ a b. a +ℤ b) e f ∙ back (squared_error t dots) (squared_error t (made dots v.sets))

-- ---- what is left fits
-- later calls accept the reference's dots with their table, and its figures
abbrev pub Sound : Measures → (psf gray : List ℕ) → Reference → Type 0
Sound m psf gray p =
    let t = target_for m psf gray in LaterFits m psf gray p.dots (filtered_errors t p.dots) (stats_of t p)

module _ (m : Measures) (psf gray dots : List ℕ) (table : List ℤ) (s : Stats)
    (f : LaterFits m psf gray dots table s) where
  abbrev t : Target
  t = target_for m psf gray

  -- the ledger handed in is the reference's
  pub entry_stats : s ≡ stats_of (target_for m psf gray) (reference dots s)
  unfolding stats_of
  entry_stats = λ i. record { error = f.state.error_is i; figures = s.figures }

  -- as at the entry of a later call
  pub entry_sound : Sound m psf gray (reference dots s)
  entry_sound =
      subst (LaterFits m psf gray dots (filtered_errors t dots)) entry_stats
      (subst (λ T. LaterFits m psf gray dots T s) f.state.table_is f)

  module _ (v : Move) (legal : Legal (target_for m psf gray) dots v) where
    plate : PlateFits m psf gray (made dots v.sets) (length (filtered_errors t (made dots v.sets)))
    plate =
        subst (PlateFits m psf gray (made dots v.sets))
        (f.plate.halftone.table_length ∙ sym (filtered_long t (made dots v.sets)))
        (record {
          reach_near = f.plate.reach_near;
          kind_known = f.plate.kind_known;
          halftone = halftone_made dots v.sets f.plate.halftone legal.placed legal.bits;
        })

    -- after an accepted change
    pub accept_sound : change t dots v <ℤ pos 0 → Sound m psf gray (accept (reference dots s) v)
    unfolding accept
    accept_sound l =
        record {
          plate = plate;
          locks = locks_made t dots v.sets legal.free f.locks;
          state =
              accept_fits t f.plate.halftone.wide.0 (lit≤ tt) dots f.plate.halftone.dots_length table s
              f.state v legal l;
        }

    -- accepted or declined, later calls accept it again
    abbrev Kept : Performed Tried → Type 0
    Kept done =
        LaterFits m psf gray done.after.dots (filtered_errors t done.after.dots)
        (latest s (result (tried done.answer)))

    pub attempt_later : Kept (attempt t (reference dots s) v)
    attempt_later =
        attempt_cases t (reference dots s) v Kept accept_sound
        (λ l. subst (λ T. LaterFits m psf gray dots T s) f.state.table_is f)

-- ---- what an attempt that is not refused was handed, answers and leaves
module _ (m : Measures) (psf gray dots : List ℕ) (table : List ℤ) (s : Stats) where
  abbrev target : Target
  target = target_for m psf gray

  -- what the reference does
  abbrev doing : Move → Performed Tried
  doing v = attempt target (reference dots s) v

  abbrev Attempted : Move → Tried → Buffers → Type 0
  Attempted = Tries m psf gray dots table s

  tries : (v : Move) → LaterFits m psf gray dots table s → Legal target dots v
      → Attempted v (doing v).answer (with_table target (doing v).after.dots)
  unfolding accept
  tries v f legal =
      let kept = attempt_later m psf gray dots table s f v legal in
      record {
        table_was_fresh = f.state.table_is;
        error_was_sum = f.state.error_is;
        table_is_fresh = refl;
        error_is_sum = kept.state.error_is;
        answer_is_reference = refl;
        dots_are_reference = refl;
        weighed = weighed;
        is_accepted = fits_later m psf gray _ _ _ kept;
      }
    where
      long : length dots ≡ cells (target_for m psf gray)
      long = f.plate.halftone.dots_length

      Decided : Performed Tried → Type 0
      Decided done = Weighed m psf gray dots table s v (with_table target done.after.dots) done.answer

      weighed : Decided (doing v)
      weighed =
          attempt_cases target (reference dots s) v Decided
          (λ l. (
            refl,
            change_least target dots v long legal.placed l,
            sym (counted_is target dots s v f.state.error_is refl),
            refl,
          ))
          (λ l. (refl, l, refl, sym f.state.table_is))

  -- the call of an attempt that is legal once it is not refused
  by_call : (number : ℕ) (v : Move) (answer : Tried)
      → (number ≡ 0 → LaterFits m psf gray dots table s × Legal target dots v)
      → (later_call number target dots table (doing v)).reply ≡ result answer
      → Attempted v answer (later_call number target dots table (doing v)).left
  unfolding later_call
  by_call number v answer enters e =
      let (taken, value, same) = was_done _ _ number refl e in
      let (fits, legal) = enters taken in
      subst (λ o. Attempted v answer o.left) same
      (subst (λ a. Attempted v a (with_table target (doing v).after.dots)) value (tries v fits legal))

  pub toggle_tries : (row col : ℕ) (answer : Tried)
      → (toggle_call m psf gray dots table s row col).reply ≡ result answer
      → Attempted (toggle dots (cell_at m.width row col)) answer (toggle_call m psf gray dots table s row col).left
  unfolding toggle_call
  toggle_tries row col answer =
      by_call (toggle_refusal m psf gray dots table s row col) (toggle dots (cell_at m.width row col)) answer
      (toggle_ready m psf gray dots table s row col)

  pub swap_tries : (row col row' col' : ℕ) (answer : Tried)
      → (swap_call m psf gray dots table s row col row' col').reply ≡ result answer
      → Attempted (swap dots (cell_at m.width row col) (cell_at m.width row' col')) answer
      (swap_call m psf gray dots table s row col row' col').left
  unfolding swap_call
  swap_tries row col row' col' answer =
      by_call (swap_refusal m psf gray dots table s row col row' col')
      (swap dots (cell_at m.width row col) (cell_at m.width row' col')) answer
      (swap_ready m psf gray dots table s row col row' col')
