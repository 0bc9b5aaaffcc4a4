-- Lists of calls: each call, handed what the last one left, answers as the reference does and leaves the reference's
-- dots with their table and its ledger.
--   runs_alike    where two kinds of calls answer and leave alike, so do lists of them
--   call_same     a call beside the reference: refused alike, or both done
--   call_later    later calls accept what a call leaves
--   run_same      a list of calls beside the reference, with whatever each accepted change keeps
--   run_expected  the only refusals in a list are 8, 9, 23 and 22
use mathlib.Core.Bool.{true, false}
use mathlib.Core.List.Memᴰ.{head as here}
use mathlib.Core.List.Memᴰ.{tail as there}
use mathlib.Core.List.{List, [], ◌∷◌, Memᴰ as In}
use mathlib.Core.Path.{◌≡◌, refl, sym, ◌∙◌, ap, ap₂, subst}
use Prim.Native.Nat.{ℕ, zero, suc}
use native.Mathlib.Nat.{le_refl}
use Rattle.model.specs.declared.Measures.{Measures}
use Rattle.model.specs.Error.{Target, target_for, cell_at, cells, filtered_errors, Halftone}
use Rattle.model.specs.Refusal.{Refusal, ◌when◌, first_of}
use Rattle.model.specs.State.{Asked, asks, no_cell, toggle_asked, swap_asked, later_refusals, LaterFits}
use Rattle.model.specs.State.{later_refusal, toggle_refusal, swap_refusal}
use Rattle.model.specs.Reference.{Reference, reference, Performed, stats_of, attempt}
use Rattle.model.specs.Scan.{Rule, toggles, swaps, scan, progress_of, converge}
use Rattle.model.specs.Calls.{Reply, result, Outcome, unless, Buffers, later_call}
use Rattle.model.specs.Calls.{toggle_call, swap_call, toggle_scan_call, swap_scan_call, converge_call}
use Rattle.model.specs.Lists.{Call, toggle_at, swap_at, toggle_scan, swap_scan, convergence}
use Rattle.model.specs.Lists.{Result, tried, swept, rested}
use Rattle.model.specs.Lists.{run_by, Held, latest, outcome, hand_on, call, call_next, run}
use Rattle.model.specs.Lists.{replied, asked, does, reference_call, reference_run, expected, Expected}
use Rattle.model.specs.Basic.{All}
use Rattle.model.specs.Change.{Move, toggle, swap, Legal}
use Rattle.model.proofs.Later.{later_draws}
use Rattle.model.proofs.Attempts.{toggle_ready, swap_ready, attempt_cases, Sound, entry_stats, entry_sound}
use Rattle.model.proofs.Scan.{Lawful, toggles_lawful, swaps_lawful, Keeps, sweep_keeps}
use Rattle.model.proofs.Scan.{sound_halftone, sound_kept}
use Rattle.model.proofs.Converge.{converge_keeps}

-- ---- two kinds of calls, side by side
module _ {C R S S' : Type 0} (make : S → C → Outcome R S) (make' : S' → C → Outcome R S') (of : S' → S)
    (Kept : S' → Type 0) where
  -- where each call answers alike, and leaves alike by what stands for what, so does a list of them
  pub runs_alike : ((p : S') (c : C) → Kept p
      → (make (of p) c ≡ record { reply = (make' p c).reply; left = of (make' p c).left }) × Kept (make' p c).left)
      → (p : S') (l : List C) → Kept p
      → (run_by make (of p) l ≡ ((run_by make' p l).0, of (run_by make' p l).1)) × Kept (run_by make' p l).1
  unfolding run_by
  runs_alike each p [] k = (refl, k)
  runs_alike each p (c ∷ l) k =
      let (same, kept) = each p c k in
      let (rest, last) = runs_alike each (make' p c).left l kept in (
        ap (λ o. let r = run_by make o.left l in (o.reply ∷ r.0, r.1)) same
            ∙ ap (λ r. ((make' p c).reply ∷ r.0, r.1)) rest,
        last,
      )

-- ---- later calls beside the reference
-- what is handed on beside it
abbrev pub held_of : Target → Reference → Held
held_of t p = record { dots = p.dots; table = filtered_errors t p.dots; stats = stats_of t p }

-- ---- the ledger in use after a call is the reference's
module _ (t : Target) (p : Reference) where
  abbrev Counted : {A : Type 0} → (A → Result) → Performed A → Type 0
  Counted f done = latest (stats_of t p) (result (f done.answer)) ≡ stats_of t done.after

  attempt_counted : (v : Move) → Counted tried (attempt t p v)
  attempt_counted v = attempt_cases t p v (Counted tried) (λ l. refl) (λ l. refl)

  scan_counted : (rule : Rule) → Counted swept (scan t rule p)
  unfolding scan progress_of
  scan_counted rule = refl

  converge_counted : (reach : ℕ) → Counted rested (converge t reach p)
  unfolding converge
  converge_counted reach = refl

  -- ---- a call and the reference, side by side: refused alike, or both done
  abbrev Same : Outcome Result Buffers → Outcome Result Reference → Type 0
  Same o r = (o.reply ≡ r.reply) × (hand_on (held_of t p) o ≡ held_of t r.left)

  same_by : {A : Type 0} (f : A → Result) (done : Performed A) {n k : ℕ} → n ≡ k → Counted f done
      → Same (outcome f (later_call n t p.dots (filtered_errors t p.dots) done)) (unless k p (replied f done))
  unfolding later_call
  same_by f done {n} {k} e c =
      subst (λ j.
      Same (outcome f (later_call n t p.dots (filtered_errors t p.dots) done)) (unless j p (replied f done)))
      e (go n)
    where
      go : (n : ℕ)
          → Same (outcome f (later_call n t p.dots (filtered_errors t p.dots) done)) (unless n p (replied f done))
      go zero = (
        refl,
        ap (λ s. record { dots = done.after.dots; table = filtered_errors t done.after.dots; stats = s }) c,
      )
      go (suc n) = (refl, refl)

module _ (m : Measures) (psf gray : List ℕ) where
  abbrev t : Target
  t = target_for m psf gray

  module _ (p : Reference) (f : Sound m psf gray p) where
    -- the same number is drawn
    draws : (a : Asked)
        → first_of (later_refusals m psf gray p.dots (filtered_errors t p.dots) (stats_of t p) a) ≡ first_of (asks a)
    draws = later_draws m psf gray p.dots (filtered_errors t p.dots) (stats_of t p) f

    pub call_same : (c : Call) → Same t p (call m psf gray (held_of t p) c) (reference_call m psf gray p c)
    unfolding toggle_call swap_call toggle_scan_call swap_scan_call converge_call toggle_refusal swap_refusal later_refusal
        stats_of
    call_same (toggle_at row col) =
        let v : Move = toggle p.dots (cell_at m.width row col) in
        same_by t p tried (attempt t p v) (draws (toggle_asked m gray row col)) (attempt_counted t p v)
    call_same (swap_at row col row' col') =
        let v : Move = swap p.dots (cell_at m.width row col) (cell_at m.width row' col') in
        same_by t p tried (attempt t p v)
        (draws (swap_asked m gray p.dots row col row' col')) (attempt_counted t p v)
    call_same toggle_scan = same_by t p swept (scan t (toggles t) p) (draws no_cell) (scan_counted t p (toggles t))
    call_same swap_scan =
        let rule : Rule = swaps t m.reach in
        same_by t p swept (scan t rule p) (draws no_cell) (scan_counted t p rule)
    call_same convergence =
        same_by t p rested (converge t m.reach p) (draws no_cell) (converge_counted t p m.reach)

    -- ---- what every accepted change keeps, every call keeps
    module _ (P : Reference → Type 0) (keep : Keeps t P) (h : P p) where
      halftone : Halftone t p.dots
      halftone = sound_halftone m psf gray p f

      attempt_keeps : (v : Move) → Legal t p.dots v → P (attempt t p v).after
      attempt_keeps v legal =
          attempt_cases t p v (λ done. P done.after)
          (λ l. keep p v halftone legal l h) (λ l. h)

      scan_keeps : (rule : Rule) → Lawful t rule → P (scan t rule p).after
      unfolding scan
      scan_keeps rule lawful = sweep_keeps t rule lawful p halftone P keep h (cells t) (le_refl (cells t))

      -- a call that is not refused
      does_keeps : (c : Call) → first_of (asks (asked m gray p.dots c)) ≡ 0 → P (does m psf gray p c).left
      unfolding converge toggle_refusal swap_refusal
      does_keeps (toggle_at row col) e =
          attempt_keeps _
          (toggle_ready m psf gray p.dots (filtered_errors t p.dots) (stats_of t p) row col
          (draws (toggle_asked m gray row col) ∙ e)).1
      does_keeps (swap_at row col row' col') e =
          attempt_keeps _
          (swap_ready m psf gray p.dots (filtered_errors t p.dots) (stats_of t p) row col row' col'
          (draws (swap_asked m gray p.dots row col row' col') ∙ e)).1
      does_keeps toggle_scan e = scan_keeps (toggles t) (toggles_lawful t refl)
      does_keeps swap_scan e = scan_keeps (swaps t m.reach) (swaps_lawful t m.reach)
      does_keeps convergence e = converge_keeps t m.reach f.plate.halftone.wide.0 refl P keep p 0 halftone h

      call_keeps : (c : Call) → P (reference_call m psf gray p c).left
      call_keeps c = go (first_of (asks (asked m gray p.dots c))) refl
        where
          go : (n : ℕ) → first_of (asks (asked m gray p.dots c)) ≡ n
              → P (unless n p (does m psf gray p c)).left
          go zero e = does_keeps c e
          go (suc n) e = h

  -- so later calls accept what it leaves
  pub call_later : (h : Held) (c : Call) → LaterFits m psf gray h.dots h.table h.stats
      → (let h' = hand_on h (call m psf gray h c) in LaterFits m psf gray h'.dots h'.table h'.stats)
  call_later h c f =
      let p : Reference = reference h.dots h.stats in
      let sound : Sound m psf gray p = entry_sound m psf gray h.dots h.table h.stats f in
      let handed : held_of t p ≡ h
      = ap₂ (λ T s. record { dots = h.dots; table = T; stats = s }) (sym f.state.table_is)
      (sym (entry_stats m psf gray h.dots h.table h.stats f)) in
      subst (λ x. Left (hand_on x (call m psf gray x c))) handed
      (subst Left (sym (call_same p sound c).1)
      (call_keeps p sound (Sound m psf gray) (sound_kept m psf gray) sound c))
    where
      Left : Held → Type 0
      Left h = LaterFits m psf gray h.dots h.table h.stats

  -- ---- a list of them
  module _ (P : Reference → Type 0) (keep : Keeps t P) where
    pub record Alike (h : List (Reply Result) × Held) (r : List (Reply Result) × Reference) : Type 0 where
      pub same : h ≡ (r.0, held_of t r.1)
      pub sound : Sound m psf gray r.1
      pub kept : P r.1

    pub run_same : (p : Reference) (l : List Call) → Sound m psf gray p → P p
        → Alike (run m psf gray (held_of t p) l) (reference_run m psf gray p l)
    run_same p l f h =
        let (same, (sound, kept))
        = runs_alike (call_next m psf gray) (reference_call m psf gray) (held_of t)
        (λ p. Sound m psf gray p × P p) (λ p c (f, h). (
          (let (reply, next) = call_same p f c in λ i. record { reply = reply i; left = next i }),
          (call_keeps p f (Sound m psf gray) (sound_kept m psf gray) f c, call_keeps p f P keep h c),
        )) p l (f, h) in
        record { same = same; sound = sound; kept = kept }

  -- ---- the only refusals in a list
  abbrev Among : List Refusal → Type 0
  Among [] = Unit {0}
  Among (n when b ∷ l) = In n expected × Among l

  module _ (p : Reference) (r : Outcome Result Reference) (h : Expected r.reply) where
    one_drawn : (n : ℕ) → In n expected → Expected (unless n p r).reply
    one_drawn zero d = h
    one_drawn (suc n) d = d

    drawn_expected : (l : List Refusal) → Among l → Expected (unless (first_of l) p r).reply
    drawn_expected [] a = h
    drawn_expected (n when true ∷ l) a = one_drawn n a.0
    drawn_expected (n when false ∷ l) a = drawn_expected l a.1

  call_expected : (p : Reference) (c : Call) → Expected (reference_call m psf gray p c).reply
  call_expected p (toggle_at row col) =
      drawn_expected p (does m psf gray p (toggle_at row col)) tt (asks (toggle_asked m gray row col))
      (here refl, (there (there (here refl)), tt))
  call_expected p (swap_at row col row' col') =
      drawn_expected p (does m psf gray p (swap_at row col row' col')) tt
      (asks (swap_asked m gray p.dots row col row' col'))
      (here refl, (there (here refl), (there (there (here refl)), (there (there (there (here refl))), tt))))
  call_expected p toggle_scan = tt
  call_expected p swap_scan = tt
  call_expected p convergence = tt

  pub run_expected : (p : Reference) (l : List Call) → All Expected (reference_run m psf gray p l).0
  unfolding run_by
  run_expected p [] = tt
  run_expected p (c ∷ l) = (call_expected p c, run_expected (reference_call m psf gray p c).left l)
