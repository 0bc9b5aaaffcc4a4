-- Laws of scans, for every target and every rule.
--   Suited, suits_so, so_suits    what it is that a partner suits
--   toggles_lawful, swaps_lawful  the rules of the two scans attempt legal changes alone
--   sweep_keeps                   what each accepted change keeps, a scan by such a rule keeps
--   sweep_counts, sweep_lowers    it counts its accepted changes, each of which lowers E
--   sweep_still                   one that accepts nothing leaves the reference as it was; nothing attempted lowers E
--   sweep_calm                    and where nothing attempted lowers E, it accepts nothing
--   sound_kept, sweep_later       later calls accept what a scan leaves
use mathlib.Core.Bool.{true, not, ◌&&◌, and-eq-true_iff}
use mathlib.Core.List.{List, [], ◌∷◌}
use mathlib.Core.Path.{◌≡◌, refl, ◌∙◌, subst, ap, sym}
use Prim.Native.Nat.{ℕ, zero, suc, ◌+◌, ◌≤◌, ◌<◌}
use native.Mathlib.Decide.{ℕ_discrete}
use native.Mathlib.Nat.{not-suc-le-zero}
use native.Mathlib.Omega.{arith}
use borrow.Author.Tests.{eqb-false, ne_eqb, not-true}
use lib.Dec.{eqb}
use lib.IntN.{ℤ, pos, negsuc, nat_abs, ◌+ℤ◌, ◌-ℤ◌}
use lib.Signed.{◌≤ℤ◌, ◌<ℤ◌, clash_ℤ}
use lib.ListN.{get_or}
use Rattle.algebra.proofs.Solver.{reify}
use Rattle.algebra.proofs.Order.{nat_abs_parts, read≤, read<, show≤}
use Rattle.model.specs.declared.Measures.{Measures}
use Rattle.model.specs.Basic.{All, pick}
use Rattle.model.specs.Error.{Target, target_for, cells, squared_error, Halftone}
use Rattle.model.specs.Lock.{locked, Free}
use Rattle.model.specs.Reference.{Reference, accept, stats_of}
use Rattle.model.specs.Partners.{Offset, offsets, lands, partner}
use Rattle.model.specs.Scan.{Rule, toggles, exchangeable, suits, swaps_by, swaps, Sweep, try_each, sweep_to, taking}
use Rattle.model.proofs.Basic.{pick_cases}
use Rattle.model.specs.Ledger.{changes}
use Rattle.model.specs.Change.{Move, made, swap, Legal, change, lowers, Look, look_from}
use Rattle.model.proofs.Error.{squared_nonneg}
use Rattle.model.proofs.Ledger.{raised_start, raised_changes}
use Rattle.model.proofs.State.{below, at_least}
use Rattle.model.proofs.Reference.{made_long, made_bits, fits_halftone, toggle_legal, swap_legal}
use Rattle.model.proofs.Attempts.{Sound, accept_sound}
use Rattle.model.proofs.Partners.{lands_on}

-- ---- every entry, by a law and by another's
every : {A : Type 0} (P : A → Type 0) → ((x : A) → P x) → (l : List A) → All P l
every P h [] = tt
every P h (x ∷ l) = (h x, every P h l)

pub all_map : {A : Type 0} {P Q : A → Type 0} → ((x : A) → P x → Q x) → (l : List A) → All P l → All Q l
all_map h [] a = tt
all_map h (x ∷ l) a = (h x a.0, all_map h l a.1)

-- ---- a partner that suits
-- it lands on the plate, neither cell is locked, and their dots are unlike
pub record Suited (t : Target) (dots : List ℕ) (m : ℕ) (o : Offset) : Type 0 where
  pub lands_there : lands t.width t.height m o ≡ true
  pub free : Free t m
  pub free_there : Free t (partner t.width m o)
  pub unlike : get_or dots m 0 ≡ get_or dots (partner t.width m o) 0 → ⊥

module _ (t : Target) (dots : List ℕ) (m : ℕ) (o : Offset) where
  abbrev n : ℕ
  n = partner t.width m o

  pub suits_so : suits t dots m o ≡ true → Suited t dots m o
  suits_so e =
      let (on, rest) = (and-eq-true_iff (lands t.width t.height m o) (exchangeable t dots m n)).0 e in
      let unlike = not (eqb (get_or dots m 0) (get_or dots n 0)) in
      let (here, rest) = (and-eq-true_iff (not (locked t.gray m)) (not (locked t.gray n) && unlike)).0 rest in
      let (there, other) = (and-eq-true_iff (not (locked t.gray n)) unlike).0 rest in
      record {
        lands_there = on;
        free = not-true _ here;
        free_there = not-true _ there;
        unlike = eqb-false _ _ (not-true _ other);
      }

  pub so_suits : Suited t dots m o → suits t dots m o ≡ true
  so_suits s = rw (s.lands_there, s.free, s.free_there, ne_eqb _ _ s.unlike) refl

-- ---- rules that attempt legal changes
-- whatever the rule attempts at a cell of such dots is legal
abbrev pub Lawful : Target → Rule → Type 0
Lawful t rule =
    (dots : List ℕ) → Halftone t dots → (m : ℕ) → m < cells t → All (Legal t dots) (rule dots m)

module _ (t : Target) where
  -- where a dot byte is 0 or 1
  pub toggles_lawful : t.top ≡ 1 → Lawful t (toggles t)
  unfolding toggles
  toggles_lawful one dots f m h =
      pick_cases (All (Legal t dots)) (locked t.gray m) (λ e. tt) (λ e. (toggle_legal t dots f one m h e, tt))

  suits_legal : (dots : List ℕ) → Halftone t dots → (m : ℕ) → m < cells t → (o : Offset)
      → suits t dots m o ≡ true
      → Legal t dots (swap dots m (partner t.width m o))
  suits_legal dots f m h o e =
      let s = suits_so t dots m o e in
      let on = lands_on t.width t.height m o s.lands_there in
      swap_legal t dots f m (partner t.width m o) h on s.free s.free_there s.unlike

  swaps_by_lawful : (l : List Offset) → Lawful t (swaps_by t l)
  unfolding swaps_by
  swaps_by_lawful [] dots f m h = tt
  swaps_by_lawful (o ∷ l) dots f m h =
      pick_cases (All (Legal t dots)) (suits t dots m o)
      (λ e. (suits_legal dots f m h o e, swaps_by_lawful l dots f m h))
      (λ e. swaps_by_lawful l dots f m h)

  pub swaps_lawful : (reach : ℕ) → Lawful t (swaps t reach)
  swaps_lawful reach = swaps_by_lawful (offsets reach)

-- ---- what holds throughout a scan
-- one more accepted change
abbrev pub more : Sweep → Move → Sweep
more s v = taking s (v ∷ [])

module _ (t : Target) where
  -- one change weighed, and then the others
  pub try_none : (s : Sweep) → try_each t s [] ≡ s
  unfolding try_each look_from
  try_none s = refl

  pub try_step : (s : Sweep) (v : Move) (l : List Move)
      → try_each t s (v ∷ l) ≡ pick (lowers t s.after.dots v) (more s v) (try_each t s l)
  unfolding try_each look_from
  try_step s v l =
      pick_cases Steps (lowers t dots v) (λ e. ap (λ b. pick b (more s v) after) (sym e))
      (λ e. ap (taking s) (same l) ∙ ap (λ b. pick b (more s v) after) (sym e))
    where
      dots : List ℕ
      dots = s.after.dots

      after : Sweep
      after = taking s (look_from t dots (pos 0) l).taken

      -- which one is taken does not depend on what came before
      same : (l : List Move) → (look_from t dots (change t dots v) l).taken ≡ (look_from t dots (pos 0) l).taken
      same [] = refl
      same (w ∷ l) = refl

      Steps : Look → Type 0
      Steps k = taking s k.taken ≡ pick (lowers t dots v) (more s v) after

  module _ (Q : Sweep → Type 0) where
    -- each of these changes that is accepted after s keeps it
    abbrev Steps : Sweep → List Move → Type 0
    Steps s = All (λ v. change t s.after.dots v <ℤ pos 0 → Q (more s v))

    tries_hold : (s : Sweep) (l : List Move) → Q s → Steps s l → Q (try_each t s l)
    tries_hold s [] q a = subst Q (sym (try_none s)) q
    tries_hold s (v ∷ l) q a =
        subst Q (sym (try_step s v l))
        (pick_cases Q (lowers t s.after.dots v) (λ e. a.0 (below e)) (λ e. tries_hold s l q a.1))

    sweep_holds : (rule : Rule) (p : Reference) → Q (record { after = p; changes = 0 }) → (n : ℕ)
        → ((s : Sweep) (m : ℕ) → m < n → Q s → Steps s (rule s.after.dots m))
        → Q (sweep_to t rule p n)
    unfolding sweep_to
    sweep_holds rule p q zero step = q
    sweep_holds rule p q (suc m) step =
        let s : Sweep = sweep_to t rule p m in
        let held : Q s = sweep_holds rule p q m (λ r i h. step r i (omega arith)) in
        tries_hold s (rule s.after.dots m) held (step s m (omega arith) held)

  -- ---- what each accepted change keeps
  abbrev pub Keeps : (Reference → Type 0) → Type 0
  Keeps P =
      (p : Reference) (v : Move) → Halftone t p.dots → Legal t p.dots v → change t p.dots v <ℤ pos 0
      → P p → P (accept p v)

  halftone_kept : (p : Reference) (v : Move) → Halftone t p.dots → Legal t p.dots v
      → Halftone t (accept p v).dots
  unfolding accept
  halftone_kept p v f legal =
      record {
        long = made_long p.dots v.sets ∙ f.long;
        bits = made_bits p.dots v.sets (rw f.long legal.placed) legal.bits f.bits;
      }

  module _ (rule : Rule) (lawful : Lawful t rule) (p : Reference) (f : Halftone t p.dots) where
    both_kept : (P : Reference → Type 0) → Keeps P → P p → (n : ℕ) → n ≤ cells t
        → (let q = (sweep_to t rule p n).after in Halftone t q.dots × P q)
    both_kept P keep h n l =
        sweep_holds (λ s. Halftone t s.after.dots × P s.after) rule p (f, h) n (λ s m k q.
        all_map (λ v legal lower.
        (halftone_kept s.after v q.0 legal, keep s.after v q.0 legal lower q.1))
        (rule s.after.dots m) (lawful s.after.dots q.0 m (omega arith)))

    pub sweep_keeps : (P : Reference → Type 0) → Keeps P → P p → (n : ℕ) → n ≤ cells t → P (sweep_to t rule p n).after
    sweep_keeps P keep h n l = (both_kept P keep h n l).1

    pub sweep_halftone : (n : ℕ) → n ≤ cells t → Halftone t (sweep_to t rule p n).after.dots
    sweep_halftone n l = (both_kept (λ p. Unit {0}) (λ p v f legal lower h. tt) tt n l).0

  -- the figures of the start
  pub start_kept : (e : ℤ) (d : ℕ) → Keeps (λ p. (p.figures.start_error ≡ e) × (p.figures.start_dots ≡ d))
  unfolding accept
  start_kept e d p v f legal lower h =
      let (error, dots) = raised_start v.raises p.figures in (error ∙ h.0, dots ∙ h.1)

  -- ---- its accepted changes are those counted
  accept_counts : (p : Reference) (v : Move) → changes (accept p v).figures ≡ suc (changes p.figures)
  unfolding accept
  accept_counts p v = raised_changes v.raises p.figures

  module _ (rule : Rule) (p : Reference) where
    pub sweep_counts : (n : ℕ)
        → (sweep_to t rule p n).changes + changes p.figures ≡ changes (sweep_to t rule p n).after.figures
    sweep_counts n =
        sweep_holds (λ s. s.changes + changes p.figures ≡ changes s.after.figures) rule p (omega arith) n
        (λ s m h e. every _ (λ v lower. omega (arith, e, accept_counts s.after v)) (rule s.after.dots m))

    -- ---- each lowers E by 1 at least
    falls : (n : ℕ) → (squared_error t (sweep_to t rule p n).after.dots +ℤ pos (sweep_to t rule p n).changes)
        ≤ℤ squared_error t p.dots
    unfolding accept change
    falls n =
        sweep_holds (λ s. (squared_error t s.after.dots +ℤ pos s.changes) ≤ℤ E) rule p (none E) n (λ s m h e.
        every _ (λ v lower.
        one (squared_error t s.after.dots) (squared_error t (made s.after.dots v.sets)) s.changes e lower)
        (rule s.after.dots m))
      where
        E : ℤ
        E = squared_error t p.dots

        none : (z : ℤ) → (z +ℤ pos 0) ≤ℤ z
        none z = show≤ (z ∷ []) (search reify depth 40) (omega arith)

        one : (a b : ℤ) (n : ℕ) → (a +ℤ pos n) ≤ℤ E → (b -ℤ a) <ℤ pos 0 → (b +ℤ pos (suc n)) ≤ℤ E
        one a b n h k =
            let ρ : List ℤ = a ∷ b ∷ E ∷ pos n ∷ pos (suc n) ∷ [] in
            show≤ ρ (search reify depth 40)
            (omega (arith, read≤ ρ (search reify depth 40) h, read< ρ (search reify depth 40) k))

    -- E is never negative, so its size falls
    pub sweep_lowers : 0 < t.width → (n : ℕ) → ((sweep_to t rule p n).changes ≡ 0 → ⊥)
        → nat_abs (squared_error t (sweep_to t rule p n).after.dots) < nat_abs (squared_error t p.dots)
    sweep_lowers wide n some =
        less (squared_error t (sweep_to t rule p n).after.dots) (squared_error t p.dots) (sweep_to t rule p n).changes
        (squared_nonneg t wide (sweep_to t rule p n).after.dots) (falls n) some
      where
        less : (a z : ℤ) (k : ℕ) → pos 0 ≤ℤ a → (a +ℤ pos k) ≤ℤ z → (k ≡ 0 → ⊥) → nat_abs a < nat_abs z
        less (pos a) z k low h some =
            omega (arith, nat_abs_parts z, read≤ (pos a ∷ z ∷ pos k ∷ []) (search reify depth 40) h)
        less (negsuc a) z k low h some = absurd low.le

  -- ---- nothing accepted: nothing changes, and nothing attempted lowers E
  abbrev pub Calm : List ℕ → Move → Type 0
  Calm dots v = pos 0 ≤ℤ change t dots v

  tries_still : (s : Sweep) (l : List Move) → (try_each t s l).changes ≡ 0
      → ((try_each t s l).after ≡ s.after) × (s.changes ≡ 0) × All (Calm s.after.dots) l
  tries_still s [] e = let same = try_none s in (ap (λ r. r.after) same, sym (ap (λ r. r.changes) same) ∙ e, tt)
  tries_still s (v ∷ l) e =
      subst Still (sym (try_step s v l))
      (pick_cases Still (lowers t s.after.dots v) (λ b k. absurd (omega arith))
      (λ b k. let (same, none, calm) = tries_still s l k in (same, none, (at_least _ _ b, calm)))) e
    where
      Still : Sweep → Type 0
      Still r =
          r.changes ≡ 0 → (r.after ≡ s.after) × (s.changes ≡ 0) × All (Calm s.after.dots) (v ∷ l)

  module _ (rule : Rule) (p : Reference) where
    pub sweep_still : (n : ℕ) → (sweep_to t rule p n).changes ≡ 0
        → ((sweep_to t rule p n).after ≡ p) × ((i : ℕ) → i < n → All (Calm p.dots) (rule p.dots i))
    unfolding sweep_to
    sweep_still zero e = (refl, λ i h. absurd (not-suc-le-zero h))
    sweep_still (suc m) e =
        let s : Sweep = sweep_to t rule p m in
        let (same, none, calm) = tries_still s (rule s.after.dots m) e in
        let (kept, before) = sweep_still m none in
        let here : All (Calm p.dots) (rule p.dots m)
        = subst (λ q. All (Calm q.dots) (rule q.dots m)) kept calm in
        (same ∙ kept, λ i h. last before here i (ℕ_discrete i m) h)
      where
        last : ((i : ℕ) → i < m → All (Calm p.dots) (rule p.dots i)) → All (Calm p.dots) (rule p.dots m)
            → (i : ℕ) → Dec (i ≡ m) → i < suc m → All (Calm p.dots) (rule p.dots i)
        last before here i (yes e) h = rw e here
        last before here i (no e) h = before i (omega arith)

    -- and the other way: where nothing attempted lowers E, nothing is accepted
    pub sweep_calm : (n : ℕ) → ((i : ℕ) → i < n → All (Calm p.dots) (rule p.dots i))
        → (sweep_to t rule p n).changes ≡ 0
    sweep_calm n calm =
        ap (λ s. s.changes)
        (sweep_holds (λ s. s ≡ idle) rule p refl n (λ s m h e.
        subst (λ s. Steps (λ s. s ≡ idle) s (rule s.after.dots m)) (sym e)
        (all_map (λ v c lower. clash_ℤ lower c) (rule p.dots m) (calm m h))))
      where
        idle : Sweep
        idle = record { after = p; changes = 0 }

-- ---- over the measures of document 01
module _ (m : Measures) (psf gray : List ℕ) where
  abbrev target : Target
  target = target_for m psf gray

  pub sound_halftone : (p : Reference) → Sound m psf gray p → Halftone target p.dots
  sound_halftone p f = fits_halftone f.plate.halftone

  pub sound_kept : Keeps target (Sound m psf gray)
  unfolding stats_of
  sound_kept p v f legal lower h =
      accept_sound m psf gray p.dots _ (stats_of target p) h v legal lower

  -- later calls accept what a scan leaves
  pub sweep_later : (rule : Rule) → Lawful target rule → (p : Reference) → Sound m psf gray p → (n : ℕ)
      → n ≤ cells target → Sound m psf gray (sweep_to target rule p n).after
  sweep_later rule lawful p f =
      sweep_keeps target rule lawful p (sound_halftone p f) (Sound m psf gray) sound_kept f
