-- Rest: no toggle and no swap within reach lowers E, and the table keeps to the two half-peak bounds, one side under
-- dots and the other under blanks.
--   rest_if      where no toggle and no swap within reach lowers E: the bounds follow
--   rest_by      where nothing that the scans attempt lowers E
--   rest_calm    at rest, nothing that the scans attempt lowers E
--   rest_tested  where a test that can be computed says so
use mathlib.Core.Bool.{Bool, true, false, true≢false, not, ◌&&◌}
use mathlib.Core.List.Memᴰ.{head as here}
use mathlib.Core.List.Memᴰ.{tail as there}
use mathlib.Core.List.{List, [], ◌∷◌, Memᴰ as In}
use mathlib.Core.Path.{◌≡◌, refl, sym, ◌∙◌, ap, subst}
use Prim.Native.Nat.{ℕ, ◌/◌, ◌%◌, ◌≤◌, ◌<◌}
use native.Mathlib.Omega.{arith}
use borrow.Author.Tests.{ne_eqb}
use lib.IntN.{ℤ, pos, negsuc, neg_ℤ, ◌+ℤ◌, ◌*ℤ◌}
use lib.Signed.{◌≤ℤ◌}
use lib.ListN.{get_or}
use Rattle.algebra.proofs.Solver.{reify}
use Rattle.algebra.proofs.Order.{ordℤ, read≤, show≤}
use Rattle.model.specs.Basic.{pick, All, AtMost, some_below}
use Rattle.model.specs.Psf.{peak}
use Rattle.model.specs.Error.{Target, cells, filtered_error, filtered_errors, Halftone}
use Rattle.model.specs.Lock.{locked, Free}
use Rattle.model.specs.Refusal.{gap}
use Rattle.model.specs.Change.{sign_of, sign, toggle_sum, Move, toggle, swap, lowers}
use Rattle.model.specs.Partners.{Offset, offsets, Within, partner}
use Rattle.model.specs.Scan.{toggles, exchangeable, suits, swaps_by, swaps}
use Rattle.model.specs.Lists.{Rest}
use Rattle.model.proofs.Basic.{pick_cases, get_d_tabulate, all_below}
use Rattle.model.proofs.State.{at_least}
use Rattle.model.proofs.Change.{toggle_change_lem}
use Rattle.model.proofs.Partners.{offsets_ordered, lands_on, lands_within, IsPartner, partners_cover}
use Rattle.model.proofs.Scan.{suits_so, so_suits, Calm}

-- what is known of all swaps with the partners, of one
module _ (t : Target) (dots : List ℕ) (m : ℕ) (P : Move → Type 0) where
  abbrev those : List Offset → List Move
  those l = swaps_by t l dots m

  of_partner : (o : Offset) (l : List Offset) → In o l → suits t dots m o ≡ true → All P (those l)
      → P (swap dots m (partner t.width m o))
  unfolding swaps_by
  of_partner o [] i e a = elim i [ ]
  of_partner o (x ∷ l) (here q) e a =
      subst (λ o. P (swap dots m (partner t.width m o))) (sym q)
      (subst (λ b. All P (pick b (swap dots m (partner t.width m x) ∷ those l) (those l)))
      (subst (λ o. suits t dots m o ≡ true) q e) a).0
  of_partner o (x ∷ l) (there i) e a =
      of_partner o l i e
      (pick_cases (λ k. All P k → All P (those l)) (suits t dots m x) (λ b a. a.1) (λ b a. a) a)

-- ---- half the peak
-- a multiple of u that is not below 0
per : (u : ℕ) (z : ℤ) → 0 < u → pos 0 ≤ℤ (pos u *ℤ z) → pos 0 ≤ℤ z
per u (pos n) h k = omega (arith, ordℤ)
per u (negsuc n) h k = omega (arith, read≤ (pos u ∷ negsuc n ∷ []) (search reify depth 40) k)

at_dot : (T P : ℤ) → pos 0 ≤ℤ (pos 2 *ℤ negsuc 0 *ℤ T +ℤ P) → (pos 2 *ℤ T) ≤ℤ P
at_dot T P h = show≤ (T ∷ P ∷ []) (search reify depth 40) (omega (arith, read≤ (T ∷ P ∷ []) (search reify depth 40) h))

at_blank : (T P : ℤ) → pos 0 ≤ℤ (pos 2 *ℤ pos 1 *ℤ T +ℤ P) → neg_ℤ P ≤ℤ (pos 2 *ℤ T)
at_blank T P h =
    show≤ (T ∷ P ∷ []) (search reify depth 40) (omega (arith, read≤ (T ∷ P ∷ []) (search reify depth 40) h))

-- of a conjunction that fails while the first holds, the second fails
and_no : (a b : Bool) → a ≡ true → a && b ≡ false → b ≡ false
and_no true b e h = h
and_no false b e h = absurd (true≢false (sym e))

-- at rest, if no toggle lowers E and no swap within reach does
module _ (t : Target) (reach : ℕ) (step : 0 < t.step) (one : t.top ≡ 1) (dots : List ℕ) (f : Halftone t dots)
    (toggle_calm : (m : ℕ) → m < cells t → Free t m → Calm t dots (toggle dots m))
    (swap_calm : (m n : ℕ) → m < cells t → n < cells t → Free t m → Free t n
    → gap (m / t.width) (n / t.width) ≤ reach → gap (m % t.width) (n % t.width) ≤ reach
    → (get_or dots m 0 ≡ get_or dots n 0 → ⊥) → Calm t dots (swap dots m n)) where
  abbrev P : ℤ
  P = pos t.step *ℤ peak t.radius t.psf

  -- a toggle adds step × (2 × s(m) × T(m) + step × P)
  half : (m : ℕ) → m < cells t → Free t m → (d : ℕ) → get_or dots m 0 ≡ d
      → pos 0 ≤ℤ (pos 2 *ℤ sign_of d *ℤ get_or (filtered_errors t dots) m (pos 0) +ℤ P)
  unfolding toggle_sum filtered_errors
  half m h free d e =
      subst (λ T. pos 0 ≤ℤ (pos 2 *ℤ sign_of d *ℤ T +ℤ P))
      (sym (get_d_tabulate (cells t) (filtered_error t dots) m (pos 0) h))
      (subst (λ x. pos 0 ≤ℤ (pos 2 *ℤ sign_of x *ℤ filtered_error t dots m +ℤ P)) e
      (per t.step (pos 2 *ℤ sign dots m *ℤ filtered_error t dots m +ℤ P) step
      (subst (λ z. pos 0 ≤ℤ z) (toggle_change_lem t dots (subst (λ b. AtMost b dots) one f.bits) f.long m h)
      (toggle_calm m h free))))

  pub rest_if : Rest t reach dots (filtered_errors t dots)
  rest_if =
      record {
        no_toggle_lowers = toggle_calm;
        no_swap_lowers = swap_calm;
        under_dots = λ m h free e. at_dot (get_or (filtered_errors t dots) m (pos 0)) P (half m h free 1 e);
        under_blanks = λ m h free e. at_blank (get_or (filtered_errors t dots) m (pos 0)) P (half m h free 0 e);
      }

-- ---- by the scans: if nothing that they attempt lowers E
module _ (t : Target) (reach : ℕ) (wide : 0 < t.width) (step : 0 < t.step) (one : t.top ≡ 1) (near : reach ≤ 6)
    (dots : List ℕ) (f : Halftone t dots) (toggles-calm : (m : ℕ) → m < cells t → All (Calm t dots) (toggles t dots m))
    (swaps-calm : (m : ℕ) → m < cells t → All (Calm t dots) (swaps t reach dots m)) where
  toggle_calm : (m : ℕ) → m < cells t → Free t m → Calm t dots (toggle dots m)
  unfolding toggles
  toggle_calm m h free =
      (subst (λ b. All (Calm t dots) (pick b [] (toggle dots m ∷ []))) free (toggles-calm m h)).0

  swap_calm : (m n : ℕ) → m < cells t → n < cells t → Free t m → Free t n
      → gap (m / t.width) (n / t.width) ≤ reach → gap (m % t.width) (n % t.width) ≤ reach
      → (get_or dots m 0 ≡ get_or dots n 0 → ⊥) → Calm t dots (swap dots m n)
  swap_calm m n h k free free' rows columns unlike =
      let apart : m ≡ n → ⊥ = λ e. unlike (ap (λ k. get_or dots k 0) e) in
      let c : IsPartner t.width t.height reach m n
      = partners_cover t.width t.height reach m n wide near k rows columns apart in
      let suited : suits t dots m c.offset ≡ true
      = so_suits t dots m c.offset (record {
        lands_there = c.lands_there;
        free = free;
        free_there = ap (locked t.gray) c.is_there ∙ free';
        unlike = λ e. unlike (e ∙ ap (λ k. get_or dots k 0) c.is_there);
      }) in
      subst (λ k. Calm t dots (swap dots m k)) c.is_there
      (of_partner t dots m (Calm t dots) c.offset (offsets reach) c.listed
      suited (swaps-calm m h))

  pub rest_by : Rest t reach dots (filtered_errors t dots)
  rest_by = rest_if t reach step one dots f toggle_calm swap_calm

-- and the other way: at rest, nothing that they attempt does
module _ (t : Target) (reach : ℕ) (near : reach ≤ 6) (dots : List ℕ) (r : Rest t reach dots (filtered_errors t dots))
    (m : ℕ) (h : m < cells t) where
  partner_calm : (o : Offset) → Within reach o → suits t dots m o ≡ true
      → Calm t dots (swap dots m (partner t.width m o))
  partner_calm o w e =
      let n : ℕ = partner t.width m o in
      let s = suits_so t dots m o e in
      let (rows, columns) = lands_within t.width t.height reach m o w s.lands_there in
      r.no_swap_lowers m n h (lands_on t.width t.height m o s.lands_there) s.free s.free_there rows
      columns s.unlike

  partners_calm : (l : List Offset) → ((o : Offset) → In o l → Within reach o) → All (Calm t dots) (swaps_by t l dots m)
  unfolding swaps_by
  partners_calm [] w = tt
  partners_calm (o ∷ l) w =
      let others = partners_calm l (λ x i. w x (there i)) in
      pick_cases (All (Calm t dots)) (suits t dots m o) (λ e. (partner_calm o (w o (here refl)) e, others))
      (λ e. others)

  pub rest_calm : All (Calm t dots) (toggles t dots m) × All (Calm t dots) (swaps t reach dots m)
  unfolding toggles
  rest_calm = (
    pick_cases (All (Calm t dots)) (locked t.gray m) (λ e. tt) (λ e. (r.no_toggle_lowers m h e, tt)),
    partners_calm (offsets reach) (offsets_ordered reach near).within,
  )

-- ---- by a test that can be computed: of each toggle, and of each swap of unlike dots, of unlocked cells
module _ (t : Target) (dots : List ℕ) where
  abbrev toggle_lowers : ℕ → Bool
  toggle_lowers m = not (locked t.gray m) && lowers t dots (toggle dots m)

  abbrev toggle_lowers_lem : Bool
  toggle_lowers_lem = some_below (cells t) toggle_lowers

  abbrev swap_lowers : ℕ → ℕ → Bool
  swap_lowers m n = exchangeable t dots m n && lowers t dots (swap dots m n)

  abbrev swap_lowers_lem : Bool
  swap_lowers_lem = some_below (cells t) (λ m. some_below (cells t) (swap_lowers m))

  pub rest_tested : 0 < t.step → t.top ≡ 1 → Halftone t dots → toggle_lowers_lem ≡ false → swap_lowers_lem ≡ false
      → (reach : ℕ) → Rest t reach dots (filtered_errors t dots)
  rest_tested step one f none none' reach =
      rest_if t reach step one dots f
      (λ m h free. at_least _ _ (and_no _ _ (ap not free) (all_below (cells t) toggle_lowers none m h)))
      (λ m n h k free free' rows columns unlike.
      let exchanged : exchangeable t dots m n ≡ true = rw (free, free', ne_eqb _ _ unlike) refl in
      at_least _ _ (and_no _ _ exchanged
      (all_below (cells t) (swap_lowers m)
      (all_below (cells t) (λ m. some_below (cells t) (swap_lowers m)) none' m h) n k)))
