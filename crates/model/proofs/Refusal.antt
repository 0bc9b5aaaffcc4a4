-- Laws of the refusals: how the judge of a list is made of judges of its parts, and what a call that draws no refusal
-- was handed.
--   first_passes                         what is not drawn is passed over, wherever it stands
--   by_first, by_second                  a list judged in two parts
--   autocorrelation_fits, halftone_fits  what the autocorrelation, and what table and E were handed
--   plate_fits, plate_none               1 to 7 and 16 are drawn exactly where the plate or its locks do not fit
--   draws_16                             16 by itself
--   start_given, start_plate, start_hold what a start that is not refused was handed, and that its dots hold the locks
use mathlib.Core.Bool.{Bool, true, false, true≢false, not, ◌||◌, ◌&&◌}
use mathlib.Core.List.{List, [], ◌∷◌, ◌++◌}
use mathlib.Core.Path.{◌≡◌, refl, sym, ◌∙◌, ap}
use Prim.Native.Nat.{ℕ, zero, suc, ◌+◌, ◌*◌, ◌≤◌}
use native.Mathlib.Omega.{arith}
use borrow.Author.Tests.{ltb-false, eqb-true, eqb-false, not-false, eq-eqb, ne_eqb, le-ltb}
use lib.Dec.{T, ltb, eqb}
use lib.ListN.{length, get_or}
use Rattle.model.specs.declared.Measures.{Measures}
use Rattle.model.specs.Basic.{Exactly, AtMost}
use Rattle.model.specs.Psf.{total}
use Rattle.model.specs.Screen.{start_dots}
use Rattle.model.specs.Refusal.{Refusal, ◌when◌, first_of, outside, differs, above}
use Rattle.model.specs.Refusal.{bad_dot, bad_given, bad_locks, bad_given_locks, handed}
use Rattle.model.specs.Refusal.{autocorrelation_refusals, halftone_refusals, start_refusals, input_refusals}
use Rattle.model.specs.Error.{Target, target_of, target_for}
use Rattle.model.specs.Lock.{contradiction, LocksHold}
use Rattle.model.specs.Refusal.{autocorrelation_refusal, halftone_refusal, start_refusal, PsfFits, HalftoneFits}
use Rattle.model.specs.Refusal.{PlateFits}
use Rattle.model.proofs.Basic.{neither, at_most_tail}
use Rattle.model.proofs.Lock.{holds_none, none_holds}
use Rattle.model.proofs.Screen.{start_long, start_bits, start_locks}

-- ---- the first of a list
-- every number of the list is above 0
abbrev pub numbered : List Refusal → Bool
numbered [] = true
numbered (zero when b ∷ l) = false
numbered (suc n when b ∷ l) = numbered l

-- no condition of the list holds
abbrev pub None : List Refusal → Type 0
None [] = Unit {0}
None (n when b ∷ l) = (b ≡ false) × None l

pub none : (l : List Refusal) {x : ℕ} → T (numbered l) → x ≡ first_of l → x ≡ 0 → None l
none [] t e z = tt
none (zero when b ∷ l) t e z = absurd t
none (suc n when true ∷ l) t e z = absurd (omega arith)
none (suc n when false ∷ l) t e z = (refl, none l t e z)

pub drawn_none : (l : List Refusal) → None l → first_of l ≡ 0
drawn_none [] h = refl
drawn_none (n when b ∷ l) h = rw h.0 (drawn_none l h.1)

-- of two lists together
pub numbered_append : (l k : List Refusal) → T (numbered l) → T (numbered k) → T (numbered (l ++ k))
numbered_append [] k t u = u
numbered_append (zero when b ∷ l) k t u = absurd t
numbered_append (suc n when b ∷ l) k t u = numbered_append l k t u

pub append_none : (l k : List Refusal) → None l → None k → None (l ++ k)
append_none [] k h g = g
append_none (n when b ∷ l) k h g = (h.0, append_none l k h.1 g)

pub none_append : (l k : List Refusal) → None (l ++ k) → None l × None k
none_append [] k h = (tt, h)
none_append (n when b ∷ l) k h = let (a, c) = none_append l k h.1 in ((h.0, a), c)

-- what is not drawn is passed over, wherever it stands
pub first_passes : (l k j : List Refusal) → None k → first_of (l ++ (k ++ j)) ≡ first_of (l ++ j)
first_passes [] [] j d = refl
first_passes [] (n when true ∷ k) j d = absurd (true≢false d.0)
first_passes [] (n when false ∷ k) j d = first_passes [] k j d.1
first_passes (n when true ∷ l) k j d = refl
first_passes (n when false ∷ l) k j d = first_passes l k j d

-- the first of two lists: where the first draws a number, and where it draws none
first_some : (l k : List Refusal) → (first_of l ≡ 0 → ⊥) → first_of l ≡ first_of (l ++ k)
first_some [] k h = absurd (h refl)
first_some (n when true ∷ l) k h = refl
first_some (n when false ∷ l) k h = first_some l k h

first_none : (l k : List Refusal) → T (numbered l) → first_of l ≡ 0 → first_of k ≡ first_of (l ++ k)
first_none [] k t z = refl
first_none (zero when b ∷ l) k t z = absurd t
first_none (suc n when true ∷ l) k t z = absurd (omega arith)
first_none (suc n when false ∷ l) k t z = first_none l k t z

-- ---- a list judged in two parts, l and then k
module _ (l k : List Refusal) (t : T (numbered l)) {x : ℕ} (e : x ≡ first_of l) where
  -- the first part draws a refusal
  pub by_first : (x ≡ 0 → ⊥) → x ≡ first_of (l ++ k)
  by_first h = e ∙ first_some l k (λ z. h (e ∙ z))

  -- the first part draws none
  pub by_second : x ≡ 0 → {y : ℕ} → y ≡ first_of k → y ≡ first_of (l ++ k)
  by_second z f = f ∙ first_none l k t (sym e ∙ z)

-- ---- the conditions
infixr 30 ◌nor◌
pub ◌nor◌ : {a b : Bool} → a ≡ false → b ≡ false → a || b ≡ false
e nor f = rw (e, f) refl

pub same : (m n : ℕ) → not (eqb m n) ≡ false → m ≡ n
same m n h = eqb-true m n (not-false (eqb m n) h)

pub inside : (k n : ℕ) → eqb n 0 || ltb k n ≡ false → (1 ≤ n) × (n ≤ k)
inside k n h =
    let (low, high) = neither (eqb n 0) (ltb k n) h in
    (omega (arith, eqb-false n 0 low), ltb-false k n high)

pub within : (k n : ℕ) → (1 ≤ n) × (n ≤ k) → eqb n 0 || ltb k n ≡ false
within k n i = ne_eqb n 0 (λ e. omega (arith, i.0, e)) nor le-ltb k n i.1

pub alike_not : {m n : ℕ} → m ≡ n → not (eqb m n) ≡ false
alike_not {m} {n} e = ap not (eq-eqb m n e)

pub size_inside : (w h : ℕ) → outside w || outside h ≡ false → ((1 ≤ w) × (w ≤ 256)) × ((1 ≤ h) × (h ≤ 256))
size_inside w h e =
    let (wide, high) = neither (outside w) (outside h) e in
    (inside 256 w wide, inside 256 h high)

pub none_above : (k : ℕ) (l : List ℕ) → above k l ≡ false → (i : ℕ) → get_or l i 0 ≤ k
unfolding above
none_above k [] h i = omega arith
none_above k (x ∷ l) h zero = ltb-false k x (neither (ltb k x) (above k l) h).0
none_above k (x ∷ l) h (suc i) = none_above k l (neither (ltb k x) (above k l) h).1 i

pub above_none : (k : ℕ) (l : List ℕ) → AtMost k l → above k l ≡ false
unfolding above
above_none k [] h = refl
above_none k (x ∷ l) h = rw (le-ltb k x (h.each 0)) (above_none k l (at_most_tail h))

-- every length of the list is n
abbrev Alike : ℕ → List ℕ → Type 0
Alike n [] = Unit {0}
Alike n (m ∷ l) = (m ≡ n) × Alike n l

-- the first length is k, the others are n
pub alike : (k n m : ℕ) (l : List ℕ) → not (eqb m k) || differs n l ≡ false → (m ≡ k) × Alike n l
alike k n m [] h = (same m k (neither (not (eqb m k)) false h).0, tt)
alike k n m (o ∷ l) h =
    let (first, others) = neither (not (eqb m k)) (differs n (o ∷ l)) h in
    (same m k first, alike n n o l others)

again : (a b c : Bool) → a || (b || (a || c)) ≡ a || (b || c)
again true b c = refl
again false b c = refl

-- the squared error, which is lent no table, is judged as if the gray slice were its table
pub halftone_again : (w h r : ℕ) (psf gray dots : List ℕ)
    → halftone_refusal w h r psf gray dots (length gray ∷ []) ≡ halftone_refusal w h r psf gray dots []
unfolding halftone_refusal
halftone_again w h r psf gray dots = simp again

-- ---- what a call was handed that draws no refusal
psf_by : (r : ℕ) (psf : List ℕ) → ltb 3 r ≡ false → length psf ≡ (2 * r + 1) * (2 * r + 1)
    → eqb (total psf) 0 || ltb 1024 (total psf) ≡ false → PsfFits r psf
psf_by r psf radius square sum =
    let (low, high) = inside 1024 (total psf) sum in
    record { near = ltb-false 3 r radius; square = square; sum_low = low; sum_high = high }

-- the autocorrelation, handed an output of that length
pub autocorrelation_fits : (r : ℕ) (psf : List ℕ) (out : ℕ) → autocorrelation_refusal r psf out ≡ 0
    → PsfFits r psf × (out ≡ (4 * r + 1) * (4 * r + 1))
unfolding autocorrelation_refusal
autocorrelation_fits r psf out e =
    let cells : ℕ = (4 * r + 1) * (4 * r + 1) in
    let (radius, (exact, (sum, _))) = none (autocorrelation_refusals r psf out) tt refl e in
    let (p-is, (o_is, _)) = alike ((2 * r + 1) * (2 * r + 1)) cells (length psf) (out ∷ []) exact in
    (psf_by r psf radius p-is sum, o_is)

-- a plate by its conditions; the n dots that were judged may have given way to others, as many
pub halftone_by : (w h r : ℕ) (psf gray dots : List ℕ) (table : ℕ) {n : ℕ}
    → outside w || outside h ≡ false
    → ltb 3 r ≡ false
    → not (eqb (length psf) ((2 * r + 1) * (2 * r + 1))) || differs (h * w) (length gray ∷ n ∷ table ∷ []) ≡ false
    → eqb (total psf) 0 || ltb 1024 (total psf) ≡ false
    → (n ≡ h * w → length dots ≡ h * w)
    → AtMost 1 dots
    → HalftoneFits (target_of w h r psf gray) dots table
halftone_by w h r psf gray dots table {n} size radius exact sum long bits =
    let (w-inside, h-inside) = size_inside w h size in
    let lengths : List ℕ = length gray ∷ n ∷ table ∷ [] in
    let (p-is, (g-is, (d-is, (t-is, _)))) = alike ((2 * r + 1) * (2 * r + 1)) (h * w) (length psf) lengths exact in
    record {
      wide = w-inside;
      high = h-inside;
      psf_fits = psf_by r psf radius p-is sum;
      gray_length = g-is;
      dots_length = long d-is;
      table_length = t-is;
      bits = bits;
      top_black = refl;
    }

-- the filtered error, handed a table of that length
pub halftone_fits : (w h r : ℕ) (psf gray dots : List ℕ) (table : ℕ)
    → halftone_refusal w h r psf gray dots (table ∷ []) ≡ 0
    → HalftoneFits (target_of w h r psf gray) dots table
unfolding halftone_refusal
halftone_fits w h r psf gray dots table e =
    let (size, (radius, (exact, (sum, (dot, _)))))
    = none (halftone_refusals w h r psf gray dots (table ∷ [])) tt refl e in
    halftone_by w h r psf gray dots table size radius exact sum (λ e. e) (record { each = none_above 1 dots dot })

-- a plate that fits draws none of 1, 2, 5, 6 and 7
pub halftone_none : (w h r : ℕ) (psf gray dots : List ℕ) (table : ℕ)
    → HalftoneFits (target_of w h r psf gray) dots table
    → None (halftone_refusals w h r psf gray dots (table ∷ []))
halftone_none w h r psf gray dots table f = (
  within 256 w f.wide nor within 256 h f.high,
  (
    le-ltb 3 r f.psf_fits.near,
    (
      alike_not f.psf_fits.square
          nor alike_not f.gray_length
          nor alike_not f.dots_length
          nor alike_not f.table_length
          nor refl,
      (within 1024 (total psf) (f.psf_fits.sum_low, f.psf_fits.sum_high), (above_none 1 dots f.bits, tt)),
    ),
  ),
)

-- ---- of the calls that are handed all five measures
-- a plate that draws none of 1 to 6; the n dots that were judged may have given way to others, as many
handed_fits : (m : Measures) (psf gray dots : List ℕ) (table : ℕ) {n : ℕ}
    → None (handed m psf (length gray ∷ n ∷ table ∷ []))
    → (n ≡ m.height * m.width → length dots ≡ m.height * m.width)
    → AtMost 1 dots
    → PlateFits m psf gray dots table
handed_fits m psf gray dots table (size, (radius, (reach, (kind, (exact, (sum, _)))))) long bits =
    record {
      reach_near = ltb-false 6 m.reach reach;
      kind_known = ltb-false 2 m.start kind;
      halftone = halftone_by m.width m.height m.radius psf gray dots table size radius exact sum long bits;
    }

-- nor 7 and 16
pub plate_fits : (m : Measures) (psf gray dots : List ℕ) (table : ℕ) → None (input_refusals m psf gray dots table)
    → PlateFits m psf gray dots table × LocksHold (target_for m psf gray) dots
plate_fits m psf gray dots table drawn =
    let lengths : List ℕ = length gray ∷ length dots ∷ table ∷ [] in
    let (input, (dot, (locks, _)))
    = none_append (handed m psf lengths) (bad_dot dots ∷ bad_locks (target_for m psf gray) dots ∷ []) drawn in (
      handed_fits m psf gray dots table input (λ e. e) (record { each = none_above 1 dots dot }),
      none_holds (target_for m psf gray) dots locks,
    )

-- and back: 1 to 7 alone, and with 16
abbrev pub until_dots : Measures → (psf gray dots : List ℕ) (table : ℕ) → List Refusal
until_dots m psf gray dots table = handed m psf (length gray ∷ length dots ∷ table ∷ []) ++ (bad_dot dots ∷ [])

pub plate_draws_none : (m : Measures) (psf gray dots : List ℕ) (table : ℕ) → PlateFits m psf gray dots table
    → None (until_dots m psf gray dots table)
plate_draws_none m psf gray dots table f =
    let (size, (radius, rest))
    = halftone_none m.width m.height m.radius psf gray dots table f.halftone in
    (size, (radius, (le-ltb 6 m.reach f.reach_near, (le-ltb 2 m.start f.kind_known, rest))))

pub plate_none : (m : Measures) (psf gray dots : List ℕ) (table : ℕ) → PlateFits m psf gray dots table
    → LocksHold (target_for m psf gray) dots → None (input_refusals m psf gray dots table)
plate_none m psf gray dots table f g =
    append_none (until_dots m psf gray dots table) (bad_locks (target_for m psf gray) dots ∷ [])
    (plate_draws_none m psf gray dots table f) (holds_none (target_for m psf gray) dots g, tt)

-- 16 by itself
pub draws_16 : (t : Target) (dots : List ℕ)
    → (let n = first_of (bad_locks t dots ∷ []) in
    Exactly (n ≡ 0) (LocksHold t dots) × Exactly (n ≡ 16) (LocksHold t dots → ⊥))
draws_16 t dots = go (contradiction t dots) (none_holds t dots) (holds_none t dots)
  where
    go : (b : Bool) → (b ≡ false → LocksHold t dots) → (LocksHold t dots → b ≡ false)
        → (let n = first_of (16 when b ∷ []) in
        Exactly (n ≡ 0) (LocksHold t dots) × Exactly (n ≡ 16) (LocksHold t dots → ⊥))
    go true to from = (
      (λ e. absurd (omega (arith, e)), λ f. absurd (true≢false (from f))),
      (λ e f. true≢false (from f), λ no. refl),
    )
    go false to from = (
      (λ e. to refl, λ f. refl),
      (λ e. absurd (omega (arith, e)), λ no. absurd (no (to refl))),
    )

-- a start, handed a table of that length: those given are as many as its own dots, which fit
module _ (m : Measures) (psf gray dots : List ℕ) (table : ℕ) (taken : start_refusal m psf gray dots table ≡ 0) where
  drawn : None (start_refusals m psf gray dots table)
  unfolding start_refusal
  drawn = none (start_refusals m psf gray dots table) tt refl taken

  pub start_given : length dots ≡ m.height * m.width
  start_given =
      let (_, (_, (_, (_, (exact, _))))) = drawn in
      let side : ℕ = 2 * m.radius + 1 in
      (alike (side * side) (m.height * m.width) (length psf) (length gray ∷ length dots ∷ table ∷ []) exact).1.1.0

  -- what is judged of every kind, and what of given dots alone
  abbrev given : List Refusal
  given = bad_given m.start dots ∷ bad_given_locks m.start (target_for m psf gray) dots ∷ []

  parts : None (handed m psf (length gray ∷ length dots ∷ table ∷ [])) × None given
  parts = none_append (handed m psf (length gray ∷ length dots ∷ table ∷ [])) given drawn

  of_given : {b : Bool} → 2 ≤ m.start → eqb m.start 2 && b ≡ false → b ≡ false
  of_given k h =
      let (_, (_, (_, (kind, _)))) = parts.0 in
      rw (eq-eqb m.start 2 (omega (arith, k, ltb-false 2 m.start kind))) at h

  pub start_plate : PlateFits m psf gray (start_dots m gray dots) table
  start_plate =
      let input = parts.0 in
      handed_fits m psf gray (start_dots m gray dots) table input (start_long m gray dots)
      (start_bits m gray dots (λ k. record { each = none_above 1 dots (of_given k parts.1.0) }))

  pub start_hold : LocksHold (target_for m psf gray) (start_dots m gray dots)
  start_hold =
      start_locks m psf gray dots (λ k. none_holds (target_for m psf gray) dots (of_given k parts.1.1.0))
