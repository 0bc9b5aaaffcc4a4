-- The promise of the program (specs/ProgramPromises.antt) holds (`program_promises`): texts of refusals are apart from
-- each other and from every sheet; a sheet that was read draws 6, 16 or nothing, and comes to rest; so what is
-- printed is what is due. Later calls accept what came to rest (`printed_sound`).
use mathlib.Core.Path.{◌≡◌, refl, ◌∙◌, ap, ap₂, sym, subst}
use mathlib.Core.Bool.{Bool, true, false, true≢false, ◌&&◌}
use mathlib.Core.List.{List, [], ◌∷◌, ◌++◌}
use mathlib.Core.Logic.{◌⊎◌, inl, inr}
use Prim.Native.Nat.{ℕ, ◌≤◌, ◌<◌}
use native.Mathlib.Decide.{ℕ_discrete}
use native.Mathlib.Omega.{arith}
use borrow.Author.Tests.{ltb-true, ltb-false, lt-ltb, le-ltb, eqb-true, eqb-false, eq-eqb, ne_eqb}
use lib.Dec.{ltb, eqb, lit≤, lit<}
use lib.IntN.{ℤ, pos, negsuc}
use lib.Signed.{◌≤ℤ◌}
use lib.ListN.{length, get_or, drop, replicate, length-replicate}
use Rattle.model.specs.declared.Measures.{Measures}
use Rattle.model.specs.Psf.{total}
use Rattle.model.specs.Error.{squared_error, Halftone}
use Rattle.model.specs.Refusal.{Refusal, first_of, above, bad_size, bad_radius, bad_reach, bad_kind, bad_length, bad_sum}
use Rattle.model.specs.Lock.{contradiction}
use Rattle.model.specs.Refusal.{bad_given, bad_given_locks, start_refusal}
use Rattle.model.specs.Ledger.{dot_total, fresh_stats}
use Rattle.model.specs.Reference.{Reference, stats_of}
use Rattle.model.specs.Scan.{converge}
use Rattle.model.specs.Calls.{start_call, later_call, converge_call}
use Rattle.model.specs.Lists.{begin}
use Rattle.model.specs.Text.{bytes, digits}
use Rattle.model.specs.Sheet.{Sheet, cells_of, names, sheet_text, Valid}
use Rattle.model.specs.Format.{Read, read_sheet}
use Rattle.model.specs.SheetCalls.{written_sheet}
use Rattle.model.specs.Program.{refused_text, whole, stats_text, processed_text, handed_dots, sheet_target, output}
use Rattle.model.specs.ProgramPromises.{IsSheet, StartRefuses, wrong_sum, contradicted}
use Rattle.model.specs.ProgramPromises.{ProgramRefuses, too_long, unread, unstarted}
use Rattle.model.specs.ProgramPromises.{first_dots, converged_from}
use Rattle.model.specs.ProgramPromises.{Printed, PrintsSheet, Unrefused, ProgramPromises}
use Rattle.model.proofs.Error.{squared_nonneg}
use Rattle.model.proofs.Lock.{holds_none, contradiction_if}
use Rattle.model.proofs.Refusal.{first_passes, ◌nor◌, within, alike_not, above_none}
use Rattle.model.proofs.Start.{start_later}
use Rattle.model.proofs.Later.{fits_later}
use Rattle.model.proofs.Attempts.{Sound}
use Rattle.model.proofs.Scan.{start_kept, sound_halftone, sound_kept}
use Rattle.model.proofs.Converge.{converge_keeps, converge_rest}
use Rattle.model.proofs.Text.{digits_apart}
use Rattle.model.proofs.Sheet.{read_exactly, read_back, same_text, cells_fit}
use Rattle.model.proofs.Leftmost.{refused_is_leftmost, leftmost_is_refused, read_draws_nothing}
use Rattle.model.proofs.Longest.{text_most}
use Rattle.model.proofs.Program.{output_long, output_is, few}

-- ---- the text of a refusal
-- no two refusals have the same
refusals_apart : (n o n' o' : ℕ) → refused_text n o ≡ refused_text n' o' → (n ≡ n') × (o ≡ o')
unfolding refused_text
refusals_apart n o n' o' e =
    let at : ℕ → List ℕ = λ o. bytes " at " ++ (digits o ++ bytes "\n") in
    let (x, f) = digits_apart n n' (at o) (at o') refl refl (ap (drop 8) e) in
    let (y, _) = digits_apart o o' (10 ∷ []) (10 ∷ []) refl refl (ap (drop 4) f) in
    (x, y)

-- and it is not that of a sheet, whatever follows it
refusal_no_sheet : (n o : ℕ) (s : Sheet) (rest : List ℕ) → refused_text n o ≡ sheet_text s ++ rest → ⊥
unfolding refused_text sheet_text names
refusal_no_sheet n o s rest e = let r-is-w : ◌≡◌ {A = ℕ} 114 119 = ap (λ l. get_or l 0 0) e in omega arith

-- ---- a sheet
module _ (s : Sheet) (v : Valid s) where
  abbrev m : Measures
  m = s.measures

  abbrev table : List ℤ
  table = replicate (cells_of m) (pos 0)

  -- the dots that the start is handed
  dots_handed : (length (handed_dots s) ≡ cells_of m) × (eqb m.start 2 && above 1 (handed_dots s) ≡ false)
  dots_handed = go (eqb m.start 2) refl
    where
      go : (b : Bool) → eqb m.start 2 ≡ b
          → (length (handed_dots s) ≡ cells_of m) × (eqb m.start 2 && above 1 (handed_dots s) ≡ false)
      go true t = rw t (rw t at v.shaped.dots_length, above_none 1 s.dots v.dots_most)
      go false t = rw t (length-replicate (cells_of m) 0, refl)

  -- the start can draw 6 and 16 only
  abbrev drawn : ℕ
  drawn = start_refusal m s.psf s.gray (handed_dots s) (length table)

  -- 16 of what the start is handed
  abbrev lock : Refusal
  lock = bad_given_locks m.start (sheet_target s) (handed_dots s)

  start_draws : drawn ≡ first_of (bad_sum s.psf ∷ lock ∷ [])
  unfolding start_refusal
  start_draws =
      let (long, given) = dots_handed in
      let r = v.in_range in
      let sum : List Refusal = bad_sum s.psf ∷ [] in
      let dot : List Refusal = bad_given m.start (handed_dots s) ∷ [] in
      let rest : List Refusal =
      bad_size m.width m.height
      ∷ bad_radius m.radius
      ∷ bad_reach m.reach
      ∷ bad_kind m.start
      ∷ bad_length m.radius s.psf (cells_of m) (length s.gray ∷ length (handed_dots s) ∷ length table ∷ [])
      ∷ [] in
      first_passes [] rest (sum ++ (dot ++ (lock ∷ []))) (
        within 256 m.width r.wide nor within 256 m.height r.high,
        (
          le-ltb 3 m.radius r.near,
          (
            le-ltb 6 m.reach r.reached,
            (
              le-ltb 2 m.start r.kind,
              (
                alike_not v.shaped.psf_length
                    nor alike_not v.shaped.gray_length
                    nor alike_not long
                    nor alike_not (length-replicate (cells_of m) (pos 0))
                    nor refl,
                tt,
              ),
            ),
          ),
        ),
      )
      ∙ first_passes sum dot (lock ∷ []) (given, tt)

  -- so it refuses what is named, or nothing
  start_judged : ((n : ℕ) × StartRefuses s n) ⊎ (drawn ≡ 0)
  start_judged = go (eqb (total s.psf) 0) refl (ltb 1024 (total s.psf)) refl
    where
      go : (a : Bool) → eqb (total s.psf) 0 ≡ a → (b : Bool) → ltb 1024 (total s.psf) ≡ b
          → ((n : ℕ) × StartRefuses s n) ⊎ (drawn ≡ 0)
      go true t b u = inl (6, wrong_sum (inl (eqb-true _ _ t)))
      go false t true u = inl (6, wrong_sum (inr (ltb-true _ _ u)))
      go false t false u = locks (eqb m.start 2) refl (contradiction (sheet_target s) s.dots) refl
        where
          locks : (a : Bool) → eqb m.start 2 ≡ a → (b : Bool) → contradiction (sheet_target s) s.dots ≡ b
              → ((n : ℕ) × StartRefuses s n) ⊎ (drawn ≡ 0)
          locks true e true f =
              inl (
                16,
                contradicted (omega (arith, eqb-false (total s.psf) 0 t)) (ltb-false _ _ u)
                    (eqb-true m.start 2 e) (λ h. true≢false (sym f ∙ holds_none (sheet_target s) s.dots h)),
              )
          locks true e false f = inr (start_draws ∙ rw (t, u, e, f))
          locks false e b f = inr (start_draws ∙ rw (t, u, e))

  -- what is printed of the sheet: a refusal of the start
  abbrev text : List ℕ
  text = processed_text m s.psf s.gray (handed_dots s) table

  refused_text_lem : {n : ℕ} → StartRefuses s n → text ≡ refused_text n 0
  unfolding processed_text start_call
  refused_text_lem (wrong_sum (inl e)) = rw (start_draws, eq-eqb (total s.psf) 0 e)
  refused_text_lem (wrong_sum (inr h)) =
      rw (start_draws, ne_eqb (total s.psf) 0 (λ e. omega (arith, h, e)), lt-ltb 1024 (total s.psf) h)
  refused_text_lem (contradicted low high two broken) =
      rw (
        start_draws,
        ne_eqb (total s.psf) 0 (λ e. omega (arith, low, e)),
        le-ltb 1024 (total s.psf) high,
        eq-eqb m.start 2 two,
        contradiction_if (sheet_target s) s.dots broken,
      )

  -- or, where it draws none, what comes to rest, which is not refused
  module _ (taken : drawn ≡ 0) where
    abbrev first : Reference
    first = begin (sheet_target s) (first_dots s)

    first_sound : Sound m s.psf s.gray first
    unfolding begin stats_of fresh_stats
    first_sound = start_later m s.psf s.gray (handed_dots s) (length table) v.gray_most taken

    first_halftone : Halftone (sheet_target s) first.dots
    first_halftone = sound_halftone m s.psf s.gray first first_sound

    wide : 0 < m.width
    wide = v.in_range.wide.0

    -- the text is that of the reference's dots and of its figures
    text_is : text ≡ sheet_text (written_sheet m s.psf s.gray (converged_from s).after.dots)
        ++ stats_text (converged_from s).answer
    unfolding processed_text start_call converge_call later_call begin fresh_stats stats_of
    text_is = rw (taken, fits_later m s.psf s.gray _ _ _ first_sound)

    -- whose dots are a halftone, and whose E at the start is that of the first dots
    after_sound : Sound m s.psf s.gray (converged_from s).after
    unfolding converge
    after_sound =
        converge_keeps (sheet_target s) m.reach wide refl (Sound m s.psf s.gray) (sound_kept m s.psf s.gray)
        first 0 first_halftone first_sound

    after_start : (converged_from s).after.figures.start_error ≡ squared_error (sheet_target s) (first_dots s)
    unfolding converge begin
    after_start =
        (converge_keeps (sheet_target s) m.reach wide refl
        (λ p.
        (p.figures.start_error ≡ squared_error (sheet_target s) (first_dots s))
        × (p.figures.start_dots ≡ dot_total (first_dots s)))
        (start_kept (sheet_target s) _ _) first 0 first_halftone (refl, refl)).0

    written_valid : Valid (written_sheet m s.psf s.gray (converged_from s).after.dots)
    written_valid =
        let r = v.in_range in
        let d = after_sound.plate.halftone in
        record {
          in_range = record { wide = r.wide; high = r.high; near = r.near; reached = r.reached; kind = lit≤ tt };
          shaped = record {
            psf_length = v.shaped.psf_length;
            gray_length = v.shaped.gray_length;
            dots_length = d.dots_length;
          };
          psf_most = v.psf_most;
          gray_most = v.gray_most;
          dots_most = d.bits;
        }

    -- and which can be handed in again: it is short, it is read as itself, and its psf is the same
    taken_again : cells_of m ≤ 4096
        → Unrefused (sheet_text (written_sheet m s.psf s.gray (converged_from s).after.dots))
    taken_again small n o (too_long h) =
        let w = written_sheet m s.psf s.gray (converged_from s).after.dots in
        let v = written_valid in
        let most = text_most w v.in_range v.shaped 4096 small 0 1 (lit< tt) v.psf_most v.gray_most
        v.dots_most in
        omega (arith, h, most)
    taken_again small n o (unread short l) =
        let w = written_sheet m s.psf s.gray (converged_from s).after.dots in
        let fits = cells_fit w.measures written_valid.in_range 4096 small in
        let (z, _) = read_back (sheet_text w) 49 4096 4096 w refl written_valid fits in
        read_draws_nothing (sheet_text w) 49 4096 4096 z n o l.drawn
    taken_again small n o (unstarted {s = s'} short given d) =
        let w = written_sheet m s.psf s.gray (converged_from s).after.dots in
        let same : s' ≡ w = sym (same_text w s' written_valid given.is_valid given.is_text) in
        summed (subst (λ x. StartRefuses x n) same d)
      where
        summed : {n : ℕ} → StartRefuses (written_sheet m s.psf s.gray (converged_from s).after.dots) n → ⊥
        summed (wrong_sum (inl e)) = omega (arith, e, first_sound.plate.halftone.psf_fits.sum_low)
        summed (wrong_sum (inr h)) = omega (arith, h, first_sound.plate.halftone.psf_fits.sum_high)
        summed (contradicted low high two broken) = broken after_sound.locks

    printed : cells_of m ≤ 4096 → {input : List ℕ} → output input ≡ text → Printed input s
    unfolding converge stats_of
    printed small e =
        let after = (converged_from s).after in
        let t = sheet_target s in
        record {
          dots = after.dots;
          before = whole after.figures.start_error;
          after = whole (squared_error t after.dots);
          on = after.figures.on;
          off = after.figures.off;
          swaps = after.figures.swaps;
          scans = (converged_from s).answer.scans;
          is_printed = e ∙ text_is;
          dots_are_reference = refl;
          is_at_rest =
              converge_rest t m.reach wide (lit≤ tt) refl v.in_range.reached first 0 first_halftone;
          before_is_of_start =
              whole_is after.figures.start_error
              (subst (λ z. pos 0 ≤ℤ z) (sym after_start) (nonneg (first_dots s)))
              ∙ after_start;
          after_is_of_dots = whole_is (squared_error t after.dots) (nonneg after.dots);
          on_is_reference = refl;
          off_is_reference = refl;
          swaps_is_reference = refl;
          scans_is_reference = refl;
          is_a_sheet = record { is_text = refl; is_valid = written_valid; is_small = small };
          is_taken_again = taken_again small;
        }
      where
        nonneg : (dots : List ℕ) → pos 0 ≤ℤ squared_error (sheet_target s) dots
        nonneg = squared_nonneg (sheet_target s) wide

        whole_is : (z : ℤ) → pos 0 ≤ℤ z → pos (whole z) ≡ z
        whole_is (pos n) h = refl
        whole_is (negsuc n) h = absurd h.le

-- ---- an input
module _ (input : List ℕ) where
  abbrev r : Read
  r = read_sheet input 49 4096 4096

  module _ (short : length input ≤ 32768) where
    -- a sheet is read as this sheet, and nothing else is
    sheet_text_lem : (s : Sheet) → (given : IsSheet input s) → output input ≡ text s given.is_valid
    sheet_text_lem s given =
        let fits = cells_fit s.measures given.is_valid.in_range 4096 given.is_small in
        let (z, e) = read_back input 49 4096 4096 s given.is_text given.is_valid fits in
        output_is input short ∙ rw (eq-eqb r.refusal 0 z, e)

    read_sheet_lem : r.refusal ≡ 0 → IsSheet input r.sheet
    read_sheet_lem z =
        let (e, v, fits) = read_exactly input 49 4096 4096 r.sheet (z, refl) in
        record { is_text = e; is_valid = v; is_small = (few r.sheet v fits).1 }

    unread_text : (r.refusal ≡ 0 → ⊥) → output input ≡ refused_text r.refusal r.at
    unread_text z = output_is input short ∙ rw (ne_eqb r.refusal 0 z)

  due_is_printed : {n o : ℕ} → ProgramRefuses input n o → output input ≡ refused_text n o
  due_is_printed (too_long h) = output_long input h
  due_is_printed (unread {n} {o} short l) =
      let (e, some, place) = leftmost_is_refused input 49 4096 4096 n o l in
      unread_text short (λ z. some (sym e ∙ z)) ∙ ap₂ refused_text e place
  due_is_printed (unstarted {s} short given d) = sheet_text_lem short s given ∙ refused_text_lem s given.is_valid d

  -- one of the refusals is due, or a sheet is printed
  abbrev Answer : Type 0
  Answer = ((n : ℕ) × (o : ℕ) × ProgramRefuses input n o) ⊎ PrintsSheet input

  answer : Answer
  answer = go (ltb 32768 (length input)) refl
    where
      sheet : length input ≤ 32768 → r.refusal ≡ 0 → Answer
      sheet short z = started (start_judged r.sheet given.is_valid)
        where
          given : IsSheet input r.sheet
          given = read_sheet_lem short z

          started : ((n : ℕ) × StartRefuses r.sheet n) ⊎ (drawn r.sheet given.is_valid ≡ 0) → Answer
          started (inl (n, d)) = inl (n, 0, unstarted short given d)
          started (inr e) =
              inr (r.sheet, given, printed r.sheet given.is_valid e given.is_small (sheet_text_lem short _ given))

      read : length input ≤ 32768 → Dec (r.refusal ≡ 0) → Answer
      read short (yes z) = sheet short z
      read short (no z) =
          inl (r.refusal, r.at, unread short (refused_is_leftmost input 49 4096 4096 _ _ (refl, z, refl)))

      go : (b : Bool) → ltb 32768 (length input) ≡ b → Answer
      go true t = inl (13, 0, too_long (ltb-true _ _ t))
      go false t = read (ltb-false _ _ t) (ℕ_discrete r.refusal 0)

  -- where no refusal is due, later calls accept what comes to rest, and its E at the start is that of the first dots
  pub printed_sound : Unrefused input → (s : Sheet) → IsSheet input s
      → (let after = (converged_from s).after in
      Sound s.measures s.psf s.gray after
      × (after.figures.start_error ≡ squared_error (sheet_target s) (first_dots s)))
  printed_sound none s given = started (start_judged s given.is_valid)
    where
      short : (b : Bool) → ltb 32768 (length input) ≡ b → length input ≤ 32768
      short true t = absurd (none 13 0 (too_long (ltb-true _ _ t)))
      short false t = ltb-false _ _ t

      started : ((n : ℕ) × StartRefuses s n) ⊎ (drawn s given.is_valid ≡ 0)
          → (let after = (converged_from s).after in
          Sound s.measures s.psf s.gray after
          × (after.figures.start_error ≡ squared_error (sheet_target s) (first_dots s)))
      started (inl (n, d)) = absurd (none n 0 (unstarted (short (ltb 32768 (length input)) refl) given d))
      started (inr e) = (after_sound s given.is_valid e, after_start s given.is_valid e)

  pub program_promises : ProgramPromises input
  program_promises = record {
    refuses_exactly = λ n o. (printed_is_due n o answer, due_is_printed);
    one_refusal = λ n o n' o' d d'. refusals_apart n o n' o' (sym (due_is_printed d) ∙ due_is_printed d');
    prints_exactly = (λ (s, _, p) n o d. no_sheet n o d _ _ p.is_printed, λ f. unrefused f answer);
    no_sheet_when_refused = no_sheet;
  }
    where
      no_sheet : (n o : ℕ) → ProgramRefuses input n o → (s : Sheet) (rest : List ℕ)
          → output input ≡ sheet_text s ++ rest → ⊥
      no_sheet n o d s rest e = refusal_no_sheet n o s rest (sym (due_is_printed d) ∙ e)

      printed_is_due : (n o : ℕ) → Answer → output input ≡ refused_text n o → ProgramRefuses input n o
      printed_is_due n o (inl (k, i, d)) e =
          let (x, y) = refusals_apart k i n o (sym (due_is_printed d) ∙ e) in
          subst (λ k. ProgramRefuses input k o) x (subst (ProgramRefuses input k) y d)
      printed_is_due n o (inr (s, _, p)) e = absurd (refusal_no_sheet n o _ _ (sym e ∙ p.is_printed))

      unrefused : Unrefused input → Answer → PrintsSheet input
      unrefused f (inl (n, o, d)) = absurd (f n o d)
      unrefused f (inr p) = p
