-- Laws of reading a PFM.
--   first_here, first_next, first_none  the first sample that is no shade
--   PfmFits, pfm_fits, fits_pfm         lines and a length that 17 passes
--   one_header                          a file has one header
--   judged                              what reading comes to
--   read_exactly, row_first             when it is read; that a cell has the gray of its own sample
use mathlib.Core.Bool.{Bool, true, false, not, ◌||◌, true≢false}
use mathlib.Core.List.{List}
use mathlib.Core.Path.{◌≡◌, refl, sym, ◌∙◌, ap, ap₂, subst}
use Prim.Native.Nat.{ℕ, zero, suc, ◌+◌, ◌*◌, ◌≤◌, ◌<◌}
use native.Mathlib.Decide.{ℕ_discrete}
use native.Mathlib.Omega.{arith}
use borrow.Author.Tests.{ltb-true, ltb-false, not-false}
use lib.Dec.{ltb, eqb}
use lib.ListN.{length, get_or, drop, length-append, length-drop, get_or-append}
use lib.Seq.{sets, sets-eq, drop-append_seam}
use Rattle.algebra.proofs.Grid.{cell_row, cell_column, cell<}
use Rattle.model.specs.declared.PfmHeader.{PfmHeader}
use Rattle.model.specs.PfmCalls.{PfmLines}
use Rattle.model.specs.Basic.{Exactly}
use Rattle.model.specs.Calls.{result}
use Rattle.model.specs.Netpbm.{cells_in}
use Rattle.model.specs.Pfm.{size_in, is_little, pfm_head, IsPfm, sample_at, is_no_shade, first_no_shade, file_order, gray_of}
use Rattle.model.specs.Pfm.{raster_gray}
use Rattle.model.specs.PfmCalls.{pfm_lines, samples_call, read_pfm_call}
use Rattle.model.specs.PfmPromises.{AllShades, HasRoom, PfmAnswer, turned_away, sample}
use Rattle.model.specs.PfmPromises.{draws_17, draws_12, draws_18, reads}
use Rattle.model.proofs.Basic.{neither, length-tabulate, get_d_tabulate}
use Rattle.model.proofs.Refusal.{◌nor◌, same, alike_not}
use Rattle.model.proofs.Calls.{no_result, same_result}
use Rattle.model.proofs.PfmHeaders.{lines_read, lines_stand}

-- ---- the first sample that is no shade
module _ (little : Bool) (raster : List ℕ) where
  abbrev bad : ℕ → Bool
  bad i = is_no_shade (sample_at little raster i)

  pub first_here : (i n : ℕ) → bad i ≡ true → first_no_shade little raster i (suc n) ≡ i
  unfolding first_no_shade
  first_here i n e = rw e

  pub first_next : (i n : ℕ) → bad i ≡ false
      → first_no_shade little raster i (suc n) ≡ first_no_shade little raster (i + 1) n
  unfolding first_no_shade
  first_next i n e = rw e

  pub first_none : (i : ℕ) → first_no_shade little raster i 0 ≡ i
  unfolding first_no_shade
  first_none i = refl

  -- all before it are shades, and it is none, unless there is none
  abbrev First : (i n r : ℕ) → Type 0
  First i n r =
      (i ≤ r) × (r ≤ i + n) × ((j : ℕ) → i ≤ j → j < r → bad j ≡ false) × (r < i + n → bad r ≡ true)

  first_law : (i n : ℕ) → First i n (first_no_shade little raster i n)
  first_law i zero =
      rw (first_none i) (omega arith, omega arith, λ j a b. absurd (omega arith), λ a. absurd (omega arith))
  first_law i (suc n) = go (bad i) refl (first_law (i + 1) n)
    where
      go : (b : Bool) → bad i ≡ b → First (i + 1) n (first_no_shade little raster (i + 1) n)
          → First i (suc n) (first_no_shade little raster i (suc n))
      go true e f = rw (first_here i n e) (omega arith, omega arith, λ j a b. absurd (omega arith), λ a. e)
      go false e (l, m, before, at) =
          rw (first_next i n e) (
            omega arith,
            omega arith,
            λ j a b. shade j a b (ℕ_discrete j i),
            λ a. at (omega arith),
          )
        where
          shade : (j : ℕ) → i ≤ j → j < first_no_shade little raster (i + 1) n → Dec (j ≡ i) → bad j ≡ false
          shade j a b (yes k) = ap bad k ∙ e
          shade j a b (no k) = before j (omega arith) b

-- ---- 17
abbrev raster_size : PfmHeader → ℕ
raster_size h = 4 * cells_in (size_in h)

-- lines of a file, and a file of that length
pub record PfmFits (f : PfmLines) (file : ℕ) : Type 0 where
  pub good : f.good ≡ true
  pub exact : file ≡ f.at + raster_size f.header

abbrev wrong : PfmLines → ℕ → Bool
wrong f file = not f.good || not (eqb file (f.at + raster_size f.header))

pub pfm_fits : (f : PfmLines) (file : ℕ) → wrong f file ≡ false → PfmFits f file
pfm_fits f file e =
    let (good, exact) = neither (not f.good) _ e in
    record { good = not-false f.good good; exact = same file (f.at + raster_size f.header) exact }

pub fits_pfm : (f : PfmLines) (file : ℕ) → PfmFits f file → wrong f file ≡ false
fits_pfm f file p = ap not p.good nor alike_not p.exact

-- ---- a file and its lines
module _ (s : List ℕ) where
  -- it is a gray PFM with the header that is read
  is_pfm : PfmFits (pfm_lines s) (length s) → IsPfm (pfm_lines s).header s
  is_pfm p =
      let l = lines_stand s p.good in
      let f = pfm_lines s in
      record {
        in_size = l.in_size;
        scale_is = l.scale_is;
        raster = drop f.at s;
        raster_length = length-drop f.at s ∙ omega (arith, p.exact);
        text = l.text;
      }

  module _ (h : PfmHeader) (p : IsPfm h s) where
    pfm_lines_lem : pfm_lines s ≡ record { good = true; header = h; at = length (pfm_head h) }
    pfm_lines_lem = lines_read h p.in_size s p.raster p.text p.scale_is

    pfm_passes : wrong (pfm_lines s) (length s) ≡ false
    pfm_passes =
        let long = ap length p.text ∙ length-append (pfm_head h) p.raster in
        fits_pfm (pfm_lines s) (length s)
        (rw pfm_lines_lem (record { good = refl; exact = long ∙ ap (λ k. length (pfm_head h) + k) p.raster_length }))

    raster_is : p.raster ≡ drop (length (pfm_head h)) s
    raster_is = sym (ap (drop (length (pfm_head h))) p.text ∙ drop-append_seam (pfm_head h) p.raster)

  pub one_header : (h h' : PfmHeader) → IsPfm h s → IsPfm h' s → h ≡ h'
  one_header h h' p q = ap (λ f. f.header) (sym (pfm_lines_lem h p) ∙ pfm_lines_lem h' q)

-- ---- what reading comes to
module _ (s gray : List ℕ) where
  abbrev f : PfmLines
  f = pfm_lines s

  abbrev n : ℕ
  n = cells_in (size_in f.header)

  abbrev little : Bool
  little = is_little f.header.scale

  abbrev first : ℕ
  first = first_no_shade little (drop f.at s) 0 n

  pub judged : PfmAnswer s gray (read_pfm_call s gray)
  unfolding read_pfm_call samples_call is_pfm
  judged = go (wrong f (length s)) refl (ltb (length gray) n) refl (ltb first n) refl
    where
      go : (a : Bool) → wrong f (length s) ≡ a → (b : Bool) → ltb (length gray) n ≡ b → (c : Bool) → ltb first n ≡ c
          → PfmAnswer s gray (read_pfm_call s gray)
      go true e b k c r = draws_17 (λ h p. true≢false (sym e ∙ pfm_passes s h p)) (rw e)
      go false e true k c r =
          draws_12 f.header (is_pfm s (pfm_fits f (length s) e)) (λ room. omega (arith, ltb-true (length gray) n k))
          (rw (e, k))
      go false e false k true r =
          let fits = pfm_fits f (length s) e in
          let (_, _, before, at) = first_law little (drop f.at s) 0 n in
          let in_raster = ltb-true first n r in
          draws_18 f.header (is_pfm s fits) (ltb-false (length gray) n k) first
          (record { in_raster = in_raster; no_shade_lem = at (omega arith); before = λ j h. before j (omega arith) h })
          (rw (e, k, r) (ap (λ o. turned_away s gray 18 (o + 4 * first)) (lines_stand s fits.good).place_is))
      go false e false k false r =
          let (_, _, before, at) = first_law little (drop f.at s) 0 n in
          reads f.header (is_pfm s (pfm_fits f (length s) e)) (ltb-false (length gray) n k)
          (λ j h. before j (omega arith) (omega (arith, ltb-false first n r))) (rw (e, k, r))

  -- two headers of the file are one, and so are their rasters
  abbrev Shades : PfmHeader → Type 0
  Shades h = AllShades h (drop (length (pfm_head h)) s)

  shades_of : (h : PfmHeader) (p : IsPfm h s) → AllShades h p.raster → Shades h
  shades_of h p = subst (AllShades h) (raster_is s h p)

  shades_with : (h : PfmHeader) (p : IsPfm h s) → Shades h → AllShades h p.raster
  shades_with h p = subst (AllShades h) (sym (raster_is s h p))

  abbrev Readable : PfmHeader → Type 0
  Readable h = (p : IsPfm h s) × HasRoom s gray h × AllShades h p.raster

  pub read_exactly : (h : PfmHeader) → Exactly ((read_pfm_call s gray).reply ≡ result h) (Readable h)
  read_exactly h = (to judged, from judged)
    where
      to : PfmAnswer s gray (read_pfm_call s gray) → (read_pfm_call s gray).reply ≡ result h → Readable h
      to (draws_17 none o) e = absurd (no_result (sym (ap (λ o. o.reply) o) ∙ e))
      to (draws_12 h' p short o) e = absurd (no_result (sym (ap (λ o. o.reply) o) ∙ e))
      to (draws_18 h' p room i none o) e = absurd (no_result (sym (ap (λ o. o.reply) o) ∙ e))
      to (reads h' p room all o) e = subst Readable (same_result (sym (ap (λ o. o.reply) o) ∙ e)) (p, room, all)

      from : PfmAnswer s gray (read_pfm_call s gray) → Readable h → (read_pfm_call s gray).reply ≡ result h
      from (draws_17 none o) (q, _, _) = absurd (none h q)
      from (draws_12 h' p short o) (q, room, _) =
          absurd (short (subst (HasRoom s gray) (one_header s h h' q p) room))
      from (draws_18 h' p room i none o) (q, _, all) =
          let shades = shades_with h' p (subst Shades (one_header s h h' q p) (shades_of h q all)) in
          absurd (true≢false (sym none.no_shade_lem ∙ shades i none.in_raster))
      from (reads h' p _ _ o) (q, _, _) = ap (λ o. o.reply) o ∙ ap result (one_header s h' h p q)

  -- ---- the lowest row first
  module _ (h : PfmHeader) {row col : ℕ} (high : row < h.height) (wide : col < h.width) where
    abbrev at : ℕ
    at = row * h.width + col

    -- the cell of a raster that is stored
    stored_cell : (raster : List ℕ) → HasRoom s gray h
        → get_or (sets gray 0 (raster_gray (size_in h) (is_little h.scale) raster)) at 0
        ≡ gray_of (sample h raster (file_order (size_in h) row col))
    unfolding raster_gray
    stored_cell raster room =
        let gray' = raster_gray (size_in h) (is_little h.scale) raster in
        let long : length gray' ≡ cells_in (size_in h) = length-tabulate (cells_in (size_in h)) _ in
        let inside = cell< {y = row} {x = col} high wide in
        ap (λ l. get_or l at 0) (sets-eq gray' gray 0 (omega (arith, long, room)))
        ∙ get_or-append gray' _ 0 at (omega (arith, long, inside))
        ∙ get_d_tabulate (cells_in (size_in h)) _ at 0 inside
        ∙ ap₂ (λ y x. gray_of (sample h raster (file_order (size_in h) y x))) (cell_row {y = row} wide) (cell_column row wide)

    pub row_first : (p : IsPfm h s) → (read_pfm_call s gray).reply ≡ result h
        → get_or (read_pfm_call s gray).left at 0 ≡ gray_of (sample h p.raster (file_order (size_in h) row col))
    row_first p e = go judged
      where
        go : PfmAnswer s gray (read_pfm_call s gray)
            → get_or (read_pfm_call s gray).left at 0 ≡ gray_of (sample h p.raster (file_order (size_in h) row col))
        go (draws_17 none o) = absurd (no_result (sym (ap (λ o. o.reply) o) ∙ e))
        go (draws_12 h' q short o) = absurd (no_result (sym (ap (λ o. o.reply) o) ∙ e))
        go (draws_18 h' q room i none o) = absurd (no_result (sym (ap (λ o. o.reply) o) ∙ e))
        go (reads h' q room all o) =
            let same = one_header s h' h q p in
            let raster = raster_is s h' q ∙ ap (λ h. drop (length (pfm_head h)) s) same ∙ sym (raster_is s h p) in
            ap (λ o. get_or o.left at 0) o
            ∙ ap₂ (λ h r. get_or (sets gray 0 (raster_gray (size_in h) (is_little h.scale) r)) at 0) same raster
            ∙ stored_cell p.raster (subst (HasRoom s gray) same room)
