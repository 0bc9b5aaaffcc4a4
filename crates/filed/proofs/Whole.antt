-- What the check answers of a filed sheet that was read whole, for which there is room (`Whole`).
--   roomy, table_long          the room
--   blocks_good, figures_few   its blocks are good, and its figures fit
--   is_given                   its dots are given
--   sum_refused                6, of a psf that sums to 0 or to more than 1,024
--   plate, in_fronts, checked  else the sheet is a plate, it stands in the fronts of the buffers, and it is judged
use mathlib.Core.Bool.{true}
use mathlib.Core.List.{List, ◌++◌}
use mathlib.Core.Logic.{◌⊎◌}
use mathlib.Core.Path.{◌≡◌, sym, ◌∙◌, ap, subst}
use Prim.Native.Nat.{ℕ, ◌≤◌, ◌<◌}
use native.Mathlib.Decide.{ℕ_discrete}
use native.Mathlib.Omega.{arith}
use borrow.Author.Tests.{leb-true}
use lib.Dec.{leb}
use lib.IntN.{ℤ}
use lib.ListN.{length, take}
use lib.Seq.{sets, take_at}
use Rattle.invariants.specs.Reading.{FiledEnd}
use Rattle.model.specs.Format.{Head}
use Rattle.model.specs.declared.Measures.{Measures}
use Rattle.model.specs.Format.{Place}
use Rattle.model.specs.Basic.{AtMost}
use Rattle.model.specs.Psf.{total}
use Rattle.model.specs.Refusal.{PlateFits}
use Rattle.model.specs.Calls.{result, refused}
use Rattle.model.specs.Sheet.{Sheet, entries_of, cells_of, dots_in, room_for}
use Rattle.model.specs.Format.{head_from, head_by, body, Parsed, parse, sheet_of}
use Rattle.model.specs.Grammar.{numbers, Taken}
use Rattle.model.specs.Filed.{most_figure, figures_in, IsFiled, figure_parts, filed_room, filed_sheet}
use Rattle.model.specs.Filed.{filed_figures, read_filed}
use Rattle.invariants.specs.Reading.{filed_end}
use Rattle.model.specs.FiledCalls.{verdict_of, CheckBuffers, laid, check_call}
use Rattle.model.proofs.Basic.{zero_cases}
use Rattle.model.proofs.Text.{and_true}
use Rattle.model.proofs.Format.{parse_append, parse_refused, values_length}
use Rattle.model.proofs.Sheet.{front}
use Rattle.model.proofs.FiledReading.{read_filed_lem}
use Rattle.model.proofs.FiledVerdicts.{filed_plate}
use Rattle.model.proofs.FiledCheck.{check_unmeasured, check_answered}
use Rattle.filed.specs.Front.{front_of}
use Rattle.filed.proofs.Reading.{below_taken}

-- nothing that was read is refused, and there is room
pub record Whole (bytes psf gray dots : List ℕ) (table : List ℤ) (h : Head) (p : FiledEnd) : Type 0 where
  pub head_is : h ≡ head_by (head_from 2) bytes
  pub head_good : h.refusal ≡ 0
  pub has_room : filed_room (length psf) (length gray) (length dots) (length table) h.measures ≡ true
  pub end_is : p ≡ filed_end h.measures bytes h.at
  pub end_good : p.refusal ≡ 0

module _ {bytes psf gray dots : List ℕ} {table : List ℤ} {h : Head} {p : FiledEnd}
    (w : Whole bytes psf gray dots table h p) where
  abbrev m : Measures
  m = h.measures

  both : (room_for m (length psf) (length gray) (length dots) ≡ true) × (leb (cells_of m) (length table) ≡ true)
  both =
      and_true (room_for m (length psf) (length gray) (length dots)) (leb (cells_of m) (length table)) w.has_room

  pub roomy : room_for h.measures (length psf) (length gray) (length dots) ≡ true
  roomy = both.0

  pub table_long : cells_of h.measures ≤ length table
  table_long = leb-true (cells_of m) (length table) both.1

  -- all that follows line 2, and its blocks
  abbrev below : Parsed
  below = parse (body m ++ figure_parts) bytes h.at

  abbrev blocks : Parsed
  blocks = parse (body m) bytes h.at

  below_good : below.refusal ≡ 0
  unfolding filed_end
  below_good =
      zero_cases (λ (x : Place). x.refusal ≡ 0 → below.refusal ≡ 0) below.refusal (λ z _. z) (λ n x. x)
      (rw w.end_is at w.end_good)

  pub blocks_good : (parse (body h.measures) bytes h.at).refusal ≡ 0
  blocks_good = good (ℕ_discrete blocks.refusal 0)
    where
      good : Dec (blocks.refusal ≡ 0) → blocks.refusal ≡ 0
      good (yes d) = d
      good (no d) =
          let same = parse_refused (body m) figure_parts bytes h.at d in
          absurd (d (sym (ap (λ (x : Parsed). x.refusal) same) ∙ below_good))

  -- what was read: a sheet with its figures
  abbrev sheet : Sheet
  sheet = sheet_of h.measures (parse (body h.measures) bytes h.at).values

  sheet_is : filed_sheet m below.values ≡ sheet
  sheet_is =
      ap (sheet_of m)
      (ap (λ (x : Parsed). take (numbers (body m)) x.values)
      (parse_append (body m) figure_parts bytes h.at blocks_good)
      ∙ take_at blocks.values _ (numbers (body m)) (values_length (body m) bytes h.at blocks_good))

  figures_are : filed_figures m below.values ≡ p.figures
  unfolding filed_end
  figures_are = sym (ap (λ (x : FiledEnd). x.figures) w.end_is)

  is_taken : read_filed bytes (length psf) (length gray) (length dots) (length table)
      ≡ record { refusal = p.refusal; at = p.at; measures = m; values = below.values }
  is_taken = below_taken bytes psf gray dots table h w.head_is w.head_good w.has_room p w.end_is

  -- a sheet with its figures among what was read
  abbrev FiledIn : Taken → Type 0
  FiledIn r = IsFiled bytes (filed_sheet r.measures r.values) (filed_figures r.measures r.values)

  filed : IsFiled bytes sheet p.figures
  filed =
      subst (λ (X : Type 0). X) (λ i. IsFiled bytes (sheet_is i) (figures_are i))
      (subst FiledIn is_taken (read_filed_lem bytes _ _ _ _ (ap (λ r. r.refusal) is_taken ∙ w.end_good)).0)

  abbrev handed : CheckBuffers
  handed = record { psf = psf; gray = gray; dots = dots; table = table }

  pub is_given : h.measures.start ≡ 2
  is_given = filed.is_given

  pub figures_few : AtMost most_figure (figures_in p.figures)
  figures_few = filed.figures_most

  pub sum_refused : (total sheet.psf ≡ 0) ⊎ (1024 < total sheet.psf)
      → check_call bytes psf gray dots table ≡ record { reply = refused 6 0; left = handed }
  sum_refused = check_unmeasured bytes psf gray dots table sheet p.figures filed w.has_room

  module _ (low : 1 ≤ total sheet.psf) (high : total sheet.psf ≤ 1024) where
    pub plate : PlateFits h.measures sheet.psf sheet.gray sheet.dots (cells_of h.measures)
    plate = filed_plate sheet filed.is_valid filed.is_given low high

    pub in_fronts : front_of h.measures (sets psf 0 sheet.psf) (sets gray 0 sheet.gray)
        (sets dots 0 sheet.dots) ≡ sheet
    in_fronts =
        let v = filed.is_valid.shaped in
        let (p-room, rest) = and_true (leb (entries_of m) (length psf)) _ roomy in
        let (g_room, d-room) = and_true (leb (cells_of m) (length gray)) _ rest in
        let d_long : cells_of m ≤ length dots =
        omega (arith, leb-true (dots_in m) (length dots) d-room, v.dots_length, plate.halftone.dots_length) in
        let p-is = front psf sheet.psf (entries_of m) v.psf_length (leb-true _ _ p-room) in
        let g-is = front gray sheet.gray (cells_of m) v.gray_length (leb-true _ _ g_room) in
        let d-is = front dots sheet.dots (cells_of m) plate.halftone.dots_length d_long in
        λ i. record { measures = m; psf = p-is i; gray = g-is i; dots = d-is i }

    pub checked : check_call bytes psf gray dots table
        ≡ record { reply = result (verdict_of sheet p.figures); left = laid sheet handed }
    checked =
        check_answered bytes psf gray dots table sheet p.figures
        (record { is_filed = filed; room = w.has_room; sum_low = low; sum_high = high })
