-- What is printed for each answer.
--   prints_as, prints_on      the same text in other words; of what a call answered and left
--   prints_whole              with the part of the output that is taken
--   sheet_most                a sheet is at most 33,024 bytes long
--   front_bytes               the front of a slice of bytes holds numbers up to 255
--   of_blank                  what is printed of the front of a table of blank cells
--   read_refused, read_done   of what reading answered and left
use mathlib.Core.List.{List, [], ◌∷◌}
use mathlib.Core.Path.{◌≡◌, sym, ◌∙◌, ap, ap₂}
use Prim.Native.Nat.{ℕ, zero, suc, ◌≤◌}
use native.Mathlib.Omega.{arith}
use lib.IntN.{pos}
use lib.ListN.{length, get_or, take, replicate}
use mir.Syntax.{w8}
use mir.Val.{Fits}
use lib.Seq.{length-take-le}
use Rattle.model.specs.declared.Measures.{Measures}
use Rattle.model.specs.declared.Refused.{Refused}
use Rattle.model.specs.declared.Setting.{Setting}
use Rattle.model.specs.Basic.{AtMost}
use Rattle.model.specs.Calls.{Reply, result, refused, Outcome, Ends}
use Rattle.model.specs.Sheet.{entries_of, cells_of, sheet_text, InRange}
use Rattle.model.specs.SheetCalls.{SheetBuffers, read_call, with_given, written_sheet}
use Rattle.model.specs.Program.{refused_text, processed_text, most_printed, Prints, output}
use Rattle.model.proofs.Longest.{text_most}
use Rattle.model.proofs.Program.{same, empty_psf, empty_cells, output_refused, output_read}
use Rattle.model.proofs.Puts.{puts_as}
use Rattle.settle_program.specs.Printable.{Printable}

module _ {out left : List ℕ} {end : ℕ} where
  pub prints_as : {text same : List ℕ} → text ≡ same → Prints text out left end → Prints same out left end
  prints_as e p = record { put = puts_as e p.put; most = p.most }

  -- a call that answered and left this: what is printed of that is printed of its outcome
  pub prints_on : {A B : Type 0} (text : Reply A → B → List ℕ) {o : Outcome A B} {reply known : Reply A} {b : B}
      → Ends o reply b → reply ≡ known → Prints (text known b) out left end
      → Prints (text o.reply o.left) out left end
  prints_on text e k = prints_as (ap₂ text (sym k ∙ e.reply_is) e.left_is)

  -- with the part of the output that it takes, where that is as long as can be printed
  pub prints_whole : {text same : List ℕ} → same ≡ text → Prints text out left end → length left ≡ most_printed
      → Prints same out left end × ((end ≤ length left) × (end ≡ length (take end left)))
  prints_whole e p long =
      let within : end ≤ length left = omega (arith, p.most) in
      (prints_as (sym e) p, (within, sym (length-take-le end left within)))

-- the front of a slice of bytes
front_most : (n : ℕ) (l : List ℕ) → ((i : ℕ) → get_or l i 0 ≤ 255) → (i : ℕ) → get_or (take n l) i 0 ≤ 255
front_most zero l h i = omega arith
front_most (suc n) [] h i = omega arith
front_most (suc n) (x ∷ l) h zero = h 0
front_most (suc n) (x ∷ l) h (suc i) = front_most n l (λ j. h (suc j)) i

pub front_bytes : (n : ℕ) (l : List ℕ) → ((i : ℕ) → Fits w8 (get_or l i 0)) → AtMost 255 (take n l)
front_bytes n l h = record { each = front_most n l (λ i. omega (arith, (h i).fits)) }

-- a sheet is at most 33,024 bytes long, which leaves room for the figures
pub sheet_most : (s : Setting) (dots out : List ℕ) → Printable s dots out → ((i : ℕ) → Fits w8 (get_or dots i 0))
    → length (sheet_text (written_sheet s.measures s.psf.now s.gray.now dots)) ≤ 33024
sheet_most s dots out p h =
    let m = p.in_range in
    let given : InRange (with_given s.measures) =
    record { wide = m.wide; high = m.high; near = m.near; reached = m.reached; kind = omega arith } in
    text_most (written_sheet s.measures s.psf.now s.gray.now dots) given p.shaped 4096 p.few 2 255 (omega arith)
    p.psf_most p.gray_most (record { each = λ i. omega (arith, (h i).fits) })

-- what is printed of the front of a table of 4,096 blank cells is printed of as many blank cells
pub of_blank : (m : Measures) (psf gray dots : List ℕ) {text : List ℕ} → cells_of m ≤ 4096
    → processed_text m psf gray dots (take (cells_of m) (replicate 4096 (pos 0))) ≡ text
    → processed_text m psf gray dots (replicate (cells_of m) (pos 0)) ≡ text
of_blank m psf gray dots few e = sym (ap (processed_text m psf gray dots) (same (pos 0) 4096 (cells_of m) few)) ∙ e

-- of what reading answered and left in the buffers
module _ (input : List ℕ) (few : length input ≤ 32768) where
  abbrev outcome : Outcome Measures SheetBuffers
  outcome = read_call input empty_psf empty_cells empty_cells

  pub read_refused : {b : SheetBuffers} (number at : ℕ) → Ends outcome (refused number at) b
      → output input ≡ refused_text number at
  read_refused number at e = output_refused input few number at (sym e.reply_is)

  pub read_done : {b : SheetBuffers} (m : Measures) → Ends outcome (result m) b
      → (output input
      ≡ processed_text m (take (entries_of m) b.psf) (take (cells_of m) b.gray) (take (cells_of m) b.dots)
      (replicate (cells_of m) (pos 0)))
      × InRange m × (entries_of m ≤ 49) × (cells_of m ≤ 4096)
  read_done m e = rw e.left_is (output_read input few m (sym e.reply_is))
