-- Laws of what the program prints.
--   output_long                  more than 32,768 bytes draw 13
--   output_is                    else the output is the text of what was read
--   output_refused, output_read  a refusal; or what is made of the sheet at the front of the buffers
use mathlib.Core.Path.{◌≡◌, refl, ◌∙◌, ap, ap₂, sym, subst}
use mathlib.Core.Bool.{Bool, true, false}
use mathlib.Core.List.{List, [], ◌∷◌}
use Prim.Native.Nat.{ℕ, zero, suc, ◌≤◌, ◌<◌}
use native.Mathlib.Omega.{arith}
use borrow.Author.Tests.{lt-ltb, le-ltb, leb-true, eqb-true}
use lib.Dec.{leb, eqb}
use lib.IntN.{pos}
use lib.ListN.{length, take, replicate, length-replicate}
use lib.Seq.{sets}
use Rattle.model.specs.declared.Measures.{Measures}
use Rattle.model.specs.Sheet.{Sheet, entries_of, cells_of}
use Rattle.model.specs.Sheet.{InRange, Valid, room_for}
use Rattle.model.specs.Format.{Read, read_sheet}
use Rattle.model.specs.SheetCalls.{SheetBuffers, outcome_of, read_call}
use Rattle.model.specs.Calls.{result, refused, Outcome}
use Rattle.model.specs.Program.{refused_text, processed_text, handed_dots, read_text, output}
use Rattle.model.proofs.Text.{and_true}
use Rattle.model.proofs.Calls.{no_result}
use Rattle.model.proofs.Sheet.{read_exactly, front}

-- ---- the output by what was read
-- more than 32,768 bytes
pub output_long : (b : List ℕ) → 32768 < length b → output b ≡ refused_text 13 0
unfolding output
output_long b h = rw (lt-ltb 32768 (length b) h)

-- the front of a buffer that holds one value
pub same : {A : Type 0} (x : A) (k n : ℕ) → n ≤ k → take n (replicate k x) ≡ replicate n x
same x k zero h = refl
same x zero (suc n) h = absurd (omega arith)
same x (suc k) (suc n) h = ap (λ l. x ∷ l) (same x k n (omega arith))

no_entries : (l : List ℕ) → length l ≡ 0 → l ≡ []
no_entries [] e = refl
no_entries (x ∷ l) e = absurd (omega arith)

-- the buffers that the program reads into
abbrev pub empty_psf : List ℕ
empty_psf = replicate 49 0

abbrev pub empty_cells : List ℕ
empty_cells = replicate 4096 0

psf_long : length empty_psf ≡ 49
psf_long = length-replicate {A = ℕ} 49 0

cells_long : length empty_cells ≡ 4096
cells_long = length-replicate {A = ℕ} 4096 0

-- what a sheet that was read hands on, from the front of the buffers
module _ (s : Sheet) (v : Valid s) (room : room_for s.measures 49 4096 4096 ≡ true) where
  abbrev sizes : Measures
  sizes = s.measures

  pub few : (entries_of sizes ≤ 49) × (cells_of sizes ≤ 4096)
  few =
      let (p, rest) = and_true (leb (entries_of sizes) 49) _ room in
      let (g, _) = and_true (leb (cells_of sizes) 4096) _ rest in
      (leb-true (entries_of sizes) 49 p, leb-true (cells_of sizes) 4096 g)

  psf_front : take (entries_of sizes) (sets empty_psf 0 s.psf) ≡ s.psf
  psf_front = front empty_psf s.psf (entries_of sizes) v.shaped.psf_length (omega (arith, few, psf_long))

  gray_front : take (cells_of sizes) (sets empty_cells 0 s.gray) ≡ s.gray
  gray_front = front empty_cells s.gray (cells_of sizes) v.shaped.gray_length (omega (arith, few, cells_long))

  dots_front : take (cells_of sizes) (sets empty_cells 0 s.dots) ≡ handed_dots s
  dots_front = go (eqb sizes.start 2) refl
    where
      go : (t : Bool) → eqb sizes.start 2 ≡ t → take (cells_of sizes) (sets empty_cells 0 s.dots) ≡ handed_dots s
      go true t =
          let e = rw t at v.shaped.dots_length in
          rw t (front empty_cells s.dots (cells_of sizes) e (omega (arith, few, cells_long)))
      go false t =
          rw (t, no_entries s.dots (rw t at v.shaped.dots_length)) (same 0 4096 (cells_of sizes) few.1)

  abbrev text : List ℕ
  text =
      processed_text sizes (take (entries_of sizes) (sets empty_psf 0 s.psf))
      (take (cells_of sizes) (sets empty_cells 0 s.gray)) (take (cells_of sizes) (sets empty_cells 0 s.dots))
      (replicate (cells_of sizes) (pos 0))

  text_is : text ≡ processed_text sizes s.psf s.gray (handed_dots s) (replicate (cells_of sizes) (pos 0))
  text_is = rw (psf_front, gray_front, dots_front)

-- what is handed on of an outcome
abbrev Handed : List ℕ → Outcome Measures SheetBuffers → Measures → Type 0
Handed b o m =
    (output b
    ≡ processed_text m (take (entries_of m) o.left.psf) (take (cells_of m) o.left.gray)
    (take (cells_of m) o.left.dots)
    (replicate (cells_of m) (pos 0)))
    × InRange m
    × (entries_of m ≤ 49)
    × (cells_of m ≤ 4096)

module _ (b : List ℕ) (short : length b ≤ 32768) where
  abbrev r : Read
  r = read_sheet b 49 4096 4096

  abbrev outcome : Outcome Measures SheetBuffers
  outcome = outcome_of r empty_psf empty_cells empty_cells

  outcome_is : read_call b empty_psf empty_cells empty_cells ≡ outcome
  unfolding read_call
  outcome_is = ap₂ (λ p c. outcome_of (read_sheet b p c c) empty_psf empty_cells empty_cells) psf_long cells_long

  pub output_is : output b ≡ read_text r
  unfolding output
  output_is = rw (le-ltb 32768 (length b) short)

  pub output_refused : (n o : ℕ) → (read_call b empty_psf empty_cells empty_cells).reply ≡ refused n o
      → output b ≡ refused_text n o
  output_refused n o e = output_is ∙ go (eqb r.refusal 0) refl
    where
      reply : outcome.reply ≡ refused n o
      reply = sym (ap (λ c. c.reply) outcome_is) ∙ e

      go : (t : Bool) → eqb r.refusal 0 ≡ t → read_text r ≡ refused_text n o
      go true t =
          let k : result r.sheet.measures ≡ refused n o = rw t at reply in
          absurd (no_result (sym k))
      go false t =
          let k : refused r.refusal r.at ≡ refused n o = rw t at reply in
          let x : r.refusal ≡ n = cc in
          let y : r.at ≡ o = cc in
          rw t (ap₂ refused_text x y)

  pub output_read : (m : Measures) → (read_call b empty_psf empty_cells empty_cells).reply ≡ result m
      → Handed b (read_call b empty_psf empty_cells empty_cells) m
  output_read m e = subst (λ c. Handed b c m) (sym outcome_is) (go (eqb r.refusal 0) refl)
    where
      reply : outcome.reply ≡ result m
      reply = sym (ap (λ c. c.reply) outcome_is) ∙ e

      go : (t : Bool) → eqb r.refusal 0 ≡ t → Handed b outcome m
      go true t =
          let s = r.sheet in
          let k : result s.measures ≡ result m = rw t at reply in
          let n : s.measures ≡ m = cc in
          let (_, v, room) = read_exactly b 49 4096 4096 s (eqb-true r.refusal 0 t, refl) in
          let o : output b ≡ text s v room = output_is ∙ rw t (sym (text_is s v room)) in
          subst (Handed b outcome) n (o, v.in_range, (few s v room).0, (few s v room).1)
      go false t =
          let k : refused r.refusal r.at ≡ result m = rw t at reply in
          absurd (no_result k)
