-- Reading and writing a sheet, as functions from what the call is handed to its answer and to what its buffers hold at
-- exit. A buffer may be longer than needed, and what lies past the part written remains.
use Rattle.std.specs.Prelude.{List, ℕ, leb, eqb, length}
use Rattle.std.proofs.lemmas.List.Edits.{sets}
use Rattle.model.specs.declared.Measures.{Measures}
use Rattle.model.specs.Basic.{pick}
use Rattle.model.specs.Refusal.{write_refusal}
use Rattle.model.specs.Calls.{Reply, result, refused, Outcome, unless}
use Rattle.model.specs.Sheet.{Sheet, sheet_with, sheet_text}
use Rattle.model.specs.Format.{Read, read_sheet}

-- ---- reading
pub record SheetBuffers : Type 0 where
  pub psf : List ℕ
  pub gray : List ℕ
  pub dots : List ℕ

abbrev pub sheet_buffers : (psf gray dots : List ℕ) → SheetBuffers
sheet_buffers psf gray dots = record { psf = psf; gray = gray; dots = dots }

-- a sheet at the front of the buffers; what lies past it remains
abbrev pub stored : Sheet → SheetBuffers → SheetBuffers
stored s b = sheet_buffers (sets b.psf 0 s.psf) (sets b.gray 0 s.gray) (sets b.dots 0 s.dots)

-- a sheet that was read is stored; one that was refused leaves the buffers
abbrev pub outcome_of : Read → (psf gray dots : List ℕ) → Outcome Measures SheetBuffers
outcome_of r psf gray dots = record {
  reply = pick (eqb r.refusal 0) (result r.sheet.measures) (refused r.refusal r.at);
  left = stored r.sheet (sheet_buffers psf gray dots);
}

unfoldable pub read_call : (bytes psf gray dots : List ℕ) → Outcome Measures SheetBuffers
read_call bytes psf gray dots = outcome_of (read_sheet bytes (length psf) (length gray) (length dots)) psf gray dots

-- ---- writing
-- the writer always writes start 2
abbrev pub with_given : Measures → Measures
with_given m =
    record { width = m.width; height = m.height; radius = m.radius; reach = m.reach; start = 2 }

abbrev pub written_sheet : Measures → (psf gray dots : List ℕ) → Sheet
written_sheet m psf gray dots = sheet_with (with_given m) psf gray dots

-- the text where it fits, else 12 at the length of the output
abbrev pub write_text : (text out : List ℕ) → Outcome ℕ (List ℕ)
write_text text out =
    pick (leb (length text) (length out))
    (record { reply = result (length text); left = sets out 0 text })
    (record { reply = refused 12 (length out); left = out })

-- 1 to 5 and 7 first
unfoldable pub write_call : Measures → (psf gray dots out : List ℕ) → Outcome ℕ (List ℕ)
write_call m psf gray dots out =
    unless (write_refusal m psf gray dots) out (write_text (sheet_text (written_sheet m psf gray dots)) out)
