-- A PGM is read exactly when it is one: the calls' promises by the laws of headers.
--   pgm_header_lem, pgm_layout, pgm_raster  what the reader finds in a PGM, and that 14 is not drawn
--   layout_pgm                          where 14 is not drawn, there is a PGM
--   pgm_one                             a file is one PGM only
--   pgm_exclusive, pgm_verdict          what reading comes to
--   pgm_reading                         so each answer is given exactly when it is due
use mathlib.Core.Bool.{Bool, true, false, true≢false}
use mathlib.Core.List.{List}
use mathlib.Core.Logic.{◌⊎◌, inl, inr}
use mathlib.Core.Path.{◌≡◌, refl, sym, ◌∙◌, ap, ap₂, subst}
use Prim.Native.Nat.{ℕ}
use native.Mathlib.Omega.{arith}
use borrow.Author.Tests.{ltb-true, ltb-false, eqb-true, eqb-false}
use lib.Dec.{ltb, eqb}
use lib.ListN.{length, drop, length-append}
use lib.Seq.{sets, drop-append_seam}
use Rattle.model.specs.declared.Size.{Size}
use Rattle.model.specs.Netpbm.{IsHeader, IsPgm, cells_in, negated}
use Rattle.model.specs.PictureHeader.{pgm_header, most_value, size_of}
use Rattle.model.specs.PictureCalls.{wrong_layout, read_pgm_call}
use Rattle.model.specs.PicturePromises.{PgmReadingPromises}
use Rattle.model.proofs.Text.{cap_low, cap_is}
use Rattle.model.proofs.Header.{pgm_header_is_read, pgm_read_is_header}
use Rattle.model.proofs.PictureVerdicts.{Exclusive, PictureVerdict, none, other, short, read, read_exactly}
use Rattle.model.proofs.PictureVerdicts.{read_stored}
use Rattle.model.proofs.PictureVerdicts.{14-exactly, 15-exactly, 12-exactly, drawn_only}
use Rattle.model.proofs.Pictures.{LayoutFits, layout_by, layout_none}

-- ---- the layout and the reader
-- header and length of a file fit
abbrev Laid : List ℕ → Type 0
Laid file = LayoutFits (pgm_header file) (cells_in (size_of (pgm_header file))) (length file)

module _ {z : Size} {maximum : ℕ} {file : List ℕ} (p : IsPgm z maximum file) where
  pub pgm_header_lem : pgm_header file
      ≡ record {
        good = true;
        width = z.width;
        height = z.height;
        maximum = maximum;
        at = length p.head;
      }
  pgm_header_lem =
      ap pgm_header p.text
      ∙ pgm_header_is_read p.is_header p.raster
      ∙ rw (
        cap_low most_value z.width (omega (arith, p.in_size.wide.1)),
        cap_low most_value z.height (omega (arith, p.in_size.high.1)),
        cap_low most_value maximum p.allowed.1,
      )

  pgm_size : size_of (pgm_header file) ≡ z
  pgm_size = ap size_of pgm_header_lem

  pgm_maximum : (pgm_header file).maximum ≡ maximum
  pgm_maximum = ap (λ h. h.maximum) pgm_header_lem

  pub pgm_layout : Laid file
  pgm_layout =
      let long = ap length p.text ∙ length-append p.head p.raster in
      rw pgm_header_lem (record {
        good = refl;
        in_size = p.in_size;
        allowed = p.allowed;
        exact = omega (arith, long, p.raster_length);
      })

  pub pgm_raster : drop (pgm_header file).at file ≡ p.raster
  pgm_raster = ap₂ drop (ap (λ h. h.at) pgm_header_lem) p.text ∙ drop-append_seam p.head p.raster

pub layout_pgm : (file : List ℕ) → Laid file → IsPgm (size_of (pgm_header file)) (pgm_header file).maximum file
layout_pgm file f =
    let r = pgm_read_is_header file f.good in
    let w = cap_is most_value r.width r.width_is (omega (arith, f.in_size.wide.1)) in
    let h = cap_is most_value r.height r.height_is (omega (arith, f.in_size.high.1)) in
    let m = cap_is most_value r.maximum r.maximum_is f.allowed.1 in
    let long = ap length r.text ∙ length-append r.head r.raster in
    record {
      in_size = f.in_size;
      allowed = f.allowed;
      head = r.head;
      is_header = subst (λ v. IsHeader 53 v r.head) (rw (w, h, m)) r.is_header;
      raster = r.raster;
      raster_length = omega (arith, f.exact, r.at_is, long);
      text = r.text;
    }

pub pgm_one : {y z : Size} {m n : ℕ} {file : List ℕ} → IsPgm y m file → IsPgm z n file → (y ≡ z) × (m ≡ n)
pgm_one p q = (sym (pgm_size p) ∙ pgm_size q, sym (pgm_maximum p) ∙ pgm_maximum q)

-- ---- what reading comes to
module _ (file gray : List ℕ) where
  -- it is no PGM; it has another maximum; it is one; what is stored of it
  abbrev NoPgm : Type 0
  NoPgm = (z : Size) (m : ℕ) → IsPgm z m file → ⊥

  abbrev Other : Type 0
  Other = (z : Size) × (m : ℕ) × IsPgm z m file × (m ≡ 255 → ⊥)

  abbrev Is : Size → Type 0
  Is z = IsPgm z 255 file

  abbrev stored : (z : Size) → Is z → List ℕ
  stored z p = sets gray 0 (negated p.raster)

  abbrev size : Size
  size = size_of (pgm_header file)

  abbrev wrong : Bool
  wrong = wrong_layout (pgm_header file) (cells_in size) (length file)

  abbrev full : Bool
  full = eqb (pgm_header file).maximum 255

  abbrev little : Bool
  little = ltb (length gray) (cells_in size)

  pub pgm_exclusive : Exclusive NoPgm Other Is stored
  pgm_exclusive =
      record {
        none_other = λ n (z, m, p, _). n z m p;
        none_is = λ n p. n _ _ p;
        other_is = λ (z, m, p, not_255) q. not_255 (pgm_one p q).1;
        one_size = λ p q. (pgm_one p q).0;
        same_stored = λ p q. ap (λ r. sets gray 0 (negated r)) (sym (pgm_raster p) ∙ pgm_raster q);
      }

  abbrev Reads : Type 0
  Reads =
      PictureVerdict NoPgm Other Is stored (read_pgm_call file gray).reply (read_pgm_call file gray).left gray
      (length gray)

  pub pgm_verdict : Reads
  unfolding read_pgm_call
  pgm_verdict = go wrong refl full refl little refl
    where
      go : (a : Bool) → wrong ≡ a → (b : Bool) → full ≡ b → (c : Bool) → little ≡ c → Reads
      go true e b f c g = none (λ z m p. true≢false (sym e ∙ layout_none _ _ _ (pgm_layout p))) (rw e refl) (rw e refl)
      go false e false f c g =
          other (size, _, layout_pgm file (layout_by _ _ _ e), eqb-false _ _ f) (rw (e, f) refl) (rw (e, f) refl)
      go false e true f c g =
          last c g (subst (λ m. IsPgm size m file) (eqb-true _ _ f) (layout_pgm file (layout_by _ _ _ e)))
        where
          last : (c : Bool) → little ≡ c → IsPgm size 255 file → Reads
          last true g p = short size p (ltb-true _ _ g) (rw (e, f, g) refl) (rw (e, f, g) refl)
          last false g p =
              read size p (ltb-false _ _ g) (rw (e, f, g) refl)
              (rw (e, f, g) (ap (λ r. sets gray 0 (negated r)) (pgm_raster p)))

  -- each answer exactly when it is due
  pub pgm_reading : PgmReadingPromises file gray
  pgm_reading =
      let v = pgm_verdict in
      let a = pgm_exclusive in
      record {
        pgm_is_read_exactly = read_exactly _ _ _ _ _ _ _ _ a v;
        read_gray_is_negated = read_stored _ _ _ _ _ _ _ _ a v;
        pgm_draws_14_exactly = 14-exactly _ _ _ _ _ _ _ _ a v;
        pgm_draws_15_exactly = 15-exactly _ _ _ _ _ _ _ _ a v;
        pgm_draws_12_exactly = 12-exactly _ _ _ _ _ _ _ _ a v;
        pgm_draws_nothing_else = λ number at e.
            let (k, o, l) = drawn_only _ _ _ _ _ _ _ _ a v number at e in (only k, o, l);
      }
    where
      only : {A B C D : Type 0} → A ⊎ ((B × C) ⊎ D) → A ⊎ (B ⊎ D)
      only (inl k) = inl k
      only (inr (inl (k, _))) = inr (inl k)
      only (inr (inr k)) = inr (inr k)
