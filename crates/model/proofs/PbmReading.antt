-- A PBM is read exactly when it is one: the calls' promises by the laws of headers.
--   pbm_header_lem, pbm_layout, pbm_raster  what the reader finds in a PBM, and that 14 is not drawn
--   pbm_last                            its raster is its last bytes
--   layout_pbm                          where 14 is not drawn, there is a PBM
--   pbm_one                             a file is one PBM only
--   pbm_exclusive, pbm_verdict          what reading comes to
--   pbm_reading                         so each answer is given exactly when it is due
use mathlib.Core.Bool.{Bool, true, false, true≢false}
use mathlib.Core.List.{List, [], ◌∷◌}
use mathlib.Core.Logic.{◌⊎◌, inl, inr}
use mathlib.Core.Path.{◌≡◌, refl, sym, ◌∙◌, ap, ap₂, subst}
use Prim.Native.Nat.{ℕ, ◌-◌}
use native.Mathlib.Omega.{arith}
use borrow.Author.Tests.{ltb-true, ltb-false}
use lib.Dec.{ltb}
use lib.ListN.{length, drop, length-append}
use lib.Seq.{sets, drop-append_seam}
use Rattle.model.specs.declared.Size.{Size}
use Rattle.model.specs.Netpbm.{IsHeader, IsPbm, cells_in, packed_size, unpacked}
use Rattle.model.specs.PictureHeader.{pbm_header, most_value, size_of}
use Rattle.model.specs.PictureCalls.{wrong_layout, read_pbm_call}
use Rattle.model.specs.PicturePromises.{PbmReadingPromises}
use Rattle.model.proofs.Text.{cap_low, cap_is}
use Rattle.model.proofs.Header.{pbm_header_is_read, pbm_read_is_header}
use Rattle.model.proofs.PictureVerdicts.{Exclusive, PictureVerdict, none, short, read, read_exactly, read_stored}
use Rattle.model.proofs.PictureVerdicts.{14-exactly, 12-exactly, drawn_only}
use Rattle.model.proofs.Pictures.{LayoutFits, layout_by, layout_none}

-- ---- the layout and the reader
-- header and length of a file fit
abbrev Laid : List ℕ → Type 0
Laid file = LayoutFits (pbm_header file) (packed_size (size_of (pbm_header file))) (length file)

module _ {z : Size} {file : List ℕ} (p : IsPbm z file) where
  pub pbm_header_lem : pbm_header file
      ≡ record {
        good = true;
        width = z.width;
        height = z.height;
        maximum = 1;
        at = length p.head;
      }
  pbm_header_lem =
      ap pbm_header p.text
      ∙ pbm_header_is_read p.is_header p.raster
      ∙ rw (
        cap_low most_value z.width (omega (arith, p.in_size.wide.1)),
        cap_low most_value z.height (omega (arith, p.in_size.high.1)),
      )

  pbm_size : size_of (pbm_header file) ≡ z
  pbm_size = ap size_of pbm_header_lem

  pub pbm_layout : Laid file
  pbm_layout =
      let long = ap length p.text ∙ length-append p.head p.raster in
      rw pbm_header_lem (record {
        good = refl;
        in_size = p.in_size;
        allowed = (omega arith, omega arith);
        exact = omega (arith, long, p.raster_length);
      })

  pub pbm_raster : drop (pbm_header file).at file ≡ p.raster
  pbm_raster = ap₂ drop (ap (λ h. h.at) pbm_header_lem) p.text ∙ drop-append_seam p.head p.raster

  pub pbm_last : drop (length file - packed_size z) file ≡ p.raster
  pbm_last =
      let long = ap length p.text ∙ length-append p.head p.raster in
      let before : length file - packed_size z ≡ length p.head = omega (arith, long, p.raster_length) in
      ap₂ drop before p.text ∙ drop-append_seam p.head p.raster

pub layout_pbm : (file : List ℕ) → Laid file → IsPbm (size_of (pbm_header file)) file
layout_pbm file f =
    let r = pbm_read_is_header file f.good in
    let w = cap_is most_value r.width r.width_is (omega (arith, f.in_size.wide.1)) in
    let h = cap_is most_value r.height r.height_is (omega (arith, f.in_size.high.1)) in
    let long = ap length r.text ∙ length-append r.head r.raster in
    record {
      in_size = f.in_size;
      head = r.head;
      is_header = subst (λ v. IsHeader 52 v r.head) (ap₂ (λ a b. a ∷ b ∷ []) w h) r.is_header;
      raster = r.raster;
      raster_length = omega (arith, f.exact, r.at_is, long);
      text = r.text;
    }

pub pbm_one : {y z : Size} {file : List ℕ} → IsPbm y file → IsPbm z file → y ≡ z
pbm_one p q = sym (pbm_size p) ∙ pbm_size q

-- ---- what reading comes to
module _ (file dots : List ℕ) where
  -- it is no PBM; it is one; what is stored of it; 15 is never due
  abbrev NoPbm : Type 0
  NoPbm = (z : Size) → IsPbm z file → ⊥

  abbrev Is : Size → Type 0
  Is z = IsPbm z file

  abbrev stored : (z : Size) → Is z → List ℕ
  stored z p = sets dots 0 (unpacked z p.raster)

  abbrev size : Size
  size = size_of (pbm_header file)

  abbrev wrong : Bool
  wrong = wrong_layout (pbm_header file) (packed_size size) (length file)

  abbrev little : Bool
  little = ltb (length dots) (cells_in size)

  pub pbm_exclusive : Exclusive NoPbm ⊥ Is stored
  pbm_exclusive =
      record {
        none_other = λ n o. o;
        none_is = λ n p. n _ p;
        other_is = λ o p. o;
        one_size = pbm_one;
        same_stored = λ p q.
            ap₂ (λ z r. sets dots 0 (unpacked z r)) (pbm_one p q) (sym (pbm_raster p) ∙ pbm_raster q);
      }

  abbrev Reads : Type 0
  Reads =
      PictureVerdict NoPbm ⊥ Is stored (read_pbm_call file dots).reply (read_pbm_call file dots).left dots (length dots)

  pub pbm_verdict : Reads
  unfolding read_pbm_call
  pbm_verdict = go wrong refl little refl
    where
      go : (a : Bool) → wrong ≡ a → (b : Bool) → little ≡ b → Reads
      go true e b f = none (λ z p. true≢false (sym e ∙ layout_none _ _ _ (pbm_layout p))) (rw e refl) (rw e refl)
      go false e true f =
          short size (layout_pbm file (layout_by _ _ _ e)) (ltb-true _ _ f) (rw (e, f) refl) (rw (e, f) refl)
      go false e false f =
          let p = layout_pbm file (layout_by _ _ _ e) in
          read size p (ltb-false _ _ f) (rw (e, f) refl)
          (rw (e, f) (ap (λ r. sets dots 0 (unpacked size r)) (pbm_raster p)))

  -- each answer exactly when it is due
  pub pbm_reading : PbmReadingPromises file dots
  pbm_reading =
      let v = pbm_verdict in
      let a = pbm_exclusive in
      record {
        pbm_is_read_exactly = read_exactly _ _ _ _ _ _ _ _ a v;
        read_dots_are_bits = read_stored _ _ _ _ _ _ _ _ a v;
        raster_is_last = λ z p. pbm_last p;
        pbm_draws_14_exactly = 14-exactly _ _ _ _ _ _ _ _ a v;
        pbm_draws_12_exactly = 12-exactly _ _ _ _ _ _ _ _ a v;
        pbm_draws_nothing_else = λ number at e.
            let (k, o, l) = drawn_only _ _ _ _ _ _ _ _ a v number at e in (only k, o, l);
      }
    where
      only : {A B C : Type 0} → A ⊎ ((B × ⊥) ⊎ C) → A ⊎ C
      only (inl k) = inl k
      only (inr (inl (k, o))) = absurd o
      only (inr (inr k)) = inr k
