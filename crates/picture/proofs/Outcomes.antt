-- The outcomes of the calls.
--   told_is     what a reader answers is the header that was found, or none
--   header_is   the header that was found, as the definitions have it
--   pbm_drawn   what a judge draws of what was found is drawn of the header; of a PBM
--   pgm_drawn   the same of a PGM
--   ends_err    a call that a judge refuses
--   has_room    a buffer that is long enough
--   file_put    a file put, its head and then its raster
use Rattle.std.proofs.Common.{◌≡◌, ℕ, ◌+◌, ◌-◌, ◌≤◌, Bool, true, false, List, [], ◌∷◌, ◌++◌, length, take, drop, Ok, Err, Some, refl, sym, ◌∙◌, ap, arith, append_assoc}
use mathlib.Core.List.{append-nil}
use native.Mathlib.Nat.{zero-add}
use borrow.Rule.Slice.PartMut.{put_mid, mid_of}
use borrow.Author.Tests.{ltb-false}
use lib.Seq.{sets, drop-drop}
use Rattle.std.specs.Prelude.{Result, Option}
use Rattle.std.specs.Result.{IsErrAnd, result_ok}
use Rattle.std.proofs.lemmas.Result.{err_from_is_err_and}
use Rattle.std.proofs.lemmas.Option.{same_Some, none-some}
use Rattle.std.proofs.lemmas.Slice.{between_to_end}
use Rattle.std.proofs.lemmas.List.Edits.{sets-eq}
use lib.ListN.{length-drop, drop_of_length-le}
use Rattle.model.specs.declared.After.{After}
use Rattle.model.specs.declared.NetpbmHeader.{NetpbmHeader}
use Rattle.model.specs.PictureHeader.{PictureHeader}
use Rattle.model.specs.declared.Reason.{Reason}
use Rattle.model.specs.Reason.{number_of}
use Rattle.model.specs.Calls.{reply_of, Outcome, Ends, unless}
use Rattle.model.specs.Text.{Puts}
use Rattle.model.specs.Refusal.{first_of}
use Rattle.model.specs.PictureCalls.{bad_room, pbm_refusals, pgm_refusals}
use Rattle.model.proofs.Calls.{ends_refused}
use Rattle.model.proofs.Puts.{puts_rest}
use Rattle.model.proofs.Refusal.{none}
use Rattle.invariants.specs.Pictures.{header_in, header_of}
use Rattle.picture_header.specs.Read.{header_told}
use Rattle.picture_judge.specs.Found.{header_found}
use Rattle.judge_parts.proofs.Drawn.{some_number}

pub told_is : (r : Result (After NetpbmHeader) (After NetpbmHeader)) {h : PictureHeader} {o : Option (After NetpbmHeader)}
    → o ≡ result_ok r → header_told r ≡ h → o ≡ header_of h
told_is (Ok a) e e' = rw (e, ← e')
told_is (Err a) e e' = rw (e, ← e')

pub header_is : (h : PictureHeader) (x : After NetpbmHeader) → header_of h ≡ Some x → h ≡ header_in x
header_is h x e = go h.good refl
  where
    go : (b : Bool) → h.good ≡ b → h ≡ header_in x
    go true good = rw (← same_Some _ x (rw good at e), ← good)
    go false good = absurd (none-some x (rw good at e))

-- where there is none, 14 is drawn of both
module _ (o : Option (After NetpbmHeader)) (h : PictureHeader) (e : o ≡ header_of h) (file room : ℕ) where
  pub pbm_drawn : first_of (pbm_refusals (header_found o) file room) ≡ first_of (pbm_refusals h file room)
  pbm_drawn = go h.good refl
    where
      go : (b : Bool) → h.good ≡ b
          → first_of (pbm_refusals (header_found o) file room) ≡ first_of (pbm_refusals h file room)
      go true good = rw (e, good) refl
      go false good = rw (e, good) refl

  pub pgm_drawn : first_of (pgm_refusals (header_found o) file room) ≡ first_of (pgm_refusals h file room)
  pgm_drawn = go h.good refl
    where
      go : (b : Bool) → h.good ≡ b
          → first_of (pgm_refusals (header_found o) file room) ≡ first_of (pgm_refusals h file room)
      go true good = rw (e, good) refl
      go false good = rw (e, good) refl

pub ends_err : {A B : Type 0} (b : B) (o : Outcome A B) (n : ℕ) (q : Result A Reason) (r : Reason) → IsErrAnd q (λ a. a ≡ r)
    → number_of r ≡ n → Ends (unless n b o) (reply_of q) b
ends_err b o n q r h e =
    let (a, is, same) = err_from_is_err_and q h in
    rw (is, same) (ends_refused b o n e (some_number r))

front_put : (a : ℕ) (xs l : List ℕ) → a + length l ≤ length xs
    → put_mid a (length xs - a) xs (sets (mid_of a (length xs - a) xs) 0 l) ≡ sets xs a l
front_put a xs l h =
    let long = length-drop a xs in
    let part = between_to_end xs a (length xs) (omega arith) in
    let past = drop_of_length-le (drop a xs) {i = length xs - a} (omega arith) in
    let into = rw zero-add at (sets-eq l (drop a xs) 0 (omega arith)) in
    rw (part, into, past, append-nil, drop-drop) (sym (sets-eq l xs a h ∙ append_assoc (take a xs) l (drop (a + length l) xs)))

-- ---- writing
pub has_room : (needed room : ℕ) → 0 ≡ first_of (bad_room needed room ∷ []) → needed ≤ room
has_room needed room e =
    let (short, _) = none (bad_room needed room ∷ []) tt e refl in
    ltb-false room needed short

-- a file whose head is put, and then the raster at the front of what follows it
pub file_put : {head out put into : List ℕ} {end : ℕ} (raster : List ℕ) → Puts head out put 0 end
    → length head + length raster ≤ length put → into ≡ sets (mid_of end (length put - end) put) 0 raster
    → put_mid end (length put - end) put into ≡ sets out 0 (head ++ raster)
file_put {put} {end} raster p room e =
    puts_rest raster p
    (ap (put_mid end (length put - end) put) e ∙ front_put end put raster (omega (arith, p.end_is)))
