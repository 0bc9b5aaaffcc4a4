-- Laws of the bytes outside comments, both ways between the layout's pieces and the reader's list of them.
--   pieces_read            of pieces and a tail, the reader has the bytes outside comments and then those of the tail
--   Cut, cut               bytes that the reader has stand in pieces: which, and where they end
--   next_glyphs, walk      from the place after one of them, or after several, the reader has those that follow
use mathlib.Core.Bool.{Bool, true, false}
use mathlib.Core.List.{List, [], ◌∷◌, ◌++◌, map, append_assoc}
use mathlib.Core.Path.{◌≡◌, refl, sym, ◌∙◌, ap, ap₂, subst}
use Prim.Native.Nat.{ℕ, ◌+◌}
use native.Mathlib.Omega.{arith}
use borrow.Author.Tests.{eqb-true}
use lib.ListN.{length, drop, length-append}
use lib.Seq.{drop-drop, drop_at}
use Rattle.model.specs.Basic.{All}
use Rattle.model.specs.Netpbm.{opens_comment, ends_comment, Piece, byte, comment, Proper, pieces_text, uncommented}
use Rattle.model.specs.PictureHeader.{Glyph, glyphs, glyphs_at}
use Rattle.model.proofs.Basic.{all_append}

-- the bytes of what the reader has
abbrev pub bytes_of : List Glyph → List ℕ
bytes_of l = map (λ g. g.byte) l

-- ---- from pieces to what the reader has
comment_read : (text : List ℕ) (end : ℕ) (l : List ℕ) → All (λ b. ends_comment b ≡ false) text → ends_comment end ≡ true
    → (at : ℕ) → glyphs true at (text ++ (end ∷ l)) ≡ glyphs false (at + (length text + 1)) l
unfolding glyphs
comment_read [] end l t e at = rw e
comment_read (x ∷ text) end l (p, t) e at =
    rw (p, comment_read text end l t e (at + 1)) (ap (λ k. glyphs false k l) (omega arith))

-- what the reader has of pieces before a tail
pub record Shown (at : ℕ) (ps : List Piece) (tail : List ℕ) : Type 0 where
  pub shown : List Glyph
  pub bare : bytes_of shown ≡ uncommented ps
  pub read : glyphs false at (pieces_text ps ++ tail) ≡ shown ++ glyphs false (at + length (pieces_text ps)) tail

pub pieces_read : (ps : List Piece) (tail : List ℕ) → All Proper ps → (at : ℕ) → Shown at ps tail
unfolding glyphs
pieces_read [] tail h at = record { shown = []; bare = refl; read = ap (λ k. glyphs false k tail) (omega arith) }
pieces_read (byte b ∷ ps) tail (p, h) at =
    let r = pieces_read ps tail h (at + 1) in
    record {
      shown = record { byte = b; next = at + 1 } ∷ r.shown;
      bare = ap (λ l. b ∷ l) r.bare;
      read =
          rw (p, r.read)
          (ap (λ k. record { byte = b; next = at + 1 } ∷ (r.shown ++ glyphs false k tail)) (omega arith));
    }
pieces_read (comment text end ∷ ps) tail (p, h) at =
    let k = at + 1 + (length text + 1) in
    let r = pieces_read ps tail h k in
    let n : k + length (pieces_text ps) ≡ at + length (pieces_text (comment text end ∷ ps)) =
    omega (arith, length-append text (end ∷ pieces_text ps)) in
    record {
      shown = r.shown;
      bare = r.bare;
      read =
          ap (λ l. glyphs true (at + 1) l) (append_assoc text (end ∷ pieces_text ps) tail)
          ∙ comment_read text end (pieces_text ps ++ tail) p.0 p.1 (at + 1)
          ∙ r.read
          ∙ ap (λ j. r.shown ++ glyphs false j tail) n;
    }

-- ---- from what the reader has to pieces
-- the bytes gs, then the byte g: pieces before it, and the place after it
pub record Cut (at : ℕ) (l : List ℕ) (gs : List Glyph) (g : Glyph) (rest : List Glyph) : Type 0 where
  pub pieces : List Piece
  pub proper : All Proper pieces
  pub bare : uncommented pieces ≡ bytes_of gs
  pub tail : List ℕ
  pub text : l ≡ pieces_text pieces ++ (g.byte ∷ tail)
  pub plain : opens_comment g.byte ≡ false
  pub place : g.next ≡ at + (length (pieces_text pieces) + 1)
  pub further : rest ≡ glyphs false g.next tail

-- the same within a comment: first what is left of it
record Commented (at : ℕ) (l : List ℕ) (g : Glyph) (rest : List Glyph) : Type 0 where
  left : List ℕ
  silent : All (λ b. ends_comment b ≡ false) left
  end : ℕ
  ends : ends_comment end ≡ true
  after : List ℕ
  text : l ≡ left ++ (end ∷ after)
  first : Cut (at + (length left + 1)) after [] g rest

abbrev First : (l : List ℕ) (g : Glyph) (rest : List Glyph) → Type 0
First l g rest =
    ((at : ℕ) → glyphs false at l ≡ g ∷ rest → Cut at l [] g rest)
    × ((at : ℕ) → glyphs true at l ≡ g ∷ rest → Commented at l g rest)

none_first : {A : Type 0} {g : Glyph} {rest : List Glyph} → [] ≡ g ∷ rest → A
none_first e = absurd (let z : ◌≡◌ {A = ℕ} 0 1 = cc in omega arith)

-- a comment before it
opened : (x at : ℕ) {xs : List ℕ} {g : Glyph} {rest : List Glyph} → opens_comment x ≡ true → Commented (at + 1) xs g rest
    → Cut at (x ∷ xs) [] g rest
opened x at {xs} {g} o w =
    let c = w.first in
    let inner = w.end ∷ pieces_text c.pieces in
    let text : xs ≡ (w.left ++ inner) ++ (g.byte ∷ c.tail) =
    w.text ∙ rw c.text (sym (append_assoc w.left inner (g.byte ∷ c.tail))) in
    record {
      pieces = comment w.left w.end ∷ c.pieces;
      proper = ((w.silent, w.ends), c.proper);
      bare = c.bare;
      tail = c.tail;
      text = ap₂ (λ a l. a ∷ l) (eqb-true x 35 o) text;
      plain = c.plain;
      place = c.place ∙ omega (arith, length-append w.left inner);
      further = c.further;
    }

module _ (x : ℕ) (xs : List ℕ) (g : Glyph) (rest : List Glyph) (ih : First xs g rest) (at : ℕ) where
  -- outside comments: the byte opens one, or it is the first
  outside : (b : Bool) → opens_comment x ≡ b → glyphs false at (x ∷ xs) ≡ g ∷ rest → Cut at (x ∷ xs) [] g rest
  unfolding glyphs
  outside true o e = opened x at o (ih.1 (at + 1) (rw o at e))
  outside false o e =
      let f : record { byte = x; next = at + 1 } ∷ glyphs false (at + 1) xs ≡ g ∷ rest = rw o at e in
      let h : record { byte = x; next = at + 1 } ≡ g = cc in
      record {
        pieces = [];
        proper = tt;
        bare = refl;
        tail = xs;
        text = ap (λ (k : Glyph). k.byte ∷ xs) h;
        plain = subst (λ (k : Glyph). opens_comment k.byte ≡ false) h o;
        place = sym (ap (λ (k : Glyph). k.next) h);
        further = subst (λ (k : Glyph). rest ≡ glyphs false k.next xs) h cc;
      }

  -- within one: the byte ends it or not
  inside : (b : Bool) → ends_comment x ≡ b → glyphs true at (x ∷ xs) ≡ g ∷ rest → Commented at (x ∷ xs) g rest
  unfolding glyphs
  inside true o e =
      record {
        left = [];
        silent = tt;
        end = x;
        ends = o;
        after = xs;
        text = refl;
        first = ih.0 (at + 1) (rw o at e);
      }
  inside false o e =
      let w = ih.1 (at + 1) (rw o at e) in
      record {
        left = x ∷ w.left;
        silent = (o, w.silent);
        end = w.end;
        ends = w.ends;
        after = w.after;
        text = ap (λ l. x ∷ l) w.text;
        first = subst (λ k. Cut k w.after [] g rest) (omega arith) w.first;
      }

first_glyph : (l : List ℕ) (g : Glyph) (rest : List Glyph) → First l g rest
unfolding glyphs
first_glyph [] g rest = (λ at e. none_first e, λ at e. none_first e)
first_glyph (x ∷ xs) g rest =
    let ih = first_glyph xs g rest in
    (λ at. outside x xs g rest ih at (opens_comment x) refl, λ at. inside x xs g rest ih at (ends_comment x) refl)

-- pieces one after the other
text_append : (ps qs : List Piece) → pieces_text (ps ++ qs) ≡ pieces_text ps ++ pieces_text qs
text_append [] qs = refl
text_append (byte b ∷ ps) qs = ap (λ l. b ∷ l) (text_append ps qs)
text_append (comment text end ∷ ps) qs =
    ap (λ l. 35 ∷ (text ++ (end ∷ l))) (text_append ps qs)
    ∙ ap (λ l. 35 ∷ l) (sym (append_assoc text (end ∷ pieces_text ps) (pieces_text qs)))

bare_append : (ps qs : List Piece) → uncommented (ps ++ qs) ≡ uncommented ps ++ uncommented qs
bare_append [] qs = refl
bare_append (byte b ∷ ps) qs = ap (λ l. b ∷ l) (bare_append ps qs)
bare_append (comment text end ∷ ps) qs = bare_append ps qs

pub cut : (gs : List Glyph) (g : Glyph) (rest : List Glyph) (at : ℕ) (l : List ℕ)
    → glyphs false at l ≡ gs ++ (g ∷ rest) → Cut at l gs g rest
cut [] g rest at l e = (first_glyph l g rest).0 at e
cut (f ∷ gs) g rest at l e =
    let a = (first_glyph l f (gs ++ (g ∷ rest))).0 at e in
    let b = cut gs g rest f.next a.tail (sym a.further) in
    let more = byte f.byte ∷ b.pieces in
    let whole : pieces_text (a.pieces ++ more) ≡ pieces_text a.pieces ++ (f.byte ∷ pieces_text b.pieces) =
    text_append a.pieces more in
    record {
      pieces = a.pieces ++ more;
      proper = all_append Proper a.pieces more a.proper (a.plain, b.proper);
      bare = bare_append a.pieces more ∙ ap₂ (λ k l. k ++ (f.byte ∷ l)) a.bare b.bare;
      tail = b.tail;
      text =
          a.text
          ∙ ap (λ l. pieces_text a.pieces ++ (f.byte ∷ l)) b.text
          ∙ sym (append_assoc (pieces_text a.pieces) (f.byte ∷ pieces_text b.pieces) (g.byte ∷ b.tail))
          ∙ ap (λ l. l ++ (g.byte ∷ b.tail)) (sym whole);
      plain = b.plain;
      place =
          b.place
          ∙ omega (
            arith,
            a.place,
            ap length whole,
            length-append (pieces_text a.pieces) (f.byte ∷ pieces_text b.pieces),
          );
      further = b.further;
    }

-- ---- from a place that the reader has come to
-- the place after the last of them
abbrev pub last_next : ℕ → List Glyph → ℕ
last_next at [] = at
last_next at (g ∷ l) = last_next g.next l

module _ (s : List ℕ) where
  next_glyphs : (at : ℕ) (g : Glyph) (l : List Glyph) → glyphs_at s at ≡ g ∷ l → glyphs_at s g.next ≡ l
  next_glyphs at g l e =
      let c = cut [] g l at (drop at s) e in
      let before = pieces_text c.pieces ++ (g.byte ∷ []) in
      let n : length before ≡ length (pieces_text c.pieces) + 1 = length-append (pieces_text c.pieces) _ in
      let d : drop g.next s ≡ c.tail =
      ap (λ k. drop k s) c.place
      ∙ sym (drop-drop (length (pieces_text c.pieces) + 1) at s)
      ∙ ap (drop (length (pieces_text c.pieces) + 1))
      (c.text ∙ sym (append_assoc (pieces_text c.pieces) (g.byte ∷ []) c.tail))
      ∙ drop_at before c.tail _ n in
      ap (glyphs false g.next) d ∙ sym c.further

  pub walk : (gs : List Glyph) {rest : List Glyph} (at : ℕ) → glyphs_at s at ≡ gs ++ rest
      → glyphs_at s (last_next at gs) ≡ rest
  walk [] at e = e
  walk (g ∷ gs) at e = walk gs g.next (next_glyphs at g _ e)
