-- Laws of headers, both ways between the layout's words and the reader: once for a header of any number of values, and
-- then for those of PBM and PGM.
--   pbm_header_is_read, pgm_header_is_read  a header by the layout is read, whatever raster follows
--   PbmStands, pbm_read_is_header           what is read is a header by the layout
--   PgmStands, pgm_read_is_header
use mathlib.Core.Bool.{true, false, true≢false}
use mathlib.Core.List.{List, [], ◌∷◌, ◌++◌, map, append_assoc}
use mathlib.Core.Path.{◌≡◌, refl, sym, ◌∙◌, ap, ap₂, subst}
use Prim.Native.Nat.{ℕ, suc, ◌+◌}
use native.Mathlib.Omega.{arith}
use borrow.Author.Tests.{le-leb, eq-eqb, eqb-true}
use lib.Dec.{leb, eqb}
use lib.ListN.{length, drop, get_or, length-append, length-map}
use Rattle.model.specs.PictureHeader.{Found}
use Rattle.model.specs.PictureHeader.{PictureHeader}
use Rattle.model.specs.Text.{cap_to}
use Rattle.model.specs.Netpbm.{is_space, value_of, pieces_text, IsHeader}
use Rattle.model.specs.PictureHeader.{glyphs, found, most_value, magic, end_next, pbm_header, pgm_header}
use Rattle.model.proofs.Text.{and_true}
use Rattle.model.proofs.Glyphs.{pieces_read, Cut, cut}
use Rattle.model.proofs.Fields.{space_no_comment}
use Rattle.model.proofs.Numerals.{numbers_next, number_values, numerals_read, NumbersRead, numbers_read}

-- ---- whole headers, of any number of values
magic_read : (kind : ℕ) (t : List ℕ) → (magic (80 ∷ kind ∷ t) kind).some ≡ true
magic_read kind t = rw (le-leb 2 (suc (suc (length t))) (omega arith), eq-eqb kind kind refl)

magic_stands : (kind : ℕ) (s : List ℕ) → (magic s kind).some ≡ true → s ≡ 80 ∷ kind ∷ drop 2 s
magic_stands kind [] e = absurd (true≢false (sym e))
magic_stands kind (x ∷ []) e = absurd (true≢false (sym e))
magic_stands kind (x ∷ y ∷ t) e =
    let (first, second) = and_true (eqb x 80) (eqb y kind) (and_true (leb 2 (suc (suc (length t)))) _ e).1 in
    ap₂ (λ a b. a ∷ b ∷ t) (eqb-true x 80 first) (eqb-true y kind second)

-- what the reader finds: a good header of these values, and the place after it
abbrev Reads : (kind : ℕ) (values s : List ℕ) (at : ℕ) → Type 0
Reads kind values s at =
    let f = magic s kind in
    (end_next s (numbers_next s (length values) f) ≡ found true 0 at)
    × (number_values s (length values) f ≡ map (cap_to most_value) values)

last_read : (at b : ℕ) (l : List ℕ) → is_space b ≡ true
    → glyphs false at (b ∷ l) ≡ record { byte = b; next = at + 1 } ∷ glyphs false (at + 1) l
unfolding glyphs
last_read at b l e = rw (space_no_comment b e)

text_read : {kind : ℕ} {values head : List ℕ} (p : IsHeader kind values head) (raster s : List ℕ)
    → s ≡ 80 ∷ kind ∷ (pieces_text p.pieces ++ (p.last ∷ raster)) → Reads kind values s (length head)
text_read {kind} {values} {head} p raster s e =
    let r = pieces_read p.pieces (p.last ∷ raster) p.proper 2 in
    let k = 2 + length (pieces_text p.pieces) in
    let some : (magic s kind).some ≡ true = rw e (magic_read kind (pieces_text p.pieces ++ (p.last ∷ raster))) in
    let text =
    ap (λ l. glyphs false 2 (drop 2 l)) e ∙ r.read
    ∙ ap (λ l. r.shown ++ l) (last_read k p.last raster p.last_is_space) in
    let (end, values) =
    numerals_read s p.numerals p.are_numerals (magic s kind) some r.shown _ _ text (r.bare ∙ p.bare)
    p.last_is_space in
    let place : k + 1 ≡ length head =
    sym (ap length p.text ∙ omega (arith, length-append (pieces_text p.pieces) (p.last ∷ []))) in
    subst (λ v. Reads kind v s (length head)) p.values_are
    (rw (length-map p.numerals value_of) (end ∙ ap (found true 0) place, values))

header_read : {kind : ℕ} {values head : List ℕ} → IsHeader kind values head → (raster : List ℕ)
    → Reads kind values (head ++ raster) (length head)
header_read {kind} p raster =
    text_read p raster _
    (ap (λ l. l ++ raster) p.text
    ∙ ap (λ l. 80 ∷ kind ∷ l) (append_assoc (pieces_text p.pieces) (p.last ∷ []) raster))

-- the layout's header that was read
record Stands (kind n : ℕ) (s : List ℕ) : Type 0 where
  values : List ℕ
  head : List ℕ
  raster : List ℕ
  text : s ≡ head ++ raster
  is_header : IsHeader kind values head
  place : (end_next s (numbers_next s n (magic s kind))).at ≡ length head
  same : number_values s n (magic s kind) ≡ map (cap_to most_value) values

header_stands : (kind n : ℕ) (s : List ℕ) → (end_next s (numbers_next s n (magic s kind))).some ≡ true → Stands kind n s
header_stands kind n s e = go (numbers_read s n (magic s kind) e)
  where
    whole : (r : NumbersRead s n (magic s kind)) → Cut 2 (drop 2 s) r.shown r.last r.rest → Stands kind n s
    whole r c =
        let inner = pieces_text c.pieces in
        record {
          values = map value_of r.numerals;
          head = 80 ∷ kind ∷ (inner ++ (r.last.byte ∷ []));
          raster = c.tail;
          text =
              magic_stands kind s r.some
              ∙ ap (λ l. 80 ∷ kind ∷ l)
              (c.text ∙ sym (append_assoc inner (r.last.byte ∷ []) c.tail));
          is_header = record {
            pieces = c.pieces;
            proper = c.proper;
            numerals = r.numerals;
            are_numerals = r.are_numerals;
            last = r.last.byte;
            last_is_space = r.last_is_space;
            text = refl;
            bare = c.bare ∙ r.bare;
            values_are = refl;
          };
          place = r.place ∙ c.place ∙ omega (arith, length-append inner (r.last.byte ∷ []));
          same = r.values;
        }

    go : NumbersRead s n (magic s kind) → Stands kind n s
    go r = whole r (cut r.shown r.last r.rest 2 (drop 2 s) r.text)

-- the header by what is found of its end and by its values: a PBM has no third, and its maximum is 1
abbrev header_of : Found → (values : List ℕ) → PictureHeader
header_of e vs =
    record { good = e.some; width = get_or vs 0 0; height = get_or vs 1 0; maximum = get_or vs 2 1; at = e.at }

-- the values of a list one by one
first_value : {a : ℕ} {l : List ℕ} (f : ℕ → ℕ) (vs : List ℕ) → a ∷ l ≡ map f vs
    → (v : ℕ) × (rest : List ℕ) × (vs ≡ v ∷ rest) × (a ≡ f v) × (l ≡ map f rest)
first_value f [] e = absurd (let z : ◌≡◌ {A = ℕ} 0 1 = cc in omega arith)
first_value f (v ∷ vs) e = (v, vs, refl, cc, cc)

no_value : (f : ℕ → ℕ) (vs : List ℕ) → [] ≡ map f vs → vs ≡ []
no_value f [] e = refl
no_value f (v ∷ vs) e = absurd (let z : ◌≡◌ {A = ℕ} 0 1 = cc in omega arith)

-- ---- PBM: two values
pub pbm_header_is_read : {w h : ℕ} {head : List ℕ} → IsHeader 52 (w ∷ h ∷ []) head → (raster : List ℕ)
    → pbm_header (head ++ raster)
    ≡ record {
      good = true;
      width = cap_to most_value w;
      height = cap_to most_value h;
      maximum = 1;
      at = length head;
    }
unfolding pbm_header
pbm_header_is_read p raster = let (end, values) = header_read p raster in ap₂ header_of end values

pub record PbmStands (s : List ℕ) : Type 0 where
  pub width : ℕ
  pub height : ℕ
  pub head : List ℕ
  pub raster : List ℕ
  pub text : s ≡ head ++ raster
  pub is_header : IsHeader 52 (width ∷ height ∷ []) head
  pub at_is : (pbm_header s).at ≡ length head
  pub width_is : (pbm_header s).width ≡ cap_to most_value width
  pub height_is : (pbm_header s).height ≡ cap_to most_value height

pub pbm_read_is_header : (s : List ℕ) → (pbm_header s).good ≡ true → PbmStands s
unfolding pbm_header
pbm_read_is_header s e = go (header_stands 52 2 s e)
  where
    go : Stands 52 2 s → PbmStands s
    go r =
        let (w, more, p, same_w, t) = first_value (cap_to most_value) r.values r.same in
        let (h, none, q, same-h, u) = first_value (cap_to most_value) more t in
        let all : r.values ≡ w ∷ h ∷ [] =
        p ∙ ap (λ l. w ∷ l) (q ∙ ap (λ l. h ∷ l) (no_value (cap_to most_value) none u)) in
        record {
          width = w;
          height = h;
          head = r.head;
          raster = r.raster;
          text = r.text;
          is_header = subst (λ v. IsHeader 52 v r.head) all r.is_header;
          at_is = r.place;
          width_is = same_w;
          height_is = same-h;
        }

-- ---- PGM: three
pub pgm_header_is_read : {w h m : ℕ} {head : List ℕ} → IsHeader 53 (w ∷ h ∷ m ∷ []) head → (raster : List ℕ)
    → pgm_header (head ++ raster)
    ≡ record {
      good = true;
      width = cap_to most_value w;
      height = cap_to most_value h;
      maximum = cap_to most_value m;
      at = length head;
    }
unfolding pgm_header
pgm_header_is_read p raster = let (end, values) = header_read p raster in ap₂ header_of end values

pub record PgmStands (s : List ℕ) : Type 0 where
  pub width : ℕ
  pub height : ℕ
  pub maximum : ℕ
  pub head : List ℕ
  pub raster : List ℕ
  pub text : s ≡ head ++ raster
  pub is_header : IsHeader 53 (width ∷ height ∷ maximum ∷ []) head
  pub at_is : (pgm_header s).at ≡ length head
  pub width_is : (pgm_header s).width ≡ cap_to most_value width
  pub height_is : (pgm_header s).height ≡ cap_to most_value height
  pub maximum_is : (pgm_header s).maximum ≡ cap_to most_value maximum

pub pgm_read_is_header : (s : List ℕ) → (pgm_header s).good ≡ true → PgmStands s
unfolding pgm_header
pgm_read_is_header s e = go (header_stands 53 3 s e)
  where
    go : Stands 53 3 s → PgmStands s
    go r =
        let (w, more, p, same_w, t) = first_value (cap_to most_value) r.values r.same in
        let (h, least, q, same-h, u) = first_value (cap_to most_value) more t in
        let (m, none, o, same-m, v) = first_value (cap_to most_value) least u in
        let all : r.values ≡ w ∷ h ∷ m ∷ [] =
        p ∙ ap (λ l. w ∷ l) (q ∙ ap (λ l. h ∷ l) (o ∙ ap (λ l. m ∷ l) (no_value (cap_to most_value) none v))) in
        record {
          width = w;
          height = h;
          maximum = m;
          head = r.head;
          raster = r.raster;
          text = r.text;
          is_header = subst (λ v. IsHeader 53 v r.head) all r.is_header;
          at_is = r.place;
          width_is = same_w;
          height_is = same-h;
          maximum_is = same-m;
        }
