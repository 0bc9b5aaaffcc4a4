-- Laws of the lines of a PFM, both ways between the layout's words and the reader.
--   big_line, little_line    the texts of the two scales
--   lines_read               the lines of a header are read, whatever follows
--   LinesStand, lines_stand  what is read is the lines of a header
use mathlib.Core.Bool.{Bool, true, false, true≢false}
use mathlib.Core.List.{List, [], ◌∷◌, ◌++◌, append_assoc}
use mathlib.Core.Logic.{◌⊎◌, inl, inr}
use mathlib.Core.Path.{◌≡◌, refl, sym, ◌∙◌, ap}
use Prim.Native.Nat.{ℕ, ◌+◌}
use native.Mathlib.Omega.{arith}
use borrow.Author.Tests.{eqb-true}
use lib.Dec.{eqb}
use lib.Ieee.{Float, lt}
use lib.ListN.{length, get_or, drop, length-append}
use Rattle.model.specs.declared.PfmHeader.{PfmHeader}
use Rattle.model.specs.PfmCalls.{PfmLines}
use Rattle.model.specs.Format.{Place}
use Rattle.model.specs.Basic.{pick}
use Rattle.model.specs.Text.{bytes}
use Rattle.model.specs.Format.{text_of, fixed_at, Parsed, parse}
use Rattle.model.specs.Netpbm.{InSize}
use Rattle.model.specs.Pfm.{one_float, minus_one, size_in, scale_line, pfm_head}
use Rattle.model.specs.PfmCalls.{size_parts, lines_of, no_lines, with_scale, scale_after, pfm_lines}
use Rattle.model.proofs.Format.{Good, Inside}
use Rattle.model.proofs.Agrees.{agrees_all, fixed_agrees, read_text_lem}
use Rattle.model.proofs.Parse.{fixed_back, inside_read}

-- ---- the texts
pub big_line : scale_line one_float ≡ bytes "1.0\n"
unfolding lt
big_line = refl

pub little_line : scale_line minus_one ≡ bytes "-1.0\n"
unfolding lt
little_line = refl

-- they begin differently
one_line : (l r r' : List ℕ) → l ≡ scale_line one_float ++ r → l ≡ scale_line minus_one ++ r' → ⊥
one_line l r r' e f =
    let big : get_or l 0 0 ≡ 49 = ap (λ k. get_or k 0 0) e ∙ ap (λ k. get_or (k ++ r) 0 0) big_line in
    let little : get_or l 0 0 ≡ 45 = ap (λ k. get_or k 0 0) f ∙ ap (λ k. get_or (k ++ r') 0 0) little_line in
    omega arith

-- fixed bytes that are read stand there
fixed_stands : (bs s : List ℕ) (at : ℕ) → (fixed_at bs s at).refusal ≡ 0
    → (drop at s ≡ bs ++ drop (fixed_at bs s at).at s) × ((fixed_at bs s at).at ≡ at + length bs)
fixed_stands bs s at z =
    let a = fixed_agrees bs s at in
    let same : bs ≡ a.before = agrees_all a z in
    (a.stands ∙ ap (λ l. l ++ drop (fixed_at bs s at).at s) (sym same), a.rises ∙ ap (λ l. at + length l) (sym same))

-- ---- the size
abbrev size_values : PfmHeader → List ℕ
size_values h = h.width ∷ h.height ∷ []

good_size : Good size_parts
unfolding size_parts
good_size = (refl, (refl, tt))

-- the head is the text of the size and the scale's line
head_text_lem : (h : PfmHeader) → pfm_head h ≡ text_of size_parts (size_values h) ++ scale_line h.scale
unfolding size_parts
head_text_lem h = refl

head_rest : (h : PfmHeader) (rest : List ℕ)
    → pfm_head h ++ rest ≡ text_of size_parts (size_values h) ++ (scale_line h.scale ++ rest)
head_rest h rest =
    ap (λ l. l ++ rest) (head_text_lem h) ∙ append_assoc (text_of size_parts (size_values h)) (scale_line h.scale) rest

head_length_lem : (h : PfmHeader) → length (pfm_head h) ≡ length (text_of size_parts (size_values h)) + length (scale_line h.scale)
head_length_lem h = ap length (head_text_lem h) ∙ length-append (text_of size_parts (size_values h)) (scale_line h.scale)

size_inside : (h : PfmHeader) → InSize (size_in h) → Inside size_parts (size_values h)
unfolding size_parts
size_inside h z = (z.wide.0, z.wide.1, (z.high.0, z.high.1, tt))

-- values that are read are a size
inside_size : (vs : List ℕ) → Inside size_parts vs
    → (vs ≡ get_or vs 0 0 ∷ get_or vs 1 0 ∷ []) × InSize (record { width = get_or vs 0 0; height = get_or vs 1 0 })
unfolding size_parts
inside_size [] i = absurd i
inside_size (w ∷ []) i = absurd i.2
inside_size (w ∷ h ∷ []) i = (refl, record { wide = (i.0, i.1); high = (i.2.0, i.2.1) })
inside_size (w ∷ h ∷ x ∷ vs) i = absurd i.2.2

-- ---- the lines of a header are read
module _ (h : PfmHeader) (z : InSize (size_in h)) (s rest : List ℕ) (e : s ≡ pfm_head h ++ rest) where
  abbrev p : Parsed
  p = parse size_parts s 0

  size_read : (p.refusal ≡ 0) × (p.values ≡ size_values h) × (drop p.at s ≡ scale_line h.scale ++ rest)
      × (p.at ≡ length (text_of size_parts (size_values h)))
  size_read =
      let (a, b, c, d) = inside_read size_parts good_size s 0 (size_values h) (scale_line h.scale ++ rest)
      (size_inside h z) (e ∙ head_rest h rest) in
      (a, b, c, omega arith)

  abbrev Read : PfmLines
  Read = record { good = true; header = h; at = length (pfm_head h) }

  abbrev scaled : Float → PfmLines → PfmLines
  scaled v other = with_scale v h.width h.height s p.at other

  -- with its own scale
  scale_read : (other : PfmLines) → scaled h.scale other ≡ Read
  scale_read other =
      let (a, b, c, d) = size_read in
      let f = fixed_back (scale_line h.scale) s p.at rest c in
      let at : p.at + length (scale_line h.scale) ≡ length (pfm_head h) = omega (arith, head_length_lem h) in
      rw (f, at)

  -- and not with the other one
  scale_passed : h.scale ≡ minus_one → (other : PfmLines) → scaled one_float other ≡ other
  scale_passed m other = go (eqb (fixed_at (scale_line one_float) s p.at).refusal 0) refl
    where
      go : (b : Bool) → eqb (fixed_at (scale_line one_float) s p.at).refusal 0 ≡ b → scaled one_float other ≡ other
      go false f = rw f
      go true f =
          let stands = (fixed_stands (scale_line one_float) s p.at (eqb-true _ 0 f)).0 in
          absurd (one_line (drop p.at s) _ rest stands (size_read.2 ∙ ap (λ v. scale_line v ++ rest) m))

  pub lines_read : (h.scale ≡ one_float) ⊎ (h.scale ≡ minus_one) → pfm_lines s ≡ Read
  unfolding pfm_lines scale_after
  lines_read v = rw (size_read.0, size_read.1) (go v)
    where
      go : (h.scale ≡ one_float) ⊎ (h.scale ≡ minus_one) → scaled one_float (scaled minus_one no_lines) ≡ Read
      go (inl f) = ap (λ v. scaled v (scaled minus_one no_lines)) (sym f) ∙ scale_read _
      go (inr f) = scale_passed f _ ∙ ap (λ v. scaled v no_lines) (sym f) ∙ scale_read no_lines

-- ---- what is read is the lines of a header
pub record LinesStand (s : List ℕ) (f : PfmLines) : Type 0 where
  pub in_size : InSize (size_in f.header)
  pub scale_is : (f.header.scale ≡ one_float) ⊎ (f.header.scale ≡ minus_one)
  pub text : s ≡ pfm_head f.header ++ drop f.at s
  pub place_is : f.at ≡ length (pfm_head f.header)

module _ (s : List ℕ) where
  abbrev q : Parsed
  q = parse size_parts s 0

  abbrev w : ℕ
  w = get_or q.values 0 0

  abbrev h : ℕ
  h = get_or q.values 1 0

  abbrev Held : PfmLines → Type 0
  Held f = f.good ≡ true → LinesStand s f

  scale_held : q.refusal ≡ 0 → (v : Float) → (v ≡ one_float) ⊎ (v ≡ minus_one) → (other : PfmLines) → Held other
      → Held (with_scale v w h s q.at other)
  scale_held z v is other held = go (eqb (fixed_at (scale_line v) s q.at).refusal 0) refl
    where
      line : Place
      line = fixed_at (scale_line v) s q.at

      go : (b : Bool) → eqb (fixed_at (scale_line v) s q.at).refusal 0 ≡ b → Held (with_scale v w h s q.at other)
      go false f = rw f held
      go true f = rw f (λ good. stand)
        where
          header : PfmHeader
          header = record { width = w; height = h; scale = v }

          size : (s ≡ text_of size_parts (size_values header) ++ drop q.at s) × InSize (size_in header)
          size =
              let (t, i) = read_text_lem size_parts good_size s 0 z in
              let (vs, inside) = inside_size q.values i in
              (t ∙ ap (λ l. text_of size_parts l ++ drop q.at s) vs, inside)

          after_size : q.at ≡ length (text_of size_parts (size_values header))
          after_size =
              let (t, inside) = size in
              let r =
              inside_read size_parts good_size s 0 (size_values header) (drop q.at s) (size_inside header inside) t in
              omega (arith, r.3)

          stand : LinesStand s (lines_of w h v line.at)
          stand =
              let (t, e) = fixed_stands (scale_line v) s q.at (eqb-true line.refusal 0 f) in
              record {
                in_size = size.1;
                scale_is = is;
                text =
                    size.0
                    ∙ ap (λ l. text_of size_parts (size_values header) ++ l) t
                    ∙ sym (head_rest header (drop line.at s));
                place_is = e ∙ omega (arith, after_size, head_length_lem header);
              }

  pub lines_stand : (pfm_lines s).good ≡ true → LinesStand s (pfm_lines s)
  unfolding pfm_lines scale_after
  lines_stand = go (eqb q.refusal 0) refl
    where
      none : Held no_lines
      none e = absurd (true≢false (sym e))

      go : (b : Bool) → eqb q.refusal 0 ≡ b → Held (pick b (scale_after w h s q.at) no_lines)
      go false e = none
      go true e =
          let z = eqb-true q.refusal 0 e in
          scale_held z one_float (inl refl) _ (scale_held z minus_one (inr refl) no_lines none)
