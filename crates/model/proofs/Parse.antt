-- The text of values is read.
--   fixed_back    fixed bytes
--   text_read     as these values, or with refusal 11 where one is outside its field
--   outside_read  a value outside its field draws 11, there or before
--   inside_read   values in their fields are read
use mathlib.Core.Path.{◌≡◌, refl, ◌∙◌, ap, sym}
use mathlib.Core.Bool.{Bool, true, false, true≢false, ◌&&◌}
use mathlib.Core.Logic.{◌⊎◌, inl, inr, ⊎_elim, ⊎_map}
use mathlib.Core.List.{List, [], ◌∷◌, ◌++◌, append_assoc}
use Prim.Native.Nat.{ℕ, suc, ◌+◌, ◌-◌, ◌≤◌, ◌<◌}
use native.Mathlib.Nat.{add-zero}
use native.Mathlib.Omega.{arith}
use borrow.Author.Tests.{lt-ltb, le-leb, leb-true, eq-eqb}
use lib.Dec.{leb}
use lib.ListN.{length, drop, get_or, length-append, length-drop}
use lib.Seq.{get_or-drop}
use Rattle.model.specs.declared.Item.TheVariants.{Number}
use Rattle.model.specs.Basic.{pick}
use Rattle.model.specs.Text.{is_digit, digits, cap_to, NoDigit, step, step_to}
use Rattle.model.specs.Format.{Part, fixed, number, text_of, is_at, place, fixed_at, field, field_by, limit_of}
use Rattle.model.specs.Format.{field_at, parse}
use Rattle.model.specs.Grammar.{numbers, OutsideAt}
use Rattle.model.proofs.Text.{and_true, cap_inside, cap_low, number_yielded}
use Rattle.model.proofs.Format.{below_limit, field_out, Inside, inside_length, Good}
use Rattle.model.proofs.Agrees.{after}

-- ---- one part
-- a byte that stands there is found
byte_back : (s : List ℕ) (at b : ℕ) (rest : List ℕ) → drop at s ≡ b ∷ rest → is_at b s at ≡ true
byte_back s at b rest e =
    let l = length-drop at s in
    let n : suc (length rest) ≡ length s - at = sym (ap length e) ∙ l in
    let g : get_or s at 0 ≡ b = sym (get_or-drop at s 0 0 ∙ rw add-zero) ∙ ap (λ (y : List ℕ). get_or y 0 0) e in
    rw (lt-ltb at (length s) (omega arith), eq-eqb (get_or s at 0) b g)

-- so are fixed bytes
pub fixed_back : (bs s : List ℕ) (at : ℕ) (rest : List ℕ) → drop at s ≡ bs ++ rest
    → fixed_at bs s at ≡ place 0 (at + length bs)
fixed_back [] s at rest e = ap (place 0) (sym (add-zero at))
fixed_back (b ∷ bs) s at rest e =
    rw (byte_back s at b (bs ++ rest) e)
    (fixed_back bs s (at + 1) rest (after s at (b ∷ []) (bs ++ rest) e) ∙ ap (place 0) (omega arith))

-- the digits of a number of any size, and what ends it: it is read, or it is outside its field
field_back : (lo hi end : ℕ) (s : List ℕ) (at v : ℕ) (rest : List ℕ) → is_digit end ≡ false
    → drop at s ≡ digits v ++ (end ∷ rest)
    → field_at lo hi end s at ≡ pick (leb lo v && leb v hi) (field 0 (at + length (digits v) + 1) v) (field 11 at 0)
unfolding field_at
field_back lo hi end s at v rest d e = go (leb lo v && leb v hi) refl
  where
    next : ℕ
    next = at + length (digits v)

    limit : ℕ
    limit = limit_of hi

    read : step_to limit s at ≡ step (Number (cap_to limit v)) at next
    read = number_yielded limit s at v (end ∷ rest) e d

    stands : is_at end s next ≡ true
    stands = byte_back s next end rest (after s at (digits v) (end ∷ rest) e)

    inside : leb lo (cap_to limit v) && leb (cap_to limit v) hi ≡ leb lo v && leb v hi
    inside = cap_inside limit lo hi v (below_limit hi)

    go : (b : Bool) → leb lo v && leb v hi ≡ b
        → field_by lo hi end s (step_to limit s at).item (step_to limit s at).at (step_to limit s at).next
        ≡ pick b (field 0 (next + 1) v) (field 11 at 0)
    go true t =
        let h = leb-true v hi (and_true (leb lo v) (leb v hi) t).1 in
        let c : cap_to limit v ≡ v = cap_low limit v (omega (arith, h, below_limit hi)) in
        rw (read, inside, t, stands, c)
    go false t = rw (read, inside, t)

-- ---- parts
-- the text of values is read as these values; or with refusal 11 within it, where one is outside its field
abbrev pub ReadWhole : List Part → List ℕ → ℕ → (vs rest : List ℕ) → Type 0
ReadWhole ps s at vs rest =
    let r = parse ps s at in
    (r.refusal ≡ 0) × (r.values ≡ vs) × (drop r.at s ≡ rest) × (r.at ≡ at + length (text_of ps vs))

abbrev pub ReadAs : List Part → List ℕ → ℕ → (vs rest : List ℕ) → Type 0
ReadAs ps s at vs rest =
    let r = parse ps s at in
    ReadWhole ps s at vs rest
    ⊎ ((r.refusal ≡ 11) × (r.at < at + length (text_of ps vs)) × (Inside ps vs → ⊥))

-- a number and what ends it, before a text
module _ (end : ℕ) (s : List ℕ) (at v : ℕ) (t : List ℕ) (e : drop at s ≡ digits v ++ (end ∷ t)) where
  abbrev past_end : ℕ
  past_end = at + length (digits v) + 1

  past_number : drop past_end s ≡ t
  past_number = after s (at + length (digits v)) (end ∷ []) t (after s at (digits v) (end ∷ t) e)

pub text_read : (ps : List Part) → Good ps → (s : List ℕ) (at : ℕ) (vs rest : List ℕ) → length vs ≡ numbers ps
    → drop at s ≡ text_of ps vs ++ rest → ReadAs ps s at vs rest
text_read [] g s at [] rest n e = inl (refl, refl, e, sym (add-zero at))
text_read [] g s at (v ∷ vs) rest n e = absurd (omega arith)
text_read (fixed bs ∷ ps) g s at vs rest n e =
    let t : drop at s ≡ bs ++ (text_of ps vs ++ rest) = e ∙ append_assoc bs (text_of ps vs) rest in
    let l = length-append bs (text_of ps vs) in
    rw (fixed_back bs s at (text_of ps vs ++ rest) t)
    (⊎_map
    (λ r. (r.0, r.1, r.2, r.3 ∙ omega arith))
    (λ r. (r.0, omega (arith, r.1), r.2))
    (text_read ps g s (at + length bs) vs rest n (after s at bs (text_of ps vs ++ rest) t)))
text_read (number lo hi end ∷ ps) g s at [] rest n e = absurd (omega arith)
text_read (number lo hi end ∷ ps) g s at (v ∷ vs) rest n e =
    go (leb lo v && leb v hi) refl
    (text_read ps g.1 s (next + 1) vs rest (omega arith) (past_number end s at v (text_of ps vs ++ rest) t))
  where
    next : ℕ
    next = at + length (digits v)

    t : drop at s ≡ digits v ++ (end ∷ (text_of ps vs ++ rest))
    t = e ∙ append_assoc (digits v) (end ∷ text_of ps vs) rest

    l : length (digits v ++ (end ∷ text_of ps vs)) ≡ length (digits v) + suc (length (text_of ps vs))
    l = length-append (digits v) (end ∷ text_of ps vs)

    f : field_at lo hi end s at ≡ pick (leb lo v && leb v hi) (field 0 (next + 1) v) (field 11 at 0)
    f = field_back lo hi end s at v (text_of ps vs ++ rest) g.0 t

    go : (b : Bool) → leb lo v && leb v hi ≡ b → ReadAs ps s (next + 1) vs rest
        → ReadAs (number lo hi end ∷ ps) s at (v ∷ vs) rest
    go true b (inl (z, a, d, p)) = rw (f, b) (inl (z, ap (λ (k : List ℕ). v ∷ k) a, d, p ∙ omega (arith, l)))
    go true b (inr (z, p, o)) = rw (f, b) (inr (z, omega (arith, l, p), λ i. o i.2))
    go false b r = rw (f, b) (inr (refl, omega (arith, l), λ i. outside i.0 i.1))
      where
        outside : lo ≤ v → v ≤ hi → ⊥
        outside l h =
            let q : leb lo v && leb v hi ≡ true = rw (le-leb lo v l, le-leb v hi h) in
            true≢false (sym q ∙ b)

-- a value outside its field, as a whole run of digits after the text of those before it: refusal 11, there or before
abbrev pub RefusedBy : List Part → List ℕ → (at o : ℕ) → Type 0
RefusedBy ps s at o = ((parse ps s at).refusal ≡ 11) × ((parse ps s at).at ≤ o)

pub outside_read : (ps : List Part) → Good ps → (s : List ℕ) (at : ℕ) (vs before : List ℕ) (v : ℕ) (rest : List ℕ)
    → OutsideAt ps vs before v → drop at s ≡ before ++ (digits v ++ rest) → NoDigit rest
    → RefusedBy ps s at (at + length before)
outside_read [] g s at vs before v rest o e nd = absurd o
outside_read (fixed bs ∷ ps) g s at vs before v rest (t, p, o) e nd =
    let u = digits v ++ rest in
    let q : drop at s ≡ bs ++ (t ++ u) = e ∙ ap (λ (k : List ℕ). k ++ u) p ∙ append_assoc bs t u in
    let l = ap length p ∙ length-append bs t in
    let (z, h) = outside_read ps g s (at + length bs) vs t v rest o (after s at bs (t ++ u) q) nd in
    rw (fixed_back bs s at (t ++ u) q) (z, omega arith)
outside_read (number lo hi end ∷ ps) g s at [] before v rest o e nd = absurd o
outside_read (number lo hi end ∷ ps) g s at (w ∷ vs) before v rest (inl (p, q, b)) e nd =
    rw (field_out lo hi end s at v rest nd (e ∙ ap (λ (k : List ℕ). k ++ (digits v ++ rest)) p) b)
    (refl, omega arith)
outside_read (number lo hi end ∷ ps) g s at (w ∷ vs) before v rest (inr (t, p, o)) e nd =
    go (leb lo w && leb w hi) refl
    (outside_read ps g.1 s (at + length (digits w) + 1) vs t v rest o (past_number end s at w (t ++ u) q) nd)
  where
    u : List ℕ
    u = digits v ++ rest

    q : drop at s ≡ digits w ++ (end ∷ (t ++ u))
    q = e ∙ ap (λ (k : List ℕ). k ++ u) p ∙ append_assoc (digits w) (end ∷ t) u

    l : length before ≡ length (digits w) + suc (length t)
    l = ap length p ∙ length-append (digits w) (end ∷ t)

    next : ℕ
    next = at + length (digits w) + 1

    f : field_at lo hi end s at ≡ pick (leb lo w && leb w hi) (field 0 next w) (field 11 at 0)
    f = field_back lo hi end s at w (t ++ u) g.0 q

    go : (b : Bool) → leb lo w && leb w hi ≡ b → RefusedBy ps s next (next + length t)
        → RefusedBy (number lo hi end ∷ ps) s at (at + length before)
    go true b (z, h) = rw (f, b) (z, omega (arith, l))
    go false b r = rw (f, b) (refl, omega arith)

-- values in their fields are read
pub inside_read : (ps : List Part) → Good ps → (s : List ℕ) (at : ℕ) (vs rest : List ℕ) → Inside ps vs
    → drop at s ≡ text_of ps vs ++ rest → ReadWhole ps s at vs rest
inside_read ps g s at vs rest i e =
    ⊎_elim (λ r. r) (λ r. absurd (r.2 i)) (text_read ps g s at vs rest (inside_length ps vs i) e)
