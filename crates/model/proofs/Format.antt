-- Laws of a format: which values its parts ask for, and how their text and their reading go on to the parts after them.
--   Inside                       as many values as numbers, each in its field
--   below_limit                  the limit that a number is read under is above its field
--   good_head, good_body         no number of a sheet is ended by a digit
--   good_append                  nor of parts after parts that are so
--   text_append                  the text of parts after parts
--   outside_left, outside_right  a value outside its field among parts after parts
--   outside_cases                and back
--   outside_text                 such a value stands in the text after the text before it
--   parse_append, parse_refused  reading parts after parts that were read, and after parts that were refused
--   parse_draws                  the refusals are 10 and 11
use mathlib.Core.Path.{◌≡◌, refl, ◌∙◌, ap, sym}
use mathlib.Core.Bool.{false, ◌&&◌}
use mathlib.Core.Logic.{◌⊎◌, inl, inr, ⊎_elim}
use mathlib.Core.List.{List, [], ◌∷◌, ◌++◌, append_assoc}
use Prim.Native.Nat.{ℕ, zero, suc, ◌+◌, ◌%◌, ◌≤◌, ◌<◌}
use native.Mathlib.Omega.{arith}
use borrow.Author.Tests.{leb-true, eq-eqb, ne_eqb}
use lib.Dec.{leb, eqb}
use lib.ListN.{length, drop}
use Rattle.model.specs.Format.{Field}
use Rattle.model.specs.declared.Item.{Item}
use Rattle.model.specs.declared.Item.TheVariants.{Word, Number, LineEnd, Other}
use Rattle.model.specs.declared.Measures.{Measures}
use Rattle.model.specs.Format.{Place}
use Rattle.model.specs.Text.{is_digit, digits, cap_to, NoDigit, step, step_to}
use Rattle.model.specs.Sheet.{side_of, entries_of, cells_of, end_of}
use Rattle.model.specs.Format.{Part, fixed, number, grid, head_from, psf_block, gray_block, dots_block, body, text_of}
use Rattle.model.specs.Format.{is_at, fixed_at, field, field_by, limit_of, field_at, Parsed, parsed, on_fixed}
use Rattle.model.specs.Format.{on_field, parse}
use Rattle.model.proofs.Basic.{pick_cases, zero_cases, pick_cong}
use Rattle.model.specs.Grammar.{numbers, Beyond, OutsideAt}
use Rattle.model.proofs.Text.{beyond_false, cap_inside, number_yielded}

-- ---- which values there are
-- as many values as numbers, each in its field
abbrev pub Inside : List Part → List ℕ → Type 0
Inside [] [] = Unit
Inside [] (v ∷ vs) = ⊥
Inside (fixed bs ∷ ps) vs = Inside ps vs
Inside (number lo hi end ∷ ps) [] = ⊥
Inside (number lo hi end ∷ ps) (v ∷ vs) = (lo ≤ v) × (v ≤ hi) × Inside ps vs

pub inside_length : (ps : List Part) (vs : List ℕ) → Inside ps vs → length vs ≡ numbers ps
inside_length [] [] i = refl
inside_length [] (v ∷ vs) i = absurd i
inside_length (fixed bs ∷ ps) vs i = inside_length ps vs i
inside_length (number lo hi end ∷ ps) [] i = absurd i
inside_length (number lo hi end ∷ ps) (v ∷ vs) i = ap suc (inside_length ps vs i.2)

-- the limit that a number is read under is above its field
pub below_limit : (hi : ℕ) → hi < limit_of hi
below_limit hi =
    pick_cases (λ l. hi < l) (leb hi 256) (λ t. omega (arith, leb-true hi 256 t)) (λ t. omega arith)

-- no number is ended by a digit
abbrev pub Good : List Part → Type 0
Good [] = Unit
Good (fixed bs ∷ ps) = Good ps
Good (number lo hi end ∷ ps) = (is_digit end ≡ false) × Good ps

end_no_digit : (w i : ℕ) → is_digit (end_of w i) ≡ false
end_no_digit w i = pick_cases (λ b. is_digit b ≡ false) (eqb ((i + 1) % w) 0) (λ t. refl) (λ t. refl)

pub good_append : (a b : List Part) → Good a → Good b → Good (a ++ b)
good_append [] b g h = h
good_append (fixed bs ∷ a) b g h = good_append a b g h
good_append (number lo hi end ∷ a) b g h = (g.0, good_append a b g.1 h)

good_grid : (w hi i n : ℕ) → Good (grid w hi i n)
good_grid w hi i zero = tt
good_grid w hi i (suc n) = (end_no_digit w i, good_grid w hi (i + 1) n)

pub good_head : (least : ℕ) → Good (head_from least)
unfolding head_from
good_head least = (refl, (refl, (refl, (refl, (refl, tt)))))

pub good_body : (m : Measures) → Good (body m)
unfolding body
good_body m =
    let gray = good_grid m.width 255 0 (cells_of m) in
    good_append (psf_block m) (gray_block m ++ dots_block m) (good_grid (side_of m) 255 0 (entries_of m))
    (good_append (gray_block m) (dots_block m) gray dots)
  where
    dots : Good (dots_block m)
    dots = pick_cases Good (eqb m.start 2) (λ t. good_grid m.width 1 0 (cells_of m)) (λ t. tt)

-- ---- the text of parts and of parts after them
pub text_append : (a b : List Part) (vs us : List ℕ) → length vs ≡ numbers a
    → text_of (a ++ b) (vs ++ us) ≡ text_of a vs ++ text_of b us
text_append [] b [] us e = refl
text_append [] b (v ∷ vs) us e = absurd (omega arith)
text_append (fixed bs ∷ a) b vs us e =
    ap (λ (l : List ℕ). bs ++ l) (text_append a b vs us e) ∙ sym (append_assoc bs (text_of a vs) (text_of b us))
text_append (number lo hi end ∷ a) b [] us e = absurd (omega arith)
text_append (number lo hi end ∷ a) b (v ∷ vs) us e =
    ap (λ (l : List ℕ). digits v ++ (end ∷ l)) (text_append a b vs us (omega arith))
    ∙ sym (append_assoc (digits v) (end ∷ text_of a vs) (text_of b us))

-- ---- a value outside its field
-- parts after parts
pub outside_left : (a c : List Part) (vs us t : List ℕ) (v : ℕ) → OutsideAt a vs t v → OutsideAt (a ++ c) (vs ++ us) t v
outside_left [] c vs us t v o = absurd o
outside_left (fixed bs ∷ a) c vs us t v (t', e, o) = (t', e, outside_left a c vs us t' v o)
outside_left (number lo hi end ∷ a) c [] us t v o = absurd o
outside_left (number lo hi end ∷ a) c (w ∷ vs) us t v (inl o) = inl o
outside_left (number lo hi end ∷ a) c (w ∷ vs) us t v (inr (t', e, o)) =
    inr (t', e, outside_left a c vs us t' v o)

pub outside_right : (a c : List Part) (vs us t : List ℕ) (v : ℕ) → length vs ≡ numbers a → OutsideAt c us t v
    → OutsideAt (a ++ c) (vs ++ us) (text_of a vs ++ t) v
outside_right [] c [] us t v l o = o
outside_right [] c (w ∷ vs) us t v l o = absurd (omega arith)
outside_right (fixed bs ∷ a) c vs us t v l o =
    (text_of a vs ++ t, append_assoc bs (text_of a vs) t, outside_right a c vs us t v l o)
outside_right (number lo hi end ∷ a) c [] us t v l o = absurd (omega arith)
outside_right (number lo hi end ∷ a) c (w ∷ vs) us t v l o = inr (
  text_of a vs ++ t,
  append_assoc (digits w) (end ∷ text_of a vs) t,
  outside_right a c vs us t v (omega arith) o,
)

pub outside_cases : (a c : List Part) (vs us t : List ℕ) (v : ℕ) → length vs ≡ numbers a
    → OutsideAt (a ++ c) (vs ++ us) t v
    → OutsideAt a vs t v ⊎ ((t' : List ℕ) × (t ≡ text_of a vs ++ t') × OutsideAt c us t' v)
outside_cases [] c [] us t v l o = inr (t, refl, o)
outside_cases [] c (w ∷ vs) us t v l o = absurd (omega arith)
outside_cases (fixed bs ∷ a) c vs us t v l (t', e, o) = go (outside_cases a c vs us t' v l o)
  where
    go : OutsideAt a vs t' v ⊎ ((u : List ℕ) × (t' ≡ text_of a vs ++ u) × OutsideAt c us u v)
        → OutsideAt (fixed bs ∷ a) vs t v
        ⊎ ((u : List ℕ) × (t ≡ text_of (fixed bs ∷ a) vs ++ u) × OutsideAt c us u v)
    go (inl q) = inl (t', e, q)
    go (inr (u, f, q)) = inr (u, e ∙ ap (λ x. bs ++ x) f ∙ sym (append_assoc bs (text_of a vs) u), q)
outside_cases (number lo hi end ∷ a) c [] us t v l o = absurd (omega arith)
outside_cases (number lo hi end ∷ a) c (w ∷ vs) us t v l (inl o) = inl (inl o)
outside_cases (number lo hi end ∷ a) c (w ∷ vs) us t v l (inr (t', e, o)) =
    go (outside_cases a c vs us t' v (omega arith) o)
  where
    go : OutsideAt a vs t' v ⊎ ((u : List ℕ) × (t' ≡ text_of a vs ++ u) × OutsideAt c us u v)
        → OutsideAt (number lo hi end ∷ a) (w ∷ vs) t v
        ⊎ ((u : List ℕ) × (t ≡ text_of (number lo hi end ∷ a) (w ∷ vs) ++ u) × OutsideAt c us u v)
    go (inl q) = inl (inr (t', e, q))
    go (inr (u, f, q)) = inr (
      u,
      e ∙ ap (λ x. digits w ++ (end ∷ x)) f ∙ sym (append_assoc (digits w) (end ∷ text_of a vs) u),
      q,
    )

-- it stands in the text after the text before it
pub outside_text : (ps : List Part) (vs before : List ℕ) (v : ℕ) → OutsideAt ps vs before v
    → (more : List ℕ) × (text_of ps vs ≡ before ++ (digits v ++ more))
outside_text [] vs before v o = absurd o
outside_text (fixed bs ∷ ps) vs before v (t, e, o) =
    let (more, f) = outside_text ps vs t v o in
    (more, ap (λ l. bs ++ l) f ∙ sym (append_assoc bs t (digits v ++ more)) ∙ ap (λ l. l ++ (digits v ++ more)) (sym e))
outside_text (number lo hi end ∷ ps) [] before v o = absurd o
outside_text (number lo hi end ∷ ps) (u ∷ us) before v (inl (e, f, o)) =
    (end ∷ text_of ps us, rw (e, f))
outside_text (number lo hi end ∷ ps) (u ∷ us) before v (inr (t, e, o)) =
    let (more, f) = outside_text ps us t v o in (
      more,
      ap (λ l. digits u ++ (end ∷ l)) f
          ∙ sym (append_assoc (digits u) (end ∷ t) (digits v ++ more))
          ∙ ap (λ l. l ++ (digits v ++ more)) (sym e),
    )

-- 11 wherever the whole run of digits of a number outside its field stands, whatever follows it
pub field_out : (lo hi end : ℕ) (s : List ℕ) (at v : ℕ) (rest : List ℕ) → NoDigit rest
    → drop at s ≡ digits v ++ rest → Beyond lo hi v → field_at lo hi end s at ≡ field 11 at 0
unfolding field_at
field_out lo hi end s at v rest nd e b =
    let limit = limit_of hi in
    let read : step_to limit s at ≡ step (Number (cap_to limit v)) at (at + length (digits v)) =
    number_yielded limit s at v rest e nd in
    rw (read, cap_inside limit lo hi v (below_limit hi), beyond_false lo hi v b)

-- ---- one part that was read
-- fixed bytes, and what is after them
module _ (p : Place) (rest : ℕ → Parsed) where
  pub fixed_good : (on_fixed p rest).refusal ≡ 0 → p.refusal ≡ 0
  fixed_good = zero_cases (λ (r : Parsed). r.refusal ≡ 0 → p.refusal ≡ 0) p.refusal (λ y z. y) (λ y z. z)

  pub fixed_on : p.refusal ≡ 0 → on_fixed p rest ≡ rest p.at
  fixed_on z = rw (eq-eqb p.refusal 0 z)

-- a number, and what is after it
module _ (f : Field) (rest : ℕ → Parsed) where
  pub field_good : (on_field f rest).refusal ≡ 0 → f.refusal ≡ 0
  field_good = zero_cases (λ (r : Parsed). r.refusal ≡ 0 → f.refusal ≡ 0) f.refusal (λ y z. y) (λ y z. z)

  pub field_on : f.refusal ≡ 0
      → let r = rest f.at in on_field f rest ≡ parsed r.refusal r.at (f.value ∷ r.values)
  field_on z = rw (eq-eqb f.refusal 0 z)

  pub field_off : (f.refusal ≡ 0 → ⊥) → on_field f rest ≡ parsed f.refusal f.at []
  field_off z = rw (ne_eqb f.refusal 0 z)

-- ---- parts after parts
-- that were read
pub parse_append : (a b : List Part) (s : List ℕ) (at : ℕ) → (parse a s at).refusal ≡ 0
    → let r = parse b s (parse a s at).at in
    parse (a ++ b) s at ≡ parsed r.refusal r.at ((parse a s at).values ++ r.values)
parse_append [] b s at z = refl
parse_append (fixed bs ∷ a) b s at z =
    let p = fixed_at bs s at in
    let y = fixed_good p (parse a s) z in
    let e = fixed_on p (parse a s) y in
    fixed_on p (parse (a ++ b) s) y ∙ rw e (parse_append a b s p.at (rw e at z))
parse_append (number lo hi end ∷ a) b s at z =
    let f = field_at lo hi end s at in
    let y = field_good f (parse a s) z in
    let e = field_on f (parse a s) y in
    let q = parse_append a b s f.at (rw e at z) in
    field_on f (parse (a ++ b) s) y ∙ rw e (ap (λ (r : Parsed). parsed r.refusal r.at (f.value ∷ r.values)) q)

-- that were refused
pub parse_refused : (a b : List Part) (s : List ℕ) (at : ℕ) → ((parse a s at).refusal ≡ 0 → ⊥)
    → parse (a ++ b) s at ≡ parse a s at
parse_refused [] b s at z = absurd (z refl)
parse_refused (fixed bs ∷ a) b s at z =
    let p = fixed_at bs s at in
    pick_cong (eqb p.refusal 0) (λ t. parse_refused a b s p.at (λ y. z (rw t y))) (λ t. refl)
parse_refused (number lo hi end ∷ a) b s at z =
    let f = field_at lo hi end s at in
    pick_cong (eqb f.refusal 0) (λ t.
    ap (λ (r : Parsed). parsed r.refusal r.at (f.value ∷ r.values))
    (parse_refused a b s f.at (λ y. z (rw t y)))) (λ t. refl)

-- as many values as numbers
pub values_length : (ps : List Part) (s : List ℕ) (at : ℕ) → (parse ps s at).refusal ≡ 0
    → length (parse ps s at).values ≡ numbers ps
values_length [] s at z = refl
values_length (fixed bs ∷ ps) s at z =
    let p = fixed_at bs s at in
    let e = fixed_on p (parse ps s) (fixed_good p (parse ps s) z) in
    rw e (values_length ps s p.at (rw e at z))
values_length (number lo hi end ∷ ps) s at z =
    let f = field_at lo hi end s at in
    let e = field_on f (parse ps s) (field_good f (parse ps s) z) in
    rw e (ap suc (values_length ps s f.at (rw e at z)))

pub numbers_grid : (w hi i n : ℕ) → numbers (grid w hi i n) ≡ n
numbers_grid w hi i zero = refl
numbers_grid w hi i (suc n) = ap suc (numbers_grid w hi (i + 1) n)

pub numbers_append : (a b : List Part) → numbers (a ++ b) ≡ numbers a + numbers b
numbers_append [] b = omega arith
numbers_append (fixed bs ∷ a) b = numbers_append a b
numbers_append (number lo hi end ∷ a) b = omega (arith, numbers_append a b)

-- ---- which refusals there are
-- 10 and 11
abbrev pub Drawn : ℕ → Type 0
Drawn n = (n ≡ 0) ⊎ (n ≡ 10) ⊎ (n ≡ 11)

-- of fixed bytes 10 alone
pub fixed_draws : (bs s : List ℕ) (at : ℕ) → let n = (fixed_at bs s at).refusal in (n ≡ 0) ⊎ (n ≡ 10)
fixed_draws [] s at = inl refl
fixed_draws (b ∷ bs) s at =
    pick_cases (λ (p : Place). (p.refusal ≡ 0) ⊎ (p.refusal ≡ 10)) (is_at b s at) (λ t. fixed_draws bs s (at + 1))
    (λ t. inr refl)

field_draws : (lo hi end : ℕ) (s : List ℕ) (at : ℕ) → Drawn (field_at lo hi end s at).refusal
unfolding field_at
field_draws lo hi end s at = go (step_to (limit_of hi) s at).item
  where
    Q : Field → Type 0
    Q f = Drawn f.refusal

    go : (i : Item) → Q (field_by lo hi end s i (step_to (limit_of hi) s at).at (step_to (limit_of hi) s at).next)
    go Word = inr (inl refl)
    go LineEnd = inr (inl refl)
    go Other = inr (inl refl)
    go (Number v) =
        pick_cases Q (leb lo v && leb v hi)
        (λ t. pick_cases Q (is_at end s (step_to (limit_of hi) s at).next) (λ u. inl refl) (λ u. inr (inl refl)))
        (λ t. inr (inr refl))

pub parse_draws : (ps : List Part) (s : List ℕ) (at : ℕ) → Drawn (parse ps s at).refusal
parse_draws [] s at = inl refl
parse_draws (fixed bs ∷ ps) s at =
    let p = fixed_at bs s at in
    zero_cases (λ (r : Parsed). Drawn r.refusal) p.refusal (λ z. parse_draws ps s p.at)
    (λ z. ⊎_elim inl (λ e. inr (inl e)) (fixed_draws bs s at))
parse_draws (number lo hi end ∷ ps) s at =
    let f = field_at lo hi end s at in
    zero_cases (λ (r : Parsed). Drawn r.refusal) f.refusal (λ z. parse_draws ps s f.at)
    (λ z. field_draws lo hi end s at)
