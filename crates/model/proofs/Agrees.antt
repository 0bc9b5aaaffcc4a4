-- How far what is read agrees with a text: up to the place where the reader stops it is the beginning of a text of the
-- parts, with some values of any size.
--   Agrees                      the bytes from a place on, up to another, are those of a text
--   agrees_begins               read from the beginning: what stands before the place begins the text
--   fixed_agrees, field_agrees  of fixed bytes; of a number and the byte that ends it
--   parse_agrees                of parts, with the values that were read and some others after a refusal
--   parse_rises                 the place never goes back
--   read_text_lem                   what is read whole is the text of its values, each in its field
use mathlib.Core.Path.{◌≡◌, refl, ◌∙◌, ap, ap₂, sym, subst}
use mathlib.Core.Bool.{Bool, true, false, ◌&&◌}
use mathlib.Core.Logic.{◌⊎◌, inl, inr}
use mathlib.Core.List.{List, [], ◌∷◌, ◌++◌, append_assoc, append-nil}
use Prim.Native.Nat.{ℕ, suc, ◌+◌, ◌≤◌}
use native.Mathlib.Nat.{add-zero}
use native.Mathlib.Numerals.{add-one}
use native.Mathlib.Omega.{arith}
use borrow.Author.Tests.{ltb-true, leb-true, eqb-true}
use lib.Dec.{leb, ltb, eqb}
use lib.ListN.{length, take, drop, get_or, replicate, length-append, length-replicate}
use lib.Seq.{take_at, drop-cons, drop-drop, drop-append_seam}
use Rattle.model.specs.Format.{Field}
use Rattle.model.specs.declared.Item.{Item}
use Rattle.model.specs.declared.Item.TheVariants.{Word, Number, LineEnd, Other}
use Rattle.model.specs.Basic.{pick}
use Rattle.model.specs.Text.{is_letter, is_digit, digits, cap_to, NoDigit, step, item_to, step_to}
use Rattle.model.specs.Format.{Part, fixed, number, text_of, is_at, fixed_at, field, field_by, limit_of, field_at}
use Rattle.model.specs.Format.{Parsed, parse}
use Rattle.model.proofs.Basic.{pick_cases, zero_cases}
use Rattle.model.proofs.Text.{digits_low, and_true, beyond, cap_inside, cap_low, number_yielded}
use Rattle.model.proofs.Text.{yielded_number}
use Rattle.model.specs.Grammar.{numbers, Beyond, OutsideAt}
use Rattle.model.proofs.Format.{below_limit, Inside, Good, fixed_draws}

-- ---- bytes
-- past a part
pub after : (s : List ℕ) (at : ℕ) (t rest : List ℕ) → drop at s ≡ t ++ rest → drop (at + length t) s ≡ rest
after s at t rest e = sym (drop-drop (length t) at s) ∙ ap (drop (length t)) e ∙ drop-append_seam t rest

-- a byte that was found stands there
byte_stands : (s : List ℕ) (at b : ℕ) → is_at b s at ≡ true → drop at s ≡ b ∷ drop (at + 1) s
byte_stands s at b e =
    let (t, u) = and_true (ltb at (length s)) (eqb (get_or s at 0) b) e in
    drop-cons s at 0 (ltb-true at (length s) t) ∙ rw (eqb-true (get_or s at 0) b u, add-one)

-- ---- agreeing with a text
-- the bytes of s from a place on, up to the place o, are those of the text t; and with refusal 0 that is all of t
pub record Agrees (s : List ℕ) (at refusal o : ℕ) (t : List ℕ) : Type 0 where
  pub before : List ℕ
  pub rest : List ℕ
  pub stands : drop at s ≡ before ++ drop o s
  pub rises : o ≡ at + length before
  pub text : t ≡ before ++ rest
  pub whole : refusal ≡ 0 → rest ≡ []

module _ {s : List ℕ} {at : ℕ} where
  -- not at all
  agrees_none : {n : ℕ} {t : List ℕ} → (n ≡ 0 → t ≡ []) → Agrees s at n at t
  agrees_none {n} {t} z =
      record { before = []; rest = t; stands = refl; rises = sym (add-zero at); text = refl; whole = z }

  -- to the end
  pub agrees_all : {n o : ℕ} {t : List ℕ} (a : Agrees s at n o t) → n ≡ 0 → t ≡ a.before
  agrees_all a z = a.text ∙ ap (λ (l : List ℕ). a.before ++ l) (a.whole z) ∙ append-nil a.before

  -- to the end of a first text, and on from there
  pub agrees_on : {n o o' : ℕ} {t t' : List ℕ} → Agrees s at 0 o t → Agrees s o n o' t' → Agrees s at n o' (t ++ t')
  agrees_on {n} {o} {o'} {t} {t'} a b =
      record {
        before = t ++ b.before;
        rest = b.rest;
        stands =
            a.stands
            ∙ ap (λ (l : List ℕ). l ++ drop o s) (sym (agrees_all a refl))
            ∙ ap (λ (l : List ℕ). t ++ l) b.stands
            ∙ sym (append_assoc t b.before (drop o' s));
        rises = rw (length-append t b.before) (omega (arith, a.rises, b.rises, ap length (agrees_all a refl)));
        text = ap (λ (l : List ℕ). t ++ l) b.text ∙ sym (append_assoc t b.before b.rest);
        whole = b.whole;
      }

  -- short of the end of a first text
  agrees_off : {n o : ℕ} {t : List ℕ} (t' : List ℕ) → (n ≡ 0 → ⊥) → Agrees s at n o t → Agrees s at n o (t ++ t')
  agrees_off t' z a =
      record {
        before = a.before;
        rest = a.rest ++ t';
        stands = a.stands;
        rises = a.rises;
        text = ap (λ (l : List ℕ). l ++ t') a.text ∙ append_assoc a.before a.rest t';
        whole = λ e. absurd (z e);
      }

  -- some bytes that stand there
  agrees_part : {n : ℕ} (t rest r : List ℕ) → (n ≡ 0 → rest ≡ []) → drop at s ≡ t ++ r
      → Agrees s at n (at + length t) (t ++ rest)
  agrees_part t rest r z e =
      record {
        before = t;
        rest = rest;
        stands = e ∙ ap (λ (l : List ℕ). t ++ l) (sym (after s at t r e));
        rises = refl;
        text = refl;
        whole = z;
      }

-- read from the beginning: what stands before the place begins the text, whatever follows it
pub agrees_begins : {s : List ℕ} {n o : ℕ} {t : List ℕ} (more : List ℕ) → Agrees s 0 n o t
    → (o ≤ length s) × (rest : List ℕ) × (t ++ more ≡ take o s ++ rest)
agrees_begins {s} {n} {o} {t} more r =
    let k : length r.before ≡ o = omega (arith, r.rises) in
    let l : length s ≡ length r.before + length (drop o s) =
    ap length r.stands ∙ length-append r.before (drop o s) in
    let w : take o s ≡ r.before = ap (take o) r.stands ∙ take_at r.before (drop o s) o k in (
      omega arith,
      r.rest ++ more,
      ap (λ (a : List ℕ). a ++ more) r.text
          ∙ append_assoc r.before r.rest more
          ∙ ap (λ (a : List ℕ). a ++ (r.rest ++ more)) (sym w),
    )

-- one byte
byte_agrees : (s : List ℕ) (at b : ℕ) → is_at b s at ≡ true → Agrees s at 0 (at + 1) (b ∷ [])
byte_agrees s at b t = agrees_part (b ∷ []) [] (drop (at + 1) s) (λ e. refl) (byte_stands s at b t)

-- fixed bytes
pub fixed_agrees : (bs s : List ℕ) (at : ℕ) → Agrees s at (fixed_at bs s at).refusal (fixed_at bs s at).at bs
fixed_agrees [] s at = agrees_none (λ e. refl)
fixed_agrees (b ∷ bs) s at = go (is_at b s at) refl (fixed_agrees bs s (at + 1))
  where
    go : (a : Bool) → is_at b s at ≡ a
        → Agrees s (at + 1) (fixed_at bs s (at + 1)).refusal (fixed_at bs s (at + 1)).at bs
        → Agrees s at (fixed_at (b ∷ bs) s at).refusal (fixed_at (b ∷ bs) s at).at (b ∷ bs)
    go true t ih = rw t (agrees_on (byte_agrees s at b t) ih)
    go false t ih = rw t (agrees_none (λ e. absurd (omega arith)))

-- the place of an item is where it begins, or that of a second digit after 0
abbrev Placed : ℕ → List ℕ → ℕ → Type 0
Placed at xs o = (o ≡ at) ⊎ ((ys : List ℕ) × (xs ≡ 48 ∷ ys) × (o ≡ at + 1))

item_place : (limit at : ℕ) (xs : List ℕ) → Placed at xs (item_to limit at xs).at
item_place limit at [] = inl refl
item_place limit at (x ∷ xs) = go (is_letter x) refl (is_digit x) refl (eqb x 10) refl
  where
    numbered : (a b : Bool) (v e : ℕ) → (a ≡ true → x ≡ 48)
        → Placed at (x ∷ xs) (pick (a && b) (step Other (at + 1) (at + 1)) (step (Number v) at e)).at
    numbered true true v e h = inr (xs, ap (λ (y : ℕ). y ∷ xs) (h refl), refl)
    numbered true false v e h = inl refl
    numbered false b v e h = inl refl

    go : (a : Bool) → is_letter x ≡ a → (b : Bool) → is_digit x ≡ b → (d : Bool) → eqb x 10 ≡ d
        → Placed at (x ∷ xs) (item_to limit at (x ∷ xs)).at
    go true t b u d w = rw t (inl refl)
    go false t true u d w = rw (t, u) (numbered (eqb x 48) _ _ _ (eqb-true x 48))
    go false t false u true w = rw (t, u, w) (inl refl)
    go false t false u false w = rw (t, u, w) (inl refl)

-- so up to there 0 stands, or nothing
item_agrees : {n : ℕ} (limit : ℕ) (s : List ℕ) (at : ℕ) (end : List ℕ) → (n ≡ 0 → ⊥)
    → Agrees s at n (step_to limit s at).at (digits 0 ++ end)
item_agrees {n} limit s at end z = go (item_place limit at (drop at s))
  where
    go : Placed at (drop at s) (step_to limit s at).at → Agrees s at n (step_to limit s at).at (digits 0 ++ end)
    go (inl e) = rw e (agrees_none (λ y. absurd (z y)))
    go (inr (ys, d, e)) = rw (e, digits_low 0 (omega arith)) (agrees_part (48 ∷ []) end ys (λ y. absurd (z y)) d)

-- a number, its digits and the byte that ends it: the one that was read, in its field; with refusal 11 the one that
-- stands there as a whole run of digits, outside its field; or some other
abbrev Numbered : (lo hi end : ℕ) → List ℕ → ℕ → Field → Type 0
Numbered lo hi end s at f =
    (v : ℕ)
    × Agrees s at f.refusal f.at (digits v ++ (end ∷ []))
    × (f.refusal ≡ 0 → (v ≡ f.value) × (lo ≤ v) × (v ≤ hi))
    × (f.refusal ≡ 11
    → (rest : List ℕ) × (drop at s ≡ digits v ++ rest) × NoDigit rest × Beyond lo hi v × (f.at ≡ at))

pub field_agrees : (lo hi end : ℕ) (s : List ℕ) (at : ℕ) → Numbered lo hi end s at (field_at lo hi end s at)
unfolding field_at
field_agrees lo hi end s at = go (step_to limit s at).item refl
  where
    limit : ℕ
    limit = limit_of hi

    Held : Field → Type 0
    Held = Numbered lo hi end s at

    none : Held (field 10 (step_to limit s at).at 0)
    none = (
      0,
      item_agrees limit s at (end ∷ []) (λ y. omega arith),
      λ y. absurd (omega arith),
      λ y. absurd (omega arith),
    )

    numbered : (v : ℕ) (rest : List ℕ) → drop at s ≡ digits v ++ rest → NoDigit rest
        → Held (field_by lo hi end s (Number (cap_to limit v)) at (at + length (digits v)))
    numbered v rest p nd =
        rw (cap_inside limit lo hi v (below_limit hi)) (pick_cases Held (leb lo v && leb v hi) inside outside)
      where
        e : ℕ
        e = at + length (digits v)

        inside : leb lo v && leb v hi ≡ true
            → Held (pick (is_at end s e) (field 0 (e + 1) (cap_to limit v)) (field 10 e 0))
        inside t =
            let (l, u) = and_true (leb lo v) (leb v hi) t in
            let h = leb-true v hi u in
            let c = cap_low limit v (omega (arith, h, below_limit hi)) in
            let d : Agrees s at 0 e (digits v ++ []) = agrees_part (digits v) [] rest (λ y. refl) p in
            pick_cases Held (is_at end s e)
            (λ f. (
              v,
              agrees_on (rw (append-nil (digits v)) at d) (byte_agrees s e end f),
              λ y. (sym c, leb-true lo v l, h),
              λ y. absurd (omega arith),
            ))
            (λ f. (
              v,
              agrees_part (digits v) (end ∷ []) rest (λ y. absurd (omega arith)) p,
              λ y. absurd (omega arith),
              λ y. absurd (omega arith),
            ))

        outside : leb lo v && leb v hi ≡ false → Held (field 11 at 0)
        outside t = (
          v,
          agrees_none (λ y. absurd (omega arith)),
          λ y. absurd (omega arith),
          λ y. (rest, p, nd, beyond lo hi v t, refl),
        )

    go : (i : Item) → (step_to limit s at).item ≡ i
        → Held (field_by lo hi end s (step_to limit s at).item (step_to limit s at).at (step_to limit s at).next)
    go Word q = rw q none
    go LineEnd q = rw q none
    go Other q = rw q none
    go (Number w) q =
        let (v, rest, p, nd, _) = yielded_number limit s at w q in
        rw (number_yielded limit s at v rest p nd) (numbered v rest p nd)

-- a whole run of digits stands at the place o: the number of one of the values, which is outside its field
pub record Misses (ps : List Part) (s : List ℕ) (at : ℕ) (vs : List ℕ) (o : ℕ) : Type 0 where
  pub before : List ℕ
  pub value : ℕ
  pub rest : List ℕ
  pub outside : OutsideAt ps vs before value
  pub stands : drop at s ≡ before ++ (digits value ++ rest)
  pub run : NoDigit rest
  pub place : o ≡ at + length before

-- after a part that was read
module _ {s : List ℕ} {at o o' : ℕ} {ps : List Part} {vs : List ℕ} where
  seam : {t : List ℕ} → Agrees s at 0 o t → (m : Misses ps s o vs o') → let u = digits m.value ++ m.rest in
      (drop at s ≡ t ++ (m.before ++ u)) × (o' ≡ at + (length t + length m.before))
  seam {t} a m =
      let e = agrees_all a refl in (
        a.stands
            ∙ ap (λ (l : List ℕ). l ++ drop o s) (sym e)
            ∙ ap (λ (l : List ℕ). t ++ l) m.stands,
        omega (arith, a.rises, m.place, ap length e),
      )

  misses_fixed : {bs : List ℕ} → Agrees s at 0 o bs → Misses ps s o vs o' → Misses (fixed bs ∷ ps) s at vs o'
  misses_fixed {bs} a m =
      let u = digits m.value ++ m.rest in
      record {
        before = bs ++ m.before;
        value = m.value;
        rest = m.rest;
        outside = (m.before, refl, m.outside);
        stands = (seam a m).0 ∙ sym (append_assoc bs m.before u);
        run = m.run;
        place = rw (length-append bs m.before) (seam a m).1;
      }

  misses_number : {lo hi end v : ℕ} → Agrees s at 0 o (digits v ++ (end ∷ [])) → Misses ps s o vs o'
      → Misses (number lo hi end ∷ ps) s at (v ∷ vs) o'
  misses_number {lo} {hi} {end} {v} a m =
      let u = digits m.value ++ m.rest in
      let (e, p) = seam a m in
      let j = append_assoc (digits v) (end ∷ []) m.before in
      let k = length-append (digits v ++ (end ∷ [])) m.before in
      record {
        before = digits v ++ (end ∷ m.before);
        value = m.value;
        rest = m.rest;
        outside = inr (m.before, refl, m.outside);
        stands = e ∙ sym (append_assoc (digits v ++ (end ∷ [])) m.before u) ∙ ap (λ (l : List ℕ). l ++ u) j;
        run = m.run;
        place = p ∙ ap (λ (i : ℕ). at + i) (sym k ∙ ap length j);
      }

-- parts, with some values: those that were read, each in its field; with refusal 11 the next is the one that is outside
-- its field; and others after a refusal
abbrev Completed : List Part → List ℕ → ℕ → Parsed → Type 0
Completed ps s at r =
    (vs : List ℕ)
    × (length vs ≡ numbers ps)
    × Agrees s at r.refusal r.at (text_of ps vs)
    × (r.refusal ≡ 0 → (vs ≡ r.values) × Inside ps vs)
    × (r.refusal ≡ 11 → Misses ps s at vs r.at)

abbrev pub zeros : List Part → List ℕ
zeros ps = replicate (numbers ps) 0

pub parse_agrees : (ps : List Part) → Good ps → (s : List ℕ) (at : ℕ) → Completed ps s at (parse ps s at)
parse_agrees [] g s at = ([], refl, agrees_none (λ e. refl), λ e. (refl, tt), λ y. absurd (omega arith))
parse_agrees (fixed bs ∷ ps) g s at =
    let p = fixed_at bs s at in
    let a = fixed_agrees bs s at in
    let (vs, l, r, w, x) = parse_agrees ps g s p.at in
    zero_cases (Completed (fixed bs ∷ ps) s at) p.refusal
    (λ z. (vs, l, agrees_on (rw z at a) r, w, λ y. misses_fixed (rw z at a) (x y)))
    (λ z. (
      zeros ps,
      length-replicate (numbers ps) 0,
      agrees_off (text_of ps (zeros ps)) z a,
      λ e. absurd (z e),
      λ y. absurd (never (fixed_draws bs s at) y),
    ))
  where
    never : {n : ℕ} → (n ≡ 0) ⊎ (n ≡ 10) → n ≡ 11 → ⊥
    never (inl e) y = omega arith
    never (inr e) y = omega arith
parse_agrees (number lo hi end ∷ ps) g s at =
    let f = field_at lo hi end s at in
    let (v, a, h, out) = field_agrees lo hi end s at in
    let (vs, l, r, w, x) = parse_agrees ps g.1 s f.at in
    zero_cases (Completed (number lo hi end ∷ ps) s at) f.refusal
    (λ z. (
      v ∷ vs,
      ap suc l,
      after_end v _ (agrees_on (rw z at a) r),
      λ y.
          let (e, low, high) = h z in
          let (es, i) = w y in
          (ap₂ (λ x l. x ∷ l) e es, (low, high, i)),
      λ y. misses_number (rw z at a) (x y),
    ))
    (λ z. (
      v ∷ zeros ps,
      ap suc (length-replicate (numbers ps) 0),
      after_end v _ (agrees_off (text_of ps (zeros ps)) z a),
      λ y. absurd (z y),
      λ y.
          let (rest, e, nd, b, o) = out y in
          record {
            before = [];
            value = v;
            rest = rest;
            outside = inl (refl, refl, b);
            stands = e;
            run = nd;
            place = o ∙ sym (add-zero at);
          },
    ))
  where
    after_end : {n o : ℕ} (v : ℕ) (t : List ℕ) → Agrees s at n o (digits v ++ (end ∷ []) ++ t)
        → Agrees s at n o (digits v ++ (end ∷ t))
    after_end {n} {o} v t = subst (Agrees s at n o) (append_assoc (digits v) (end ∷ []) t)

-- the place never goes back
pub parse_rises : (ps : List Part) → Good ps → (s : List ℕ) (at : ℕ) → at ≤ (parse ps s at).at
parse_rises ps g s at = let (vs, l, a, w, _) = parse_agrees ps g s at in omega (arith, a.rises)

-- what was read is the text of values in their fields
pub read_text_lem : (ps : List Part) → Good ps → (s : List ℕ) (at : ℕ) → let r = parse ps s at in
    r.refusal ≡ 0 → (drop at s ≡ text_of ps r.values ++ drop r.at s) × Inside ps r.values
read_text_lem ps g s at z =
    let r = parse ps s at in
    let (vs, l, a, w, _) = parse_agrees ps g s at in
    let (e, i) = w z in
    let t : text_of ps r.values ≡ a.before = sym (ap (text_of ps) e) ∙ agrees_all a z in
    (a.stands ∙ ap (λ (l : List ℕ). l ++ drop r.at s) (sym t), subst (Inside ps) e i)
