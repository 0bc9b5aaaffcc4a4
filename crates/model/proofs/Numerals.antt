-- Laws of the numbers of a header, one after the other, both ways between the layout's words and the reader.
--   numerals_read              numerals by the layout before a last white space are read, with their values
--   NumbersRead, numbers_read  numbers that are read, and a last white space, are numerals by the layout
use mathlib.Core.Bool.{Bool, true, false, true≢false}
use mathlib.Core.List.{List, [], ◌∷◌, ◌++◌, map, map-append, append_assoc}
use mathlib.Core.Path.{◌≡◌, refl, sym, ◌∙◌, ap, ap₂, subst}
use Prim.Native.Nat.{ℕ, zero, suc}
use native.Mathlib.Omega.{arith}
use lib.ListN.{length}
use Rattle.model.specs.PictureHeader.{Found}
use Rattle.model.specs.Basic.{All}
use Rattle.model.specs.Text.{is_digit, cap_to}
use Rattle.model.specs.Netpbm.{is_space, RunOf, Numeral, IsNumeral, decimal_from, value_of, numerals_text}
use Rattle.model.specs.PictureHeader.{Glyph, glyphs_at, found, most_value, number_next, end_next}
use Rattle.model.proofs.Text.{and_true}
use Rattle.model.proofs.Glyphs.{bytes_of}
use Rattle.model.proofs.Fields.{digit_no_space, space_no_digit, RunEnds, any, any_some, some_any}
use Rattle.model.proofs.Fields.{Split, split, divide, Field, field_is}

-- ---- where a run of the layout ends
run_stops : {kind other : ℕ → Bool} → ((b : ℕ) → kind b ≡ true → other b ≡ false) → (l t : List ℕ) → RunOf kind l
    → RunEnds other (l ++ t)
run_stops apart [] t h = absurd (let n = h.0 in omega arith)
run_stops apart (b ∷ l) t h = apart b h.1.0

numerals_stop : (l : List Numeral) → All IsNumeral l → (b : ℕ) (t : List ℕ) → is_space b ≡ true
    → RunEnds is_digit (numerals_text l ++ (b ∷ t))
numerals_stop [] h b t e = space_no_digit b e
numerals_stop (n ∷ l) h b t e =
    rw (append_assoc n.gap (n.decimal ++ numerals_text l) (b ∷ t))
    (run_stops space_no_digit n.gap ((n.decimal ++ numerals_text l) ++ (b ∷ t)) h.0.0)

-- ---- the first of several numerals that stand before a last white space
record FirstField (n : Numeral) (l : List Numeral) (here : List Glyph) (g : Glyph) (rest : List Glyph) : Type 0 where
  gap : List Glyph
  decimal : List Glyph
  left : List Glyph
  field : Field here gap decimal (left ++ (g ∷ rest))
  gap_is : bytes_of gap ≡ n.gap
  decimal_is : bytes_of decimal ≡ n.decimal
  left_is : bytes_of left ≡ numerals_text l

first_field : (n : Numeral) (l : List Numeral) → IsNumeral n → All IsNumeral l → {here : List Glyph}
    → (gs : List Glyph) (g : Glyph) (rest : List Glyph) → here ≡ gs ++ (g ∷ rest)
    → bytes_of gs ≡ numerals_text (n ∷ l) → is_space g.byte ≡ true → FirstField n l here g rest
first_field n l h k gs g rest t e b =
    let (gap, more, p, q, r) = divide gs n.gap (n.decimal ++ numerals_text l) e in
    let (decimal, left, p', q', r') = divide more n.decimal (numerals_text l) r in
    let last = left ++ (g ∷ rest) in
    record {
      gap = gap;
      decimal = decimal;
      left = left;
      field = record {
        text =
            t
            ∙ ap (λ k. k ++ (g ∷ rest)) (p ∙ ap (λ k. gap ++ k) p')
            ∙ append_assoc gap (decimal ++ left) (g ∷ rest)
            ∙ ap (λ k. gap ++ k) (append_assoc decimal left (g ∷ rest));
        spaces = subst (All (λ b. is_space b ≡ true)) (sym q) h.0.1;
        spaces_end =
            subst (RunEnds is_space) (sym (map-append _ decimal last ∙ ap (λ k. k ++ bytes_of last) q'))
            (run_stops digit_no_space n.decimal (bytes_of last) h.1);
        digits = subst (All (λ b. is_digit b ≡ true)) (sym q') h.1.1;
        digits_end =
            subst (RunEnds is_digit) (sym (map-append _ left (g ∷ rest) ∙ ap (λ k. k ++ (g.byte ∷ bytes_of rest)) r'))
            (numerals_stop l k g.byte (bytes_of rest) b);
      };
      gap_is = q;
      decimal_is = q';
      left_is = r';
    }

-- ---- several numbers, one after the other
module _ (s : List ℕ) where
  -- what is found after n of them, and their values
  abbrev pub numbers_next : ℕ → Found → Found
  numbers_next zero f = f
  numbers_next (suc n) f = numbers_next n (number_next s f)

  abbrev pub number_values : ℕ → Found → List ℕ
  number_values zero f = []
  number_values (suc n) f = (number_next s f).value ∷ number_values n (number_next s f)

  -- from the layout to the reader
  pub numerals_read : (ns : List Numeral) → All IsNumeral ns → (f : Found) → f.some ≡ true
      → (gs : List Glyph) (g : Glyph) (rest : List Glyph) → glyphs_at s f.at ≡ gs ++ (g ∷ rest)
      → bytes_of gs ≡ numerals_text ns → is_space g.byte ≡ true
      → (end_next s (numbers_next (length ns) f) ≡ found true 0 g.next)
      × (number_values (length ns) f ≡ map (cap_to most_value) (map value_of ns))
  unfolding end_next
  numerals_read [] h f some [] g rest t e b = (rw (t, some, b), refl)
  numerals_read [] h f some (x ∷ gs) g rest t e b = absurd (let z : ◌≡◌ {A = ℕ} 0 1 = cc in omega arith)
  numerals_read (n ∷ l) (h, k) f some gs g rest t e b =
      let p = first_field n l h k gs g rest t e b in
      let (same, there) = field_is s f p.field in
      let begun = any_some p.gap (rw p.gap_is h.0.0) in
      let counted = any_some p.decimal (rw p.decimal_is h.1.0) in
      let found : (number_next s f).some ≡ true = ap (λ (x : Found). x.some) same ∙ rw (some, begun, counted) in
      let on = ap (λ (x : Found). glyphs_at s x.at) same ∙ there in
      let (end, values) = numerals_read l k (number_next s f) found p.left g rest on p.left_is b in
      let value : (number_next s f).value ≡ cap_to most_value (value_of n) =
      ap (λ (x : Found). x.value) same ∙ ap (λ x. cap_to most_value (decimal_from 0 x)) p.decimal_is in
      (end, ap₂ (λ v l. v ∷ l) value values)

  -- from the reader to the layout: what n numbers and a last white space were read from
  pub record NumbersRead (n : ℕ) (f : Found) : Type 0 where
    pub some : f.some ≡ true
    pub numerals : List Numeral
    pub are_numerals : All IsNumeral numerals
    pub shown : List Glyph
    pub bare : bytes_of shown ≡ numerals_text numerals
    pub last : Glyph
    pub last_is_space : is_space last.byte ≡ true
    pub rest : List Glyph
    pub text : glyphs_at s f.at ≡ shown ++ (last ∷ rest)
    pub place : (end_next s (numbers_next n f)).at ≡ last.next
    pub values : number_values n f ≡ map (cap_to most_value) (map value_of numerals)

  -- the last white space alone
  end_read : (f : Found) (l : List Glyph) → glyphs_at s f.at ≡ l → (end_next s f).some ≡ true → NumbersRead 0 f
  unfolding end_next
  end_read f [] t e = absurd (true≢false (sym (rw t at e)))
  end_read f (g ∷ l) t e =
      let (some, space) = and_true f.some (is_space g.byte) (rw t at e) in
      record {
        some = some;
        numerals = [];
        are_numerals = tt;
        shown = [];
        bare = refl;
        last = g;
        last_is_space = space;
        rest = l;
        text = t;
        place = rw t;
        values = refl;
      }

  -- one number before others
  field_read : (k : ℕ) (f : Found) (gap : Split is_space (glyphs_at s f.at)) (decimal : Split is_digit gap.rest)
      → NumbersRead k (number_next s f) → NumbersRead (suc k) f
  field_read k f gap decimal r =
      let field : Field (glyphs_at s f.at) gap.run decimal.run decimal.rest =
      record {
        text = gap.text ∙ ap (λ l. gap.run ++ l) decimal.text;
        spaces = gap.each;
        spaces_end = subst (λ l. RunEnds is_space (bytes_of l)) decimal.text gap.stop;
        digits = decimal.each;
        digits_end = decimal.stop;
      } in
      let (same, there) = field_is s f field in
      let (some, found) = and_true f.some _ (sym (ap (λ (x : Found). x.some) same) ∙ r.some) in
      let (begun, counted) = and_true (any false gap.run) (any false decimal.run) found in
      let n : Numeral = record { gap = bytes_of gap.run; decimal = bytes_of decimal.run } in
      let is_numeral : IsNumeral n =
      ((some_any gap.run begun, gap.each), (some_any decimal.run counted, decimal.each)) in
      let on : decimal.rest ≡ r.shown ++ (r.last ∷ r.rest) =
      sym there ∙ sym (ap (λ (x : Found). glyphs_at s x.at) same) ∙ r.text in
      record {
        some = some;
        numerals = n ∷ r.numerals;
        are_numerals = (is_numeral, r.are_numerals);
        shown = gap.run ++ (decimal.run ++ r.shown);
        bare =
            map-append _ gap.run (decimal.run ++ r.shown)
            ∙ ap (λ l. bytes_of gap.run ++ l)
            (map-append _ decimal.run r.shown ∙ ap (λ l. bytes_of decimal.run ++ l) r.bare);
        last = r.last;
        last_is_space = r.last_is_space;
        rest = r.rest;
        text =
            field.text
            ∙ ap (λ l. gap.run ++ (decimal.run ++ l)) on
            ∙ ap (λ l. gap.run ++ l) (sym (append_assoc decimal.run r.shown (r.last ∷ r.rest)))
            ∙ sym (append_assoc gap.run (decimal.run ++ r.shown) (r.last ∷ r.rest));
        place = r.place;
        values = ap₂ (λ v l. v ∷ l) (ap (λ (x : Found). x.value) same) r.values;
      }

  pub numbers_read : (n : ℕ) (f : Found) → (end_next s (numbers_next n f)).some ≡ true → NumbersRead n f
  numbers_read zero f e = end_read f (glyphs_at s f.at) refl e
  numbers_read (suc n) f e =
      let gap = split is_space (glyphs_at s f.at) in
      field_read n f gap (split is_digit gap.rest) (numbers_read n (number_next s f) e)
