-- What is refused by a grammar (specs/Grammar.antt) is refused for the leftmost that is drawn.
--   Reached, reached, read_begins       how far the reader came; what stands before its place begins a text
--   text_never                          a text, its numbers of any size, is never refused with 10
--   read_local                          the reader stops alike in texts that are the same up to and with its place
--   lines_refuse                        11 in lines 1 and 2 is the reader's
--   grammar_decides                     the reader's refusal is drawn at its place, and nothing to the left of it
--   taken_draws_nothing                 what is taken draws nothing anywhere
--   refused_leftmost, leftmost_refused  the refusal is the leftmost that is drawn, and the other way
use mathlib.Core.Path.{◌≡◌, refl, ◌∙◌, ap, sym, subst}
use mathlib.Core.Bool.{Bool, false, true≢false}
use mathlib.Core.Logic.{◌⊎◌, inl, inr, ⊎_elim}
use mathlib.Core.List.{List, [], ◌++◌, append_assoc, append-nil}
use Prim.Native.Nat.{ℕ, ◌+◌, ◌≤◌, ◌<◌}
use native.Mathlib.Omega.{arith}
use borrow.Author.Tests.{lt-leb, eq-eqb, ne_eqb}
use lib.ListN.{length, take, drop, length-append, length-replicate}
use Rattle.model.specs.declared.Measures.{Measures}
use Rattle.model.specs.Text.{digits}
use Rattle.model.specs.Sheet.{values_of}
use Rattle.model.specs.SheetRefusal.{Leftmost}
use Rattle.model.specs.Format.{Part, text_of, parse, measures_of, head_by}
use Rattle.model.specs.Grammar.{numbers, OutsideAt, Grammar, parts_of, IsText, BeginsText, StopsText, OutsideText}
use Rattle.model.specs.Grammar.{ShortText, DrawsText, Taken, read_by_grammar}
use Rattle.model.proofs.Format.{Inside, Good, Drawn, parse_draws, inside_length}
use Rattle.model.proofs.Format.{outside_left, outside_right, outside_cases, outside_text}
use Rattle.model.proofs.Agrees.{Agrees, agrees_begins, agrees_on, zeros, parse_agrees, parse_rises, read_text_lem}
use Rattle.model.proofs.Parse.{ReadAs, RefusedBy, text_read, outside_read}
use Rattle.model.proofs.Unseen.{parse_local}
use Rattle.model.proofs.Deciding.{Beginnings, Decides, stops_no_text, stops_right, stops_no_number}
use Rattle.model.proofs.Deciding.{reader_stops, nothing_drawn, decides_leftmost, leftmost_decides}
use Rattle.model.proofs.Grammar.{Formed, five, none_left, first, measured, second, by_cases, text_lines}
use Rattle.model.proofs.Grammar.{first_values, lines_read, taken_text}

module _ (g : Grammar) (k : Formed g) where
  -- ---- how far the reader came
  -- in lines 1 and 2 with some measures, or in what follows them with the measures in their fields
  abbrev InLines : List ℕ → ℕ → Type 0
  InLines b o = (m : Measures) × (n : ℕ) × Agrees b 0 n o (text_of g.lines (values_of m))

  abbrev InBelow : List ℕ → ℕ → Type 0
  InBelow b o =
      (m : Measures)
      × (vs : List ℕ)
      × (n : ℕ)
      × Inside g.lines (values_of m)
      × (length vs ≡ numbers (g.below m))
      × Agrees b 0 n o (text_of (parts_of g m) (values_of m ++ vs))

  abbrev pub Reached : List ℕ → ℕ → Type 0
  Reached b o = InLines b o ⊎ InBelow b o

  pub reached : (room : Measures → Bool) (b : List ℕ) → Reached b (read_by_grammar g room b).at
  reached room b =
      by_cases {Q = λ (r : Taken). Reached b r.at} (record {
        cut_lines = λ z. inl lines;
        no_room = λ z f. inl lines;
        cut_below = λ z f y. inr (lower z);
        too_long = λ z f y l. inr (lower z);
        whole = λ z f y l. inr (lower z);
      })
    where
      lines : InLines b (first g b).at
      lines =
          let (vs, l, r, _, _) = parse_agrees g.lines k.lines_good b 0 in
          let e = sym (five vs (l ∙ k.lines_five)) in
          let n = (first g b).refusal in
          (measures_of vs, n, subst (λ u. Agrees b 0 n (first g b).at (text_of g.lines u)) e r)

      lower : (first g b).refusal ≡ 0 → InBelow b (second g b).at
      lower z =
          let m = measured g b in
          let (us, _, r, w, _) = parse_agrees g.lines k.lines_good b 0 in
          let (vs, l, q, _, _) = parse_agrees (g.below m) (k.below_good m) b (first g b).at in
          let (e, i) = w z in
          let v : us ≡ values_of m = e ∙ sym (first_values g k b z) in
          let t = ap (λ u. text_of g.lines u ++ text_of (g.below m) vs) v ∙ sym (text_lines g k m vs) in
          let n = (second g b).refusal in
          let a = subst (Agrees b 0 n (second g b).at) t (agrees_on (rw z at r) q) in
          (m, vs, n, subst (Inside g.lines) v i, l, a)

  -- what stands before its place begins a text
  abbrev BeginsTo : List ℕ → ℕ → Type 0
  BeginsTo b o = (o ≤ length b) × BeginsText g (take o b)

  beginnings : Beginnings (IsText g) (BeginsText g)
  beginnings = record {
    goes_on = λ q f. (f.rest, f.whole);
    begins = λ q rest t. record { rest = rest; whole = t };
  }

  pub read_begins : (room : Measures → Bool) (b : List ℕ) → BeginsTo b (read_by_grammar g room b).at
  read_begins room b = go (reached room b)
    where
      begins : {o n : ℕ} {t : List ℕ} (m : Measures) (vs more : List ℕ) → length vs ≡ numbers (g.below m)
          → text_of (parts_of g m) (values_of m ++ vs) ≡ t ++ more → Agrees b 0 n o t → BeginsTo b o
      begins m vs more l e a =
          let (h, rest, w) = agrees_begins more a in
          (h, record { rest = rest; whole = record { measures = m; values = vs; long = l; text = sym w ∙ sym e } })

      go : {o : ℕ} → Reached b o → BeginsTo b o
      go (inl (m, n, a)) =
          let vs = zeros (g.below m) in
          begins m vs (text_of (g.below m) vs) (length-replicate (numbers (g.below m)) 0) (text_lines g k m vs) a
      go (inr (m, vs, n, _, l, a)) = begins m vs [] l (sym (append-nil (text_of (parts_of g m) (values_of m ++ vs)))) a

  -- ---- refusal 10
  -- the reader stops alike in texts that are the same up to and with its place
  pub read_local : (room : Measures → Bool) (q t t' : List ℕ) → let r = read_by_grammar g room (q ++ t) in
      (r.refusal ≡ 11 → ⊥) → r.at < length q → r ≡ read_by_grammar g room (q ++ t')
  unfolding read_by_grammar head_by
  read_local room q t t' =
      by_cases {g = g} {room = room} {b = q ++ t} {Q = Q} (record {
        cut_lines = λ z n l. rw (← lines n l, ne_eqb (first g b).refusal 0 z);
        no_room = λ z f n l. rw (← lines (λ y. omega arith) l, eq-eqb (first g b).refusal 0 z, f);
        cut_below = λ z f y n l.
            rw (
              ← upper z l,
              eq-eqb (first g b).refusal 0 z,
              f,
              ← lower n l,
              ne_eqb (second g b).refusal 0 y,
            );
        too_long = λ z f y h n l.
            let j : (second g b).at < length (q ++ t') = rw (length-append q t') (omega arith) in
            rw (
              ← upper z l,
              eq-eqb (first g b).refusal 0 z,
              f,
              ← lower (λ e. omega arith) l,
              eq-eqb (second g b).refusal 0 y,
              lt-leb (length (q ++ t')) (second g b).at j,
            );
        whole = λ z f y h n l. absurd (omega (arith, length-append q t));
      })
    where
      Q : Taken → Type 0
      Q r = (r.refusal ≡ 11 → ⊥) → r.at < length q → r ≡ read_by_grammar g room (q ++ t')

      b : List ℕ
      b = q ++ t

      lines : ((first g b).refusal ≡ 11 → ⊥) → (first g b).at < length q → first g b ≡ first g (q ++ t')
      lines = parse_local q t t' g.lines k.lines_good 0

      ps : List Part
      ps = g.below (measured g b)

      good : Good ps
      good = k.below_good (measured g b)

      upper : (first g b).refusal ≡ 0 → (second g b).at < length q → first g b ≡ first g (q ++ t')
      upper z l = lines (λ y. omega arith) (omega (arith, parse_rises ps good b (first g b).at))

      lower : ((second g b).refusal ≡ 11 → ⊥) → (second g b).at < length q
          → second g b ≡ parse (g.below (measured g b)) (q ++ t') (first g b).at
      lower = parse_local q t t' ps good (first g b).at

  -- a text never draws it
  pub text_never : (room : Measures → Bool) (b : List ℕ) → IsText g b → (read_by_grammar g room b).refusal ≡ 10 → ⊥
  text_never room b x =
      by_cases {Q = λ (r : Taken). r.refusal ≡ 10 → ⊥} (record {
        cut_lines = unread (⊎_elim (λ r. inl r.0) (λ r. inr r.0) lines);
        no_room = λ z f y. omega arith;
        cut_below = λ z f. unread (⊎_elim (λ r. inl r.0) (λ r. inr r.0) (lower z lines));
        too_long = λ z f y l _.
            ⊎_elim (λ r. none_left b (second g b).at r.2 l) (λ r. omega (arith, r.0)) (lower z lines);
        whole = λ z f y l e. omega arith;
      })
    where
      m : Measures
      m = x.measures

      t : List ℕ
      t = text_of (g.below m) x.values

      unread : {n : ℕ} → (n ≡ 0) ⊎ (n ≡ 11) → (n ≡ 0 → ⊥) → n ≡ 10 → ⊥
      unread (inl e) z y = z e
      unread (inr e) z y = omega arith

      lines : ReadAs g.lines b 0 (values_of m) t
      lines = lines_read g k b m t (x.text ∙ text_lines g k m x.values)

      lower : (first g b).refusal ≡ 0 → ReadAs g.lines b 0 (values_of m) t
          → ReadAs (g.below (measured g b)) b (first g b).at x.values []
      lower z (inl (_, v, e, _)) =
          subst (λ n. ReadAs (g.below n) b (first g b).at x.values []) (sym (ap measures_of v))
          (text_read (g.below m) (k.below_good m) b (first g b).at x.values [] x.long (e ∙ sym (append-nil t)))
      lower z (inr (y, _, _)) = absurd (omega arith)

  module _ (room : Measures → Bool) (b : List ℕ) where
    -- ---- the refusals
    abbrev Answered : ℕ → Type 0
    Answered n = (n ≡ 0) ⊎ (n ≡ 10) ⊎ (n ≡ 11) ⊎ (n ≡ 12)

    answered : Answered (read_by_grammar g room b).refusal
    answered =
        by_cases {Q = λ (r : Taken). Answered r.refusal} (record {
          cut_lines = λ z. any (parse_draws g.lines b 0);
          no_room = λ z f. inr (inr (inr refl));
          cut_below = λ z f y. any (parse_draws (g.below (measured g b)) b (first g b).at);
          too_long = λ z f y l. inr (inl refl);
          whole = λ z f y l. inl y;
        })
      where
        any : {n : ℕ} → Drawn n → Answered n
        any (inl e) = inl e
        any (inr (inl e)) = inr (inl e)
        any (inr (inr e)) = inr (inr (inl e))

    ten_stops : (read_by_grammar g room b).refusal ≡ 10 → StopsText g b (read_by_grammar g room b).at
    ten_stops z =
        let (l, f) = read_begins room b in
        record {
          before = f;
          here =
              reader_stops beginnings b (read_by_grammar g room) (λ r. r.refusal) (λ r. r.at) (read_local room)
              (text_never room) l z;
        }

    -- lines 1 and 2 that were read
    lines_stand : (first g b).refusal ≡ 0 → let t = text_of g.lines (values_of (measured g b)) in
        (b ≡ t ++ drop (first g b).at b) × ((first g b).at ≡ length t)
    lines_stand z =
        let (e, _) = read_text_lem g.lines k.lines_good b 0 z in
        let f = e ∙ ap (λ x. text_of g.lines x ++ drop (first g b).at b) (sym (first_values g k b z)) in
        (f, ⊎_elim (λ r. omega (arith, r.3)) (λ r. absurd (omega (arith, r.0))) (lines_read g k b (measured g b) _ f))

    eleven_outside : (read_by_grammar g room b).refusal ≡ 11 → OutsideText g b (read_by_grammar g room b).at
    eleven_outside =
        by_cases {Q = λ (r : Taken). r.refusal ≡ 11 → OutsideText g b r.at} (record {
          cut_lines = λ z. lines;
          no_room = λ z f y. absurd (omega arith);
          cut_below = λ z f y. lower z;
          too_long = λ z f y l x. absurd (omega arith);
          whole = λ z f y l x. absurd (omega arith);
        })
      where
        lines : (first g b).refusal ≡ 11 → OutsideText g b (first g b).at
        lines y =
            let (vs, l, _, _, x) = parse_agrees g.lines k.lines_good b 0 in
            let w = x y in
            let m = measures_of vs in
            let us = zeros (g.below m) in
            let n = sym (five vs (l ∙ k.lines_five)) in
            record {
              measures = m;
              values = us;
              long = length-replicate (numbers (g.below m)) 0;
              before = w.before;
              value = w.value;
              rest = w.rest;
              outside =
                  outside_left g.lines (g.below m) (values_of m) us w.before w.value
                  (subst (λ u. OutsideAt g.lines u w.before w.value) n w.outside);
              text = w.stands;
              run = w.run;
              place = omega (arith, w.place);
            }

        lower : (first g b).refusal ≡ 0 → (second g b).refusal ≡ 11 → OutsideText g b (second g b).at
        lower z y =
            let m = measured g b in
            let (us, l, _, _, x) = parse_agrees (g.below m) (k.below_good m) b (first g b).at in
            let w = x y in
            let t = text_of g.lines (values_of m) in
            let (e, q) = lines_stand z in
            let u = digits w.value ++ w.rest in
            record {
              measures = m;
              values = us;
              long = l;
              before = t ++ w.before;
              value = w.value;
              rest = w.rest;
              outside =
                  outside_right g.lines (g.below m) (values_of m) us w.before w.value (sym k.lines_five)
                  w.outside;
              text = e ∙ ap (λ x. t ++ x) w.stands ∙ sym (append_assoc t w.before u);
              run = w.run;
              place = omega (arith, w.place, q, length-append t w.before);
            }

    twelve_short : (read_by_grammar g room b).refusal ≡ 12 → ShortText g room b (read_by_grammar g room b).at
    twelve_short =
        by_cases {Q = λ (r : Taken). r.refusal ≡ 12 → ShortText g room b r.at} (record {
          cut_lines = λ z. other (parse_draws g.lines b 0);
          no_room = λ z f y.
              let (t, q) = lines_stand z in
              record { measures = measured g b; rest = drop (first g b).at b; text = t; lacks = f; place = q };
          cut_below = λ z f y. other (parse_draws (g.below (measured g b)) b (first g b).at);
          too_long = λ z f y l x. absurd (omega arith);
          whole = λ z f y l x. absurd (omega arith);
        })
      where
        other : {A : Type 0} {n : ℕ} → Drawn n → n ≡ 12 → A
        other (inl e) y = absurd (omega arith)
        other (inr (inl e)) y = absurd (omega arith)
        other (inr (inr e)) y = absurd (omega arith)

    refused_drawn : ((read_by_grammar g room b).refusal ≡ 0 → ⊥)
        → DrawsText g room b (read_by_grammar g room b).refusal (read_by_grammar g room b).at
    refused_drawn z = go answered
      where
        go : Answered (read_by_grammar g room b).refusal
            → DrawsText g room b (read_by_grammar g room b).refusal (read_by_grammar g room b).at
        go (inl e) = absurd (z e)
        go (inr (inl e)) = inl (e, ten_stops e)
        go (inr (inr (inl e))) = inr (inl (e, eleven_outside e))
        go (inr (inr (inr e))) = inr (inr (e, twelve_short e))

    -- ---- what is drawn is not taken, and not to the left of the reader's place
    stops_untaken : (o : ℕ) → StopsText g b o
        → ((read_by_grammar g room b).refusal ≡ 0 → ⊥) × ((read_by_grammar g room b).at ≤ o)
    stops_untaken o x = (
      λ z.
          let r = read_by_grammar g room b in
          let (e, _, j, _) = taken_text g k room b z in
          stops_no_text beginnings b x.here (record {
            measures = r.measures;
            values = r.values;
            long = inside_length (g.below r.measures) r.values j;
            text = e;
          }),
      stops_right beginnings b (read_by_grammar g room b).at (read_begins room b).0 (read_begins room b).1 x.here,
    )

    -- a refusal in lines 1 and 2 is the reader's
    pub lines_refuse : (o : ℕ) → (first g b).refusal ≡ 11 → (first g b).at ≤ o → let r = read_by_grammar g room b in
        (r.refusal ≡ 11) × (r.at ≤ o)
    lines_refuse o y l =
        by_cases {Q = λ (r : Taken). (r.refusal ≡ 11) × (r.at ≤ o)} (record {
          cut_lines = λ z. (y, l);
          no_room = λ z. absurd (omega arith);
          cut_below = λ z. absurd (omega arith);
          too_long = λ z. absurd (omega arith);
          whole = λ z. absurd (omega arith);
        })

    short_untaken : (o : ℕ) → ShortText g room b o → let r = read_by_grammar g room b in
        ((r.refusal ≡ 12) × (r.at ≡ o)) ⊎ ((r.refusal ≡ 11) × (r.at < o))
    short_untaken o x = go (lines_read g k b x.measures x.rest x.text)
      where
        Q : Taken → Type 0
        Q r = ((r.refusal ≡ 12) × (r.at ≡ o)) ⊎ ((r.refusal ≡ 11) × (r.at < o))

        go : ReadAs g.lines b 0 (values_of x.measures) x.rest → Q (read_by_grammar g room b)
        go (inl (z, v, _, l)) =
            let f : room (measured g b) ≡ false = ap (λ u. room (measures_of u)) v ∙ x.lacks in
            by_cases {Q = Q} (record {
              cut_lines = λ y. absurd (y z);
              no_room = λ _ _. inl (refl, omega (arith, l, x.place));
              cut_below = λ _ t. absurd (true≢false (sym t ∙ f));
              too_long = λ _ t. absurd (true≢false (sym t ∙ f));
              whole = λ _ t. absurd (true≢false (sym t ∙ f));
            })
        go (inr (y, l, _)) =
            let (e, q) = lines_refuse (first g b).at y (omega arith) in
            inr (e, omega (arith, l, x.place))

    outside_untaken : (o : ℕ) → OutsideText g b o → let r = read_by_grammar g room b in
        ((r.refusal ≡ 11) ⊎ (r.refusal ≡ 12)) × (r.at ≤ o)
    outside_untaken o x =
        go (outside_cases g.lines (g.below m) (values_of m) x.values x.before x.value (sym k.lines_five)
        x.outside)
      where
        m : Measures
        m = x.measures

        t : List ℕ
        t = text_of g.lines (values_of m)

        u : List ℕ
        u = digits x.value ++ x.rest

        Q : Taken → Type 0
        Q r = ((r.refusal ≡ 11) ⊎ (r.refusal ≡ 12)) × (r.at ≤ o)

        in_lines : (first g b).refusal ≡ 11 → (first g b).at ≤ o → Q (read_by_grammar g room b)
        in_lines y l = let (e, q) = lines_refuse o y l in (inl e, q)

        under_lines : (first g b).refusal ≡ 0 → (first g b).at ≤ o
            → RefusedBy (g.below (measured g b)) b (first g b).at o → Q (read_by_grammar g room b)
        under_lines z l (e, q) =
            by_cases {Q = Q} (record {
              cut_lines = λ y. absurd (y z);
              no_room = λ _ _. (inr refl, l);
              cut_below = λ _ _ _. (inl e, q);
              too_long = λ _ _ y. absurd (omega arith);
              whole = λ _ _ y. absurd (omega arith);
            })

        below : (t' : List ℕ) → x.before ≡ t ++ t' → OutsideAt (g.below m) x.values t' x.value
            → ReadAs g.lines b 0 (values_of m) (t' ++ u) → Q (read_by_grammar g room b)
        below t' e out (inl (z, v, d, l)) =
            let at = (first g b).at in
            let n : m ≡ measured g b = sym (ap measures_of v) in
            let (y, q) = subst (λ m. RefusedBy (g.below m) b at (at + length t')) n
            (outside_read (g.below m) (k.below_good m) b at x.values t' x.value x.rest out d x.run) in
            let j = ap length e ∙ length-append t t' in
            under_lines z (omega (arith, l, j, x.place)) (y, omega (arith, l, j, x.place))
        below t' e out (inr (y, l, _)) =
            in_lines y (omega (arith, l, x.place, ap length e ∙ length-append t t'))

        go : OutsideAt g.lines (values_of m) x.before x.value
            ⊎ ((t' : List ℕ) × (x.before ≡ t ++ t') × OutsideAt (g.below m) x.values t' x.value)
            → Q (read_by_grammar g room b)
        go (inl out) =
            let (y, l) = outside_read g.lines k.lines_good b 0 (values_of m) x.before x.value x.rest out
            x.text x.run in
            in_lines y (omega (arith, x.place))
        go (inr (t', e, out)) =
            below t' e out (lines_read g k b m (t' ++ u) (x.text ∙ ap (λ l. l ++ u) e ∙ append_assoc t t' u))

    -- 10 and 11 are never drawn at one place
    never_both : (o : ℕ) → StopsText g b o → OutsideText g b o → ⊥
    never_both o z x =
        let (more, e) = outside_text (parts_of g x.measures) (values_of x.measures ++ x.values) x.before
        x.value x.outside in
        let text = sym (e ∙ sym (append_assoc x.before (digits x.value) more)) in
        let begun : BeginsText g (x.before ++ digits x.value) =
        record {
          rest = more;
          whole = record { measures = x.measures; values = x.values; long = x.long; text = text };
        } in
        stops_no_number beginnings b x.before x.value x.rest x.text x.place begun z.here

    pub grammar_decides : let r = read_by_grammar g room b in
        Decides (StopsText g b) (OutsideText g b) (ShortText g room b) r.refusal r.at
    grammar_decides = record {
      draws = refused_drawn;
      on_stops = stops_untaken;
      on_outside = outside_untaken;
      on_short = short_untaken;
      never_both = never_both;
    }

    -- ---- the leftmost that is drawn
    pub taken_draws_nothing : (read_by_grammar g room b).refusal ≡ 0 → (n o : ℕ) → DrawsText g room b n o → ⊥
    taken_draws_nothing = nothing_drawn grammar_decides

    pub refused_leftmost : (n o : ℕ)
        → ((read_by_grammar g room b).refusal ≡ n) × (n ≡ 0 → ⊥) × ((read_by_grammar g room b).at ≡ o)
        → Leftmost (DrawsText g room b) n o
    refused_leftmost = decides_leftmost grammar_decides

    pub leftmost_refused : (n o : ℕ) → Leftmost (DrawsText g room b) n o
        → ((read_by_grammar g room b).refusal ≡ n) × (n ≡ 0 → ⊥) × ((read_by_grammar g room b).at ≡ o)
    leftmost_refused = leftmost_decides grammar_decides
