-- The check of a filed sheet, of any bytes and with any buffers (`checking`): which refusal it answers, or which
-- verdicts, and what it leaves.
--   check_unread, check_unmeasured  what it answers and leaves of bytes that are refused, and of a psf that draws 6
--   check_answered                  and of a sheet that it can judge
--   checking                        the promises of the check
--   one_figure                      of two filings of one sheet at most one figure agrees
use mathlib.Core.Bool.{Bool, true, false}
use mathlib.Core.List.{List, [], ◌∷◌}
use mathlib.Core.Logic.{◌⊎◌, inl, inr}
use mathlib.Core.Path.{◌≡◌, refl, sym, ◌∙◌, ap, ap₂, subst}
use Prim.Native.Nat.{ℕ, ◌≤◌, ◌<◌}
use native.Mathlib.Decide.{ℕ_discrete}
use native.Mathlib.Omega.{arith}
use borrow.Author.Tests.{ltb-true, ltb-false, lt-ltb, le-ltb, eqb-true, eqb-false, eq-eqb, ne_eqb}
use lib.Dec.{ltb, eqb}
use lib.IntN.{ℤ, pos, nat_abs}
use lib.ListN.{length}
use Rattle.model.specs.declared.FiledFigures.{FiledFigures}
use Rattle.model.specs.FiledCalls.{Verdict}
use Rattle.model.specs.Basic.{pick}
use Rattle.model.specs.Psf.{total}
use Rattle.model.specs.Error.{squared_error}
use Rattle.model.specs.Refusal.{first_of, bad_sum}
use Rattle.model.specs.Calls.{result, refused, Outcome, unless}
use Rattle.model.specs.Sheet.{Sheet, sheet_text, Valid}
use Rattle.model.specs.Program.{sheet_target}
use Rattle.model.specs.Grammar.{Taken}
use Rattle.model.specs.Filed.{filed_text, IsFiled, filed_grammar, filed_sheet, filed_figures, read_filed}
use Rattle.model.specs.FiledCalls.{verdict_of, CheckBuffers, laid, check_sheet, check_call}
use Rattle.model.specs.FiledPromises.{has_room, handed_in, check, CheckRefuses, unfiled, unmeasured, Checkable}
use Rattle.model.specs.FiledPromises.{DrawsFiled, CheckPromises}
use Rattle.model.proofs.Calls.{no_result, same_result, same_refusal}
use Rattle.model.proofs.Sheet.{same_text}
use Rattle.model.proofs.GrammarRefused.{read_begins, taken_draws_nothing, refused_leftmost, leftmost_refused}
use Rattle.model.proofs.FiledText.{figures_apart}
use Rattle.model.proofs.FiledReading.{filed_formed, filed_read_lem, read_filed_lem}
use Rattle.model.proofs.FiledVerdicts.{verdicts_hold}

module _ (bytes psf gray dots : List ℕ) (table : List ℤ) where
  abbrev here : Outcome Verdict CheckBuffers
  here = check bytes psf gray dots table

  abbrev handed : CheckBuffers
  handed = handed_in bytes psf gray dots table

  abbrev HasRoom : Sheet → Type 0
  HasRoom s = has_room bytes psf gray dots table s.measures

  abbrev Judged : Sheet → FiledFigures → Type 0
  Judged = Checkable bytes psf gray dots table

  abbrev r : Taken
  r = read_filed bytes (length psf) (length gray) (length dots) (length table)

  -- a psf that draws 6
  abbrev WrongSum : Sheet → Type 0
  WrongSum s = (total s.psf ≡ 0) ⊎ (1024 < total s.psf)

  -- ---- what it answers and leaves
  pub check_unread : (r.refusal ≡ 0 → ⊥) → here ≡ record { reply = refused r.refusal r.at; left = handed }
  unfolding check_call
  check_unread z = rw (ne_eqb r.refusal 0 z)

  -- of a filed sheet, for which there is room
  check_filed : (s : Sheet) (f : FiledFigures) → IsFiled bytes s f → HasRoom s
      → here ≡ unless (first_of (bad_sum s.psf ∷ [])) handed
      (record { reply = result (verdict_of s f); left = laid s handed })
  unfolding check_call check_sheet
  check_filed s f i room =
      let (z, sheet, figures) = filed_read_lem bytes (length psf) (length gray) (length dots) (length table) s f i room in
      ap (λ b.
      pick b (check_sheet (filed_sheet r.measures r.values) (filed_figures r.measures r.values) handed)
      (record { reply = refused r.refusal r.at; left = handed })) (eq-eqb r.refusal 0 z)
      ∙ ap₂ (λ s f. check_sheet s f handed) sheet figures

  pub check_unmeasured : (s : Sheet) (f : FiledFigures) → IsFiled bytes s f → HasRoom s → WrongSum s
      → here ≡ record { reply = refused 6 0; left = handed }
  check_unmeasured s f i room (inl e) = check_filed s f i room ∙ rw (eq-eqb (total s.psf) 0 e)
  check_unmeasured s f i room (inr h) =
      check_filed s f i room
      ∙ rw (ne_eqb (total s.psf) 0 (λ e. omega (arith, h, e)), lt-ltb 1024 (total s.psf) h)

  pub check_answered : (s : Sheet) (f : FiledFigures) → Judged s f
      → here ≡ record { reply = result (verdict_of s f); left = laid s handed }
  check_answered s f c =
      check_filed s f c.is_filed c.room
      ∙ rw (
        ne_eqb (total s.psf) 0 (λ e. omega (arith, c.sum_low, e)),
        le-ltb 1024 (total s.psf) c.sum_high,
      )

  -- ---- one of the three is so
  data Cases : Type 0 where
    unread : (r.refusal ≡ 0 → ⊥) → Cases
    wrong : (s : Sheet) (f : FiledFigures) → IsFiled bytes s f → HasRoom s → WrongSum s → Cases
    judged : (s : Sheet) (f : FiledFigures) → Judged s f → Cases

  cases : Cases
  cases = read (ℕ_discrete r.refusal 0)
    where
      s : Sheet
      s = filed_sheet r.measures r.values

      f : FiledFigures
      f = filed_figures r.measures r.values

      summed : IsFiled bytes s f → HasRoom s → (a : Bool) → eqb (total s.psf) 0 ≡ a
          → (b : Bool) → ltb 1024 (total s.psf) ≡ b → Cases
      summed i room true t b u = wrong s f i room (inl (eqb-true _ _ t))
      summed i room false t true u = wrong s f i room (inr (ltb-true _ _ u))
      summed i room false t false u =
          judged s f (record {
            is_filed = i;
            room = room;
            sum_low = omega (arith, eqb-false (total s.psf) 0 t);
            sum_high = ltb-false _ _ u;
          })

      read : Dec (r.refusal ≡ 0) → Cases
      read (yes z) =
          let (i, room) = read_filed_lem bytes (length psf) (length gray) (length dots) (length table) z in
          summed i room (eqb (total s.psf) 0) refl (ltb 1024 (total s.psf)) refl
      read (no z) = unread z

  -- ---- so it answers what is due
  refused_due : (n o : ℕ) → Cases → here.reply ≡ refused n o → CheckRefuses bytes psf gray dots table n o
  refused_due n o (unread z) e =
      let (x, y) = same_refusal (sym (ap (λ h. h.reply) (check_unread z)) ∙ e) in
      unfiled (refused_leftmost filed_grammar filed_formed _ bytes n o (x, (λ w. z (x ∙ w)), y))
  refused_due n o (wrong s f i room h) e =
      let (x, y) = same_refusal (sym (ap (λ h. h.reply) (check_unmeasured s f i room h)) ∙ e) in
      subst (λ n. CheckRefuses bytes psf gray dots table n o) x
      (subst (CheckRefuses bytes psf gray dots table 6) y (unmeasured i room h))
  refused_due n o (judged s f c) e = absurd (no_result (sym e ∙ ap (λ h. h.reply) (check_answered s f c)))

  due_refused : {n o : ℕ} → CheckRefuses bytes psf gray dots table n o → here.reply ≡ refused n o
  due_refused (unfiled {n} {o} l) =
      let (x, some, y) = leftmost_refused filed_grammar filed_formed _ bytes n o l in
      ap (λ h. h.reply) (check_unread (λ z. some (sym x ∙ z))) ∙ ap₂ refused x y
  due_refused (unmeasured {s} {f} i room h) = ap (λ h. h.reply) (check_unmeasured s f i room h)

  refused_left : (n o : ℕ) → Cases → here.reply ≡ refused n o → here.left ≡ handed
  refused_left n o (unread z) e = ap (λ h. h.left) (check_unread z)
  refused_left n o (wrong s f i room h) e = ap (λ h. h.left) (check_unmeasured s f i room h)
  refused_left n o (judged s f c) e = absurd (no_result (sym e ∙ ap (λ h. h.reply) (check_answered s f c)))

  answered_so : (v : Verdict) → Cases → here.reply ≡ result v
      → (s : Sheet) × (f : FiledFigures) × Judged s f × (v ≡ verdict_of s f)
  answered_so v (unread z) e = absurd (no_result (sym (ap (λ h. h.reply) (check_unread z)) ∙ e))
  answered_so v (wrong s f i room h) e =
      absurd (no_result (sym (ap (λ h. h.reply) (check_unmeasured s f i room h)) ∙ e))
  answered_so v (judged s f c) e =
      (s, f, c, same_result (sym e ∙ ap (λ h. h.reply) (check_answered s f c)))

  refused_within : (n o : ℕ) → Cases → here.reply ≡ refused n o → o ≤ length bytes
  refused_within n o (unread z) e =
      let (_, y) = same_refusal (sym (ap (λ h. h.reply) (check_unread z)) ∙ e) in
      subst (λ o. o ≤ length bytes) y (read_begins filed_grammar filed_formed _ bytes).0
  refused_within n o (wrong s f i room h) e =
      let (_, y) = same_refusal (sym (ap (λ h. h.reply) (check_unmeasured s f i room h)) ∙ e) in
      omega (arith, y)
  refused_within n o (judged s f c) e = absurd (no_result (sym e ∙ ap (λ h. h.reply) (check_answered s f c)))

  draws_nothing : (s : Sheet) (f : FiledFigures) → IsFiled bytes s f → HasRoom s
      → (n o : ℕ) → DrawsFiled bytes psf gray dots table n o → ⊥
  draws_nothing s f i room =
      let (z, _, _) = filed_read_lem bytes (length psf) (length gray) (length dots) (length table) s f i room in
      taken_draws_nothing filed_grammar filed_formed _ bytes z

  pub checking : CheckPromises bytes psf gray dots table
  checking = record {
    check_refuses_exactly = λ n o. (refused_due n o cases, due_refused);
    refused_leaves_all = λ n o. refused_left n o cases;
    refused_is_within = λ n o. refused_within n o cases;
    filed_draws_nothing = draws_nothing;
    check_answers_exactly = λ v. (
      answered_so v cases,
      λ (s, f, c, e). ap (λ h. h.reply) (check_answered s f c) ∙ ap result (sym e),
    );
    answered_holds_sheet = λ s f c. ap (λ h. h.left) (check_answered s f c);
  }

-- ---- of two filings of one sheet at most one figure agrees: each is read as a sheet with the same text
-- what is read of a filing whose figure agrees
record Agreeing (s : Sheet) (f : FiledFigures) : Type 0 where
  sheet : Sheet
  valid : Valid sheet
  text : sheet_text s ≡ sheet_text sheet
  agrees : pos f.after ≡ squared_error (sheet_target sheet) sheet.dots

module _ (s : Sheet) (psf gray dots : List ℕ) (table : List ℤ) where
  agreeing : (f : FiledFigures) (v : Verdict) → (check_call (filed_text s f) psf gray dots table).reply ≡ result v
      → v.figure ≡ true → Agreeing s f
  agreeing f v e t =
      let (s', f', c, is) = ((checking (filed_text s f) psf gray dots table).check_answers_exactly v).0 e in
      let i = c.is_filed in
      let (text, figures) = figures_apart (sheet_text s) (sheet_text s') f f' i.is_text in
      let said = verdicts_hold s' f' i.is_valid i.is_given c.sum_low c.sum_high in
      record {
        sheet = s';
        valid = i.is_valid;
        text = text;
        agrees =
            ap (λ f. pos f.after) figures
            ∙ said.figure_agrees_exactly.0 (sym (ap (λ v. v.figure) is) ∙ t);
      }

pub one_figure : (s : Sheet) (f f' : FiledFigures) (psf gray dots : List ℕ) (table : List ℤ) (v v' : Verdict)
    → (check_call (filed_text s f) psf gray dots table).reply ≡ result v
    → (check_call (filed_text s f') psf gray dots table).reply ≡ result v'
    → v.figure ≡ true → v'.figure ≡ true → f.after ≡ f'.after
one_figure s f f' psf gray dots table v v' e e' t t' =
    let a = agreeing s psf gray dots table f v e t in
    let a' = agreeing s psf gray dots table f' v' e' t' in
    let same = same_text a.sheet a'.sheet a.valid a'.valid (sym a.text ∙ a'.text) in
    ap nat_abs (a.agrees ∙ ap (λ s. squared_error (sheet_target s) s.dots) same ∙ sym a'.agrees)
