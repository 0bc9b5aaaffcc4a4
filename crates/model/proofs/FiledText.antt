-- The text of a filed sheet is that of no other: its last two lines are told from its end.
--   figures_apart  of texts that end with the two lines, both what stands before them and the figures are the same
--   one_filing     no text is filed in two ways
use mathlib.Core.Bool.{true, true≢false}
use mathlib.Core.List.{List, [], ◌∷◌, ◌++◌, append_assoc}
use mathlib.Core.Logic.{◌⊎◌, inl, inr}
use mathlib.Core.Path.{◌≡◌, refl, sym, ◌∙◌, ap, ap₂, subst}
use Prim.Native.Nat.{ℕ}
use native.Mathlib.Omega.{arith}
use lib.ListN.{length, get_or, take, drop, length-append}
use lib.Seq.{take_at}
use Rattle.model.specs.declared.FiledFigures.{FiledFigures}
use Rattle.model.specs.Basic.{All}
use Rattle.model.specs.Text.{space, line_end, is_digit, digits}
use Rattle.model.specs.Sheet.{Sheet, row, sheet_text}
use Rattle.model.specs.Program.{figures_name, figures_text}
use Rattle.model.specs.Filed.{figures_in, figures_of, IsFiled}
use Rattle.model.proofs.Text.{digits_apart}
use Rattle.model.proofs.WrittenHead.{digits_are}
use Rattle.model.proofs.Sheet.{same_text}

-- ---- the last line of a text
-- one line: a line end is its last byte, and no other byte is one
abbrev Line : List ℕ → Type 0
Line [] = ⊥
Line (x ∷ l) = ((x ≡ line_end) × (l ≡ [])) ⊎ ((x ≡ line_end → ⊥) × Line l)

-- so nothing follows a line end of it
nothing_follows : (l before after : List ℕ) → Line l → l ≡ before ++ (line_end ∷ after) → after ≡ []
nothing_follows [] before after h e = absurd h
nothing_follows (x ∷ l) [] after (inl (_, none)) e = sym (ap (drop 1) e) ∙ none
nothing_follows (x ∷ l) [] after (inr (other, _)) e = absurd (other (ap (λ k. get_or k 0 0) e))
nothing_follows (x ∷ l) (y ∷ before) after (inl (_, none)) e =
    absurd (omega (arith, ap length (sym none ∙ ap (drop 1) e), length-append before (line_end ∷ after)))
nothing_follows (x ∷ l) (y ∷ before) after (inr (_, h)) e = nothing_follows l before after h (ap (drop 1) e)

line_some : (l : List ℕ) → Line l → l ≡ [] → ⊥
line_some l h e = subst Line e h

-- texts that end with a line are the same before it and in it
last_line : (a b l k : List ℕ) → Line l → Line k → a ++ (line_end ∷ l) ≡ b ++ (line_end ∷ k) → (a ≡ b) × (l ≡ k)
last_line [] [] l k h g e = (refl, ap (drop 1) e)
last_line [] (y ∷ b) l k h g e = absurd (line_some k g (nothing_follows l b k h (ap (drop 1) e)))
last_line (x ∷ a) [] l k h g e = absurd (line_some l h (nothing_follows k a l g (sym (ap (drop 1) e))))
last_line (x ∷ a) (y ∷ b) l k h g e =
    let (before, line) = last_line a b l k h g (ap (drop 1) e) in
    (ap₂ (λ z l. z ∷ l) (ap (λ l. get_or l 0 0) e) before, line)

-- ---- a row of numbers
digits_line : (ds l : List ℕ) → All (λ b. is_digit b ≡ true) ds → Line l → Line (ds ++ l)
digits_line [] l a h = h
digits_line (d ∷ ds) l a h =
    inr (λ e. true≢false (sym a.0 ∙ ap is_digit e), digits_line ds l a.1 h)

row_line : (v : ℕ) (vs : List ℕ) → Line (row (v ∷ vs))
row_line v [] = digits_line (digits v) (line_end ∷ []) (digits_are v).0 (inl (refl, refl))
row_line v (u ∷ vs) =
    digits_line (digits v) (space ∷ row (u ∷ vs)) (digits_are v).0
    (inr (λ e. omega (arith, e), row_line u vs))

row_apart : (vs us : List ℕ) → length vs ≡ length us → row vs ≡ row us → vs ≡ us
row_apart [] [] h e = refl
row_apart [] (u ∷ us) h e = absurd (omega arith)
row_apart (v ∷ vs) [] h e = absurd (omega arith)
row_apart (v ∷ []) (u ∷ []) h e =
    ap (λ x. x ∷ []) (digits_apart v u (line_end ∷ []) (line_end ∷ []) refl refl e).0
row_apart (v ∷ []) (u ∷ u' ∷ us) h e = absurd (omega arith)
row_apart (v ∷ v' ∷ vs) (u ∷ []) h e = absurd (omega arith)
row_apart (v ∷ v' ∷ vs) (u ∷ u' ∷ us) h e =
    let (first, rest) = digits_apart v u (space ∷ row (v' ∷ vs)) (space ∷ row (u' ∷ us)) refl refl e in
    ap₂ (λ x l. x ∷ l) first (row_apart (v' ∷ vs) (u' ∷ us) (omega arith) (ap (drop 1) rest))

-- ---- the two lines of the ledger
abbrev lines_of : FiledFigures → List ℕ
lines_of f = figures_text f.before f.after f.on f.off f.swaps f.scans

-- the names without their line end
name : List ℕ
name = take 31 figures_name

lines_are : (a : List ℕ) (f : FiledFigures) → a ++ lines_of f ≡ (a ++ name) ++ (line_end ∷ row (figures_in f))
unfolding figures_text name
lines_are a f = sym (append_assoc a name (line_end ∷ row (figures_in f)))

row_of : (f : FiledFigures) → Line (row (figures_in f))
row_of f = row_line f.before (f.after ∷ f.on ∷ f.off ∷ f.swaps ∷ f.scans ∷ [])

same_before : (a b l : List ℕ) → a ++ l ≡ b ++ l → a ≡ b
same_before a b l e =
    let long : length b ≡ length a = omega (arith, ap length e, length-append a l, length-append b l) in
    sym (take_at a l (length a) refl) ∙ ap (take (length a)) e ∙ take_at b l (length a) long

pub figures_apart : (a b : List ℕ) (f g : FiledFigures) → a ++ lines_of f ≡ b ++ lines_of g → (a ≡ b) × (f ≡ g)
figures_apart a b f g e =
    let (before, rows) =
    last_line (a ++ name) (b ++ name) (row (figures_in f)) (row (figures_in g)) (row_of f) (row_of g)
    (sym (lines_are a f) ∙ e ∙ lines_are b g) in
    (same_before a b name before, ap figures_of (row_apart (figures_in f) (figures_in g) refl rows))

pub one_filing : (bytes : List ℕ) (s s' : Sheet) (f f' : FiledFigures)
    → IsFiled bytes s f → IsFiled bytes s' f' → (s ≡ s') × (f ≡ f')
one_filing bytes s s' f f' i i' =
    let (sheets, figures) = figures_apart (sheet_text s) (sheet_text s') f f' (sym i.is_text ∙ i'.is_text) in
    (same_text s s' i.is_valid i'.is_valid sheets, figures)
