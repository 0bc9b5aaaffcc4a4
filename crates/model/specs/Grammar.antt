-- A grammar of texts that begin with measures, as a sheet does, given by its parts; what a text is refused for by it
-- (document 01: 10, 11 and 12, the leftmost place deciding), without a reader; and reading by it, as a definition.
use Rattle.std.specs.Prelude.{Bool, false, List, [], ◌∷◌, ◌++◌, ◌⊎◌, ◌≡◌, ℕ, suc, ◌+◌, ◌<◌, eqb, length, take}
use Rattle.model.specs.Format.{Head}
use Rattle.model.specs.declared.Measures.{Measures}
use Rattle.model.specs.Format.{Place}
use Rattle.model.specs.Basic.{pick}
use Rattle.model.specs.Text.{digits, NoDigit}
use Rattle.model.specs.Sheet.{values_of}
use Rattle.model.specs.Format.{Part, fixed, number, text_of, Parsed, parse, place_of, head_by, ended}

-- ---- the values of parts
-- how many there are
abbrev pub numbers : List Part → ℕ
numbers [] = 0
numbers (fixed bs ∷ ps) = numbers ps
numbers (number lo hi end ∷ ps) = suc (numbers ps)

-- a number outside its field
abbrev pub Beyond : (lo hi v : ℕ) → Type 0
Beyond lo hi v = (v < lo) ⊎ (hi < v)

-- one of the values, v, is outside its field, and the text before it
abbrev pub OutsideAt : List Part → (vs before : List ℕ) (v : ℕ) → Type 0
OutsideAt [] vs before v = ⊥
OutsideAt (fixed bs ∷ ps) vs before v = (t : List ℕ) × (before ≡ bs ++ t) × OutsideAt ps vs t v
OutsideAt (number lo hi end ∷ ps) [] before v = ⊥
OutsideAt (number lo hi end ∷ ps) (u ∷ us) before v =
    ((before ≡ []) × (v ≡ u) × Beyond lo hi v)
    ⊎ ((t : List ℕ) × (before ≡ digits u ++ (end ∷ t)) × OutsideAt ps us t v)

-- ---- a grammar: lines 1 and 2, whose values are the measures, and what follows them
pub record Grammar : Type 0 where
  pub lines : List Part
  pub below : Measures → List Part

module _ (g : Grammar) where
  abbrev pub parts_of : Measures → List Part
  parts_of m = g.lines ++ g.below m

  -- a text: measures, and as many values as they ask for, each of any size
  pub record IsText (b : List ℕ) : Type 0 where
    pub measures : Measures
    pub values : List ℕ
    pub long : length values ≡ numbers (g.below measures)
    pub text : b ≡ text_of (parts_of measures) (values_of measures ++ values)

  -- the bytes that can begin one
  pub record BeginsText (b : List ℕ) : Type 0 where
    pub rest : List ℕ
    pub whole : IsText (b ++ rest)

  -- 10: the place of the first byte that no text could have there, or of the end where it comes too early
  pub record StopsText (b : List ℕ) (at : ℕ) : Type 0 where
    pub before : BeginsText (take at b)
    pub here : ((at < length b) × (BeginsText (take (at + 1) b) → ⊥)) ⊎ ((at ≡ length b) × (IsText b → ⊥))

  -- 11: a number of a text stands after the text before it, of any size and as a whole run of digits, and is outside
  -- its field
  pub record OutsideText (b : List ℕ) (at : ℕ) : Type 0 where
    pub measures : Measures
    pub values : List ℕ
    pub long : length values ≡ numbers (g.below measures)
    pub before : List ℕ
    pub value : ℕ
    pub rest : List ℕ
    pub outside : OutsideAt (parts_of measures) (values_of measures ++ values) before value
    pub text : b ≡ before ++ (digits value ++ rest)
    pub run : NoDigit rest
    pub place : at ≡ length before

  -- 12: after lines 1 and 2 with some measures, for which there is no room
  pub record ShortText (room : Measures → Bool) (b : List ℕ) (at : ℕ) : Type 0 where
    pub measures : Measures
    pub rest : List ℕ
    pub text : b ≡ text_of g.lines (values_of measures) ++ rest
    pub lacks : room measures ≡ false
    pub place : at ≡ length (text_of g.lines (values_of measures))

  -- a refusal is drawn at a place; the one that decides is `Leftmost`
  abbrev pub DrawsText : (room : Measures → Bool) (b : List ℕ) (refusal at : ℕ) → Type 0
  DrawsText room b n at =
      ((n ≡ 10) × StopsText b at) ⊎ ((n ≡ 11) × OutsideText b at) ⊎ ((n ≡ 12) × ShortText room b at)

-- ---- reading by a grammar, as a definition
-- refusal 0, the measures and the values; or a refusal with its byte offset
pub record Taken : Type 0 where
  pub refusal : ℕ
  pub at : ℕ
  pub measures : Measures
  pub values : List ℕ

module _ (g : Grammar) (room : Measures → Bool) (s : List ℕ) where
  abbrev pub lines_read : Head
  lines_read = head_by g.lines s

  -- what follows lines 1 and 2, and nothing after it
  abbrev pub below_read : Parsed
  below_read = parse (g.below lines_read.measures) s lines_read.at

  abbrev pub below_end : Place
  below_end = ended s (place_of below_read)

  abbrev answer : (refusal at : ℕ) → List ℕ → Taken
  answer n o vs = record { refusal = n; at = o; measures = lines_read.measures; values = vs }

  -- 12 stands after lines 1 and 2
  unfoldable pub read_by_grammar : Taken
  read_by_grammar =
      pick (eqb lines_read.refusal 0)
      (pick (room lines_read.measures) (answer below_end.refusal below_end.at below_read.values)
      (answer 12 lines_read.at []))
      (answer lines_read.refusal lines_read.at [])
