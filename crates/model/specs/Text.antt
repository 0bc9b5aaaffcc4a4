-- Texts of document 01: their bytes, the items that a reader yields (a word, a number or a line end), a number in
-- decimal, and a text put into an output.
use Rattle.std.specs.Prelude.{Bool, false, ◌&&◌, List, [], ◌∷◌, ◌++◌, ◌≡◌, ℕ, zero, suc, ◌+◌, ◌-◌, ◌*◌, ◌/◌, ◌%◌, leb, ltb, eqb, length, drop}
use Prim.Native.Char.{code}
use Prim.Native.String.{String, [] as empty, ◌∷◌ as ◌then◌}
use Rattle.std.proofs.lemmas.List.Edits.{sets}
use Rattle.model.specs.declared.Item.{Item}
use Rattle.model.specs.declared.Item.TheVariants.{Word, Number, LineEnd, Other}
use Rattle.model.specs.declared.Step.{Step}
use Rattle.model.specs.Basic.{pick}

-- the bytes of a text
abbrev pub bytes : String → List ℕ
bytes empty = []
bytes (c then s) = code c ∷ bytes s

-- one space, and LF (byte 10)
abbrev pub space : ℕ
space = 32

abbrev pub line_end : ℕ
line_end = 10

-- a to z, and 0 to 9
abbrev pub is_letter : ℕ → Bool
is_letter b = leb 97 b && leb b 122

abbrev pub is_digit : ℕ → Bool
is_digit b = leb 48 b && leb b 57

-- ---- writing a number: by its higher digits first, by the same rule, then its last digit
-- f bounds the recursion: any f that is n or more gives the same
abbrev pub digits_in : (f n : ℕ) → List ℕ
digits_in zero n = (48 + n) ∷ []
digits_in (suc f) n =
    let higher = digits_in f (n / 10) in
    let all = higher ++ ((48 + n % 10) ∷ []) in
    pick (ltb n 10) ((48 + n) ∷ []) all

unfoldable pub digits : ℕ → List ℕ
digits n = digits_in n n

-- a text put at a place of an output: the place after it is answered, and what lies before and past it stays
pub record Puts (text out₀ out : List ℕ) (at end : ℕ) : Type 0 where
  pub end_is : end ≡ at + length text
  pub bytes_are : out ≡ sets out₀ at text

-- ---- reading: what stands at the beginning of a list that begins at a place
-- a number below a limit as it is, and the limit for every other; a number above 256 is yielded as 257
abbrev pub cap_to : (limit n : ℕ) → ℕ
cap_to limit n = pick (ltb n limit) n limit

abbrev pub capped : ℕ → ℕ
capped = cap_to 257

-- a number with one digit more
abbrev pub grow_to : (limit value digit : ℕ) → ℕ
grow_to limit v b = cap_to limit (v * 10 + (b - 48))

-- where the run of letters ends
abbrev pub word_end : ℕ → List ℕ → ℕ
word_end i [] = i
word_end i (x ∷ xs) = pick (is_letter x) (word_end (i + 1) xs) i

-- no digit stands at the beginning: a run of digits before it ends there
abbrev pub NoDigit : List ℕ → Type 0
NoDigit [] = Unit
NoDigit (x ∷ xs) = is_digit x ≡ false

-- a run of digits: its value, and where it ends
pub record Run : Type 0 where
  pub value : ℕ
  pub end : ℕ

-- the run of digits under a limit, with a value before it
abbrev pub run_to : (limit value at : ℕ) → List ℕ → Run
run_to limit v i [] = record { value = v; end = i }
run_to limit v i (x ∷ xs) =
    pick (is_digit x) (run_to limit (grow_to limit v x) (i + 1) xs) (record { value = v; end = i })

abbrev pub step : Item → ℕ → ℕ → Step
step item at next = record { item = item; at = at; next = next }

-- a number is `0` alone or a run beginning 1 to 9: in a longer run beginning 0 the second digit cannot be there
abbrev pub number_step : (at first : ℕ) → Run → Step
number_step at x run =
    pick (eqb x 48 && ltb (at + 1) run.end) (step Other (at + 1) (at + 1)) (step (Number run.value) at run.end)

abbrev pub item_to : (limit at : ℕ) → List ℕ → Step
item_to limit at [] = step Other at at
item_to limit at (x ∷ xs) =
    pick (is_letter x) (step Word at (word_end at (x ∷ xs)))
    (pick (is_digit x) (number_step at x (run_to limit 0 at (x ∷ xs)))
    (pick (eqb x line_end) (step LineEnd at (at + 1)) (step Other at at)))

-- the item at a place, numbers being read under a limit
abbrev pub step_to : (limit : ℕ) → List ℕ → ℕ → Step
step_to limit s at = item_to limit at (drop at s)

-- as document 01 says it
abbrev pub step_at : List ℕ → ℕ → Step
step_at = step_to 257
