-- Filed sheets of two cells, of gray 100 but for one of bare paper, that show what the check answers. `filed_examples`
-- of proofs/FiledExamples.antt fills the table by computing.
use Rattle.std.specs.Prelude.{Bool, true, false, List, [], ◌∷◌, ◌++◌, ◌≡◌, ℕ, pos}
use Prim.Native.String.{String}
use Rattle.model.specs.FiledCalls.{Resting}
use Rattle.model.specs.FiledCalls.{Rests, Lowers, Unstarted}
use Rattle.model.specs.FiledCalls.{Verdict}
use Rattle.model.specs.Calls.{Reply, result, refused}
use Rattle.model.specs.Text.{bytes}
use Rattle.model.specs.FiledCalls.{check_call}

-- what is answered of bytes, with buffers of just the length
abbrev pub check_bytes : List ℕ → Reply Verdict
check_bytes b =
    (check_call b (0 ∷ 0 ∷ 0 ∷ 0 ∷ 0 ∷ 0 ∷ 0 ∷ 0 ∷ 0 ∷ []) (0 ∷ 0 ∷ []) (0 ∷ 0 ∷ []) (pos 0 ∷ pos 0 ∷ [])).reply

-- the sheet with this gray and these dots, and with these figures under it
abbrev pub pair_sheet : (gray dots : String) → List ℕ
pair_sheet gray dots =
    bytes "width height radius reach start\n2 1 1 1 2\npsf\n0 0 0\n1 2 1\n0 0 0\ngray\n"
    ++ (bytes gray ++ (bytes "dots\n" ++ bytes dots))

abbrev pub check_of : (gray dots figures : String) → Reply Verdict
check_of gray dots figures =
    check_bytes (pair_sheet gray dots ++ (bytes "before after on off swaps scans\n" ++ bytes figures))

abbrev pub check_pair : (dots figures : String) → Reply Verdict
check_pair = check_of "100 100\n"

abbrev pub says : (filed squared : ℕ) (figure ledger : Bool) → Resting → Reply Verdict
says filed squared figure ledger rest =
    result (record {
      measures = record { width = 2; height = 1; radius = 1; reach = 1; start = 2 };
      filed = pos filed;
      squared = pos squared;
      figure = figure;
      ledger = ledger;
      rest = rest;
    })

pub record FiledExamples : Type 0 where
  -- as `settle` prints it
  pub as_printed : check_pair "1 0\n" "200000 80150 1 0 0 3\n" ≡ says 80150 80150 true true Rests
  -- another figure, and another dot
  pub another_figure : check_pair "1 0\n" "200000 80151 1 0 0 3\n" ≡ says 80151 80150 false false Rests
  pub another_dot : check_pair "1 1\n" "200000 80150 1 0 0 3\n" ≡ says 80150 480500 false false Lowers
  -- a true figure of a blank plate, which is not at rest
  pub not_at_rest : check_pair "0 0\n" "200000 200000 0 0 0 2\n" ≡ says 200000 200000 true true Lowers
  -- a true figure with a start that was no worse, and with more dots set than there are
  pub no_fall : check_pair "1 0\n" "80150 80150 1 0 0 3\n" ≡ says 80150 80150 true false Rests
  pub too_many_on : check_pair "1 0\n" "200000 80150 2 0 0 3\n" ≡ says 80150 80150 true false Rests
  -- a true figure of a dot on bare paper, with which no start would begin
  pub dot_on_paper : check_of "100 0\n" "0 1\n" "246150 246150 0 0 0 2\n"
      ≡ says 246150 246150 true true (Unstarted 16)
  -- a leading zero, a figure of 2^63, and a sheet without its two lines
  pub zero_before_figure : check_pair "1 0\n" "200000 080150 1 0 0 3\n" ≡ refused 10 126
  pub figure_too_large : check_pair "1 0\n" "200000 9223372036854775808 1 0 0 3\n" ≡ refused 11 125
  pub no_figures : check_bytes (pair_sheet "100 100\n" "1 0\n") ≡ refused 10 86
