-- What the check answers by what it reads.
--   head_refused, in_range  lines 1 and 2 are refused; else their measures are in their fields
--   no_room, below_refused  12: the buffers are too short; what follows line 2 is refused
--   below_taken             else what was read
use mathlib.Core.Bool.{Bool, true, false}
use mathlib.Core.List.{List, [], ◌++◌}
use mathlib.Core.Path.{◌≡◌, sym, ◌∙◌, ap, subst}
use Prim.Native.Nat.{ℕ}
use native.Mathlib.Omega.{arith}
use borrow.Author.Tests.{eq-eqb, ne_eqb}
use lib.IntN.{ℤ}
use lib.ListN.{length}
use Rattle.invariants.specs.Reading.{FiledEnd}
use Rattle.model.specs.Format.{Head}
use Rattle.model.specs.declared.Measures.{Measures}
use Rattle.model.specs.FiledCalls.{Verdict}
use Rattle.model.specs.Calls.{refused, Outcome}
use Rattle.model.specs.Sheet.{InRange}
use Rattle.model.specs.Format.{head_from, head_by, body, Parsed, parse}
use Rattle.model.specs.Grammar.{Taken, read_by_grammar}
use Rattle.model.specs.Filed.{figure_parts, filed_grammar, filed_room, read_filed}
use Rattle.invariants.specs.Reading.{filed_end}
use Rattle.model.specs.FiledCalls.{CheckBuffers, check_call}
use Rattle.model.proofs.Format.{Inside, good_head}
use Rattle.model.proofs.Agrees.{read_text_lem}
use Rattle.model.proofs.Grammar.{first_values}
use Rattle.model.proofs.FiledReading.{filed_formed, inside_lines}
use Rattle.model.proofs.FiledCheck.{check_unread}

-- lines 1 and 2 that were read
lines_in_range : (b : List ℕ) → let h = head_by (head_from 2) b in
    h.refusal ≡ 0 → InRange h.measures
unfolding head_by
lines_in_range b z =
    (inside_lines _
    (subst (Inside (head_from 2)) (sym (first_values filed_grammar filed_formed b z))
    (read_text_lem (head_from 2) (good_head 2) b 0 z).1)
    ).0

module _ (bytes psf gray dots : List ℕ) (table : List ℤ) where
  abbrev handed : CheckBuffers
  handed = record { psf = psf; gray = gray; dots = dots; table = table }

  abbrev call : Outcome Verdict CheckBuffers
  call = check_call bytes psf gray dots table

  -- refused, and the buffers left
  abbrev unread : (number at : ℕ) → Outcome Verdict CheckBuffers
  unread n o = record { reply = refused n o; left = handed }

  abbrev room : Measures → Bool
  room = filed_room (length psf) (length gray) (length dots) (length table)

  abbrev taken : Taken
  taken = read_filed bytes (length psf) (length gray) (length dots) (length table)

  -- by what was read
  taken_refused : {r : Taken} → taken ≡ r → (r.refusal ≡ 0 → ⊥) → call ≡ unread r.refusal r.at
  taken_refused e z =
      check_unread bytes psf gray dots table (λ q. z (sym (ap (λ r. r.refusal) e) ∙ q))
      ∙ ap (λ r. unread r.refusal r.at) e

  module _ (h : Head) (e : h ≡ head_by (head_from 2) bytes) where
    abbrev m : Measures
    m = h.measures

    -- all that follows line 2
    abbrev below : Parsed
    below = parse (body m ++ figure_parts) bytes h.at

    abbrev answer : (refusal at : ℕ) → List ℕ → Taken
    answer n o vs = record { refusal = n; at = o; measures = m; values = vs }

    head_taken : (h.refusal ≡ 0 → ⊥) → taken ≡ answer h.refusal h.at []
    unfolding read_by_grammar
    head_taken z = rw (← e, ne_eqb h.refusal 0 z)

    pub head_refused : (h.refusal ≡ 0 → ⊥) → check_call bytes psf gray dots table ≡ unread h.refusal h.at
    head_refused z = taken_refused (head_taken z) z

    module _ (z : h.refusal ≡ 0) where
      pub in_range : InRange h.measures
      in_range = rw e (lines_in_range bytes (rw e at z))

      room_taken : room m ≡ false → taken ≡ answer 12 h.at []
      unfolding read_by_grammar
      room_taken f = rw (← e, eq-eqb h.refusal 0 z, f)

      pub no_room : room h.measures ≡ false → check_call bytes psf gray dots table ≡ unread 12 h.at
      no_room f = taken_refused (room_taken f) (λ q. omega arith)

      module _ (f : room h.measures ≡ true) (p : FiledEnd) (q : p ≡ filed_end h.measures bytes h.at) where
        pub below_taken : read_filed bytes (length psf) (length gray) (length dots) (length table)
            ≡ answer p.refusal p.at below.values
        unfolding read_by_grammar filed_end
        below_taken =
            rw (← e, eq-eqb h.refusal 0 z, f)
            (ap (λ (x : FiledEnd). answer x.refusal x.at below.values) (sym q))

        pub below_refused : (p.refusal ≡ 0 → ⊥) → check_call bytes psf gray dots table ≡ unread p.refusal p.at
        below_refused y = taken_refused below_taken y
