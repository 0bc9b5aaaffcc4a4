-- What the loop over the partners of one cell steps by: the attempts that a swap scan has left there from the j-th
-- offset on.
--   left_none      no offset is left
--   pass_unsuited  the j-th is passed over
--   pass_declined  its swap is declined
--   taken          its swap is accepted, which ends them
use mathlib.Core.Bool.{true, false}
use mathlib.Core.List.{List, ◌∷◌}
use mathlib.Core.Path.{◌≡◌, ◌∙◌, ap}
use Prim.Native.Nat.{ℕ, suc, ◌≤◌, ◌<◌}
use lib.ListN.{length, get_or, drop, drop_of_length-le}
use lib.Seq.{drop-cons}
use Rattle.model.specs.Basic.{pick}
use Rattle.model.specs.Error.{Target}
use Rattle.model.specs.Partners.{Offset, offsets, partner}
use Rattle.invariants.specs.Partners.{offset_of, itself}
use Rattle.model.specs.Scan.{suits, swaps_by, Sweep, try_each}
use Rattle.model.specs.Change.{Move, swap, lowers}
use Rattle.model.proofs.Scan.{more, try_none, try_step}

module _ (t : Target) (reach : ℕ) (s : Sweep) (m : ℕ) where
  abbrev dots : List ℕ
  dots = s.after.dots

  abbrev attempts : List Offset → List Move
  attempts l = swaps_by t l dots m

  abbrev pub left : ℕ → Sweep
  left j = try_each t s (attempts (drop j (offsets reach)))

  -- no offset is left
  pub left_none : (j : ℕ) → length (offsets reach) ≤ j → left j ≡ s
  unfolding swaps_by
  left_none j h = ap (λ l. try_each t s (attempts l)) (drop_of_length-le (offsets reach) h) ∙ try_none t s

  module _ (j : ℕ) (h : j < length (offsets reach)) where
    abbrev offset : Offset
    offset = get_or (offsets reach) j (offset_of itself)

    abbrev move : Move
    move = swap dots m (partner t.width m offset)

    abbrev others : List Move
    others = attempts (drop (suc j) (offsets reach))

    next : left j ≡ try_each t s (pick (suits t dots m offset) (move ∷ others) others)
    unfolding swaps_by
    next = ap (λ l. try_each t s (attempts l)) (drop-cons (offsets reach) j (offset_of itself) h)

    -- it is passed over
    pub pass_unsuited : suits t dots m offset ≡ false → left j ≡ left (suc j)
    pass_unsuited e = next ∙ ap (λ b. try_each t s (pick b (move ∷ others) others)) e

    module _ (e : suits t dots m offset ≡ true) where
      tried : left j ≡ pick (lowers t dots move) (more s move) (left (suc j))
      tried = next ∙ ap (λ b. try_each t s (pick b (move ∷ others) others)) e ∙ try_step t s move others

      -- its swap is declined
      pub pass_declined : lowers t dots move ≡ false → left j ≡ left (suc j)
      pass_declined f = tried ∙ ap (λ b. pick b (more s move) (left (suc j))) f

      -- its swap is accepted
      pub taken : lowers t dots move ≡ true → left j ≡ more s move
      taken f = tried ∙ ap (λ b. pick b (more s move) (left (suc j))) f
