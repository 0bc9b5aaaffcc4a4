-- `starts::start` meets its contract: refused by the judge, or begun with the dots of its kind.
use mathlib.Core.List.{List}
use mathlib.Core.Path.{◌≡◌, sym, subst}
use Prim.Native.Nat.{ℕ}
use lib.ListN.{length}
use Rattle.model.specs.Refusal.{HalftoneFits, start_refusal}
use Rattle.model.specs.Screen.{start_dots}
use Rattle.model.specs.Setting.{target_in}
use Rattle.model.proofs.Refusal.{start_given, start_plate}
use Rattle.model.proofs.Start.{start_done}
use Rattle.starts.proofs.start.Goals as goal
use Rattle.starts.proofs.start.Goals.{Start}

-- what is known once nothing is refused
module _ (s : Start) (taken : start_refusal s.args.setting.measures s.args.setting.psf.now s.args.setting.gray.now s.args.dots.now
    (length s.args.table.now) ≡ 0) where
  abbrev Fits : List ℕ → Type 0
  Fits dots =
      HalftoneFits (target_in s.args.setting) dots (length s.args.table.now)

  fits : Fits (start_dots s.args.setting.measures s.args.setting.gray.now s.args.dots.now)
  fits = (start_plate _ _ _ _ _ taken).halftone

pub start_dots-requires : goal.start_dots-requires
start_dots-requires c =
    let taken = sym c.in_ok-judge_start.ensures in
    let f = (start_plate _ _ _ _ _ taken).halftone in record {
      width_nonzero = f.wide.0;
      gray_len = (f.gray_length, start_given _ _ _ _ _ taken);
    }

pub begin_plate-requires : goal.begin_plate-requires
begin_plate-requires c =
    let s : Start = search in
    let taken = sym c.in_ok-judge_start.ensures in
    subst (Fits s taken) (sym c.start_dots.ensures) (fits s taken)

pub returns : goal.returns
returns c =
    let taken = sym c.in_ok-judge_start.ensures in
    let is = c.begin_plate.ensures in record {
      ends = start_done _ _ _ _ _ taken c.start_dots.ensures is.0 is.1;
      at_most = c.known_bytes.ensures;
    }
