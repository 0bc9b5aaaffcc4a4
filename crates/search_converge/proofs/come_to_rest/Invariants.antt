-- `search_converge::come_to_rest` meets its contract: before each turn, what is left of the settling is all of it.
use lib.IntN.{nat_abs}
use Rattle.model.specs.Reference.{reference}
use Rattle.search_converge.proofs.Turns.{Turning}
use Rattle.search_converge.proofs.come_to_rest.Given as goal

abbrev pub invariant-loop-setting : goal.invariant-loop-setting
invariant-loop-setting l = Turning l.setting.measures l.setting.psf.now l.setting.gray.now (reference l.initial.dots l.initial.now) l.scans l.dots l.table l.now

abbrev pub decreases-loop-setting : goal.decreases-loop-setting
decreases-loop-setting l = nat_abs l.now.error
