-- `pfm_samples::gray_of` meets its contract.
use Rattle.std.proofs.Common.{sym, ◌∙◌}
use Rattle.pfm_samples.proofs.ThreeKinds.{shade_of}
use Rattle.pfm_samples.proofs.gray_of.Goals as goal

pub brightness-requires : goal.brightness-requires
brightness-requires c = shade_of c.args.n _ (sym c.sample_of.ensures ∙ c.in-Shade.is)
