-- `pfm_raster::first_no_shade` meets its contract.
use Rattle.std.proofs.Common.{◌≡◌, true, false, rules, tests}
use Rattle.std.proofs.lemmas.Iterator.{first_from_Range}
use Rattle.model.specs.Pfm.{sample_at, is_no_shade}
use Rattle.pfm_raster.proofs.Samples.{first_found}
use Rattle.pfm_raster.proofs.first_no_shade.Goals as goal

pub returns : goal.returns
returns c =
    let little = c.args.little in
    let raster = c.args.raster.now in
    first_found little raster c.args.cells c.find.result
    (first_from_Range _ _ _ _
    (λ i. is_no_shade (sample_at little raster i) ≡ true)
    (λ i. is_no_shade (sample_at little raster i) ≡ false) c.find.ensures.ran
    (λ x q k. search (rules, tests)) (λ x q k. search (rules, tests)))
