-- What a plate is made for, as the code hands it on: the target of its measures, psf and gray.
use Rattle.model.specs.declared.Setting.{Setting}
use Rattle.model.specs.Error.{Target, target_for}

abbrev pub target_in : Setting → Target
target_in s = target_for s.measures s.psf.now s.gray.now
