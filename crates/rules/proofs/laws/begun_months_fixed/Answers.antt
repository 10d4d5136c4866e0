use Rattle.rules.proofs.Begun.{begun_months_fixed_lem}
use Rattle.rules.proofs.laws.begun_months_fixed.Goals as goal

pub returns : goal.returns
returns c = begun_months_fixed_lem
