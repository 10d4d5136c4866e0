use Rattle.text.proofs.Signs.{number_laws}
use Rattle.text.proofs.numbers.numbers_stand.Goals as goal

pub returns : goal.returns
returns c = number_laws
