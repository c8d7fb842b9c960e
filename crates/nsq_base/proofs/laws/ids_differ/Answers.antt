use Rattle.nsq_base.proofs.IdDigits.{same_from_two}
use Rattle.nsq_base.proofs.laws.ids_differ.Goals as goal

pub returns : goal.returns
returns c = λ e f n m le lf ln lm same. same_from_two 6 10 e n f m le lf ln lm same
