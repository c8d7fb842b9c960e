use Rattle.floor_laws.proofs.Lifting.{sends, finishes, touches, gives_back, times_out, comes_due, holds_back, gets}
use Rattle.floor_laws.proofs.rows.Goals as goal

pub returns : goal.returns
returns c = record {
  sends = sends;
  finishes = finishes;
  touches = touches;
  gives_back = gives_back;
  times_out = times_out;
  comes_due = comes_due;
  holds_back = holds_back;
  gets = gets;
}
